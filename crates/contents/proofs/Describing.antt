-- Whether a field says that the body is a session description.
use mathlib.Core.Bool.{Bool, true, false}
use mathlib.Core.Path.{◌≡◌, sym, ap, ◌∙◌, subst}
use mathlib.Core.List.{List, [], ◌∷◌}
use Prim.Native.Nat.{ℕ, ◌+◌, ◌-◌, ◌≤◌, ◌<◌, zero-le}
use native.Mathlib.Nat.{sub-zero}
use native.Mathlib.Omega.{arith}
use lib.ListN.{length, take, drop}
use lib.Seq.{take-take, length-take-le}
use Rattle.octets.specs.Bytes.{lowers, same_any_case}
use Rattle.octets.specs.Lists.{text, same, some_of}
use Rattle.octets.proofs.Tests.{T_of, same_eq}
use Rattle.cuts.specs.Cutting.{begins, first_cut, before_cut}
use Rattle.cuts.specs.Inner.Parts.{part}
use Rattle.cuts.specs.Inner.Searching.{first, text_here}
use Rattle.cuts.specs.Trimming.{trim_right, trim}
use Rattle.cuts.proofs.Parts.{part_front}
use Rattle.cuts.proofs.Search.{before_is, first_le}
use Rattle.cuts.proofs.Trims.{trim_part, trim_le}
use Rattle.contents.specs.Description.{content_type, says_description, one_description}
use Rattle.contents.specs.Inner.Places.{values_from, piece_at}
use Rattle.contents.specs.Values.{never_cut, values_of}
use Rattle.contents.specs.declared.Piece.{Piece}
use Rattle.contents.proofs.Values.{ValueAt, value_says, values_past, values_cut}

-- ---- a value

-- its semicolon at k, the text before that from a to e
module _ (v : List ℕ) (k : ℕ) (k_is : k ≡ 0 + first (begins (59 ∷ [])) (drop 0 v)) where
  pub semicolon_inside : k ≤ length v
  semicolon_inside = omega (arith, k_is, first_le (begins (59 ∷ [])) v)

  abbrev t : List ℕ
  t = take (k - 0) (drop 0 v)

  front : before_cut v (first_cut (text ";") v) ≡ t
  front = let at : first (begins (59 ∷ [])) v ≡ k - 0 = omega (arith, k_is) in before_is (59 ∷ []) v ∙ ap (λ (j : ℕ). take j v) at

  module _ (e : ℕ) (e_is : e ≡ length (trim_right t)) where
    e_le : e ≤ k
    e_le = omega (arith, e_is, trim_le t, length-take-le (k - 0) v (omega (arith, semicolon_inside)))

    pub text_inside : e ≤ length v
    text_inside = omega (arith, e_le, semicolon_inside)

    module _ (a : ℕ) (a_is : a ≡ first text_here (take (e - 0) (drop 0 v))) where
      again : take (e - 0) (drop 0 v) ≡ take e t
      again = ap (λ (j : ℕ). take j v) (sub-zero e) ∙ sym (take-take e (k - 0) v (omega (arith, e_le)))

      pub blanks_inside : a ≤ e
      blanks_inside =
          omega (arith, a_is, first_le text_here (take (e - 0) (drop 0 v)), length-take-le (e - 0) v (omega (arith, text_inside)))

      pub says : (r : Bool) → r ≡ same_any_case (part v a e) (text "application/sdp") → r ≡ says_description v
      unfolding says_description
      says r er =
          er
          ∙ ap (λ (x : List ℕ). same_any_case x (text "application/sdp"))
          (sym (ap trim front ∙ trim_part t e a e_is (a_is ∙ ap (first text_here) again) ∙ part_front (k - 0) a e v (omega (arith, e_le))))

-- ---- one value

module _ (v : List ℕ) (x : Piece) (x_is : x ≡ piece_at v 0) where
  said : ValueAt v 0 x
  said = subst (ValueAt v 0) (sym x_is) (value_says v 0 zero-le)

  pub piece_order : x.start ≤ x.end
  piece_order = said.order

  pub piece_inside : x.end ≤ length v
  piece_inside = said.inside

  -- a second value begins at a place inside
  pub two_values : x.next ≤ length v → false ≡ one_description (values_from v 0)
  two_values h =
      sym (ap one_description (said.list ∙ ap (λ (l : List (List ℕ)). part v x.start x.end ∷ l) (value_says v x.next h).list))

  pub one_value : length v < x.next → (r : Bool) → r ≡ says_description (part v x.start x.end) → r ≡ one_description (values_from v 0)
  one_value h r er =
      er ∙ sym (ap one_description (said.list ∙ ap (λ (l : List (List ℕ)). part v x.start x.end ∷ l) (values_past v x.next h)))

-- ---- for callers: the values of a Content-Type field are its pieces

type_cut : (name : List ℕ) → content_type name ≡ true → never_cut name ≡ false
type_cut name e =
    ap (λ (l : List ℕ). some_of (λ (x : List ℕ). same l (lowers x)) never) (same_eq (lowers name) (lowers (text "Content-Type")) (T_of e))
  where
    never : List (List ℕ)
    never = text "Authorization" ∷ text "Proxy-Authorization" ∷ text "WWW-Authenticate" ∷ text "Proxy-Authenticate" ∷ text "Date" ∷ text "Subject" ∷ []

pub type_values : (name v : List ℕ) → content_type name ≡ true → values_of name v ≡ values_from v 0
type_values name v e = values_cut name v (type_cut name e)
