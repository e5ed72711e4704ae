-- The field of one line among all.
use mathlib.Core.Bool.{Bool, true, false}
use mathlib.Core.Option.{Option, none, some, some-injective}
use mathlib.Core.Path.{◌≡◌, refl, sym, ap, ◌∙◌, subst}
use mathlib.Core.List.{List, [], ◌∷◌}
use Prim.Native.Nat.{ℕ, zero, suc, ◌+◌, ◌<◌}
use native.Mathlib.Nat.{zero-add, suc-add}
use native.Mathlib.Omega.{arith}
use lib.Dec.{T}
use lib.ListN.{length, take, drop}
use lib.Seq.{drop-nil}
use Rattle.octets.specs.Bytes.{token}
use Rattle.octets.specs.Option.{◌>>=◌, holds}
use Rattle.cuts.specs.Cutting.{begins}
use Rattle.cuts.specs.Inner.Searching.{first}
use Rattle.cuts.specs.Trimming.{trim_right}
use Rattle.cuts.proofs.Search.{before_length}
use Rattle.request.specs.Inner.Places.{colon_in}
use Rattle.request.specs.Request.{Field, field, all_fields}
use Rattle.request.specs.Inner.Steps.{is_some, is_field}
use Rattle.request.proofs.Fields.{field_at, field_named}
use Rattle.request.proofs.Filling.{colon_inside, name_there}

-- ---- the fields of the lines

-- the first line is a field, and so are the others
pub record Cons (l : List ℕ) (ls : List (List ℕ)) (fs : List Field) : Type 0 where
  pub one : Field
  pub one_is : field l ≡ some one
  pub others : List Field
  pub others_are : all_fields ls ≡ some others
  pub all_are : fs ≡ one ∷ others

cons_by : (l : List ℕ) (ls : List (List ℕ)) (fs : List Field) (o : Option Field) (p : Option (List Field))
    → field l ≡ o → all_fields ls ≡ p → (o >>= λ f. p >>= λ gs. some (f ∷ gs)) ≡ some fs → Cons l ls fs
cons_by l ls fs none p eo ep e = let z : ◌≡◌ {A = ℕ} 0 1 = cc in absurd (omega arith)
cons_by l ls fs (some f) none eo ep e = let z : ◌≡◌ {A = ℕ} 0 1 = cc in absurd (omega arith)
cons_by l ls fs (some f) (some gs) eo ep e = record { one = f; one_is = eo; others = gs; others_are = ep; all_are = some-injective fs (f ∷ gs) (sym e) }

pub cons : (l : List ℕ) (ls : List (List ℕ)) (fs : List Field) → all_fields (l ∷ ls) ≡ some fs → Cons l ls fs
unfolding all_fields
cons l ls fs e = cons_by l ls fs (field l) (all_fields ls) refl refl e

-- the field of line i
pub record Nth (i : ℕ) (l : List ℕ) (fs : List Field) : Type 0 where
  pub one : Field
  pub one_is : field l ≡ some one
  pub there : drop i fs ≡ one ∷ drop (i + 1) fs

pub nth : (i : ℕ) (ls : List (List ℕ)) (fs : List Field) (l : List ℕ) (later : List (List ℕ)) → all_fields ls ≡ some fs → drop i ls ≡ l ∷ later → Nth i l fs
nth i [] fs l later e d = let z : ◌≡◌ {A = ℕ} 0 1 = cc (drop-nil {A = List ℕ} i) in absurd (omega arith)
nth zero (x ∷ ls) fs l later e d =
    let k = cons x ls fs e in
    let same : x ≡ l = cc in
    record {
      one = k.one;
      one_is = ap field (sym same) ∙ k.one_is;
      there = k.all_are ∙ ap (λ (gs : List Field). k.one ∷ gs) (sym (ap (drop 1) k.all_are));
    }
nth (suc i) (x ∷ ls) fs l later e d =
    let k = cons x ls fs e in
    let n = nth i ls k.others l later k.others_are d in
    record {
      one = n.one;
      one_is = n.one_is;
      there = ap (drop (suc i)) k.all_are ∙ n.there ∙ ap (λ (gs : List Field). n.one ∷ gs) (sym (ap (drop (suc i + 1)) k.all_are ∙ ap (λ (j : ℕ). drop j (k.one ∷ k.others)) (suc-add i 1)));
    }

-- a field is what its colon cuts it into
pub field_is : (l : List ℕ) (f : Field) → field l ≡ some f → f ≡ field_at l (colon_in l)
unfolding colon_in
field_is l f e =
    let k = first (begins (58 ∷ [])) l in
    let inside : k < length l = colon_inside l (subst (λ (o : Option Field). T (is_some o)) (sym e) tt) in
    by_token (token (trim_right (take k l))) (field_at l k) f (sym (field_named l k (sym (zero-add k)) inside) ∙ e)
    ∙ ap (field_at l) (sym (before_length (58 ∷ []) l))
  where
    by_token : (t : Bool) (g f : Field) → (holds t >>= λ _. some g) ≡ some f → f ≡ g
    by_token true g f q = cc
    by_token false g f q = let z : ◌≡◌ {A = ℕ} 0 1 = cc in absurd (omega arith)

-- its colon, and its name before that
module _ (l : List ℕ) (f : Field) (e : field l ≡ some f) where
  there : T (is_field l)
  there = subst (λ (o : Option Field). T (is_some o)) (sym e) tt

  colon_is : first (begins (58 ∷ [])) l ≡ colon_in l
  unfolding colon_in
  colon_is = sym (before_length (58 ∷ []) l)

  pub colon_in_line : colon_in l < length l
  colon_in_line = omega (arith, colon_inside l there, colon_is)

  pub name_token : T (token (trim_right (take (colon_in l) l)))
  name_token = subst (λ (k : ℕ). T (token (trim_right (take k l)))) colon_is (name_there l there)

pub token_long : (w : List ℕ) → T (token w) → 0 < length w
token_long [] t = absurd t
token_long (b ∷ w) t = omega arith
