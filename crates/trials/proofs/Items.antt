-- A field or a line, by its name and its values; and what the lists of them come to.
use Rattle.std.specs.Prelude.{Option, Some, None, is_some, IfSome}
use mathlib.Core.Bool.{Bool, true, false, or-false}
use mathlib.Core.Path.{◌≡◌, refl, sym, ap, ap₂, ◌∙◌, subst}
use mathlib.Core.List.{List, [], ◌∷◌}
use Prim.Native.Nat.{ℕ, ◌+◌, ◌*◌, ◌≤◌}
use native.Mathlib.Nat.{le_refl}
use native.Mathlib.Omega.{arith}
use lib.ListN.{length}
use Rattle.octets.specs.Lists.{pick, total}
use Rattle.octets.proofs.Kept.{total_mono, total_const}
use Rattle.pattern.specs.Inner.Answers.{meets_text}
use Rattle.pattern.specs.declared.prepared.Prepared.{Prepared}
use Rattle.trials.specs.Inner.Patterns.{content_bytes}
use Rattle.contents.specs.Body.{Line}
use Rattle.request.specs.Request.{Field}
use Rattle.request.proofs.Few.{weight}
use Rattle.trials.specs.Inner.Trying.{values_row, named_row, item_row, field_row, line_row}
use Rattle.trials.specs.declared.Verdict.{Verdict}

-- a pattern that is for texts alone, or for names alone
pub met_as : (f g : Bool) → f ≡ g → (p t : List ℕ) (m : Bool) → m ≡ meets_text f p t → m ≡ meets_text g p t
met_as f g e p t m em = em ∙ ap (λ (b : Bool). meets_text b p t) e

-- ---- one item

module _ (fold : Bool) (h name : List ℕ) (vs : List (List ℕ)) (m : Bool) (em : m ≡ meets_text fold h name) where
  item_by : (with : Bool) (c : List ℕ) (a b : Bool) → m ≡ a → with ≡ b → named_row a b (values_row c vs) ≡ item_row fold h with c name vs
  unfolding item_row
  item_by with c a b ea eb = ap₂ (λ (x y : Bool). named_row x y (values_row c vs)) (sym ea ∙ em) (sym eb)

  none_tried : (w : Bool) → 1 + pick w 0 0 ≡ 1
  none_tried true = refl
  none_tried false = refl

  pub item_no : m ≡ false → (with : Bool) (c : List ℕ) → ◌≡◌ {A = Verdict} (record { fits = false; trials = 1 }) (item_row fold h with c name vs)
  item_no k with c = ap (λ (n : ℕ). record { fits = false; trials = n }) (sym (none_tried with)) ∙ item_by with c false with k refl

  module _ (k : m ≡ true) (o : Option Prepared) where
    pub item_bare : o ≡ None → ◌≡◌ {A = Verdict} (record { fits = true; trials = 1 }) (item_row fold h (is_some o) (content_bytes o) name vs)
    item_bare e = item_by (is_some o) (content_bytes o) true false k (ap is_some e)

    module _ (p : Prepared) (e : o ≡ Some p) where
      -- its Content is matched as written
      pub content_as : IfSome o (λ q. q.for_names ≡ false) → p.for_names ≡ false
      content_as w = subst (λ (x : Option Prepared). IfSome x (λ q. q.for_names ≡ false)) e w

      pub item_with : (v : Verdict) → v ≡ values_row p.bytes.now vs
          → ◌≡◌ {A = Verdict} (record { fits = v.fits; trials = 1 + v.trials }) (item_row fold h (is_some o) (content_bytes o) name vs)
      item_with v ev =
          ap (λ (u : Verdict). record { fits = u.fits; trials = 1 + u.trials }) (ev ∙ ap (λ (x : Option Prepared). values_row (content_bytes x) vs) (sym e))
          ∙ item_by (is_some o) (content_bytes o) true true k (ap is_some e)

-- a line has one value
pub item_one : (h name value : List ℕ) (m : Bool) → m ≡ meets_text false h name → m ≡ true → (o : Option Prepared) (p : Prepared) → o ≡ Some p
    → (v : Bool) → v ≡ meets_text false p.bytes.now value
    → ◌≡◌ {A = Verdict} (record { fits = v; trials = 2 }) (item_row false h (is_some o) (content_bytes o) name (value ∷ []))
unfolding values_row
item_one h name value m em k o p e v ev =
    item_with false h name (value ∷ []) m em k o p e (record { fits = v; trials = 1 })
    (ap (λ (b : Bool). record { fits = b; trials = 1 }) (ev ∙ sym (or-false (meets_text false p.bytes.now value))))

-- ---- how many trials

item_le : (fold : Bool) (h : List ℕ) (with : Bool) (c name : List ℕ) (vs : List (List ℕ)) → (item_row fold h with c name vs).trials ≤ 1 + length vs
unfolding item_row values_row
item_le fold h with c name vs = go with (meets_text fold h name)
  where
    go : (w m : Bool) → 1 + pick w (pick m (length vs) 0) 0 ≤ 1 + length vs
    go true true = le_refl (1 + length vs)
    go true false = omega arith
    go false m = omega arith

module _ (h : List ℕ) (with : Bool) (c : List ℕ) where
  -- each field takes at most one for its name and one for each of its values
  pub fields_le : (fs : List Field) → total (λ f. (field_row h with c f).trials) fs ≤ total weight fs
  unfolding field_row
  fields_le fs = total_mono (λ f. (field_row h with c f).trials) weight (λ f. omega (arith, item_le true h with c f.name f.values)) fs

  -- each line at most two
  pub lines_le : (ls : List Line) → total (λ l. (line_row h with c l).trials) ls ≤ length ls * 2
  unfolding line_row
  lines_le ls =
      omega (
        arith,
        total_mono (λ l. (line_row h with c l).trials) (λ l. 2) (λ l. item_le false h with c l.type (l.value ∷ [])) ls,
        total_const 2 ls,
      )
