-- How a field that names a string goes: the code has what the string may be used for, the reader the string.
use Prim.Native.Nat.{ℕ, zero, suc, ◌+◌, ◌-◌, ◌≤◌, ◌<◌}
use native.Mathlib.Omega.{arith}
use native.Mathlib.Nat.{add-sub_cancel_left, le_of_suc-le-suc, not-suc-le-zero}
use mathlib.Core.Path.{◌≡◌, refl, ap, ◌∙◌}
use mathlib.Core.Bool.{Bool, true, not, ◌||◌}
use mathlib.Core.List.{List, [], ◌∷◌, map}
use lib.ListN.{length, get_or, take, drop, set, length-map, length-set}
use lib.Dec.{eqb}
use lib.Seq.{length-take-le, get_or-set_same, get_or-set_other}
use borrow.Author.Count.{below_none, below_more}
use borrow.Author.Tests.{ne_eqb}
use Rattle.octets.specs.Lists.{empty}
use Rattle.octets.specs.Bytes.{token}
use Rattle.basic.specs.Inner.Judged.{is_pattern}
use Rattle.cells.specs.Inner.Places.{word, text_at, texts, usable, uses_of}
use Rattle.cells.specs.Inner.Answers.{Table, Known, no_use}
use Rattle.cells.specs.declared.Suits.{Suits}

pub text_is : (s : List ℕ) (o n : ℕ) → n ≡ word s o → take (o + 2 + n - (o + 2)) (drop (o + 2) s) ≡ text_at s o
text_is s o n e = rw (e, add-sub_cancel_left)

-- ---- what a string may be used for

none : (t : List ℕ) → eqb (length t) 0 ≡ empty t
none [] = refl
none (b ∷ t) = ne_eqb (suc (length t)) 0 (λ e. omega arith)

pub uses_made : (t : List ℕ) (a b c : Bool) → a ≡ eqb (length t) 0 → b ≡ token t → c ≡ is_pattern t
    → ◌≡◌ {A = Suits} (record { server = not a; method = b; pattern = c }) (uses_of t)
unfolding uses_of
uses_made t a b c ea eb ec = rw (ea, none t, eb, ec) refl

-- kinds 2 and 4 name patterns
pub usable_pattern : (p : ℕ) (t : List ℕ) → (p ≡ 1 → ⊥) → (eqb p 2 || eqb p 4) ≡ true → is_pattern t ≡ usable p t
unfolding usable
usable_pattern p t e1 q = rw (ne_eqb p 1 e1, q) refl

-- the strings below k are judged
pub record Told (s : List ℕ) (n : ℕ) (table : List ℕ) (uses : List Suits) (k : ℕ) : Type 0 where
  pub count : k ≤ n
  pub each : length uses ≡ 1024
  pub tells : (i : ℕ) → i < k → get_or uses i no_use ≡ uses_of (text_at s (get_or table i 0))

pub told_none : (s : List ℕ) (n : ℕ) (table : List ℕ) (uses : List Suits) → length uses ≡ 1024 → Told s n table uses 0
told_none s n table uses h = record { count = omega arith; each = h; tells = below_none (λ i. get_or uses i no_use ≡ uses_of (text_at s (get_or table i 0))) }

module _ (s : List ℕ) (n : ℕ) (table : List ℕ) (uses : List Suits) (k : ℕ) (tb : Table s n table) (d : Told s n table uses k) where
  pub told_more : (o : ℕ) (t : List ℕ) (v : Suits) → k < n → o ≡ get_or table k 0 → t ≡ text_at s o → v ≡ uses_of t → Told s n table (set uses k v) (k + 1)
  told_more o t v h eo et ev =
      let room : k < length uses = omega (arith, tb.count, d.each) in
      record {
        count = omega arith;
        each = length-set uses k v ∙ d.each;
        tells = below_more (λ i. get_or (set uses k v) i no_use ≡ uses_of (text_at s (get_or table i 0))) k
            (λ i l. get_or-set_other uses k i v no_use (omega arith) ∙ d.tells i l)
            (get_or-set_same uses k v no_use room ∙ ev ∙ ap uses_of (et ∙ ap (text_at s) eo));
      }

  pub told_all : n ≤ k → Known s n table uses
  told_all h = record { tabled = tb; each = d.each; tells = λ i l. d.tells i (omega (arith, d.count)) }

-- ---- a field that names a string

pub get_or_map_in : {A B : Type 0} (f : A → B) (l : List A) (i : ℕ) (d : A) (e : B) → i < length l → get_or (map f l) i e ≡ f (get_or l i d)
get_or_map_in f [] i d e h = absurd (not-suc-le-zero h)
get_or_map_in f (x ∷ xs) zero d e h = refl
get_or_map_in f (x ∷ xs) (suc i) d e h = get_or_map_in f xs i d e (le_of_suc-le-suc h)

module _ (s : List ℕ) (n : ℕ) (table : List ℕ) (tb : Table s n table) where
  pub taken : length (take n table) ≡ n
  taken = length-take-le n table (omega (arith, tb.long, tb.count))

  pub texts_length : length (texts s n table) ≡ n
  texts_length = length-map (take n table) (text_at s) ∙ taken

pub inside_at : (s : List ℕ) (n : ℕ) (table : List ℕ) (i o : ℕ) → Table s n table → i < n → o ≡ get_or table i 0 → o + 2 + word s o ≤ length s
inside_at s n table i o tb h e = rw e (tb.inside i h)
