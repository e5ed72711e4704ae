-- The fields' places as they are lent: one list of pairs, of which the laws see two lists of numbers.
use mathlib.Core.Path.{◌≡◌, sym, subst}
use mathlib.Core.List.{List}
use Prim.Native.Nat.{ℕ, ◌*◌, ◌≤◌, ◌<◌}
use native.Mathlib.Omega.{arith}
use lib.ListN.{length, get_or, set, replicate, length-replicate}
use Rattle.std.proofs.Math.ListN.{get_or-map}
use Rattle.std.proofs.lemmas.List.{map-set, length-map}
use Rattle.request.specs.Inner.Places.{starts_in, colons_in, Rooms}
use Rattle.request.specs.Inner.Steps.{Fillable}
use Rattle.request.specs.declared.FieldPlace.{FieldPlace}
use Rattle.request.proofs.Filling.{Filling}

pub starts_many : (ps : List FieldPlace) → length (starts_in ps) ≡ length ps
starts_many ps = length-map ps (λ (p : FieldPlace). p.start)

pub colons_many : (ps : List FieldPlace) → length (colons_in ps) ≡ length ps
colons_many ps = length-map ps (λ (p : FieldPlace). p.colon)

lengths_in : (h : List ℕ) (from m n : ℕ) (ps : List FieldPlace) → Fillable h from m n → length (starts_in ps) ≡ m → length (colons_in ps) ≡ n
    → Fillable h from (length (starts_in ps)) (length (colons_in ps))
lengths_in h from m n ps k e f =
    subst (λ (x : ℕ). Fillable h from x (length (colons_in ps))) (sym e) (subst (λ (x : ℕ). Fillable h from m x) (sym f) k)

pub fillable_in : (h : List ℕ) (from : ℕ) (ps : List FieldPlace) → Fillable h from (length ps) (length ps)
    → Fillable h from (length (starts_in ps)) (length (colons_in ps))
fillable_in h from ps k = lengths_in h from (length ps) (length ps) ps k (starts_many ps) (colons_many ps)

pub fillable_out : (h : List ℕ) (from : ℕ) (ps : List FieldPlace) → Fillable h from (length (starts_in ps)) (length (colons_in ps))
    → Fillable h from (length ps) (length ps)
fillable_out h from ps k =
    subst (λ (x : ℕ). Fillable h from x (length ps)) (starts_many ps) (subst (λ (x : ℕ). Fillable h from (length (starts_in ps)) x) (colons_many ps) k)

-- rooms for a request that they are long enough for: so many places, and so many bytes
pub rooms_new : (s : List ℕ) (m n : ℕ) (d : FieldPlace) → (length s ≤ 65535 → (length s ≤ 4 * m) × (length s ≤ n))
    → Rooms s (starts_in (replicate m d)) (colons_in (replicate m d)) (replicate n 0)
rooms_new s m n d h = record {
  for_starts = record { enough = λ k. omega (arith, (h k).0, starts_many (replicate m d), length-replicate m d) };
  for_colons = record { enough = λ k. omega (arith, (h k).0, colons_many (replicate m d), length-replicate m d) };
  for_room = λ k. omega (arith, (h k).1, length-replicate {A = ℕ} n 0);
}

-- the next place is written
pub filling_in : (h : List ℕ) (from : ℕ) (starts colons : List ℕ) (ps : List FieldPlace) (n start colon p m : ℕ)
    → Filling h from starts colons (set (starts_in ps) n start) (set (colons_in ps) n colon) p m
    → Filling h from starts colons (starts_in (set ps n (record { start = start; colon = colon }))) (colons_in (set ps n (record { start = start; colon = colon }))) p m
filling_in h from starts colons ps n start colon p m w =
    let r : FieldPlace = record { start = start; colon = colon } in
    subst (λ (l : List ℕ). Filling h from starts colons l (colons_in (set ps n r)) p m) (sym (map-set (λ (q : FieldPlace). q.start) ps n r))
    (subst (λ (l : List ℕ). Filling h from starts colons (set (starts_in ps) n start) l p m) (sym (map-set (λ (q : FieldPlace). q.colon) ps n r)) w)

pub place_in : (n : ℕ) (ps : List FieldPlace) → n < length (starts_in ps) → n < length ps
place_in n ps h = omega (arith, h, starts_many ps)

-- what stands at a place, or zeros past the end
abbrev pub no_place : FieldPlace
no_place = record { start = 0; colon = 0 }

pub start_in : (ps : List FieldPlace) (i : ℕ) → (get_or ps i no_place).start ≡ get_or (starts_in ps) i 0
start_in ps i = sym (get_or-map (λ (q : FieldPlace). q.start) ps i no_place)

pub colon_in_place : (ps : List FieldPlace) (i : ℕ) → (get_or ps i no_place).colon ≡ get_or (colons_in ps) i 0
colon_in_place ps i = sym (get_or-map (λ (q : FieldPlace). q.colon) ps i no_place)
