-- What the places of a readable request say of its fields, and the loop over them.
use mathlib.Core.Option.{some, some-injective}
use mathlib.Core.Path.{◌≡◌, sym, ap, ◌∙◌, subst}
use mathlib.Core.List.{List, []}
use Prim.Native.Nat.{ℕ, ◌+◌, ◌≤◌, ◌<◌}
use native.Mathlib.Omega.{arith}
use lib.ListN.{length, drop, drop_of_length-le}
use Rattle.octets.specs.Lists.{total}
use Rattle.octets.proofs.Kept.{total_mono}
use Rattle.contents.specs.Names.{name_as_matched}
use Rattle.contents.specs.Values.{reduced, values_of}
use Rattle.request.specs.Inner.Places.{Placed, request_of, FieldIs}
use Rattle.request.specs.Request.{Request, read_request}
use Rattle.request.specs.declared.Places.{Places}
use Rattle.request.proofs.Few.{weight}
use Rattle.request.proofs.Readings.{reads_so, short, fields_many, fields_few, head_inside}
use Rattle.probes.specs.Inner.Parts.{values_in, counted, parts}

-- the fields before i are counted
pub record Fielding (s : List ℕ) (i n : ℕ) : Type 0 where
  pub sum : (q : Request) → read_request s ≡ some q → n + total values_in (drop i q.fields) ≡ total values_in q.fields

pub fielding_first : (s : List ℕ) → Fielding s 0 0
fielding_first s = record { sum = λ q e. omega arith }

-- the values of a request that is read
pub values_are : (s : List ℕ) (q : Request) → read_request s ≡ some q → (parts s).values ≡ total values_in q.fields
unfolding parts counted
values_are s q e = ap (λ o. (counted o).values) e

module _ (s starts colons : List ℕ) (p : Places) (k : Placed s starts colons p) where
  abbrev q : Request
  q = request_of s

  read_q : read_request s ≡ some q
  read_q = reads_so s starts colons p k

  values_few : total values_in q.fields ≤ 65535
  values_few =
      omega (arith, total_mono values_in weight (λ f. omega arith) q.fields, fields_few s starts colons p k, head_inside s starts colons p k, short s starts colons p k)

  pub fielding_end : (i n : ℕ) → Fielding s i n → p.fields ≤ i → n ≡ (parts s).values
  fielding_end i n w past =
      let all : length q.fields ≤ i = omega (arith, fields_many s starts colons p k) in
      let none_left : drop i q.fields ≡ [] = drop_of_length-le q.fields all in
      omega (arith, w.sum q read_q, ap (total values_in) none_left, values_are s q read_q)

  module _ (i : ℕ) (written value : List ℕ) (f : FieldIs s i written value) (name : List ℕ) (en : name ≡ name_as_matched written) (n : ℕ) (w : Fielding s i n)
      (r : ℕ) (er : r ≡ length (values_of name (reduced value))) where
    at_next : n + r + total values_in (drop (i + 1) q.fields) ≡ total values_in q.fields
    at_next =
        omega (
          arith,
          w.sum q (read_q),
          ap (total values_in) f.list,
          er ∙ ap (λ (l : List ℕ). length (values_of l (reduced value))) en,
        )

    pub fielding_next : Fielding s (i + 1) (n + r)
    fielding_next = record {
      sum = λ x e.
          let same : q ≡ x = some-injective q x (sym (read_q) ∙ e) in
          subst (λ (y : Request). n + r + total values_in (drop (i + 1) y.fields) ≡ total values_in y.fields) same at_next;
    }

    pub fielding_room : n + r < 4294967296
    fielding_room = omega (arith, at_next, values_few)
