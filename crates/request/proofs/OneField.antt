-- One field of a readable request: where its name and its raw value stand in the bytes, and how long that value is at most.
use mathlib.Core.Path.{◌≡◌, sym, ap, subst}
use mathlib.Core.List.{List}
use Prim.Native.Nat.{ℕ, ◌-◌, ◌≤◌, ◌<◌}
use native.Mathlib.Omega.{arith}
use lib.ListN.{length, take, drop}
use Rattle.cuts.specs.Inner.Parts.{part}
use Rattle.cuts.proofs.Parts.{length_part}
use Rattle.request.specs.Inner.Places.{head_of, Fielded, request_of, field_parts, FieldIs}
use Rattle.request.specs.declared.FieldParts.{FieldParts}
use Rattle.request.proofs.Indexing.{FieldSays, field_says, short, head_inside}

module _ (s starts colons : List ℕ) (head fields : ℕ) (x : Fielded s starts colons head fields) (i : ℕ) (less : i < fields)
    (f : FieldParts) (f_is : f ≡ field_parts (head_of s) i) where
  pub said : FieldSays s (request_of s) head i f
  said =
      subst (λ (r : FieldParts). FieldSays s (request_of s) head i r) (sym f_is)
      (field_says s starts colons head fields x i less (request_of s) x.read)

  pub name_order : f.name ≤ f.stop
  name_order = omega (arith, said.name_order)

  pub value_order : f.value ≤ f.end
  value_order = said.value_order

  pub value_inside : f.end ≤ length s
  value_inside = omega (arith, said.inside, head_inside s starts colons head fields x)

  pub name_inside : f.stop ≤ length s
  name_inside = omega (arith, said.colon_after, value_order, value_inside)

  value_long : length (part s f.value f.end) ≡ f.end - f.value
  value_long = length_part s f.value f.end value_order value_inside

  pub value_short : length (part s f.value f.end) ≤ 65535
  value_short = omega (arith, value_long, value_inside, short s starts colons head fields x)

  -- room for the whole request is room for each value of it
  pub value_room : (m : ℕ) → length s ≤ m → length (part s f.value f.end) ≤ m
  value_room m h = omega (arith, value_long, value_inside)

  -- the field itself, by its bytes
  pub field_is : FieldIs s i (take (f.stop - f.name) (drop f.name s)) (take (f.end - f.value) (drop f.value s))
  field_is = record {
    name_is = ap (λ (r : FieldParts). part s r.name r.stop) f_is;
    value_is = ap (λ (r : FieldParts). part s r.value r.end) f_is;
    list = said.list;
    inside = value_room (length s) (omega arith);
    short = value_short;
  }
