-- The fields of a request with their values are no more than the bytes of its head, and so few.
use mathlib.Core.Bool.{Bool, true, false}
use mathlib.Core.Option.{Option, none, some, some-injective}
use mathlib.Core.Path.{◌≡◌, refl, sym, ap, ◌∙◌, subst}
use mathlib.Core.List.{List, [], ◌∷◌}
use Prim.Native.Nat.{ℕ, zero, suc, ◌+◌, ◌≤◌, ◌<◌, zero-le, suc-le-suc}
use native.Mathlib.Nat.{le_trans}
use native.Mathlib.Omega.{arith}
use native.Mathlib.Decide.{dec_le}
use lib.ListN.{length, take, drop, length-drop}
use lib.Dec.{T}
use lib.Seq.{length-take-le}
use Rattle.octets.specs.Lists.{pick, total}
use Rattle.octets.proofs.Options.{Ok}
use Rattle.cuts.specs.Inner.Parts.{part}
use Rattle.cuts.specs.Inner.Searching.{first}
use Rattle.cuts.specs.Trimming.{trim_right}
use Rattle.cuts.proofs.Parts.{length_part}
use Rattle.cuts.proofs.Trims.{trim_le}
use Rattle.contents.specs.Body.{session_lines}
use Rattle.contents.specs.Names.{name_as_matched}
use Rattle.contents.specs.Values.{reduced}
use Rattle.contents.proofs.Norm.{reduced_le}
use Rattle.contents.proofs.Small.{values_length, session_lines_length}
use Rattle.request.specs.Inner.Places.{colon_in, head_of}
use Rattle.request.specs.Request.{Request, Field, paired, field, all_fields, read_request, is_description, request_lines}
use Rattle.request.specs.Inner.Steps.{line_break, lines_from, judged}
use Rattle.request.proofs.Accepted.{Accepts, accepts}
use Rattle.request.proofs.Fields.{end_order, end_inside}
use Rattle.request.proofs.Lines.{line_here, line_next, line_past}
use Rattle.request.proofs.Nth.{cons, field_is, colon_in_line, name_token, token_long}

-- ---- fields with their values

abbrev pub weight : Field → ℕ
weight f = suc (length f.values)

-- a field and its values are no more than the bytes of its line
field_few : (l : List ℕ) (f : Field) → field l ≡ some f → weight f ≤ length l
field_few l f e =
    let c = colon_in l in
    let name = trim_right (take c l) in
    let raw = drop (c + 1) l in
    let many : length f.values ≤ 1 + length (reduced raw) =
    subst (λ (g : Field). length g.values ≤ 1 + length (reduced raw)) (sym (field_is l f e)) (values_length (name_as_matched name) (reduced raw))
    in
    let some_name : 0 < length name = token_long name (name_token l f e) in
    let name_short : length name ≤ c = le_trans (trim_le (take c l)) (take_short c l) in
    omega (arith, reduced_le raw, length-drop (c + 1) l, colon_in_line l f e)
  where
    take_short : (n : ℕ) (s : List ℕ) → length (take n s) ≤ n
    take_short zero s = zero-le
    take_short (suc n) [] = zero-le
    take_short (suc n) (b ∷ s) = suc-le-suc (take_short n s)

fields_few : (ls : List (List ℕ)) (fs : List Field) → all_fields ls ≡ some fs → total weight fs ≤ total length ls
unfolding all_fields
fields_few [] fs e = subst (λ (gs : List Field). total weight gs ≤ 0) (some-injective [] fs e) zero-le
fields_few (l ∷ ls) fs e =
    let k = cons l ls fs e in
    let here : weight k.one ≤ length l = field_few l k.one k.one_is in
    let rest : total weight k.others ≤ total length ls = fields_few ls k.others k.others_are in
    subst (λ (gs : List Field). total weight gs ≤ length l + total length ls) (sym k.all_are) (omega arith)

-- ---- lines of a head

lines_step : (h : List ℕ) (p : ℕ) → p ≤ length h + 2 → T (paired 0 (drop p h))
    → ((q : ℕ) → suc (length (lines_from h q)) ≡ length (lines_from h p) → q ≤ length h + 2 → T (paired 0 (drop q h)) → total length (lines_from h q) + q ≤ length h + 2)
    → total length (lines_from h p) + p ≤ length h + 2
lines_step h p inside right later =
    elim (dec_le p (length h)) [
      | no past ↦ let done : lines_from h p ≡ [] = line_past h p (omega (arith, past)) in omega (arith, ap (total length) done)
      | yes here ↦
          let e = p + first line_break (drop p h) in
          let cut : lines_from h p ≡ part h p e ∷ lines_from h (e + 2) = line_here h p e here right refl in
          let e_le : e ≤ length h = end_inside h p e here refl in
          let on : p ≤ e = end_order h p e here refl in
          let rest : total length (lines_from h (e + 2)) + (e + 2) ≤ length h + 2 = later (e + 2) (sym (ap length cut)) (omega arith) (line_next h p e here right refl) in
          omega (arith, ap (total length) cut, length_part h p e on e_le)
    ]

-- the lines from p on take no more than the bytes from there on
lines_few : (n : ℕ) (h : List ℕ) (p : ℕ) → length (lines_from h p) ≤ n → p ≤ length h + 2 → T (paired 0 (drop p h)) → total length (lines_from h p) + p ≤ length h + 2
lines_few zero h p few inside right = lines_step h p inside right (λ q e i r. absurd (omega (arith, e, few)))
lines_few (suc n) h p few inside right = lines_step h p inside right (λ q e i r. lines_few n h q (omega (arith, e, few)) i r)

-- the fields of a readable request with their values are no more than the bytes of its head
pub request_few : (s : List ℕ) (e m u f : ℕ) (k : Accepts s e m u f) → total weight k.request.fields ≤ e
request_few s e m u f k =
    let h = take e s in
    let long : length h ≡ e = length-take-le e s (omega (arith, k.body_inside)) in
    let ls = lines_from h f in
    let few : total length ls + f ≤ length h + 2 = lines_few (length ls) h f (omega arith) (omega (arith, k.start_inside, long)) k.paired_on in
    omega (arith, fields_few ls k.request.fields k.fields_are, few, long, k.start_is)

-- ---- what the counts above rest on

-- the fields of a readable request with their values, and its body, are within what its length allows
pub record Small (q : Request) : Type 0 where
  pub fields_le : total weight q.fields ≤ 262143
  pub body_le : length q.body ≤ 65535

pub request_small : (s : List ℕ) → Ok Small (read_request s)
request_small s = go (read_request s) refl
  where
    go : (o : Option Request) → read_request s ≡ o → Ok Small o
    go none r = tt
    go (some q) r =
        let k = accepts s _ _ _ _ (sym (ap (judged (head_of s)) r)) in
        let same : k.request ≡ q = some-injective k.request q (sym k.read ∙ r) in
        subst Small same
        (record {
          fields_le = omega (arith, request_few s _ _ _ _ k, k.body_inside, k.short);
          body_le = omega (arith, ap length k.body_is, length-drop (length (head_of s) + 4) s, k.short);
        })

-- body lines
pub body_lines_few : (q : Request) → Small q → length (request_lines q) ≤ 65536
unfolding request_lines
body_lines_few q h = go (is_description q)
  where
    go : (b : Bool) → length (pick b (session_lines q.body) []) ≤ 65536
    go true = omega (arith, session_lines_length q.body, h.body_le)
    go false = omega arith
