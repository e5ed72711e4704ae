-- For callers: what the places of a readable request say of it. Its method, URI, fields and body lines; and what `read` leaves.
use Rattle.std.specs.Prelude.{Option as Answer, Some, None}
use mathlib.Core.Option.{Option, none, some}
use mathlib.Core.Path.{◌≡◌, sym, ap, ◌∙◌, subst}
use mathlib.Core.List.{List}
use Prim.Native.Nat.{ℕ, ◌+◌, ◌-◌, ◌≤◌, ◌<◌, zero-le}
use native.Mathlib.Nat.{sub-zero, le_of_eq}
use native.Mathlib.Omega.{arith}
use lib.ListN.{length, take, drop, length-drop}
use lib.Seq.{take_all}
use Rattle.octets.specs.Lists.{total}
use Rattle.octets.proofs.Options.{Ok}
use Rattle.cuts.specs.Inner.Parts.{part}
use Rattle.contents.specs.Body.{session_lines}
use Rattle.request.specs.Request.{request_lines, Request, read_request}
use Rattle.request.specs.Inner.Places.{head_of, fields_start, lines_start, Read, Placed, Fielded, or_blank, request_of, field_parts}
use Rattle.request.specs.declared.FieldParts.{FieldParts}
use Rattle.request.specs.declared.Places.{Places}
use Rattle.request.proofs.Accepted.{Accepts}
use Rattle.request.proofs.Answers.{read_none}
use Rattle.request.proofs.Described.{start_inside, lines_there}
use Rattle.request.proofs.Few.{weight, request_few, Small, request_small}
use Rattle.request.proofs.Indexing.{FieldSays, accepted_by, few, placed, fielded, readable_count, readable_lines}
use Rattle.request.proofs.OneField.{said}

-- the request that is read
pub request_of_is : (s : List ℕ) (q : Request) → read_request s ≡ some q → request_of s ≡ q
unfolding request_of
request_of_is s q e = ap or_blank e

-- is small
pub request_of_small : (s : List ℕ) → Small (request_of s)
unfolding request_of
request_of_small s = go (read_request s) (request_small s)
  where
    go : (o : Option Request) → Ok Small o → Small (or_blank o)
    go none h = record { fields_le = zero-le; body_le = zero-le }
    go (some q) h = h

-- ---- by its places

module _ (s starts colons : List ℕ) (p : Places) (k : Placed s starts colons p) where
  accepted : Accepts s p.head p.method p.uri (fields_start (head_of s))
  accepted = accepted_by s p k.read

  request_is : request_of s ≡ accepted.request
  request_is = request_of_is s accepted.request accepted.read

  pub reads_so : read_request s ≡ some (request_of s)
  reads_so = accepted.read ∙ ap some (sym request_is)

  pub short : length s ≤ 65535
  short = accepted.short

  pub places_alone : Fielded s starts colons p.head p.fields
  places_alone = fielded s starts colons p k reads_so

  -- ---- its method and its URI

  pub method_is : take (p.method - 0) s ≡ (request_of s).method
  method_is = ap (λ (i : ℕ). take i s) (sub-zero p.method) ∙ sym (ap (λ (q : Request). q.method) request_is ∙ accepted.method_is)

  pub uri_is : (request_of s).uri ≡ part s (p.method + 1) p.uri
  uri_is = ap (λ (q : Request). q.uri) request_is ∙ accepted.uri_is

  pub uri_order : p.method + 1 ≤ p.uri
  uri_order = omega (arith, accepted.before_uri)

  pub uri_inside : p.uri ≤ length s
  uri_inside = omega (arith, accepted.uri_inside, accepted.body_inside)

  pub uri_room : p.method + 1 < 18446744073709551616
  uri_room = omega (arith, uri_order, uri_inside, short)

  pub method_inside : p.method ≤ length s
  method_inside = omega (arith, uri_order, uri_inside)

  -- ---- its body lines

  lines_place : p.lines ≡ lines_start (head_of s) (request_of s)
  lines_place = readable_lines (head_of s) (read_request s) p (request_of s) k.read reads_so

  pub lines_inside : p.lines ≤ length s
  lines_inside = omega (arith, lines_place, start_inside s starts colons p.head p.fields places_alone)

  -- those of the bytes from their place on
  pub lines_are : session_lines (drop p.lines s) ≡ request_lines (request_of s)
  lines_are = ap (λ (i : ℕ). session_lines (drop i s)) lines_place ∙ lines_there s starts colons p.head p.fields places_alone

  -- they are what `described` answers
  abbrev rest : List ℕ
  rest = take (length s - p.lines) (drop p.lines s)

  rest_is : rest ≡ drop p.lines s
  rest_is = take_all (length s - p.lines) (drop p.lines s) (le_of_eq (length-drop p.lines s))

  pub described_is : (session_lines rest ≡ request_lines (request_of s)) × (length rest ≤ 65535) × (rest ≡ drop (lines_start (head_of s) (request_of s)) s)
  described_is = (
    ap session_lines rest_is ∙ lines_are,
    omega (arith, ap length rest_is, length-drop p.lines s, short),
    rest_is ∙ ap (λ (i : ℕ). drop i s) lines_place,
  )

  -- ---- its fields

  pub fields_many : length (request_of s).fields ≡ p.fields
  fields_many = readable_count (head_of s) (read_request s) p (request_of s) k.read reads_so

  -- with their values no more than the bytes of the head
  pub fields_few : total weight (request_of s).fields ≤ p.head
  fields_few =
      subst (λ (q : Request). total weight q.fields ≤ p.head) (sym request_is)
      (request_few s p.head p.method p.uri (fields_start (head_of s)) accepted)

  pub head_inside : p.head ≤ length s
  head_inside = omega (arith, accepted.body_inside)

  module _ (i : ℕ) (more : i < p.fields) where
    pub index_low : i ≤ 65535
    index_low = omega (arith, few s starts colons p.head p.fields places_alone i more)

    pub index_room : i + 1 < 18446744073709551616
    index_room = omega (arith, few s starts colons p.head p.fields places_alone i more)

    pub field_said : (f : FieldParts) → f ≡ field_parts (head_of s) i → FieldSays s (request_of s) p.head i f
    field_said f e = said s starts colons p.head p.fields places_alone i more f e

-- ---- what `read` leaves

module _ (s starts colons starts' colons' : List ℕ) (rd : Answer Places) (k : Read s starts colons starts' colons' rd) where
  pub unreadable : rd ≡ None → read_request s ≡ none
  unreadable e = read_none s starts colons starts' colons' (subst (Read s starts colons starts' colons') e k)

  module _ (p : Places) (q : rd ≡ Some p) where
    pub readable : Placed s starts' colons' p
    readable = placed s starts colons starts' colons' p (subst (Read s starts colons starts' colons') q k)

    pub reads : read_request s ≡ some (request_of s)
    reads = reads_so s starts' colons' p readable

    -- what is readable has at most 65,535 bytes
    pub readable_short : length s ≤ 65535
    readable_short = short s starts' colons' p readable
