-- Method and URI are read from the start line alone: the same start line gives the same method and URI.
use mathlib.Core.Bool.{not, ◌&&◌}
use mathlib.Core.Option.{Option, none, some}
use mathlib.Core.Path.{◌≡◌, sym, ap, ◌∙◌, subst, refl}
use Prim.Native.Nat.{ℕ}
use mathlib.Core.List.{List, [], ◌∷◌}
use lib.ListN.{length}
use lib.Dec.{leb}
use Rattle.octets.specs.Lists.{every}
use Rattle.octets.specs.Option.{◌>>=◌, holds}
use Rattle.cuts.specs.Cutting.{Cut, first_cut, first_line}
use Rattle.request.specs.Request.{Request, Field, Start, empty_line, head_lines, head_byte, paired, read_head, start_line, continues, all_fields, whole_fields, read_request}
use Rattle.promises.specs.Agreement.{line_of, start_of}

-- what is read from it
abbrev Reads : List ℕ → Option Request → Type 0
Reads l none = Unit {0}
Reads l (some q) = start_line l ≡ some (record { method = q.method; uri = q.uri })

head_start : (ls : List (List ℕ)) (body : List ℕ) → Reads (first_line ls) (read_head ls body)
head_start [] body = tt
head_start (l ∷ ls) body = go (start_line l) refl
  where
    go : (o : Option Start) → start_line l ≡ o → Reads l (o >>= (λ s. holds (not (continues ls)) >>= (λ u. all_fields (whole_fields ls) >>= (λ fs.
        some (record { method = s.method; uri = s.uri; fields = fs; body = body })))))
    go none e = tt
    go (some s) e = fold_ok (holds (not (continues ls)))
      where
        fields_ok : (o : Option (List Field)) → Reads l (o >>= (λ fs. some (record { method = s.method; uri = s.uri; fields = fs; body = body })))
        fields_ok none = tt
        fields_ok (some fs) = e

        fold_ok : (o : Option (Unit {0})) → Reads l (o >>= (λ u. all_fields (whole_fields ls) >>= (λ fs. some (record { method = s.method; uri = s.uri; fields = fs; body = body }))))
        fold_ok none = tt
        fold_ok (some u) = fields_ok (all_fields (whole_fields ls))

request_start : (s : List ℕ) → Reads (start_of s) (read_request s)
unfolding read_request start_of
request_start s = length_ok (holds (leb (length s) 65535))
  where
    bytes_ok : (c : Cut) (o : Option (Unit {0})) → Reads (first_line (head_lines c.before)) (o >>= (λ u. read_head (head_lines c.before) c.after))
    bytes_ok c none = tt
    bytes_ok c (some u) = head_start (head_lines c.before) c.after

    cut_ok : (o : Option Cut) → Reads (line_of o) (o >>= (λ c. holds (every head_byte c.before && paired 0 c.before) >>= (λ u. read_head (head_lines c.before) c.after)))
    cut_ok none = tt
    cut_ok (some c) = bytes_ok c (holds (every head_byte c.before && paired 0 c.before))

    length_ok : (o : Option (Unit {0})) → Reads (line_of (first_cut empty_line s))
        (o >>= (λ u. first_cut empty_line s >>= (λ c. holds (every head_byte c.before && paired 0 c.before) >>= (λ v. read_head (head_lines c.before) c.after))))
    length_ok none = tt
    length_ok (some u) = cut_ok (first_cut empty_line s)

start_is : (s : List ℕ) (q : Request) → read_request s ≡ some q → start_line (start_of s) ≡ some (record { method = q.method; uri = q.uri })
start_is s q e = subst (Reads (start_of s)) e (request_start s)

method_or : Option Start → List ℕ
method_or none = []
method_or (some s) = s.method

uri_or : Option Start → List ℕ
uri_or none = []
uri_or (some s) = s.uri

pub start_same : (a b : List ℕ) (q r : Request) → read_request a ≡ some q → read_request b ≡ some r → start_of a ≡ start_of b
    → (q.method ≡ r.method) × (q.uri ≡ r.uri)
unfolding method_or uri_or
start_same a b q r p s e =
    let w : ◌≡◌ {A = Option Start} (some (record { method = q.method; uri = q.uri })) (some (record { method = r.method; uri = r.uri })) =
    sym (start_is a q p) ∙ ap start_line e ∙ start_is b r s in
    (ap method_or w, ap uri_or w)
