-- Worked examples of readable and unreadable requests, values and lines: one list, one claim.
use Rattle.std.specs.Prelude.{Bool, true, false, not, ◌&&◌, ℕ, List, [], ◌∷◌, ◌++◌, T}
use Rattle.std.proofs.Math.Option.{Option, none, some}
use Prim.Native.String.{String}
use Rattle.octets.specs.Lists.{text, every, same}
use Rattle.contents.specs.Body.{Line, session_lines}
use Rattle.request.specs.Request.{Request, Field, read_request, is_description}

-- a request that is read or not; the names and the values of one with these fields; the lines of a body; whether
-- fields say that the body is a session description
pub data Example : Type 0 where
  is_read : List ℕ → Example
  is_unreadable : List ℕ → Example
  names : String → List String → Example
  values : String → List String → Example
  body : String → List String → Example
  described : String → Example
  undescribed : String → Example

abbrev was_read : Option Request → Bool
was_read none = false
was_read (some q) = true

-- equal lists of texts
abbrev all_same : List (List ℕ) → List String → Bool
all_same [] [] = true
all_same [] (t ∷ ts) = false
all_same (s ∷ ss) [] = false
all_same (s ∷ ss) (t ∷ ts) = same s (text t) && all_same ss ts

abbrev names_in : List Field → List (List ℕ)
names_in [] = []
names_in (f ∷ fs) = f.name ∷ names_in fs

abbrev values_in : List Field → List (List ℕ)
values_in [] = []
values_in (f ∷ fs) = f.values ++ values_in fs

abbrev lines_in : List Line → List (List ℕ)
lines_in [] = []
lines_in (l ∷ ls) = (l.type ++ l.value) ∷ lines_in ls

abbrev of_fields : (List Field → List (List ℕ)) → Option Request → List String → Bool
of_fields part none expected = false
of_fields part (some q) expected = all_same (part q.fields) expected

abbrev describes : Option Request → Bool
describes none = false
describes (some q) = is_description q

-- a request with these fields
abbrev with : String → List ℕ
with fields = text "A b SIP/2.0\r\n" ++ text fields ++ text "\r\n\r\n"

unfoldable pub right : Example → Bool
unfolding read_request session_lines is_description
right (is_read s) = was_read (read_request s)
right (is_unreadable s) = not (was_read (read_request s))
right (names fields expected) = of_fields names_in (read_request (with fields)) expected
right (values fields expected) = of_fields values_in (read_request (with fields)) expected
right (body b expected) = all_same (lines_in (session_lines (text b))) expected
right (described fields) = describes (read_request (with fields))
right (undescribed fields) = not (describes (read_request (with fields)))

unfoldable pub examples : List Example
examples =
    -- the start line
    is_read (text "INVITE sip:b sIp/2.0\r\n\r\n")
    ∷ is_unreadable (text "")
    ∷ is_unreadable (text "\r\n\r\n")
    ∷ is_unreadable (text "\r\nINVITE sip:b SIP/2.0\r\n\r\n")
    ∷ is_unreadable (text "INVITE  sip:b SIP/2.0\r\n\r\n")
    ∷ is_unreadable (text "INVITE sip:b SIP/2.0 \r\n\r\n")
    ∷ is_unreadable (text "INVITE sip:b\tSIP/2.0\r\n\r\n")
    ∷ is_unreadable (text "INVITE  SIP/2.0\r\n\r\n")
    ∷ is_unreadable (text "IN@VITE sip:b SIP/2.0\r\n\r\n")
    ∷ is_unreadable (text "INVITE sip:b SIP/2.1\r\n\r\n")
    -- the end of the head
    ∷ is_unreadable (text "A b SIP/2.0\r\n")
    ∷ is_unreadable (text "A b SIP/2.0\n\n")
    ∷ is_unreadable (text "A b SIP/2.0\r\r\n\r\n")
    ∷ is_unreadable (text "A b SIP/2.0\r\nX: a\nb\r\n\r\n")
    ∷ is_unreadable (text "A b SIP/2.0\r\nX: a\rb\r\n\r\n")
    ∷ is_read (text "A b SIP/2.0\r\n\r\n\r\n\n\r x")
    -- what may stand in the head
    ∷ is_read (text "A b SIP/2.0\r\nX: " ++ (128 ∷ 255 ∷ text "\r\n\r\n"))
    ∷ is_unreadable (text "A b SIP/2.0\r\nX" ++ (128 ∷ text ": a\r\n\r\n"))
    ∷ is_unreadable (text "A b SIP/2.0\r\nX: " ++ (127 ∷ text "\r\n\r\n"))
    ∷ is_unreadable (text "A b SIP/2.0\r\nX: " ++ (0 ∷ text "\r\n\r\n"))
    -- fields
    ∷ is_unreadable (text "A b SIP/2.0\r\n X: a\r\n\r\n")
    ∷ is_unreadable (with "X a")
    ∷ is_unreadable (with ": a")
    ∷ is_unreadable (with "X Y: a")
    ∷ is_unreadable (with "X\r\n : a")
    ∷ names "X \t: a\r\nfrom:\r\n b\r\nX:" ("X" ∷ "from" ∷ "X" ∷ [])
    -- the ten short names in either case, and none but them
    ∷ names "i:\r\nM:\r\ne:\r\nL:\r\nc:\r\nF:\r\ns:\r\nK:\r\nt:\r\nV:"
    ("Call-ID" ∷ "Contact" ∷ "Content-Encoding" ∷ "Content-Length" ∷ "Content-Type" ∷ "From" ∷ "Subject" ∷ "Supported" ∷ "To" ∷ "Via" ∷ [])
    ∷ names "f \t: a\r\nff: b\r\nf-: c\r\no:\r\nU:\r\nr:\r\nX:\r\nj:" ("From" ∷ "ff" ∷ "f-" ∷ "o" ∷ "U" ∷ "r" ∷ "X" ∷ "j" ∷ [])
    -- white space
    ∷ values "X:  a \t b\r\n\t c " ("a b c" ∷ [])
    ∷ values "X:\r\n \r\n\t" ("" ∷ [])
    ∷ values "X: \"a  b\"" ("\"a b\"" ∷ [])
    -- commas
    ∷ values "X:" ("" ∷ [])
    ∷ values "X: a , b,," ("a" ∷ "b" ∷ "" ∷ "" ∷ [])
    ∷ values "X: \"a,b\", <c,\"d>, e" ("\"a,b\"" ∷ "<c,\"d>" ∷ "e" ∷ [])
    ∷ values "X: \"a\\\",b\", c" ("\"a\\\",b\"" ∷ "c" ∷ [])
    ∷ values "X: \"<\", a>, b" ("\"<\"" ∷ "a>" ∷ "b" ∷ [])
    ∷ values "X: a\\,b" ("a\\" ∷ "b" ∷ [])
    ∷ values "X: a, \"b, c" ("a" ∷ "\"b, c" ∷ [])
    ∷ values "X: a, <b, c" ("a" ∷ "<b, c" ∷ [])
    -- never cut
    ∷ values "sUBJECT: a , b" ("a , b" ∷ [])
    ∷ values "Date: a,b\r\nDates: a,b" ("a,b" ∷ "a" ∷ "b" ∷ [])
    ∷ values "s: a ,  b\r\nS: c,d\r\nm: e, f" ("a , b" ∷ "c,d" ∷ "e" ∷ "f" ∷ [])
    -- body lines
    ∷ body "v=0\r\nm=a\r\r\nx\r\n\r\n==\n=\nc=\r" ("v0" ∷ "ma\r" ∷ "=" ∷ "c\r" ∷ [])
    ∷ body "a=1\rb=2" ("a1\rb=2" ∷ [])
    -- one Content-Type field, its short form too, with one value
    ∷ described "Content-Type: application/sdp"
    ∷ described "C : Application/SDP ;charset=utf-8\r\nTo: a"
    ∷ described "CONTENT-TYPE:\r\n application/sdp\r\n ;a=\"x,y\""
    ∷ undescribed "To: application/sdp"
    ∷ undescribed "Content-Type: application/sdp\r\nc: application/sdp"
    ∷ undescribed "Content-Type: application/sdp,"
    ∷ undescribed "Content-Type: application/sdp;a,b"
    ∷ undescribed "Content-Type: application/sdpx"
    ∷ undescribed "Content-Type: application / sdp"
    ∷ undescribed "Content-Type: \"application/sdp\""
    ∷ undescribed "Content-Type:"
    ∷ undescribed "Content-Types: application/sdp"
    ∷ []

-- every example is right
pub all_right : T (every right examples)
unfolding right examples
all_right = tt
