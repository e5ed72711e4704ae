-- Requests that differ in one thing: what demand 3 is shown at work on.
use Rattle.std.specs.Prelude.{ℕ, List, [], ◌∷◌, ◌++◌}
use Prim.Native.String.{String}
use Rattle.octets.specs.Lists.{text}
use Rattle.profile.specs.Written.{row_of, member_of, criterion_of, written}

-- a From value, a Call-ID and a body
unfoldable pub invite : String → String → String → List ℕ
invite from id body = text "INVITE sip:b SIP/2.0\r\nFrom: " ++ text from ++ text "\r\nCall-ID: " ++ text id ++ text "\r\n\r\n" ++ text body

-- From under the short name, and under the long one
unfoldable pub under : String → List ℕ
under name = text "INVITE sip:b SIP/2.0\r\n" ++ text name ++ text ": joe\r\n\r\n"

-- a profile in which a row asks for a line `m`
abbrev pub line_m : List ℕ
line_m = written (record {
  strings = text "m" ∷ text "sip:a" ∷ [];
  rows = row_of 0 4 0 65535 ∷ [];
  members = member_of 0 0 ∷ [];
  criteria = criterion_of 7 0 0 1 1 0 ∷ [];
})

-- a Content-Type over such a body
unfoldable pub typed : String → List ℕ
typed type = text "INVITE sip:b SIP/2.0\r\nc: " ++ text type ++ text "\r\n\r\nm=a"
