-- Worked examples: what is shown for a row. One list, one claim.
use Rattle.std.specs.Prelude.{Bool, true, false, ◌&&◌, List, [], ◌∷◌, ℕ, T}
use Rattle.std.proofs.Math.Option.{Option, none, some}
use Prim.Native.String.{String}
use Rattle.octets.specs.Lists.{text, every, agree, same}
use Rattle.basic.specs.Pattern.{Pattern}
use Rattle.basic.specs.Reading.{read_pattern}
use Rattle.profile.specs.Image.{Test, header, description}
use Rattle.request.specs.Request.{Request, read_request}
use Rattle.spots.specs.declared.Shown.{Shown}
use Rattle.show.specs.Show.{test_shown}

-- a SIPHeader row or (true) a SessionDescription row, without Content where that is empty; and what is shown, found or not
pub record Example : Type 0 where
  pub line : Bool
  pub first : String
  pub content : List String
  pub request : String
  pub found : Bool
  pub numbers : List ℕ

abbrev kind : Bool → Pattern → Option Pattern → Test
kind true h c = description h c
kind false h c = header h c

abbrev test : Bool → Option Pattern → List String → Option Test
test b none c = none
test b (some h) [] = some (kind b h none)
test b (some h) (c ∷ cs) = some (kind b h (read_pattern (text c)))

abbrev on : Option Test → Option Request → Example → Bool
on none q e = false
on (some t) none e = false
on (some t) (some q) e =
    let x : Shown = test_shown q t in
    agree e.found x.found && same (x.field ∷ x.value ∷ x.start ∷ x.size ∷ []) e.numbers

unfoldable pub right : Example → Bool
unfolding read_pattern read_request test_shown
right e = on (test e.line (read_pattern (text e.first)) e.content) (read_request (text e.request)) e

abbrev shows : Bool → String → List String → String → List ℕ → Example
shows line h c q numbers = record { line = line; first = h; content = c; request = q; found = true; numbers = numbers }

abbrev shows_none : Bool → String → List String → String → Example
shows_none line h c q = record { line = line; first = h; content = c; request = q; found = false; numbers = 0 ∷ 0 ∷ 0 ∷ 0 ∷ [] }

unfoldable pub examples : List Example
examples =
    -- the piece, trimmed and reduced, is what the place counts in
    shows false "From" ("joe" ∷ []) "A b SIP/2.0\r\nTo: joe\r\nFrom:  a ,\t <joe@b>  \r\n\r\n" (1 ∷ 1 ∷ 1 ∷ 3 ∷ [])
    -- the smallest start, then the longest
    ∷ shows false "X" ("a*" ∷ []) "A b SIP/2.0\r\nX: baa\r\n\r\n" (0 ∷ 0 ∷ 0 ∷ 0 ∷ [])
    ∷ shows false "X" ("aa*" ∷ []) "A b SIP/2.0\r\nX: baac\r\n\r\n" (0 ∷ 0 ∷ 1 ∷ 2 ∷ [])
    ∷ shows false "X" ("$" ∷ []) "A b SIP/2.0\r\nX: ab\r\n\r\n" (0 ∷ 0 ∷ 2 ∷ 0 ∷ [])
    -- a name that matches without a value that does is passed by
    ∷ shows false "From" ("joe" ∷ []) "A b SIP/2.0\r\nFrom: ann\r\nf: joe\r\n\r\n" (1 ∷ 0 ∷ 0 ∷ 3 ∷ [])
    -- without Content
    ∷ shows false "From" [] "A b SIP/2.0\r\nTo: a\r\nFrom: b\r\n\r\n" (1 ∷ 0 ∷ 0 ∷ 0 ∷ [])
    ∷ shows_none false "From" [] "A b SIP/2.0\r\nTo: a\r\n\r\n"
    ∷ shows_none false "From" ("joe" ∷ []) "A b SIP/2.0\r\nFrom: ann\r\nTo: joe\r\n\r\n"
    -- only lines that are fields are counted
    ∷ shows true "m" ("audio" ∷ []) "A b SIP/2.0\r\nc: application/sdp\r\n\r\nv=0\r\nx\r\nm=an audio" (1 ∷ 0 ∷ 3 ∷ 5 ∷ [])
    ∷ shows_none true "m" ("audio" ∷ []) "A b SIP/2.0\r\n\r\nv=0\r\nm=audio"
    ∷ []

-- every example is right
pub all_right : T (every right examples)
unfolding right examples
all_right = tt
