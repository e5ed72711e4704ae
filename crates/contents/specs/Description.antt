-- Whether a body is a session description (document 02, change request 5), by the name and the values of a field.
use Rattle.std.specs.Prelude.{Bool, false, ℕ, List, [], ◌∷◌}
use Rattle.octets.specs.Lists.{text}
use Rattle.octets.specs.Bytes.{same_any_case}
use Rattle.cuts.specs.Cutting.{first_cut, before_cut}
use Rattle.cuts.specs.Trimming.{trim_left, trim_right, trim}

-- "Content-Type field", by its long name and in any case
abbrev pub content_type : List ℕ → Bool
content_type name = same_any_case name (text "Content-Type")

-- "that, up to the first semicolon and trimmed, is `application/sdp` in any case"
unfoldable pub says_description : List ℕ → Bool
unfolding first_cut trim_left trim_right
says_description v = same_any_case (trim (before_cut v (first_cut (text ";") v))) (text "application/sdp")

-- "with one value"
abbrev pub one_description : List (List ℕ) → Bool
one_description [] = false
one_description (v ∷ []) = says_description v
one_description (v ∷ w ∷ vs) = false
