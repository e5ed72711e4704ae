-- A field's value as document 01 reads it: white space reduced, then cut at commas, each piece trimmed.
use Rattle.std.specs.Prelude.{Bool, false, ◌&&◌, ℕ, List, [], ◌∷◌, map, eqb}
use Rattle.octets.specs.Lists.{text, pick, some_of, peek}
use Rattle.octets.specs.Bytes.{same_any_case}
use Rattle.cuts.specs.Cutting.{cut_by}
use Rattle.cuts.specs.Trimming.{trim_left, trim_right, trim}

-- ---- white space

-- HTAB, and the CR and LF of a line fold, as SP
abbrev pub spaces : List ℕ → List ℕ
spaces [] = []
spaces (b ∷ s) = pick (some_of (eqb b) (9 ∷ 10 ∷ 13 ∷ [])) 32 b ∷ spaces s

-- each run of SP becomes one
unfoldable pub squeeze : List ℕ → List ℕ
squeeze [] = []
squeeze (b ∷ s) = let later : List ℕ = squeeze s in pick (eqb b 32 && eqb (peek later) 32) later (b ∷ later)

-- "A value loses white space at both ends, and each inner run of SP, HTAB and line folds becomes one SP"
unfoldable pub reduced : List ℕ → List ℕ
unfolding trim_left trim_right squeeze
reduced raw = trim (squeeze (spaces raw))

-- ---- commas

-- where a byte stands: in plain text, in quoted text, in it just after `\`, or in `<>`
pub data Mode : Type 0 where
  plain quoted escaped angle : Mode

-- "Inside quotes `\` takes the next byte with it and `<` is ordinary; inside `<>` a quote is ordinary"
abbrev pub step : Mode → ℕ → Mode
step plain b = pick (eqb b 34) quoted (pick (eqb b 60) angle plain)
step quoted b = pick (eqb b 92) escaped (pick (eqb b 34) plain quoted)
step escaped b = quoted
step angle b = pick (eqb b 62) plain angle

-- "cut at commas outside quoted text and outside `<>`"
abbrev pub cuts : Mode → ℕ → Bool
cuts plain b = eqb b 44
cuts quoted b = false
cuts escaped b = false
cuts angle b = false

-- "an unclosed one runs to the end": its mode is never left
abbrev pub pieces : List ℕ → List (List ℕ)
pieces v = cut_by cuts step plain v

-- "Never cut: .., in any case": by the long name ("The rule on fields never cut uses long names too", change request 1)
abbrev pub never_cut : List ℕ → Bool
never_cut name = some_of (same_any_case name) (
    text "Authorization" ∷ text "Proxy-Authorization" ∷ text "WWW-Authenticate"
    ∷ text "Proxy-Authenticate" ∷ text "Date" ∷ text "Subject" ∷ [])

-- "It is then cut .., each piece trimmed"; "An empty piece is a value."
unfoldable pub values_of : List ℕ → List ℕ → List (List ℕ)
unfolding cut_by trim_left trim_right
values_of name v = pick (never_cut name) (v ∷ []) (map trim (pieces v))
