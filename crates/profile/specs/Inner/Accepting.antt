-- What `accept` answers: the image that stands, or why it is refused.
use Rattle.std.specs.Prelude.{◌≡◌, ◌≤◌, ℕ, List, Result, Ok, Err}
use Rattle.cells.specs.Inner.Answers.{number_of}
use Rattle.cells.specs.declared.Refusal.{Refusal}
use Rattle.profile.specs.Image.{refused}
use Rattle.profile.specs.Judging.{judge}
use Rattle.profile.specs.declared.accepted_image.AcceptedImage.{AcceptedImage}

-- the image is refused with this fault's number, at this place
pub record Refuses (s : List ℕ) (e : Refusal) : Type 0 where
  pub refuses : judge s ≡ refused (number_of e.fault) e.place
  pub low : e.place ≤ 32768

-- what the contract cites: the bytes given are accepted, and stand as the type says (`Kept.Standing`), or they are refused
abbrev pub Accepts : List ℕ → Result AcceptedImage Refusal → Type 0
Accepts s (Ok a) = a.bytes.now ≡ s
Accepts s (Err e) = Refuses s e
