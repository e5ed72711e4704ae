use mathlib.Core.Path.{ap, ◌∙◌}
use mathlib.Core.List.{List}
use Rattle.profile.specs.Image.{Stored}
use Rattle.profile.specs.Inner.Decoded.{string_of}
use Rattle.profile.proofs.Standings.{string_table, strings_in}
use Rattle.profile.proofs.accepted_image.AcceptedImage.string.Goals as goal

pub string_bytes-requires : goal.string_bytes-requires
string_bytes-requires c = string_table _ _ _ c.args.self.now.standing

pub returns : goal.returns
returns c = c.string_bytes.ensures ∙ ap (λ (l : List Stored). (string_of l c.args.i).bytes) (strings_in _ _ _ c.args.self.now.standing)
