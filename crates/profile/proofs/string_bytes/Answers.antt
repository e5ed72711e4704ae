use Rattle.profile.proofs.Found.{bytes_none, bytes_some}
use Rattle.cells.proofs.Uses.{inside_at}
use Rattle.profile.proofs.string_bytes.Goals as goal

pub returns-then-n-i : goal.returns-then-n-i
returns-then-n-i c = search bytes_none

pub text-requires : goal.text-requires
text-requires c = search inside_at

pub returns : goal.returns
returns c = search bytes_some
