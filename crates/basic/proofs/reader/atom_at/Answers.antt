use Rattle.basic.proofs.Atoms.{atom_plain, atom_dot, atom_built}
use Rattle.basic.proofs.reader.atom_at.Goals as goal

pub returns-then-is_plain : goal.returns-then-is_plain
returns-then-is_plain c = search atom_plain

pub returns-then-b-eq46 : goal.returns-then-b-eq46
returns-then-b-eq46 c = search atom_dot

pub returns-then-build : goal.returns-then-build
returns-then-build c = search atom_built

pub returns : goal.returns
returns c = search atom_built
