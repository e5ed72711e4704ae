use Rattle.basic.proofs.Atoms.{atom_list, atom_pair, atom_star, atom_byte}
use Rattle.basic.proofs.reader.special_at.Goals as goal

pub returns-then-b-eq91 : goal.returns-then-b-eq91
returns-then-b-eq91 c = search atom_list

pub returns-then-b-eq92 : goal.returns-then-b-eq92
returns-then-b-eq92 c = search atom_pair

pub returns-then-b-first : goal.returns-then-b-first
returns-then-b-first c = search atom_star

pub returns : goal.returns
returns c = search atom_byte
