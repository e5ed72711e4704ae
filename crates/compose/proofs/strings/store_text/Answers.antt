use Rattle.compose.proofs.Stores.{stores, stores_long, second_inside}
use borrow.Author.Rules.{rules}
use Rattle.compose.proofs.strings.store_text.Goals as goal

pub bounds-image-at-2 : goal.bounds-image-at-2
bounds-image-at-2 c = search second_inside

pub shape_of-image : goal.shape_of-image
shape_of-image c = search stores_long

pub returns : goal.returns
returns c = (search rules, search stores)
