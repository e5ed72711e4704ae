use Rattle.pattern.proofs.Folding.{letters_word}
use Rattle.pattern.proofs.fold.folded_word.Goals as goal

pub returns : goal.returns
returns c = λ f e. letters_word f _ e
