use Rattle.pattern.proofs.Folding.{folded_words}
use Rattle.pattern.proofs.fold.folded.Goals as goal

pub returns : goal.returns
returns c = λ f e. folded_words f _ _ (c.folded_word-letters.ensures f) e
