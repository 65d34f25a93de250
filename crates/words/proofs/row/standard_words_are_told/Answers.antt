use Rattle.words.proofs.Rising.{standard-words}
use Rattle.words.proofs.row.standard_words_are_told.Goals as goal

pub returns : goal.returns
returns c = standard-words
