use Rattle.theory.proofs.Ends.{ends_by_keys}
use Rattle.theory.proofs.rewriting_words_ends_by_keys.Goals as goal

pub returns : goal.returns
returns g c = ends_by_keys
