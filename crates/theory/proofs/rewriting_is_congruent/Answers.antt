use Rattle.theory.proofs.Theorems.{rewriting_is_congruent}
use Rattle.theory.proofs.rewriting_is_congruent.Goals as goal

pub returns : goal.returns
returns g c = rewriting_is_congruent
