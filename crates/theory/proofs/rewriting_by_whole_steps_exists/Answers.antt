use Rattle.theory.proofs.Standardise.{standardise}
use Rattle.theory.proofs.rewriting_by_whole_steps_exists.Goals as goal

pub returns : goal.returns
returns g c = standardise
