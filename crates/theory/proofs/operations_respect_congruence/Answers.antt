use Rattle.theory.proofs.Theorems.{operations_respect_congruence}
use Rattle.theory.proofs.operations_respect_congruence.Goals as goal

pub returns : goal.returns
returns g c = operations_respect_congruence
