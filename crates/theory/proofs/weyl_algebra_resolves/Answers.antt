use Rattle.theory.proofs.Weyl.{weyl-resolves}
use Rattle.theory.proofs.weyl_algebra_resolves.Goals as goal

pub returns : goal.returns
returns g c = weyl-resolves
