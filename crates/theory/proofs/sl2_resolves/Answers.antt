use Rattle.theory.proofs.Sl2.{sl2-resolves}
use Rattle.theory.proofs.sl2_resolves.Goals as goal

pub returns : goal.returns
returns g c = sl2-resolves _
