use Rattle.theory.proofs.Sl2.{halved-sl2}
use Rattle.theory.proofs.halved_sl2_does_not_resolve.Goals as goal

pub returns : goal.returns
returns g c = halved-sl2 _
