use Rattle.histories.proofs.Relating.{relations-declared}
use Rattle.histories.proofs.relations_are_declared.Goals as goal

pub returns : goal.returns
returns g c k o = relations-declared (g.R.Ring.model k) (g.O.MonomialOrder.model o)
