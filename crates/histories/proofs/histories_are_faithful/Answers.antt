use Rattle.histories.proofs.Law.{histories_faithful}
use Rattle.histories.proofs.histories_are_faithful.Goals as goal

pub returns : goal.returns
returns g c k o = histories_faithful (g.R.Ring.model k) (g.O.MonomialOrder.model o)
