use Rattle.normal_forms.proofs.Consequences.{memory-holds}
use Rattle.normal_forms.proofs.answered_memories_hold_normal_forms.Goals as goal

pub returns : goal.returns
returns g c k o = memory-holds (g.R.Ring.model k) (g.O.MonomialOrder.model o)
