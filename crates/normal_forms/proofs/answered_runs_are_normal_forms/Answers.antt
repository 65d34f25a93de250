use Rattle.normal_forms.proofs.Running.{calculates}
use Rattle.normal_forms.proofs.answered_runs_are_normal_forms.Goals as goal

pub returns : goal.returns
returns g c k o = calculates (g.R.Ring.model k) (g.O.MonomialOrder.model o)
