use Rattle.normal_forms.proofs.Calls.{calls_answer}
use Rattle.normal_forms.proofs.answered_calls_are_normal_forms.Goals as goal

pub returns : goal.returns
returns g c k o = calls_answer (g.R.Ring.model k) (g.O.MonomialOrder.model o)
