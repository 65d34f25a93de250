use Rattle.normal_forms.proofs.Running.{steps-keep}
use Rattle.normal_forms.proofs.answered_steps_keep_the_normal_form.Goals as goal

pub returns : goal.returns
returns g c k o = steps-keep (g.R.Ring.model k) (g.O.MonomialOrder.model o)
