use Rattle.normal_forms.proofs.Consequences.{tell_apart}
use Rattle.normal_forms.proofs.terms_tell_normal_forms_apart.Goals as goal

pub returns : goal.returns
returns g c k o = tell_apart (g.R.Ring.model k) (g.O.MonomialOrder.model o)
