use Rattle.normal_forms.proofs.Loads.{insertion_adds}
use Rattle.normal_forms.proofs.insertion_adds_its_term.Goals as goal

pub returns : goal.returns
returns g c k o = insertion_adds (g.R.Ring.model k) (g.O.MonomialOrder.model o)
