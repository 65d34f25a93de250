use Rattle.normal_forms.proofs.Consequences.{terms-congruent}
use Rattle.normal_forms.proofs.terms_are_congruent_to_their_sum.Goals as goal

pub returns : goal.returns
returns g c k o = terms-congruent (g.R.Ring.model k) (g.O.MonomialOrder.model o)
