use Rattle.normal_forms.proofs.Weyl.{weyl-valid}
use Rattle.normal_forms.proofs.weyl_table_is_valid.Goals as goal

pub returns : goal.returns
returns g c k o = weyl-valid (g.R.Ring.model k) (g.O.MonomialOrder.model o)
