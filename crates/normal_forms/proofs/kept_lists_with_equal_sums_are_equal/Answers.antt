use Rattle.normal_forms.proofs.Unique.{kept-equal}
use Rattle.normal_forms.proofs.kept_lists_with_equal_sums_are_equal.Goals as goal

pub returns : goal.returns
returns g c k o = kept-equal (g.R.Ring.model k) (g.O.MonomialOrder.model o)
