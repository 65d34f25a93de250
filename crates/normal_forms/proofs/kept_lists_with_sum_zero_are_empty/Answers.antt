use Rattle.normal_forms.proofs.Unique.{kept-empty}
use Rattle.normal_forms.proofs.kept_lists_with_sum_zero_are_empty.Goals as goal

pub returns : goal.returns
returns g c k o = kept-empty (g.R.Ring.model k) (g.O.MonomialOrder.model o)
