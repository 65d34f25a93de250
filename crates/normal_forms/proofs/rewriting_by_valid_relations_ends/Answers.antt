use Rattle.normal_forms.proofs.Ends.{tails-over, rewriting_ends}
use Rattle.normal_forms.proofs.rewriting_by_valid_relations_ends.Goals as goal

pub returns : goal.returns
returns g c = record {
  tails = λ k o. tails-over (g.R.Ring.model k) (g.O.MonomialOrder.model o);
  ends = λ k o. rewriting_ends (g.R.Ring.model k) (g.O.MonomialOrder.model o);
}
