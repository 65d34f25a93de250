use Rattle.std.proofs.Common.{rules}
use Rattle.kept.specs.Kept.{compare_terms}
use Rattle.relations.proofs.Checking.{below-last}
use Rattle.relations.proofs.presentation.tail.is_below.Goals as goal

pub returns : goal.returns
unfolding compare_terms
returns g c = below-last (g.O.MonomialOrder.model c.args.order.now) c.args.t.now c.args.last c.is_none_or.result c.is_none_or.ensures (λ s h. search rules)
