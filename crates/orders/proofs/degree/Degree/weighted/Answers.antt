use Rattle.std.proofs.Common.{◌^◌, ◌∙◌, ap, arith, rules}
use Rattle.std.specs.List.{zip}
use Rattle.std.proofs.iter.Yields.{fronts}
use Rattle.std.proofs.lemmas.Iterator.{YieldsList-from_slice, YieldsList-from_zip, YieldsList-from_map}
use Rattle.std.proofs.lemmas.Iterator.Adapters.{fits_from_length, at_most_from_yields_List, at_most_from_Zip}
use Rattle.std.proofs.lemmas.Iterator.Consumers.{sum_by_from_yields_List}
use Rattle.orders.specs.Orders.{dot}
use Rattle.orders.specs.Weights.{weight_values}
use Rattle.orders.proofs.Weighing.{weight_of_pair, pairs_dot}
use Rattle.orders.proofs.degree.Degree.weighted.Goals as goal

pub sum-requires-clause-fits : goal.sum-requires-clause-fits
sum-requires-clause-fits c =
    fits_from_length _ _ 8 (2 ^ 32) (at_most_from_Zip fronts (at_most_from_yields_List (YieldsList-from_slice c.args.self.now.weights cc) (omega arith))) c.map.ensures.closure (omega arith) (λ x r q k. search rules)

pub returns : goal.returns
returns c =
    sum_by_from_yields_List weight_of_pair (zip c.args.self.now.weights c.counts-counts.result) _ c.sum.result c.sum.ensures.ran
    (YieldsList-from_map _ weight_of_pair (YieldsList-from_zip (YieldsList-from_slice c.args.self.now.weights cc) (YieldsList-from_slice c.counts-counts.result cc)) c.map.ensures.closure (λ x r q k. search rules))
    ∙ pairs_dot c.args.self.now.weights c.counts-counts.result
    ∙ ap (dot (weight_values c.args.self.now.weights)) c.counts-counts.ensures
