use Rattle.std.proofs.Common.{Ok}
use Rattle.kept.specs.Search.{measured_term}
use Rattle.kept.proofs.Searching.{settled}
use Rattle.kept.proofs.search.find_place.Goals as goal

pub returns-in-Ok-clause-value : goal.returns-in-Ok-clause-value
returns-in-Ok-clause-value g c =
    settled (g.O.MonomialOrder.model c.args.order.now) c.args.work.now c.args.start c.requires.falls (measured_term c.args.t.now) (Ok c.in-Ok.p) c.in-Ok.ensures

pub returns-in-Err-clause-value : goal.returns-in-Err-clause-value
returns-in-Err-clause-value g c =
    settled (g.O.MonomialOrder.model c.args.order.now) c.args.work.now c.args.start c.requires.falls (measured_term c.args.t.now) c.halve.result c.halve.ensures
