use Rattle.std.proofs.Common.{rules}
use Rattle.run.specs.Faults.{at_step}
use Rattle.run.proofs.Stepping.{placed, stepped_done, stepped_on}
use Rattle.run.proofs.rules.Rules.step.Goals as goal

pub returns-in-None : goal.returns-in-None
returns-in-None g c =
    let m = g.R.Ring.model c.args.self.now.ring in
    let e = placed (at_step c.args.n) c.push.result c.map_err.result (λ e y h. search rules) c.map_err.ensures.cases in
    rw e
    (stepped_done g.O.MonomialOrder.model m c.args.self.now.table c.args.n c.args.t c.args.list.now c.args.done.now c.push.new.self c.push.result c.in-None.ensures c.push.ensures.same c.push.ensures.answer)

pub returns-in-Some : goal.returns-in-Some
returns-in-Some g c =
    let m = g.R.Ring.model c.args.self.now.ring in
    stepped_on g.O.MonomialOrder.model m c.args.self.now.table c.args.n c.args.t c.args.list.now c.args.done.now c.rewrite.new.list c.rewrite.result c.in-Some.inversion.k c.in-Some.ensures.1 (rw (c.in-Some.ensures.0) at c.rewrite.ensures)
