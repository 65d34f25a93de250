use Rattle.std.proofs.Common.{length, Ok}
use Rattle.run.specs.Calls.{Memory}
use Rattle.algebra.proofs.Meaning.{decision-true, truth-known}
use Rattle.algebra.proofs.closed.Closed.decide.Goals as goal

pub invariant_of-self : goal.invariant_of-self
invariant_of-self g c =
    let a = c.args.self.now in
    let q = a.presentation in
    let m = g.R.Ring.model q.rules.ring in
    let o = g.O.MonomialOrder.model q.rules.order in
    let mem : Memory = record { work = length c.args.work.now; result = length c.args.out.now } in
    let truth = truth-known m o q.count.n q.rules.table q.valid a.verdict a.truthful in
    record { truthful = ∣ (decision-true m o mem q.count.n q.rules.table q.valid a.verdict truth (Ok c.in_ok-verdict.verdict) c.in_ok-verdict.ensures.value).1 ∣₁ }

pub returns-clause-meaning : goal.returns-clause-meaning
returns-clause-meaning g c =
    let a = c.args.self.now in
    let q = a.presentation in
    let m = g.R.Ring.model q.rules.ring in
    let o = g.O.MonomialOrder.model q.rules.order in
    let mem : Memory = record { work = length c.args.work.now; result = length c.args.out.now } in
    let truth = truth-known m o q.count.n q.rules.table q.valid a.verdict a.truthful in
    decision-true m o mem q.count.n q.rules.table q.valid a.verdict truth (Ok c.in_ok-verdict.verdict) c.in_ok-verdict.ensures.value
