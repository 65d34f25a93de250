use Rattle.std.proofs.Common.{length, ap, ◌∙◌, subst}
use Rattle.run.specs.declared.calls.Calculation.{Calculation}
use Rattle.run.specs.Calls.{Memory, calculate, entries_of}
use Rattle.run.specs.Entries.{then_do}
use Rattle.algebra.specs.Calls.{Answered, calculation_answer}
use Rattle.algebra.specs.Overlaps.{by_run}
use Rattle.algebra.proofs.Checking.{checks_then}
use Rattle.algebra.proofs.Meaning.{calculation-formed}
use Rattle.algebra.proofs.closed.Closed.calculate.Goals as goal

pub returns-clause-answer : goal.returns-clause-answer
unfolding calculation_answer
returns-clause-answer g c =
    let a = c.args.self.now in
    let q = a.presentation in
    let m = g.R.Ring.model q.rules.ring in
    let o = g.O.MonomialOrder.model q.rules.order in
    let mem : Memory = record { work = length c.args.work.now; result = length c.args.out.now } in
    let k = λ (s : Calculation). by_run (calculate m o q.rules.table mem (entries_of m s)) in
    subst (λ want. Answered want c.run.new.work c.run.new.out c.run.result)
    (ap (λ r. then_do r k) c.checked.ensures ∙ checks_then m q.count.n a.verdict c.args.calculation c.args.calculation k)
    c.run.ensures

pub returns-clause-meaning : goal.returns-clause-meaning
returns-clause-meaning g c =
    let a = c.args.self.now in
    let q = a.presentation in
    let mem : Memory = record { work = length c.args.work.now; result = length c.args.out.now } in
    calculation-formed (g.R.Ring.model q.rules.ring) (g.O.MonomialOrder.model q.rules.order) mem q.count.n q.rules.table q.valid a.verdict c.run.new.work c.run.new.out c.run.result c.args.calculation
    (returns-clause-answer g c)
