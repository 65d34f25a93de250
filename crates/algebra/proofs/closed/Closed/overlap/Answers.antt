use Rattle.std.proofs.Common.{rules, ℕ, length, ap, ◌∙◌, subst}
use Rattle.run.specs.Calls.{Memory}
use Rattle.algebra.specs.Calls.{Answered}
use Rattle.algebra.specs.Overlaps.{check_triple, by_run, overlap_run, overlap_call}
use Rattle.algebra.proofs.Checking.{triple_then}
use Rattle.algebra.proofs.closed.Closed.overlap.Goals as goal

pub returns : goal.returns
unfolding overlap_run overlap_call
returns g c =
    let q = c.args.self.now.presentation in
    let m = g.R.Ring.model q.rules.ring in
    let o = g.O.MonomialOrder.model q.rules.order in
    let mem : Memory = record { work = length c.args.work.now; result = length c.args.out.now } in
    let run = λ (i j k : ℕ). by_run (overlap_run m o mem q.rules.table i j k) in
    let e = c.rising-triple.ensures in
    subst (λ want. Answered want c.run.new.work c.run.new.out c.run.result)
    (triple_then c.count.result.n c.args.i c.args.j c.args.k run c.rising-triple.result c.map_err.result e.triple e.passed e.refused c.map_err.ensures.cases (λ e x h. search rules)
    ∙ ap (λ x. check_triple x.n c.args.i c.args.j c.args.k (run c.args.i c.args.j c.args.k)) c.count.ensures)
    c.run.ensures
