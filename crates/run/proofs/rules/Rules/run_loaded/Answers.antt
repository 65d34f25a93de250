use Rattle.std.proofs.Common.{subst, rules}
use Rattle.std.proofs.lemmas.Result.{err_from_is_err_and}
use Rattle.run.specs.declared.engine.TheConstants.{STEP_LIMIT}
use Rattle.run.specs.Post.{Ready}
use Rattle.run.proofs.Calling.{limit}
use Rattle.run.proofs.Standing.{standing-refused, standing-ran}
use Rattle.run.proofs.rules.Rules.run_loaded.Goals as goal

pub returns-in_err-steps : goal.returns-in_err-steps
returns-in_err-steps g c =
    let m = g.R.Ring.model c.args.self.now.ring in
    let table = c.args.self.now.table in
    let l = c.standing-list in
    let d = c.new-done in
    let e = err_from_is_err_and c.from_residual-in_err-steps.result c.from_residual-in_err-steps.ensures.1 in
    rw (e.1, e.2, c.in_ok-from.was)
    (standing-refused g.O.MonomialOrder.model m table c.args.self.now.order c.args.work.now c.args.out.now c.in_ok-from.from l.result d.result l.ensures.order l.ensures.memory l.ensures.start d.ensures.memory d.ensures.empty STEP_LIMIT limit c.in_err-steps.field-0.0 c.in_err-steps.ensures.2)

pub returns : goal.returns
returns g c =
    let m = g.R.Ring.model c.args.self.now.ring in
    let o = g.O.MonomialOrder.model c.args.self.now.order in
    let table = c.args.self.now.table in
    let l = c.standing-list in
    let d = c.new-done in
    let ready = subst (λ r. Ready o r c.args.work.now) c.in_ok-from.was c.requires in
    rw c.in_ok-from.was
    (standing-ran g.O.MonomialOrder.model m table c.args.self.now.order c.args.work.now c.args.out.now c.in_ok-from.from l.result d.result l.ensures.order l.ensures.memory l.ensures.start d.ensures.memory d.ensures.empty STEP_LIMIT limit ready.1 c.run_steps.new.list c.run_steps.new.done c.in_ok-steps.steps c.count.result _ _ c.in_ok-steps.ensures c.count.ensures.value (search rules) (search rules))
