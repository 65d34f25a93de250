use Rattle.std.proofs.Common.{rules}
use Rattle.std.proofs.lemmas.Result.{err_from_is_err_and}
use Rattle.run.specs.declared.engine.TheConstants.{STEP_LIMIT}
use Rattle.run.proofs.Calling.{limit, stopped, refused, ran}
use Rattle.run.proofs.rules.Rules.load_and_run.Goals as goal

pub returns-in_err-load : goal.returns-in_err-load
returns-in_err-load g c =
    let m = g.R.Ring.model c.args.self.now.ring in
    let table = c.args.self.now.table in
    let l = c.new-list in
    let e = err_from_is_err_and c.from_residual.result c.from_residual.ensures.1 in
    rw (e.1, e.2)
    (stopped g.O.MonomialOrder.model m table (g.S.Source.entries c.args.source.now m table) c.args.self.now.order c.args.work.now c.args.out.now l.result l.ensures.order l.ensures.memory l.ensures.empty c.in_err-load.field-0.0 c.in_err-load.ensures.1)

pub returns-in_err-steps : goal.returns-in_err-steps
returns-in_err-steps g c =
    let m = g.R.Ring.model c.args.self.now.ring in
    let table = c.args.self.now.table in
    let l = c.new-list in
    let e = err_from_is_err_and c.from_residual-in_err-steps.result c.from_residual-in_err-steps.ensures.1 in
    rw (e.1, e.2)
    (refused g.O.MonomialOrder.model m table (g.S.Source.entries c.args.source.now m table) c.args.self.now.order c.args.work.now c.args.out.now l.result l.ensures.order l.ensures.memory l.ensures.empty c.load.new.list c.in_ok-load.ensures c.new-done.result c.new-done.ensures.memory c.new-done.ensures.empty STEP_LIMIT limit c.in_err-steps.field-0.0 c.in_err-steps.ensures.2)

pub returns : goal.returns
returns g c =
    let m = g.R.Ring.model c.args.self.now.ring in
    let table = c.args.self.now.table in
    let l = c.new-list in
    let h = c.in_ok-steps.ensures in
    ran g.O.MonomialOrder.model m table (g.S.Source.entries c.args.source.now m table) c.args.self.now.order c.args.work.now c.args.out.now l.result l.ensures.order l.ensures.memory l.ensures.empty c.load.new.list c.in_ok-load.ensures c.new-done.result c.new-done.ensures.memory c.new-done.ensures.empty STEP_LIMIT limit c.run_steps.new.list c.run_steps.new.done c.in_ok-steps.steps c.count.result _ _ h c.count.ensures.value (search rules) (search rules)
