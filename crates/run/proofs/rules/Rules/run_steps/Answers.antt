use Rattle.std.proofs.Common.{ℕ, ◌+◌, ◌-◌, arith, ◌∙◌, sym}
use Rattle.std.proofs.lemmas.Result.{err_from_is_err_and}
use Rattle.kept.specs.Lists.{items, places}
use Rattle.run.specs.Dones.{room, terms}
use Rattle.run.proofs.Entering.{same_memory}
use Rattle.run.proofs.Stepping.{same_done}
use Rattle.run.proofs.Running.{run-next, run_fault}
use Rattle.run.proofs.rules.Rules.run_steps.Goals as goal

pub loop-t-preserved : goal.loop-t-preserved
loop-t-preserved g c =
    let m = g.R.Ring.model c.args.self.now.ring in
    let l = c.args.list.now in
    let d = c.args.done.now in
    let inv = c.loop-t.invariant in
    let steps : ℕ = c.loop-t.steps in
    let taken = c.in-Some.ensures in
    let mid = c.take_first.new.self in
    let same = same_memory inv.same taken.same in
    let h = c.in_ok-step.ensures in
    record {
      same = same_memory same h.0;
      same_result = same_done inv.same_result h.1;
      few = omega arith;
      so_far = run-next m (g.O.MonomialOrder.model l.order.now) c.args.self.now.table (places l) (room d) (c.args.limit - steps) steps (items c.loop-t.list) (terms c.loop-t.done) c.in-Some.t (items mid) taken.answer.0 (c.args.limit - (steps + 1)) (omega arith) _ (rw (same.order, same.places, inv.same_result.room) at h.2)
          ∙ inv.so_far;
      blank = λ b. h.3 (taken.answer.1 (inv.blank b));
      blank_result = λ b. h.4 (inv.blank_result b);
    }

pub returns-in_err-step : goal.returns-in_err-step
returns-in_err-step g c =
    let m = g.R.Ring.model c.args.self.now.ring in
    let l = c.args.list.now in
    let d = c.args.done.now in
    let inv = c.loop-t.invariant in
    let steps : ℕ = c.loop-t.steps in
    let taken = c.in-Some.ensures in
    let mid = c.take_first.new.self in
    let same = same_memory inv.same taken.same in
    let h = c.in_err-step.ensures in
    let e = err_from_is_err_and c.from_residual.result c.from_residual.ensures.1 in
    rw (e.1, e.2) (
      same_memory same h.0,
      same_done inv.same_result h.1,
      sym inv.so_far
          ∙ run_fault m (g.O.MonomialOrder.model l.order.now) c.args.self.now.table (places l) (room d) (c.args.limit - steps) steps (items c.loop-t.list) (terms c.loop-t.done) c.in-Some.t (items mid) taken.answer.0 (c.args.limit - (steps + 1)) (omega arith) _ (rw (same.order, same.places, inv.same_result.room) at h.2),
    )
