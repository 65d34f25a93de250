use Rattle.std.proofs.Common.{◌≡◌, ◌-◌, ◌≤◌}
use Rattle.kept.specs.Lists.{items, places, SameMemory, BlankBefore}
use Rattle.run.specs.Dones.{room, terms, SameResult, BlankBehind}
use Rattle.run.specs.Step.{run_from}
use Rattle.run.proofs.rules.Rules.run_steps.Given as goal

abbrev pub invariant-loop-t : goal.invariant-loop-t
invariant-loop-t g l =
    let m = g.R.Ring.model l.self.ring in
    let o = g.O.MonomialOrder.model l.initial.list.order.now in
    let cap = places l.initial.list in
    let out = room l.initial.done in
    record {
      same : SameMemory l.initial.list l.list;
      same_result : SameResult l.initial.done l.done;
      few : l.steps ≤ l.limit;
      so_far : run_from m o l.self.table cap out (l.limit - l.steps) l.steps (items l.list) (terms l.done) ≡ run_from m o l.self.table cap out l.limit 0 (items l.initial.list) (terms l.initial.done);
      blank : BlankBefore l.initial.list → BlankBefore l.list;
      blank_result : BlankBehind l.initial.done → BlankBehind l.done;
    }

abbrev pub decreases-loop-t : goal.decreases-loop-t
decreases-loop-t g l = l.limit - l.steps
