use Rattle.std.proofs.Common.{◌<◌, length, sym, subst, arith, length-set}
use Rattle.evaluation.specs.Machine.{Values}
use Rattle.evaluation.proofs.Stacking.{length_held}
use Rattle.evaluation.proofs.stack.Stack.push.Goals as goal

pub invariant_of-self : goal.invariant_of-self
invariant_of-self c =
    let l = length_held c.self.inside.frames.now c.self.inside.count c.self.invariant in
    let s = subst (λ (v : Values). length v.values < v.room) (sym c.self.view_is) c.in_ok-check_room.ensures.room in
    let k = length-set c.self.inside.frames.now c.self.inside.count c.args.value in
    omega arith
