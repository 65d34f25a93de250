use Rattle.std.proofs.Common.{◌+◌, ◌≤◌, length, arith}
use Rattle.kept.proofs.Searching.{passed-next, ahead_here, found_here}
use Rattle.kept.proofs.search.stride.Goals as goal
use Rattle.kept.proofs.search.stride.Goals.{then-step-left, else-step-left}

pub loop-high-preserved : goal.loop-high-preserved
loop-high-preserved g c =
    let high : (c.loop-high.high + 1 ≤ c.if-step-left.high) × (c.if-step-left.high ≤ length c.args.work.now) =
    elim c.if-step-left.branch [
      | then-step-left w ↦ (omega (arith, w.high-is), omega (arith, w.high-is))
      | else-step-left w ↦ (omega (arith, w.high-is), omega (arith, w.high-is))
    ] in (
      omega arith,
      high.0,
      high.1,
      passed-next (g.O.MonomialOrder.model c.args.order.now) c.args.work.now c.args.start c.args.t.now c.loop-high.high (omega arith) c.in-Less.ensures,
    )

pub returns-in-Equal : goal.returns-in-Equal
returns-in-Equal g c =
    found_here (g.O.MonomialOrder.model c.args.order.now) c.args.work.now c.args.start c.args.t.now c.loop-high.high (omega arith) (omega arith) c.in-Equal.ensures

pub returns-in-Greater : goal.returns-in-Greater
returns-in-Greater g c = (
  omega arith,
  omega arith,
  omega arith,
  c.loop-high.invariant.3,
  ahead_here (g.O.MonomialOrder.model c.args.order.now) c.args.work.now c.args.start c.args.t.now c.loop-high.high c.in-Greater.ensures,
)
