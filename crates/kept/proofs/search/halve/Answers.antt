use Rattle.std.proofs.Common.{arith}
use Rattle.kept.proofs.Searching.{passed-next, ahead_here, found_here}
use Rattle.kept.proofs.search.halve.Goals as goal

pub loop-low-preserved-in-Less : goal.loop-low-preserved-in-Less
loop-low-preserved-in-Less g c = (
  omega arith,
  omega arith,
  omega arith,
  passed-next (g.O.MonomialOrder.model c.args.order.now) c.args.work.now c.args.start c.args.t.now _ (omega arith) c.in-Less.ensures,
  c.loop-low.invariant.4,
)

pub returns-in-Equal : goal.returns-in-Equal
returns-in-Equal g c =
    found_here (g.O.MonomialOrder.model c.args.order.now) c.args.work.now c.args.start c.args.t.now _ (omega arith) (omega arith) c.in-Equal.ensures

pub loop-low-preserved : goal.loop-low-preserved
loop-low-preserved g c = (
  omega arith,
  omega arith,
  omega arith,
  c.loop-low.invariant.3,
  ahead_here (g.O.MonomialOrder.model c.args.order.now) c.args.work.now c.args.start c.args.t.now _ c.in-Greater.ensures,
)
