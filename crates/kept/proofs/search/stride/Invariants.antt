use Rattle.std.proofs.Common.{◌-◌, ◌≤◌, length}
use Rattle.kept.specs.Search.{Passed, measured_term}
use Rattle.kept.proofs.search.stride.Given as goal

abbrev pub invariant-loop-high : goal.invariant-loop-high
invariant-loop-high g l =
    (l.start ≤ l.low)
    × (l.low ≤ l.high)
    × (l.high ≤ length l.work)
    × Passed (g.O.MonomialOrder.model l.order) l.work l.start (measured_term l.t) l.low

abbrev pub decreases-loop-high : goal.decreases-loop-high
decreases-loop-high g l = length l.initial.work - l.low
