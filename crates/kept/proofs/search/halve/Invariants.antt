use Rattle.std.proofs.Common.{◌-◌, Err}
use Rattle.kept.specs.Search.{Near, measured_term}
use Rattle.kept.proofs.search.halve.Given as goal

abbrev pub invariant-loop-low : goal.invariant-loop-low
invariant-loop-low g l = Near (g.O.MonomialOrder.model l.order) l.work l.start (measured_term l.t) (Err (record { start = l.low; end = l.high }))

abbrev pub decreases-loop-low : goal.decreases-loop-low
decreases-loop-low g l = l.high - l.low
