use Rattle.std.proofs.Common.{length}
use Rattle.grammar.proofs.Operating.{Going}
use Rattle.grammar.proofs.reading.Reading.+expression.Given as goal

abbrev pub decreases-expression : goal.decreases-expression
decreases-expression l = l.depth

abbrev pub invariant-loop-next : goal.invariant-loop-next
invariant-loop-next l = Going l.depth l.fn.self.rest.now l.fn.self.pieces.now.items l.self.pieces.now.items l.op l.joined l.self.rest.now

abbrev pub decreases-loop-next : goal.decreases-loop-next
decreases-loop-next l = length l.self.rest.now
