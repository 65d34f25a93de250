use Rattle.std.proofs.Common.{length}
use Rattle.grammar.proofs.Parts.{Listing}
use Rattle.grammar.proofs.reading.Reading.parts.Given as goal

abbrev pub invariant-loop-next : goal.invariant-loop-next
invariant-loop-next g l = Listing g.P.Part.reads g.P.Part.shows l.fn.self.rest.now l.fn.self.pieces.now.items l.self.pieces.now.items l.self.rest.now

abbrev pub decreases-loop-next : goal.decreases-loop-next
decreases-loop-next g l = length l.self.rest.now
