use Rattle.std.proofs.Common.{rules}
use Rattle.grammar.proofs.Parts.{listing_fault, listing_end, listing_stops, listing_again}
use Rattle.grammar.proofs.reading.Reading.parts.Goals as goal

pub returns-in_err-next : goal.returns-in_err-next
returns-in_err-next g c = let h = listing_fault c.loop-next.invariant c.in_err-next.field-0.0 c.in_err-next.ensures in search rules

pub returns-in-End : goal.returns-in-End
returns-in-End g c = listing_end c.loop-next.invariant c.in_ok-next.next c.in_ok-next.after.now c.in-End.is c.in_ok-next.ensures

pub returns-in_err-read-in-Part : goal.returns-in_err-read-in-Part
returns-in_err-read-in-Part g c =
    let h = listing_stops c.loop-next.invariant c.in_ok-next.next c.in_ok-next.after.now c.in_err-read-in-Part.field-0.0 c.in-Part.is c.in_ok-next.ensures c.in_err-read-in-Part.ensures in
    search rules

pub loop-next-preserved : goal.loop-next-preserved
loop-next-preserved g c =
    let m = c.in_ok-read-in-Part.ensures in
    listing_again c.loop-next.invariant c.in_ok-next.next c.in_ok-next.after.now c.read.new.line.rest.now m.0 _
    c.in-Part.is c.in_ok-next.ensures m.1 m.2 m.3 m.4
