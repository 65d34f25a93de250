use Rattle.std.proofs.lemmas.Iterator.{empty_from_Zip}
use Rattle.words.proofs.row.first_letter_difference.Goals as goal

pub returns-in-None : goal.returns-in-None
returns-in-None c =
    let e = empty_from_Zip c.loop-x.x-iterator c.next.new.self c.next.result c.in-None.is c.next.ensures.steps c.loop-x.invariant.3 in
    rw (e.0, e.1) at c.loop-x.invariant.2
