use Rattle.std.proofs.Common.{sym, arith}
use Rattle.orders.proofs.Packing.{letters_le}
use Rattle.orders.proofs.Steps.{letters_at, letter_bounds}
use Rattle.orders.proofs.letter.Letter.at.Goals as goal

pub bounds-row-place : goal.bounds-row-place
bounds-row-place c = omega (arith, letters_le c.args.row.now)

pub invariant_of-result : goal.invariant_of-result
invariant_of-result c = record { range = letter_bounds _ (letters_at c.args.row.now c.args.place c.requires).1 }

pub returns : goal.returns
returns c = sym (letters_at c.args.row.now c.args.place c.requires).0
