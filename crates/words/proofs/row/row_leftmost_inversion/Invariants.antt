use Rattle.std.proofs.Common.{◌≡◌, ◌-◌, get_or, drop}
use Rattle.orders.specs.Letters.{letters}
use Rattle.words.specs.Inversions.{falls, leftmost_inversion}
use Rattle.words.proofs.row.row_leftmost_inversion.Given as goal

abbrev pub invariant-loop-i : goal.invariant-loop-i
invariant-loop-i l = falls (l.i - 1) (get_or l.row (l.i - 1) 0) (letters (drop l.i l.row)) ≡ leftmost_inversion (letters l.row)
