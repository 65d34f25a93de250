use Rattle.std.proofs.Common.{◌≡◌, length}
use Rattle.std.specs.Iterator.Adapters.{zip_first, zip_second}
use Rattle.std.specs.Slice.Iter.{iter_rest}
use Rattle.orders.specs.Letters.{letters}
use Rattle.orders.specs.Orders.{first_difference}
use Rattle.words.proofs.row.first_letter_difference.Given as goal

abbrev pub invariant-loop-x : goal.invariant-loop-x
invariant-loop-x l =
    (goal.iterator-loop-x).can_next l.x-iterator
    × (goal.iterator-loop-x).is_finite l.x-iterator
    × (first_difference (letters (iter_rest (zip_first l.x-iterator))) (letters (iter_rest (zip_second l.x-iterator))) ≡ first_difference (letters l.a) (letters l.b))
    × (length (iter_rest (zip_first l.x-iterator)) ≡ length (iter_rest (zip_second l.x-iterator)))
