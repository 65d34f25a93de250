use Rattle.std.proofs.Common.{◌+◌, ◌*◌, ◌^◌, ◌≤◌, drop}
use Rattle.orders.specs.Letters.{letters}
use Rattle.words.specs.Inversions.{inversions}
use Rattle.words.proofs.Casting.{Counted, IsPart, cut}
use Rattle.words.proofs.row.row_inversions.Given as goal

abbrev pub invariant-loop-part : goal.invariant-loop-part
invariant-loop-part l =
    (l.seen ≤ 256 ^ 7 * cut l.part-index) × (l.n ≤ 254 * l.part-index)
    × Counted l.part-index (cut l.part-index) l.seen l.n 0 (letters (drop (cut l.part-index) l.row)) (inversions (letters l.row))

abbrev pub invariant-loop-x : goal.invariant-loop-x
invariant-loop-x l =
    let i = cut l.part-index + l.x-index in
    (l.seen ≤ 256 ^ 7 * i) × (l.sum ≤ 256 ^ 7 * i) × IsPart l.part-index l.row l.part
    × Counted l.part-index i l.seen l.n l.sum (letters (drop i l.row)) (inversions (letters l.row))
