use Rattle.std.proofs.Common.{◌≡◌, ◌+◌, ◌*◌, ◌^◌, ◌≤◌, drop}
use Rattle.orders.specs.Letters.{letters}
use Rattle.orders.proofs.Packing.{packing}
use Rattle.orders.proofs.image.Image.of_row.Given as goal

abbrev pub invariant-loop-x : goal.invariant-loop-x
invariant-loop-x l = (l.packed ≤ 256 ^ 7 * l.x-index) × (l.packed + packing (letters (drop l.x-index l.row)) ≡ packing (letters l.row))
