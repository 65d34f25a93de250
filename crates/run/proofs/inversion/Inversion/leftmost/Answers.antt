use Rattle.std.proofs.Common.{Some, arith}
use Rattle.orders.specs.Letters.{letters}
use Rattle.orders.proofs.Packing.{letters_le}
use Rattle.run.proofs.Stepping.{within}
use Rattle.run.proofs.inversion.Inversion.leftmost.Goals as goal

pub invariant_of-result : goal.invariant_of-result
invariant_of-result c =
    let w = letters c.args.t.now.row in
    record { inside = within w (Some c.in_ok-k.k) c.in_ok-k.ensures; short = omega (arith, letters_le c.args.t.now.row) }
