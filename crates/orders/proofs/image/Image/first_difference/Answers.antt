use Rattle.std.proofs.Common.{◌∙◌, arith}
use Rattle.orders.specs.Images.{counts}
use Rattle.orders.proofs.Bytes.{bytes_compare}
use Rattle.orders.proofs.image.Image.first_difference.Goals as goal

pub returns : goal.returns
unfolding counts
returns c = c.cmp.ensures ∙ bytes_compare c.args.self.now.packed c.args.other.now.packed (omega arith) (omega arith)
