use Rattle.std.proofs.Common.{rules}
use Rattle.orders.specs.Images.{counts}
use Rattle.orders.proofs.image.Image.counts.Goals as goal

pub returns : goal.returns
unfolding counts
returns c = search rules
