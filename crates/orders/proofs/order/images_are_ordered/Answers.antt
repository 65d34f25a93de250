use Rattle.orders.proofs.Ending.{images_ordered}
use Rattle.orders.proofs.order.images_are_ordered.Goals as goal

pub returns : goal.returns
returns g c = images_ordered _
