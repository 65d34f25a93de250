-- How words compare under an order: later image, then more inversions, then the larger letter at the first difference.
use Rattle.std.specs.Prelude.{ℕ, List}
use Rattle.std.specs.declared.cmp.Ordering.TheVariants.{Equal}
use Rattle.std.specs.declared.cmp.Ordering.{Ordering}
use Rattle.orders.specs.Letters.{image}
use Rattle.orders.specs.Models.{OrderModel, compare_images}
use Rattle.orders.specs.Orders.{first_difference, numbers, then_by}
use Rattle.words.specs.Inversions.{inversions}

-- words of one image
abbrev pub compare_ties : List ℕ → List ℕ → Ordering
compare_ties u v = then_by (numbers (inversions u) (inversions v) Equal) (first_difference u v)

abbrev pub compare_words : OrderModel → List ℕ → List ℕ → Ordering
compare_words o u v = then_by (compare_images o (image u) (image v)) (compare_ties u v)
