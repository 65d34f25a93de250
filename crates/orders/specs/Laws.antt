-- The laws of comparisons: strict total orders, compatible with sums, without infinite descent.
use Rattle.std.specs.Prelude.{◌≡◌, ℕ, List}
use Rattle.std.specs.declared.cmp.Ordering.TheVariants.{Less, Equal}
use Rattle.std.specs.declared.cmp.Ordering.{Ordering}
use mathlib.Core.WellFounded.{WellFounded}
use Rattle.orders.specs.Orders.{reversed, plus}
use Rattle.orders.specs.Models.{OrderModel, IsImage, compare_images}

-- a strict total order on the lists with the property P
pub record StrictOrder (P : List ℕ → Type 0) (compare : List ℕ → List ℕ → Ordering) : Type 0 where
  pub reflexive : (a : List ℕ) → P a → compare a a ≡ Equal
  pub antisymmetric : (a b : List ℕ) → P a → P b → compare a b ≡ Equal → a ≡ b
  pub converse : (a b : List ℕ) → P a → P b → compare b a ≡ reversed (compare a b)
  pub transitive : (a b c : List ℕ) → P a → P b → P c → compare a b ≡ Less → compare b c ≡ Less → compare a c ≡ Less

-- images compare as before where the same image is added to both
abbrev pub AddsUp : OrderModel → Type 0
AddsUp o = (c a b : List ℕ) → IsImage c → IsImage a → IsImage b → compare_images o (plus c a) (plus c b) ≡ compare_images o a b

-- the image a comes before the image b
abbrev pub Before : OrderModel → List ℕ → List ℕ → Type 0
Before o a b = IsImage a × IsImage b × (compare_images o a b ≡ Less)

-- what holds of the comparison of images under every order
pub record ImagesOrdered (o : OrderModel) : Type 0 where
  pub total : StrictOrder IsImage (compare_images o)
  pub adds_up : AddsUp o
  pub ends : WellFounded (Before o)
