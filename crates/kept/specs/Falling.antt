-- Kept lists: the words strictly fall, and no coefficient is zero.
use Rattle.std.specs.Prelude.{◌≡◌, ℕ, ◌≤◌, List, [], ◌∷◌, length, drop, ◌≢◌}
use mathlib.Core.HLevel.{×_prop, Unit-prop}
use Rattle.std.specs.Ordering.{Ordering-set}
use Rattle.std.specs.declared.cmp.Ordering.TheVariants.{Greater}
use Rattle.orders.specs.Models.{OrderModel}
use Rattle.words.specs.declared.term.Term.{Term}
use Rattle.kept.specs.Kept.{compare_terms}

-- z is greater than the first term, if there is one
abbrev pub Above : OrderModel → Term → List Term → Type 0
Above o z [] = Unit {0}
Above o z (x ∷ xs) = compare_terms o z x ≡ Greater

abbrev pub Falls : OrderModel → List Term → Type 0
Falls o [] = Unit {0}
Falls o (x ∷ xs) = Above o x xs × Falls o xs

abbrev pub NoneZero : List Term → Type 0
NoneZero [] = Unit {0}
NoneZero (x ∷ xs) = (x.code ≢ 0) × NoneZero xs

-- a list whose words fall stands in the memory, from `start` to its end
pub record ListFrom (o : OrderModel) (start : ℕ) (memory : List Term) : Type 0 where
  pub within : start ≤ length memory
  pub falls : Falls o (drop start memory)

pub record IsKept (o : OrderModel) (xs : List Term) : Type 0 where
  pub falls : Falls o xs
  pub none_zero : NoneZero xs

-- each of these holds in one way
pub Above-prop : (o : OrderModel) (z : Term) (xs : List Term) → IsProp (Above o z xs)
Above-prop o z [] = Unit-prop
Above-prop o z (x ∷ xs) = Ordering-set (compare_terms o z x) Greater

pub Falls-prop : (o : OrderModel) (xs : List Term) → IsProp (Falls o xs)
Falls-prop o [] = Unit-prop
Falls-prop o (x ∷ xs) = ×_prop (Above-prop o x xs) (Falls-prop o xs)
