-- Lists of numbers compared at their first difference, and operations on them entry by entry.
use Rattle.std.specs.Prelude.{ℕ, ◌+◌, ◌*◌, cond, List, [], ◌∷◌, nat_lt}
use Rattle.std.specs.declared.cmp.Ordering.TheVariants.{Less, Equal, Greater}
use Rattle.std.specs.declared.cmp.Ordering.{Ordering}

-- by two numbers, and where they are the same as the rest says
abbrev pub numbers : ℕ → ℕ → Ordering → Ordering
numbers x y rest = cond (nat_lt x y) Less (cond (nat_lt y x) Greater rest)

-- by the numbers at the first difference; a list comes before those that it is the beginning of
abbrev pub first_difference : List ℕ → List ℕ → Ordering
first_difference [] [] = Equal
first_difference [] (y ∷ ys) = Less
first_difference (x ∷ xs) [] = Greater
first_difference (x ∷ xs) (y ∷ ys) = numbers x y (first_difference xs ys)

-- the first answer, and where it is Equal the second
abbrev pub then_by : Ordering → Ordering → Ordering
then_by Less next = Less
then_by Equal next = next
then_by Greater next = Greater

abbrev pub reversed : Ordering → Ordering
reversed Less = Greater
reversed Equal = Equal
reversed Greater = Less

-- the sums of the entries
abbrev pub plus : List ℕ → List ℕ → List ℕ
plus [] ys = []
plus (x ∷ xs) [] = []
plus (x ∷ xs) (y ∷ ys) = (x + y) ∷ plus xs ys

-- the sum of the products of the entries
abbrev pub dot : List ℕ → List ℕ → ℕ
dot [] ys = 0
dot (x ∷ xs) [] = 0
dot (x ∷ xs) (y ∷ ys) = x * y + dot xs ys
