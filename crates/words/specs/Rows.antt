-- Which rows hold a word, and the row of a word.
use Rattle.std.specs.Prelude.{ℕ, ◌-◌, Bool, true, cond, ◌&&◌, List, [], ◌∷◌, ◌++◌, length, replicate, ◌==◌}
use Rattle.orders.specs.Letters.{is_letter, row_places}

abbrev pub all_zero : List ℕ → Bool
all_zero [] = true
all_zero (x ∷ xs) = x == 0 && all_zero xs

-- letters, then zeros
abbrev pub is_row : List ℕ → Bool
is_row [] = true
is_row (x ∷ xs) = cond (is_letter x) (is_row xs) (all_zero (x ∷ xs))

-- the letters of a word, then zeros
abbrev pub row_of : List ℕ → List ℕ
row_of w = w ++ replicate (row_places - length w) 0
