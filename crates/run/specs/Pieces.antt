-- Words as rows, and words in which another word takes the place of two letters.
use Rattle.std.specs.Prelude.{ℕ, ◌+◌, cond, List, ◌++◌, length, take, drop, replicate, Some, None, Option, nat_le}
use Rattle.orders.specs.Letters.{row_places}
use Rattle.words.specs.Rows.{row_of}

-- w with v in the place of its letters at k and k + 1
unfoldable pub around : List ℕ → ℕ → List ℕ → List ℕ
around w k v = take k w ++ (v ++ drop (k + 2) w)

-- the row of a word, if it is not too long
abbrev pub rowed : List ℕ → Option (List ℕ)
rowed w = cond (nat_le (length w) row_places) (Some (row_of w)) None

-- a row of zeros
unfoldable pub zeros : List ℕ
zeros = replicate row_places 0
