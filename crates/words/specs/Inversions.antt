-- Inversions of a word, a list of letters of any length, and standard words.
use Rattle.std.specs.Prelude.{ℕ, suc, ◌+◌, Bool, true, cond, ◌&&◌, List, [], ◌∷◌, Some, None, Option, nat_le, nat_lt}

-- how many letters of a word are smaller than x
abbrev pub below : ℕ → List ℕ → ℕ
below x [] = 0
below x (y ∷ w) = cond (nat_lt y x) 1 0 + below x w

-- how many pairs of places have the larger letter on the left
abbrev pub inversions : List ℕ → ℕ
inversions [] = 0
inversions (x ∷ w) = below x w + inversions w

-- after the letter x the letters never fall
abbrev pub rises : ℕ → List ℕ → Bool
rises x [] = true
rises x (y ∷ w) = nat_le x y && rises y w

-- the letters never fall from left to right
abbrev pub standard : List ℕ → Bool
standard [] = true
standard (x ∷ w) = rises x w

-- where the letters fall first after the letter x at place k
abbrev pub falls : ℕ → ℕ → List ℕ → Option ℕ
falls k x [] = None
falls k x (y ∷ w) = cond (nat_lt y x) (Some k) (falls (suc k) y w)

-- the place, counted from 0, of the left letter of the leftmost inversion of neighbours
abbrev pub leftmost_inversion : List ℕ → Option ℕ
leftmost_inversion [] = None
leftmost_inversion (x ∷ w) = falls 0 x w
