-- Letters, rows of letters, and how often each letter comes in a word.
use Rattle.std.specs.Prelude.{◌≡◌, ℕ, zero, suc, ◌+◌, Bool, cond, ◌&&◌, List, [], ◌∷◌, length, ◌==◌, nat_le, nat_lt, refl}

-- how many letters there are; the letters are 1, 2 and so on
abbrev pub letter_count : ℕ
letter_count = 8

-- how many places a row has
abbrev pub row_places : ℕ
row_places = 32

abbrev pub is_letter : ℕ → Bool
is_letter x = nat_lt 0 x && nat_le x letter_count

-- the letters of a row: its entries up to the first that is no letter
abbrev pub letters : List ℕ → List ℕ
letters [] = []
letters (x ∷ xs) = cond (is_letter x) (x ∷ letters xs) []

-- how often the letter k comes in a word
abbrev pub count : ℕ → List ℕ → ℕ
count k [] = 0
count k (x ∷ xs) = cond (x == k) 1 0 + count k xs

-- how often each of the n letters from k on comes in a word
abbrev pub counts_from : ℕ → ℕ → List ℕ → List ℕ
counts_from k zero w = []
counts_from k (suc n) w = count k w ∷ counts_from (suc k) n w

-- the image of a word: how often each letter comes in it
unfoldable pub image : List ℕ → List ℕ
image w = counts_from 1 letter_count w

pub length-image : (w : List ℕ) → length (image w) ≡ letter_count
unfolding image
length-image w = refl
