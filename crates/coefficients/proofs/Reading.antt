-- One digit more of what is read, and where a text is read as digits.
use Rattle.std.proofs.Common.{◌≡◌, ℕ, ◌+◌, ◌-◌, ◌*◌, ◌^◌, ◌<◌, ◌≤◌, cond, ◌&&◌, ltb, List, [], ◌∷◌, length, get_or, drop, Some, None, refl, arith}
use Rattle.std.proofs.lemmas.Bool.Decides.{nat_tests}
use Rattle.std.proofs.lemmas.List.{drop_more, drop_all}
use Rattle.coefficients.specs.Numerals.{is_digit, read_digits, read_numeral}

pub digits_more : (b n : ℕ) (xs : List ℕ) (i : ℕ) → i < length xs
    → read_digits b n (drop i xs)
    ≡ cond (is_digit b (get_or xs i 0) && ltb (n * b + (get_or xs i 0 - 48)) (2 ^ 64)) (read_digits b (n * b + (get_or xs i 0 - 48)) (drop (i + 1) xs)) None
unfolding read_digits
digits_more b n xs i h = rw (drop_more xs i 0 h)

pub digits_all : (b n : ℕ) (xs : List ℕ) (i : ℕ) → length xs ≤ i → read_digits b n (drop i xs) ≡ Some n
unfolding read_digits
digits_all b n xs i h = rw (drop_all i xs h)

-- a text that is not empty, and whose zero stands alone where it is the first digit
pub read_lean : (b : ℕ) (cs : List ℕ) → 1 ≤ length cs → (2 ≤ length cs → get_or cs 0 0 ≡ 48 → ⊥) → read_digits b 0 cs ≡ read_numeral b cs
unfolding read_digits
read_lean b [] h k = absurd (omega arith)
read_lean b (c ∷ []) h k = refl
read_lean b (c ∷ d ∷ ds) h k = let n : (c ≡ 48 → ⊥) = k (omega arith) in grind (arith, nat_tests)
