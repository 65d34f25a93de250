-- Numbers written in a base from 2 to 10: the digits as text, the highest first, without a needless leading zero.
use Rattle.std.specs.Prelude.{ℕ, zero, suc, ◌+◌, ◌-◌, ◌*◌, ◌^◌, Bool, cond, ◌&&◌, ◌||◌, List, [], ◌∷◌, map, length, Some, None, Option, ◌==◌, nat_le, nat_lt, slice_index}
use Rattle.std.specs.Int.Digits.{digits_of}
use Rattle.coefficients.specs.declared.numeral.Base.{Base}
use Rattle.coefficients.specs.declared.numeral.Base.TheVariants.{Binary, Decimal}

abbrev pub radix : Base → ℕ
radix Binary = 2
radix Decimal = 10

-- the numeral of n in base b; 48 is the digit 0
unfoldable pub numeral : ℕ → ℕ → List ℕ
numeral b zero = 48 ∷ []
numeral b (suc n) = map (λ d. 48 + d) (digits_of b (suc n))

-- the same behind a minus sign, which is 45
abbrev pub signed_numeral : ℕ → Bool → ℕ → List ℕ
signed_numeral b minus n = cond minus (45 ∷ numeral b n) (numeral b n)

-- whether a byte is a digit of base b
abbrev pub is_digit : ℕ → ℕ → Bool
is_digit b c = nat_le 48 c && nat_lt c (48 + b)

-- the number of 64 bits that the digits cs add to n
unfoldable pub read_digits : ℕ → ℕ → List ℕ → Option ℕ
read_digits b n [] = Some n
read_digits b n (c ∷ cs) = cond (is_digit b c && nat_lt (n * b + (c - 48)) (2 ^ 64)) (read_digits b (n * b + (c - 48)) cs) None

-- one digit, or a first one other than 0
abbrev pub lean : List ℕ → Bool
lean cs = length cs == 1 || nat_lt 48 (slice_index cs 0)

-- the number of 64 bits that a numeral writes
abbrev pub read_numeral : ℕ → List ℕ → Option ℕ
read_numeral b cs = cond (lean cs) (read_digits b 0 cs) None
