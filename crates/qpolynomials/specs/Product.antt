-- Polynomials over the field of two elements, as numbers: bit k is the coefficient of the k-th power. The sum is the exclusive or.
use Rattle.std.specs.Prelude.{ℕ, zero, suc, ◌*◌, ◌/◌, ◌%◌, bit_xor}

-- b times the constant d
unfoldable pub scaled : ℕ → ℕ → ℕ
scaled zero b = 0
scaled (suc d) b = b

-- b times the polynomial of the bits of a, as far as n bits of a and as a has bits
unfoldable pub times_bits : ℕ → ℕ → ℕ → ℕ
times_bits zero a b = 0
times_bits (suc n) zero b = 0
times_bits (suc n) (suc a) b = bit_xor (scaled (suc a % 2) b) (times_bits n (suc a / 2) b * 2)

-- the product, with no carries and with no bound
unfoldable pub times : ℕ → ℕ → ℕ
times a b = times_bits a a b
