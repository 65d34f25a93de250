-- One bit more of the product.
use Rattle.std.proofs.Common.{◌≡◌, ℕ, ◌*◌, ◌/◌, ◌%◌, sym, ap, ◌∙◌}
use lib.Bits.{bit_xor}
use Rattle.qpolynomials.specs.Product.{scaled, times}
use Rattle.qpolynomials.specs.Laws.{times-step, times_twice}

step : (a b : ℕ) → times a b ≡ bit_xor (scaled (a % 2) b) (times (a / 2) (b * 2))
step a b = times-step a b ∙ ap (bit_xor (scaled (a % 2) b)) (sym (times_twice (a / 2) b))

pub odd_step : (a b : ℕ) → a % 2 ≡ 1 → times a b ≡ bit_xor b (times (a / 2) (b * 2))
unfolding scaled
odd_step a b e = step a b ∙ ap (λ (d : ℕ). bit_xor (scaled d b) (times (a / 2) (b * 2))) e

pub even_step : (a b : ℕ) → a % 2 ≡ 0 → times a b ≡ times (a / 2) (b * 2)
unfolding scaled
even_step a b e = step a b ∙ ap (λ (d : ℕ). bit_xor (scaled d b) (times (a / 2) (b * 2))) e
