use Rattle.std.proofs.Common.{◌≡◌, ℕ, ◌+◌, ◌-◌, ◌^◌, ◌<◌, ◌≤◌}
use lib.Bits.{bit_xor}
use Rattle.qpolynomials.specs.Product.{times}
use Rattle.qpolynomials.proofs.qpolynomials.product_bits.Given as goal

-- after k turns
abbrev pub invariant-loop-left : goal.invariant-loop-left
invariant-loop-left l =
    (k : ℕ)
    × (k ≤ 64)
    × (l.left < 2 ^ (64 - k))
    × (l.shifted < 2 ^ (64 + k))
    × (l.all < 2 ^ 128)
    × (bit_xor l.all (times l.left l.shifted) ≡ times l.initial.left l.initial.shifted)

abbrev pub decreases-loop-left : goal.decreases-loop-left
decreases-loop-left l = l.left
