use Rattle.std.proofs.Common.{◌≡◌, ℕ, ◌+◌, ◌-◌, ◌*◌, ◌/◌, ◌^◌, ◌<◌, ◌≤◌, ◌≢◌, sym, refl, ap, ◌∙◌, pow-suc, arith, pow_mono}
use lib.Arith.{lt_of_le-ne}
use lib.Bits.{bit_xor, xor_assoc, xor_zero_r, xor_lt}
use Rattle.qpolynomials.specs.Product.{times}
use Rattle.qpolynomials.specs.Laws.{zero-times}
use Rattle.qpolynomials.proofs.Bits.{odd_step, even_step}
use Rattle.qpolynomials.proofs.qpolynomials.product_bits.Goals as goal
use Rattle.qpolynomials.proofs.qpolynomials.product_bits.Goals.{then-left-eq1, else-left-eq1}

pub loop-left-init : goal.loop-left-init
loop-left-init c = (0, omega arith, omega arith, omega arith, omega arith, refl)

-- while a bit is left, the turns are not over
turns : (s i : ℕ) → s ≢ 0 → i ≤ 64 → s < 2 ^ (64 - i) → i < 64
turns s i n l h = lt_of_le-ne l (λ e. let z : s < 1 = rw e at h in omega arith)

twice : (s i : ℕ) → s < 2 ^ (64 + i) → s * 2 < 2 ^ (64 + (i + 1))
twice s i h = let e : 2 ^ (64 + (i + 1)) ≡ 2 ^ (64 + i) * 2 = ap (λ n. 2 ^ n) (omega arith) ∙ pow-suc 2 (64 + i) in omega arith

half : (s i : ℕ) → i < 64 → s < 2 ^ (64 - i) → s / 2 < 2 ^ (64 - (i + 1))
half s i l h = let e : 2 ^ (64 - i) ≡ 2 ^ (64 - (i + 1)) * 2 = ap (λ n. 2 ^ n) (omega arith) ∙ pow-suc 2 (64 - (i + 1)) in omega arith

below : (s i : ℕ) → i < 64 → s < 2 ^ (64 + i) → s * 2 < 2 ^ 128
below s i l h = let t = twice s i h in let p : 2 ^ (64 + (i + 1)) ≤ 2 ^ 128 = pow_mono {i = 64 + (i + 1)} {j = 128} (omega arith) in omega arith

pub overflow_mul-shifted : goal.overflow_mul-shifted
overflow_mul-shifted c =
    let l = turns c.loop-left.left c.loop-left.invariant.0 c.loop-left-test.true c.loop-left.invariant.1 c.loop-left.invariant.2 in
    omega (arith, below c.loop-left.shifted c.loop-left.invariant.0 l c.loop-left.invariant.3)

pub loop-left-preserved : goal.loop-left-preserved
loop-left-preserved c =
    let s : ℕ = c.loop-left.shifted in
    let h = c.loop-left.invariant in
    let i : ℕ = h.0 in
    let l = turns c.loop-left.left i c.loop-left-test.true h.1 h.2 in
    let b = below s i l h.3 in
    elim c.if-left-eq1.branch [
      | then-left-eq1 w ↦ (
        i + 1,
        omega arith,
        half c.loop-left.left i l h.2,
        twice s i h.3,
        simp w.all-is (xor_lt 128 _ _ h.4 (omega arith)),
        simp (w.all-is, xor_assoc) (ap (bit_xor c.loop-left.all) (sym (odd_step c.loop-left.left s w.if-left-eq1.true)) ∙ h.5),
      )
      | else-left-eq1 w ↦ (
        i + 1,
        omega arith,
        half c.loop-left.left i l h.2,
        twice s i h.3,
        simp w.all-is h.4,
        simp w.all-is (ap (bit_xor c.loop-left.all) (sym (even_step c.loop-left.left s (omega (arith, w.if-left-eq1.false)))) ∙ h.5),
      )
    ]

pub returns : goal.returns
returns c =
    let e : c.loop-left.left ≡ 0 = c.loop-left-test.false in
    sym (xor_zero_r _) ∙ ap (bit_xor c.loop-left.all) (sym (ap (λ n. times n c.loop-left.shifted) e ∙ zero-times c.loop-left.shifted)) ∙ c.loop-left.invariant.5
