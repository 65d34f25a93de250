-- Degrees: that of a product is the sum of those of the factors.
use Rattle.std.specs.Prelude.{◌≡◌, ℕ, zero, suc, ◌+◌, ◌*◌, ◌/◌, ◌%◌, ◌^◌, ◌<◌, ◌≤◌, true, false, bit_xor, nat_le}
use Rattle.std.proofs.Common.{sym, ap, subst, ◌∙◌, ⊎_elim, pow-suc, zero-add, arith, pow_mono}
use Rattle.std.proofs.lemmas.Nat.{xor_lt, xor_comm}
use Rattle.std.specs.Int.Bits.{xor_self, xor_zero_r, xor_assoc}
use Rattle.std.proofs.lemmas.Bool.{cases_lt, le-leb, lt-leb}
use Rattle.qpolynomials.specs.Product.{scaled, times}
use Rattle.qpolynomials.specs.Laws.{times-step, times_comm, times-one}

-- the highest power of q in a is the d-th
pub record Degree (d a : ℕ) : Type 0 where
  pub reaches : 2 ^ d ≤ a
  pub ends : a < 2 ^ (d + 1)

-- what lies below the highest power does not touch it
degree_xor : (k x y : ℕ) → x < 2 ^ k → Degree k y → Degree k (bit_xor x y)
degree_xor k x y h g = record {
  reaches = ⊎_elim
      (λ l. let back : bit_xor x (bit_xor x y) ≡ y = sym (xor_assoc x x y) ∙ ap (λ z. bit_xor z y) (xor_self x) ∙ xor_comm 0 y ∙ xor_zero_r y in
      absurd (omega (arith, xor_lt k x (bit_xor x y) h l, back, g.reaches)))
      (λ l. l)
      (cases_lt (bit_xor x y) (2 ^ k));
  ends = xor_lt (k + 1) x y (let e = pow_mono {i = k} {j = k + 1} (omega arith) in omega arith) g.ends;
}

degree_twice : (k y : ℕ) → Degree k y → Degree (suc k) (y * 2)
degree_twice k y g = record {
  reaches = omega (arith, pow-suc 2 k, g.reaches);
  ends = let e : 2 ^ (suc k + 1) ≡ 2 ^ (k + 1) * 2 = ap (λ n. 2 ^ n) (omega arith) ∙ pow-suc 2 (k + 1) in omega (arith, e, g.ends);
}

degree_half : (d a : ℕ) → Degree (suc d) a → Degree d (a / 2)
degree_half d a g = record {
  reaches = omega (arith, pow-suc 2 d, g.reaches);
  ends = let e : 2 ^ (suc d + 1) ≡ 2 ^ (d + 1) * 2 = ap (λ n. 2 ^ n) (omega arith) ∙ pow-suc 2 (d + 1) in omega (arith, e, g.ends);
}

scaled-below : (t b k : ℕ) → b < 2 ^ k → scaled t b < 2 ^ k
unfolding scaled
scaled-below zero b k h = omega arith
scaled-below (suc t) b k h = h

pub degree_times : (d e a b : ℕ) → Degree d a → Degree e b → Degree (d + e) (times a b)
degree_times zero e a b g h =
    let one : a ≡ 1 = omega (arith, g.reaches, g.ends) in
    subst (λ k. Degree k (times a b)) (sym (zero-add e)) (subst (Degree e) (sym (ap (λ x. times x b) one ∙ times_comm 1 b ∙ times-one b)) h)
degree_times (suc d) e a b g h =
    let ih = degree_times d e (a / 2) b (degree_half d a g) h in
    let k : suc (d + e) ≡ suc d + e = omega arith in
    let low : b < 2 ^ (suc (d + e)) = let m = pow_mono {i = e + 1} {j = suc (d + e)} (omega arith) in omega (arith, m, h.ends) in
    subst (λ n. Degree n (times a b)) k
    (subst (Degree (suc (d + e))) (sym (times-step a b))
    (degree_xor (suc (d + e)) (scaled (a % 2) b) (times (a / 2) b * 2) (scaled-below (a % 2) b (suc (d + e)) low) (degree_twice (d + e) (times (a / 2) b) ih)))

-- a polynomial of 64 bits is one of degree up to 63
pub degree_small : (k x : ℕ) → Degree k x → x < 2 ^ 64 → nat_le k 63 ≡ true
degree_small k x g h =
    le-leb k 63 (⊎_elim (λ l. absurd (let m = pow_mono {i = 64} {j = k} l in omega (arith, m, g.reaches))) (λ l. l) (cases_lt 63 k))

pub degree_large : (k x : ℕ) → Degree k x → 2 ^ 64 ≤ x → nat_le k 63 ≡ false
degree_large k x g h =
    lt-leb k 63 (⊎_elim (λ l. l) (λ l. absurd (let m = pow_mono {i = k + 1} {j = 64} (omega arith) in omega (arith, m, g.ends))) (cases_lt 63 k))
