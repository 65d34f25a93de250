-- The laws of the product of polynomials over the field of two elements, by induction on the bits of the first.
use Rattle.std.specs.Prelude.{◌≡◌, ℕ, zero, suc, ◌+◌, ◌*◌, ◌/◌, ◌%◌, ◌^◌, ◌<◌, ◌≤◌, bit_xor, refl}
use Rattle.std.proofs.Common.{sym, ap, ap₂, ◌∙◌, le_refl, not-suc-le-zero, le_of_suc-le-suc, mod-lt, div-add-mod', add-zero, zero-lt-suc}
use Rattle.std.proofs.Math.Decide.{le_ind}
use Rattle.std.proofs.Math.Arith.{half_le, bin_ind}
use Rattle.std.proofs.lemmas.Nat.{xor_comm, xor_block}
use Rattle.std.specs.Int.Bits.{xor_assoc, xor_shifted}
use Rattle.qpolynomials.specs.Product.{scaled, times_bits, times}

-- ---- the recursion
more : (n a b : ℕ) → a ≤ n → times_bits (suc n) a b ≡ times_bits n a b
unfolding times_bits
more zero zero b h = refl
more zero (suc a) b h = absurd (not-suc-le-zero h)
more (suc n) zero b h = refl
more (suc n) (suc a) b h = ap (λ (x : ℕ). bit_xor (scaled (suc a % 2) b) (x * 2)) (more n (suc a / 2) b (half_le h))

enough : (n a b : ℕ) → a ≤ n → times_bits n a b ≡ times a b
unfolding times
enough n a b h = le_ind (λ (m : ℕ). times_bits m a b ≡ times_bits a a b) refl (λ m k e. more m a b k ∙ e) n h

pub times-step : (a b : ℕ) → times a b ≡ bit_xor (scaled (a % 2) b) (times (a / 2) b * 2)
unfolding times times_bits scaled
times-step zero b = refl
times-step (suc a) b = ap (λ (x : ℕ). bit_xor (scaled (suc a % 2) b) (x * 2)) (enough a (suc a / 2) b (half_le (le_refl (suc a))))

-- ---- exclusive or
xor-left : (a b c : ℕ) → bit_xor a (bit_xor b c) ≡ bit_xor b (bit_xor a c)
xor-left a b c = sym (xor_assoc a b c) ∙ ap (λ (x : ℕ). bit_xor x c) (xor_comm a b) ∙ xor_assoc b a c

xor_swap : (a b c d : ℕ) → bit_xor (bit_xor a b) (bit_xor c d) ≡ bit_xor (bit_xor a c) (bit_xor b d)
xor_swap a b c d = xor_assoc a b (bit_xor c d) ∙ ap (bit_xor a) (xor-left b c d) ∙ sym (xor_assoc a c (bit_xor b d))

xor_twice : (a b : ℕ) → bit_xor (a * 2) (b * 2) ≡ bit_xor a b * 2
xor_twice a b = ap₂ bit_xor (sym (add-zero (a * 2))) (sym (add-zero (b * 2))) ∙ xor_block 1 a b 0 0 (zero-lt-suc 1) (zero-lt-suc 1) ∙ add-zero (bit_xor a b * 2)

-- the lowest bit and the others
xor_parts : (a : ℕ) → bit_xor (a % 2) (a / 2 * 2) ≡ a
xor_parts a = xor_comm (a % 2) (a / 2 * 2) ∙ xor_shifted (a / 2) 1 (a % 2) (mod-lt a (zero-lt-suc 1)) ∙ div-add-mod' a 2

-- ---- multiples
scaled-xor : (d b c : ℕ) → scaled d (bit_xor b c) ≡ bit_xor (scaled d b) (scaled d c)
unfolding scaled
scaled-xor zero b c = refl
scaled-xor (suc d) b c = refl

scaled_twice : (d b : ℕ) → scaled d (b * 2) ≡ scaled d b * 2
unfolding scaled
scaled_twice zero b = refl
scaled_twice (suc d) b = refl

scaled-zero : (d : ℕ) → scaled d 0 ≡ 0
unfolding scaled
scaled-zero zero = refl
scaled-zero (suc d) = refl

scaled-one : (d : ℕ) → d < 2 → scaled d 1 ≡ d
unfolding scaled
scaled-one zero h = refl
scaled-one (suc zero) h = refl
scaled-one (suc (suc d)) h = absurd (not-suc-le-zero (le_of_suc-le-suc (le_of_suc-le-suc h)))

-- ---- the laws
pub zero-times : (b : ℕ) → times 0 b ≡ 0
unfolding times times_bits
zero-times b = refl

pub times_zero : (a : ℕ) → times a 0 ≡ 0
times_zero = bin_ind (λ (a : ℕ). times a 0 ≡ 0) (zero-times 0)
    (λ a ih. times-step a 0 ∙ ap₂ (λ (x y : ℕ). bit_xor x (y * 2)) (scaled-zero (a % 2)) ih)

pub times-xor : (a b c : ℕ) → times a (bit_xor b c) ≡ bit_xor (times a b) (times a c)
times-xor = bin_ind (λ (a : ℕ). (b c : ℕ) → times a (bit_xor b c) ≡ bit_xor (times a b) (times a c))
    (λ b c. zero-times (bit_xor b c) ∙ sym (ap₂ bit_xor (zero-times b) (zero-times c)))
    (λ a ih b c. times-step a (bit_xor b c)
    ∙ ap₂ bit_xor (scaled-xor (a % 2) b c) (ap (λ (x : ℕ). x * 2) (ih b c) ∙ sym (xor_twice (times (a / 2) b) (times (a / 2) c)))
    ∙ xor_swap (scaled (a % 2) b) (scaled (a % 2) c) (times (a / 2) b * 2) (times (a / 2) c * 2)
    ∙ sym (ap₂ bit_xor (times-step a b) (times-step a c)))

pub times_twice : (a b : ℕ) → times a (b * 2) ≡ times a b * 2
times_twice = bin_ind (λ (a : ℕ). (b : ℕ) → times a (b * 2) ≡ times a b * 2)
    (λ b. zero-times (b * 2) ∙ sym (ap (λ (x : ℕ). x * 2) (zero-times b)))
    (λ a ih b. times-step a (b * 2)
    ∙ ap₂ bit_xor (scaled_twice (a % 2) b) (ap (λ (x : ℕ). x * 2) (ih b))
    ∙ xor_twice (scaled (a % 2) b) (times (a / 2) b * 2)
    ∙ ap (λ (x : ℕ). x * 2) (sym (times-step a b)))

pub times-one : (a : ℕ) → times a 1 ≡ a
times-one = bin_ind (λ (a : ℕ). times a 1 ≡ a) (zero-times 1)
    (λ a ih. times-step a 1 ∙ ap₂ (λ (x y : ℕ). bit_xor x (y * 2)) (scaled-one (a % 2) (mod-lt a (zero-lt-suc 1))) ih ∙ xor_parts a)

times_bit : (b d : ℕ) → d < 2 → times b d ≡ scaled d b
unfolding scaled
times_bit b zero h = times_zero b
times_bit b (suc zero) h = times-one b
times_bit b (suc (suc d)) h = absurd (not-suc-le-zero (le_of_suc-le-suc (le_of_suc-le-suc h)))

pub times_comm : (a b : ℕ) → times a b ≡ times b a
times_comm = bin_ind (λ (a : ℕ). (b : ℕ) → times a b ≡ times b a) (λ b. zero-times b ∙ sym (times_zero b))
    (λ a ih b. times-step a b
    ∙ ap₂ bit_xor (sym (times_bit b (a % 2) (mod-lt a (zero-lt-suc 1)))) (ap (λ (x : ℕ). x * 2) (ih b) ∙ sym (times_twice b (a / 2)))
    ∙ sym (times-xor b (a % 2) (a / 2 * 2))
    ∙ ap (times b) (xor_parts a))

pub xor-times : (a b c : ℕ) → times (bit_xor a b) c ≡ bit_xor (times a c) (times b c)
xor-times a b c = times_comm (bit_xor a b) c ∙ times-xor c a b ∙ ap₂ bit_xor (times_comm c a) (times_comm c b)

pub twice_times : (a b : ℕ) → times (a * 2) b ≡ times a b * 2
twice_times a b = times_comm (a * 2) b ∙ times_twice b a ∙ ap (λ (x : ℕ). x * 2) (times_comm b a)

scaled-times : (d b c : ℕ) → times (scaled d b) c ≡ scaled d (times b c)
unfolding scaled
scaled-times zero b c = zero-times c
scaled-times (suc d) b c = refl

pub times_assoc : (a b c : ℕ) → times (times a b) c ≡ times a (times b c)
times_assoc = bin_ind (λ (a : ℕ). (b c : ℕ) → times (times a b) c ≡ times a (times b c))
    (λ b c. ap (λ (x : ℕ). times x c) (zero-times b) ∙ zero-times c ∙ sym (zero-times (times b c)))
    (λ a ih b c. ap (λ (x : ℕ). times x c) (times-step a b)
    ∙ xor-times (scaled (a % 2) b) (times (a / 2) b * 2) c
    ∙ ap₂ bit_xor (scaled-times (a % 2) b c) (twice_times (times (a / 2) b) c ∙ ap (λ (x : ℕ). x * 2) (ih b c))
    ∙ sym (times-step a (times b c)))

-- it computes
large : times 0xffff_ffff_ffff_ffff 0xffff_ffff_ffff_ffff ≡ 0x5555_5555_5555_5555_5555_5555_5555_5555
unfolding times times_bits scaled
large = refl

beyond : times (2 ^ 200 + 1) (2 ^ 300 + 2 ^ 200 + 1) ≡ 2 ^ 500 + 2 ^ 400 + 2 ^ 300 + 1
unfolding times times_bits scaled
beyond = refl
