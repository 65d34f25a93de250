-- Inversions in one pass: the letters so far are bytes of one number, and casting out 255 adds up the bytes of the larger letters.
use Rattle.std.proofs.Common.{◌≡◌, ℕ, zero, suc, ◌+◌, ◌-◌, ◌*◌, ◌%◌, ◌^◌, ◌<◌, ◌≤◌, Bool, true, cond, ltb, List, [], ◌∷◌, length, get_or, drop, take, sym, refl, ap, ◌∙◌, subst, ap₂, ⊎_elim, mod-lt, mod-eq_of_lt, mul_assoc, mul_comm, pow-suc, mul-add, arith, pow-add}
use native.Mathlib.Nat.{mul-add-mod_self_left, mul-add-mod_self_right, add-mod, one-le-pow}
use lib.Bits.{bit_and}
use denote.Bor.{Bor}
use Rattle.std.proofs.lemmas.List.{get_or-take, get_or-drop, length-take-le, length-drop}
use Rattle.std.proofs.lemmas.Bool.{cases_eq, cases_Bool, ltb-true, ltb-false}
use Rattle.std.proofs.lemmas.Nat.{one_shl, and_mask}
use Rattle.orders.specs.Letters.{letters, is_letter, count}
use Rattle.orders.proofs.Packing.{packing, total, total_lt, packing-total, count_same, count_other, Lettered, unit_of, unit_le}
use Rattle.orders.proofs.Steps.{letters-go, letter_bounds}
use Rattle.words.specs.Inversions.{below, inversions}

-- the last bytes of the number
low : (j k n : ℕ) (p : List ℕ) → length p < 256 → j ≤ n → total k n p % 256 ^ j ≡ total (k + n - j) j p
low j k n p l h = ⊎_elim (λ e. here j k n e) (λ e. later k n h e) (cases_eq j n)
  where
    here : (j k n : ℕ) → j ≡ n → total k n p % 256 ^ j ≡ total (k + n - j) j p
    here j k n e =
        let q : k + n - j ≡ k = omega arith in
        ap (λ m. total k m p % 256 ^ j) (sym e) ∙ mod-eq_of_lt (total_lt k j p l) ∙ ap (λ m. total m j p) (sym q)

    later : (k n : ℕ) → j ≤ n → (j ≡ n → ⊥) → total k n p % 256 ^ j ≡ total (k + n - j) j p
    later k zero h e = absurd (e (omega arith))
    later k (suc n) h e =
        let c = count k p in
        let r : n ≡ (n - j) + j = omega arith in
        let t = total (suc k) n p in
        let q : c * 256 ^ n + t ≡ (c * 256 ^ (n - j)) * 256 ^ j + t =
        ap (λ m. c * m + t) (ap (λ m. 256 ^ m) r ∙ pow-add 256 (n - j) j) ∙ ap (λ m. m + t) (sym (mul_assoc c (256 ^ (n - j)) (256 ^ j)))
        in
        let f : suc k + n - j ≡ k + suc n - j = omega arith in
        ap (λ m. m % 256 ^ j) q
        ∙ mul-add-mod_self_right (c * 256 ^ (n - j)) (256 ^ j) t
        ∙ ⊎_elim (λ d. here j (suc k) n d) (λ d. later (suc k) n (omega arith) d) (cases_eq j n)
        ∙ ap (λ m. total m j p) f

-- how often the n letters from k on come, all together
abbrev tally : ℕ → ℕ → List ℕ → ℕ
tally k zero p = 0
tally k (suc n) p = count k p + tally (suc k) n p

-- a power of 256 is one more than a multiple of 255
nines : ℕ → ℕ
nines zero = 0
nines (suc n) = 256 * nines n + 1

pow_nines : (n : ℕ) → 256 ^ n ≡ 255 * nines n + 1
unfolding nines
pow_nines zero = refl
pow_nines (suc n) = let h = pow_nines n in pow-suc 256 n ∙ ap (λ m. m * 256) h ∙ omega arith

over : ℕ → ℕ → List ℕ → ℕ
over k zero p = 0
over k (suc n) p = count k p * nines n + over (suc k) n p

cast_out : (k n : ℕ) (p : List ℕ) → total k n p ≡ 255 * over k n p + tally k n p
unfolding over
cast_out k zero p = refl
cast_out k (suc n) p =
    let c = count k p in
    let h = cast_out (suc k) n p in
    let q = ap (λ m. c * m) (pow_nines n) ∙ mul-add c (255 * nines n) 1 in
    let r : c * (255 * nines n) ≡ 255 * (c * nines n) = sym (mul_assoc c 255 (nines n)) ∙ ap (λ m. m * nines n) (mul_comm c 255) ∙ mul_assoc 255 c (nines n) in
    let s = mul-add 255 (c * nines n) (over (suc k) n p) in
    omega arith

tally_early : (k n x : ℕ) (p : List ℕ) → x < k → tally k n (x ∷ p) ≡ tally k n p
tally_early k zero x p h = refl
tally_early k (suc n) x p h = ap₂ (λ a b. a + b) (count_other k x p (λ e. omega arith)) (tally_early (suc k) n x p (omega arith))

tally-more : (k n x : ℕ) (p : List ℕ) → k ≤ x → x < k + n → tally k n (x ∷ p) ≡ 1 + tally k n p
tally-more k zero x p l h = absurd (omega arith)
tally-more k (suc n) x p l h =
    ⊎_elim
    (λ e.
    let c = count_same k x p e in
    let t = tally_early (suc k) n x p (omega arith) in
    omega arith)
    (λ e.
    let c = count_other k x p e in
    let t = tally-more (suc k) n x p (omega arith) (omega arith) in
    omega arith)
    (cases_eq x k)

tally_none : (k n : ℕ) → tally k n [] ≡ 0
tally_none k zero = refl
tally_none k (suc n) = let h = tally_none (suc k) n in omega arith

-- how many letters of a word are larger than x
abbrev above : ℕ → List ℕ → ℕ
above x [] = 0
above x (y ∷ p) = cond (ltb x y) 1 0 + above x p

above_le : (x : ℕ) (p : List ℕ) → above x p ≤ length p
above_le x [] = omega arith
above_le x (y ∷ p) =
    let h = above_le x p in
    ⊎_elim
    (λ e. let f : ◌≡◌ {A = ℕ} (cond (ltb x y) 1 0) 1 = ap (λ (b : Bool). cond b 1 0) e in omega arith)
    (λ e. let f : ◌≡◌ {A = ℕ} (cond (ltb x y) 1 0) 0 = ap (λ (b : Bool). cond b 1 0) e in omega arith)
    (cases_Bool (ltb x y))

tally-above : (x : ℕ) (p : List ℕ) → x ≤ 8 → Lettered p → tally (suc x) (8 - x) p ≡ above x p
tally-above x [] l h = tally_none (suc x) (8 - x)
tally-above x (y ∷ p) l h =
    let b = letter_bounds y h.0 in
    let i = tally-above x p l h.1 in
    ⊎_elim
    (λ e.
    let f : ◌≡◌ {A = ℕ} (cond (ltb x y) 1 0) 1 = ap (λ (b : Bool). cond b 1 0) e in
    let g = ltb-true x y e in
    let t = tally-more (suc x) (8 - x) y p (omega arith) (omega arith) in
    omega arith)
    (λ e.
    let f : ◌≡◌ {A = ℕ} (cond (ltb x y) 1 0) 0 = ap (λ (b : Bool). cond b 1 0) e in
    let g = ltb-false x y e in
    let t = tally_early (suc x) (8 - x) y p (omega arith) in
    omega arith)
    (cases_Bool (ltb x y))

digits_above : (x : ℕ) (p : List ℕ) → is_letter x ≡ true → Lettered p → length p < 255 → packing p % 256 ^ (8 - x) % 255 ≡ above x p
digits_above x p t h l =
    let b = letter_bounds x t in
    let a = above_le x p in
    let e : 1 + 8 - (8 - x) ≡ suc x = omega arith in
    let c = cast_out (suc x) (8 - x) p in
    let d = tally-above x p (omega arith) h in
    ap (λ m. m % 256 ^ (8 - x) % 255) (packing-total p h)
    ∙ ap (λ m. m % 255) (low (8 - x) 1 8 p (omega arith) (omega arith) ∙ ap (λ m. total m (8 - x) p) e ∙ c)
    ∙ mul-add-mod_self_left 255 (over (suc x) (8 - x) p) (tally (suc x) (8 - x) p)
    ∙ ap (λ m. m % 255) d
    ∙ mod-eq_of_lt (omega arith)

-- how many pairs of a letter of p and a smaller one of w there are
abbrev crossing : List ℕ → List ℕ → ℕ
crossing p [] = 0
crossing p (y ∷ w) = above y p + crossing p w

crossing-more : (x : ℕ) (p w : List ℕ) → crossing (x ∷ p) w ≡ below x w + crossing p w
crossing-more x p [] = refl
crossing-more x p (y ∷ w) = let h = crossing-more x p w in omega arith

crossing_none : (w : List ℕ) → crossing [] w ≡ 0
crossing_none [] = refl
crossing_none (y ∷ w) = let h = crossing_none w in omega arith

-- how many pairs of places i letters have
abbrev pairs : ℕ → ℕ
pairs zero = 0
pairs (suc i) = i + pairs i

pairs_le : (i j : ℕ) → i ≤ j → pairs i ≤ pairs j
pairs_le i zero h = let e : i ≡ 0 = omega arith in let q = ap pairs e in omega arith
pairs_le i (suc j) h =
    ⊎_elim (λ e. let q = ap pairs e in omega arith) (λ e. let l = pairs_le i j (omega arith) in omega arith) (cases_eq i (suc j))

-- where the part k of a row begins, and where the last one ends
abbrev pub cut : ℕ → ℕ
cut zero = 0
cut (suc zero) = 23
cut (suc (suc k)) = 32

pub pairs_most : (k i : ℕ) → i ≤ cut (k + 1) → pairs i ≤ 254 + 248 * k
pairs_most zero i h = let l : pairs i ≤ 253 = pairs_le i 23 (omega arith) in omega arith
pairs_most (suc k) i h = let o : suc k + 1 ≡ suc (suc k) = omega arith in let e = ap cut o in let l : pairs i ≤ 496 = pairs_le i 32 (omega arith) in omega arith

pub pairs_least : (k i : ℕ) → k < 3 → i ≡ cut k → 248 * k ≤ pairs i
pairs_least zero i h e = omega arith
pairs_least (suc zero) i h e = let l : 253 ≤ pairs i = pairs_le 23 i (omega arith) in omega arith
pairs_least (suc (suc k)) i h e = let l : 496 ≤ pairs i = pairs_le 32 i (omega arith) in omega arith

-- the part k of a row
abbrev pub IsPart : ℕ → List ℕ → List ℕ → Type 0
IsPart k row p = (cut k + length p ≡ cut (k + 1)) × (cut k + length p ≤ 32) × ((j : ℕ) → j < length p → get_or p j 0 ≡ get_or row (cut k + j) 0)

pub parts : (row : List ℕ) (a b d : Bor (List ℕ)) → length row ≡ 32 → a.now ≡ take 23 row → b.now ≡ take 9 (drop 23 row) → (k : ℕ) → k < 2 → IsPart k row (get_or (a ∷ b ∷ []) k d).now
parts row a b d l e f zero h = let n = length-take-le 23 row (omega arith) in rw e (omega arith, omega arith, λ j i. get_or-take 23 row j 0 (omega arith) ∙ ap (λ m. get_or row m 0) (omega arith))
parts row a b d l e f (suc zero) h = let m = length-drop 23 row in let n = length-take-le 9 (drop 23 row) (omega arith) in rw f (omega arith, omega arith, λ j i. get_or-take 9 (drop 23 row) j 0 (omega arith) ∙ get_or-drop 23 row j 0)
parts row a b d l e f (suc (suc k)) h = absurd (omega arith)

-- after a pass over i letters, which make the number s: they and the rest w of the word have t inversions; n of them and what 255
-- leaves of m are counted so far. k is how many parts of the row n holds
unfoldable pub Counted : (k i s n m : ℕ) → List ℕ → ℕ → Type 0
Counted k i s n m w t =
    (p : List ℕ) × Lettered p × (length p ≡ i) × (packing p ≡ s) × (m % 255 + 248 * k ≤ pairs i) × (n + m % 255 + crossing p w + inversions w ≡ t)

pub counted_none : (w : List ℕ) → Counted 0 0 0 0 0 w (inversions w)
unfolding Counted
counted_none w = let c = crossing_none w in ([], tt, refl, refl, omega arith, omega arith)

pub counted_all : (k i s n m t : ℕ) (w : List ℕ) → w ≡ [] → Counted k i s n m w t → n + m % 255 ≡ t
unfolding Counted
counted_all k i s n m t w e (p, h, l, q, b, c) = let f = ap (λ w. crossing p w + inversions w) e in omega arith

pub counted_cut : (k i s n m t : ℕ) (w : List ℕ) → 248 * (k + 1) ≤ pairs i → Counted k i s n m w t → Counted (k + 1) i s (n + m % 255) 0 w t
unfolding Counted
counted_cut k i s n m t w g (p, h, l, q, b, c) = (p, h, l, q, omega arith, omega arith)

-- one letter more: what 255 leaves of m and the number of the larger letters before x are less than 255 together
counted_more : (k i s n m x u d t : ℕ) (v w : List ℕ) → is_letter x ≡ true → v ≡ x ∷ w → i < 255 → pairs (i + 1) ≤ 254 + 248 * k → u ≡ 256 ^ (8 - x)
    → d ≡ s % 256 ^ (8 - x) → Counted k i s n m v t → Counted k (i + 1) (s + u) n (m + d) w t
unfolding Counted
counted_more k i s n m x u d t v w y z r f g o (p, h, l, q, b, c) =
    let j : d % 255 ≡ above x p = ap (λ d. d % 255) o ∙ ap (λ s. s % 256 ^ (8 - x) % 255) (sym q) ∙ digits_above x p y h (omega arith) in
    let a : above x p ≤ i = let a = above_le x p in omega arith in
    let sum = added m d (above x p) a j b in
    let more = crossing-more x p w in
    let e = ap (λ w. crossing p w + inversions w) z in
    (x ∷ p, (y, h), omega arith, omega arith, sum.1, let q = sum.0 in omega arith)
  where
    added : (m d a : ℕ) → a ≤ i → d % 255 ≡ a → m % 255 + 248 * k ≤ pairs i → ((m + d) % 255 ≡ m % 255 + a) × ((m + d) % 255 + 248 * k ≤ pairs (i + 1))
    added m d a l e b =
        let o : i + 1 ≡ suc i = omega arith in
        let q : pairs (i + 1) ≡ i + pairs i = ap pairs o in
        let h : m % 255 + a < 255 = omega arith in
        let r : (m + d) % 255 ≡ m % 255 + a = add-mod m d 255 ∙ ap (λ c. (m % 255 + c) % 255) e ∙ mod-eq_of_lt h in
        (r, omega arith)

-- the unit of a letter, as it is shifted
abbrev pub shifted : ℕ → ℕ
shifted x = (1 * 2 ^ (64 - 8 * x)) % 2 ^ 64

shifted_is : (x : ℕ) → is_letter x ≡ true → shifted x ≡ 2 ^ (64 - 8 * x)
shifted_is x t = let b = letter_bounds x t in one_shl (64 - 8 * x) 64 (omega arith)

pub shifted_le : (x : ℕ) → is_letter x ≡ true → shifted x ≤ 256 ^ 7
shifted_le x t =
    let b = letter_bounds x t in
    let s = shifted_is x t in
    let u = unit_of x b.1 in
    let l = unit_le x b.0 in
    omega arith

pub shifted_here : (x y : ℕ) → x ≡ y → is_letter x ≡ true → shifted x ≤ 256 ^ 7
shifted_here x y e t = shifted_le x t

-- one letter more of a row, whose number is x and which is followed by the place j
pub counted_next : (k i j s n m t x : ℕ) (row : List ℕ) → x ≡ get_or row i 0 → j ≡ i + 1 → is_letter x ≡ true → i < length row → i < 255 → pairs (i + 1) ≤ 254 + 248 * k
    → m ≤ 256 ^ 7 * i → Counted k i s n m (letters (drop i row)) t
    → (m + bit_and s (shifted x - 1) ≤ 256 ^ 7 * j) × Counted k j (s + shifted x) n (m + bit_and s (shifted x - 1)) (letters (drop j row)) t
counted_next k i j s n m t x row here after y l r f b c =
    let e = unit_of x (letter_bounds x y).1 in
    let a : bit_and s (shifted x - 1) ≡ s % 2 ^ (64 - 8 * x) = ap (λ n. bit_and s (n - 1)) (shifted_is x y) ∙ and_mask s (64 - 8 * x) in
    let d = a ∙ ap (λ n. s % n) e in
    let g = mod-lt s {m = 256 ^ (8 - x)} (one-le-pow (8 - x) 256 (omega arith)) in
    let h = unit_le x (letter_bounds x y).0 in
    let w = letters (drop (i + 1) row) in
    let v : letters (drop i row) ≡ x ∷ w = letters-go row i l (ap is_letter (sym here) ∙ y) ∙ ap (λ z. z ∷ w) (sym here) in
    let more = counted_more k i s n m x (shifted x) (bit_and s (shifted x - 1)) t (letters (drop i row)) w y v r f (shifted_is x y ∙ e) d c in
    subst (λ j. (m + bit_and s (shifted x - 1) ≤ 256 ^ 7 * j) × Counted k j (s + shifted x) n (m + bit_and s (shifted x - 1)) (letters (drop j row)) t) (sym after) (omega arith, more)
