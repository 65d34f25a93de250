-- One number for the counts of all letters, a byte for each.
use Rattle.std.proofs.Common.{◌≡◌, ℕ, zero, suc, ◌+◌, ◌-◌, ◌*◌, ◌/◌, ◌%◌, ◌^◌, ◌<◌, ◌≤◌, Bool, true, cond, eqb, List, [], ◌∷◌, length, sym, refl, ap, ◌∙◌, ap₂, ⊎_elim, mul_assoc, mul_comm, add-mul, pow-suc, arith, pow-add}
use native.Mathlib.Nat.{pow-le-pow_right}
use Rattle.std.proofs.lemmas.Bool.{ne_eqb, eq-eqb, cases_eq, cases_Bool}
use Rattle.std.proofs.lemmas.Nat.{mul-add-lt, div-mul-add, mod-mul-add}
use Rattle.orders.specs.Letters.{letters, is_letter, count, counts_from, image}
use Rattle.orders.specs.Images.{bytes}
use Rattle.orders.proofs.Steps.{letter_bounds}

-- what the letters of a word add up to
abbrev pub packing : List ℕ → ℕ
packing [] = 0
packing (x ∷ w) = 256 ^ (8 - x) + packing w

-- the counts of the n letters from k on as the bytes of one number
abbrev pub total : ℕ → ℕ → List ℕ → ℕ
total k zero w = 0
total k (suc n) w = count k w * 256 ^ n + total (suc k) n w

pub count_other : (k x : ℕ) (w : List ℕ) → (x ≡ k → ⊥) → count k (x ∷ w) ≡ count k w
count_other k x w h = let e = ne_eqb x k h in let f : ◌≡◌ {A = ℕ} (cond (eqb x k) 1 0) 0 = ap (λ (b : Bool). cond b 1 0) e in omega arith

pub count_same : (k x : ℕ) (w : List ℕ) → x ≡ k → count k (x ∷ w) ≡ 1 + count k w
count_same k x w h = let e = eq-eqb x k h in let f : ◌≡◌ {A = ℕ} (cond (eqb x k) 1 0) 1 = ap (λ (b : Bool). cond b 1 0) e in omega arith

-- a letter that comes before those counted
total_early : (k n x : ℕ) (w : List ℕ) → x < k → total k n (x ∷ w) ≡ total k n w
total_early k zero x w h = refl
total_early k (suc n) x w h =
    ap₂ (λ c t. c * 256 ^ n + t) (count_other k x w (λ e. omega arith)) (total_early (suc k) n x w (omega arith))

-- one letter more
total-more : (k n x : ℕ) (w : List ℕ) → k ≤ x → x < k + n → total k n (x ∷ w) ≡ 256 ^ (k + n - 1 - x) + total k n w
total-more k zero x w l h = absurd (omega arith)
total-more k (suc n) x w l h =
    ⊎_elim
    (λ e.
    let c = ap (λ m. m * 256 ^ n) (count_same k x w e) ∙ add-mul 1 (count k w) (256 ^ n) in
    let t = total_early (suc k) n x w (omega arith) in
    let p : 256 ^ (k + suc n - 1 - x) ≡ 256 ^ n = ap (λ m. 256 ^ m) (omega arith) in
    omega arith)
    (λ e.
    let c = ap (λ m. m * 256 ^ n) (count_other k x w e) in
    let t = total-more (suc k) n x w (omega arith) (omega arith) in
    let p : 256 ^ (suc k + n - 1 - x) ≡ 256 ^ (k + suc n - 1 - x) = ap (λ m. 256 ^ m) (omega arith) in
    omega arith)
    (cases_eq x k)

pub count_le : (k : ℕ) (w : List ℕ) → count k w ≤ length w
count_le k [] = omega arith
count_le k (x ∷ w) =
    let h = count_le k w in
    ⊎_elim (λ e. let c = count_same k x w e in omega arith) (λ e. let c = count_other k x w e in omega arith) (cases_eq x k)

pub total_lt : (k n : ℕ) (w : List ℕ) → length w < 256 → total k n w < 256 ^ n
total_lt k zero w h = omega arith
total_lt k (suc n) w h =
    let c = count_le k w in
    let t = total_lt (suc k) n w h in
    let p = pow-suc 256 n in
    let b = mul-add-lt (count k w) (256 ^ n) (total (suc k) n w) 256 (omega arith) t in
    omega arith

-- the bytes of the number are the counts, whatever stands above them
bytes-total : (k n h : ℕ) (w : List ℕ) → length w < 256 → bytes n (h * 256 ^ n + total k n w) ≡ counts_from k n w
bytes-total k zero h w l = refl
bytes-total k (suc n) h w l =
    let c = count k w in
    let t = total (suc k) n w in
    let e : h * 256 ^ suc n + (c * 256 ^ n + t) ≡ (h * 256 + c) * 256 ^ n + t =
    let p = ap (λ m. h * m) (pow-suc 256 n ∙ mul_comm (256 ^ n) 256) ∙ sym (mul_assoc h 256 (256 ^ n)) in
    let q = add-mul (h * 256) c (256 ^ n) in
    omega arith
    in
    let f = div-mul-add (h * 256 + c) (256 ^ n) t (total_lt (suc k) n w l) in
    let g = mod-mul-add h 256 c (let m = count_le k w in omega arith) in
    ap (λ m. m / 256 ^ n % 256 ∷ bytes n m) e ∙ ap₂ (λ x xs. x ∷ xs) (ap (λ m. m % 256) f ∙ g) (bytes-total (suc k) n (h * 256 + c) w l)

pub letters_le : (xs : List ℕ) → length (letters xs) ≤ length xs
letters_le [] = omega arith
letters_le (x ∷ xs) = let h = letters_le xs in ⊎_elim (λ e. rw e (omega arith)) (λ e. rw e (omega arith)) (cases_Bool (is_letter x))

-- a list of letters
abbrev pub Lettered : List ℕ → Type 0
Lettered [] = Unit {0}
Lettered (x ∷ w) = (is_letter x ≡ true) × Lettered w

pub letters_lettered : (xs : List ℕ) → Lettered (letters xs)
letters_lettered [] = tt
letters_lettered (x ∷ xs) = ⊎_elim (λ e. rw e (e, letters_lettered xs)) (λ e. rw e tt) (cases_Bool (is_letter x))

pub packing-total : (w : List ℕ) → Lettered w → packing w ≡ total 1 8 w
packing-total [] h = refl
packing-total (x ∷ w) h =
    let b = letter_bounds x h.0 in
    let t = total-more 1 8 x w (omega arith) (omega arith) in
    let m : 256 ^ (1 + 8 - 1 - x) ≡ 256 ^ (8 - x) = ap (λ m. 256 ^ m) (omega arith) in
    ap (λ m. 256 ^ (8 - x) + m) (packing-total w h.1) ∙ ap (λ m. m + total 1 8 w) (sym m) ∙ sym t

pub packing-counts : (xs : List ℕ) → length xs ≤ 32 → bytes 8 (packing (letters xs)) ≡ image (letters xs)
unfolding image
packing-counts xs h =
    let l = letters_le xs in
    let t = packing-total (letters xs) (letters_lettered xs) in
    let e : packing (letters xs) ≡ 0 * 256 ^ 8 + total 1 8 (letters xs) = omega arith in
    ap (bytes 8) e ∙ bytes-total 1 8 0 (letters xs) (omega arith)

-- a shift by eight times as many bits
shifted : (k : ℕ) → 2 ^ (8 * k) ≡ 256 ^ k
shifted zero = refl
shifted (suc k) = ap (λ m. 2 ^ m) (omega arith) ∙ pow-add 2 (8 * k) 8 ∙ ap (λ m. m * 256) (shifted k) ∙ sym (pow-suc 256 k)

pub unit_of : (x : ℕ) → x ≤ 8 → 2 ^ (64 - 8 * x) ≡ 256 ^ (8 - x)
unit_of x h = ap (λ m. 2 ^ m) (omega arith) ∙ shifted (8 - x)

pub unit_le : (x : ℕ) → 0 < x → 256 ^ (8 - x) ≤ 256 ^ 7
unit_le x h = pow-le-pow_right {n = 256} (omega arith) {i = 8 - x} {j = 7} (omega arith)
