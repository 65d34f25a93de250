-- Numerals are read back, and only numerals are read: both directions, in every base from 2 to 10.
use Rattle.std.specs.Prelude.{◌≡◌, ℕ, zero, suc, ◌+◌, ◌-◌, ◌*◌, ◌/◌, ◌%◌, ◌^◌, ◌<◌, ◌≤◌, Bool, true, false, cond, ◌&&◌, List, [], ◌∷◌, ◌++◌, map, length, Some, None, Option, ◌==◌, nat_eq, nat_le, nat_lt, slice_index}
use Rattle.std.proofs.Math.Path.{refl, sym, ap}
use Rattle.std.proofs.Common.{ap₂, subst, ◌∙◌, ⊎_elim, mod-lt, mod-eq_of_lt, div-add-mod', length-append}
use mathlib.Core.List.{append_assoc, append-nil}
use Rattle.std.proofs.Math.Nat.{div-eq_of_lt, div-lt_self, one-mul, zero-mul, mul-le-mul_right}
use native.Mathlib.Omega.{arith}
use Rattle.std.proofs.lemmas.Bool.{lt-ltb, le-leb, ltb-true, leb-true, ne_eqb, and_parts, and_from, or_right, cases_lt}
use Rattle.std.proofs.lemmas.List.{map_push, get_or_append_left, length-map}
use Rattle.std.proofs.lemmas.Int.Digits.{digits_of_step, length-digits_of-le}
use Rattle.std.proofs.lemmas.Nat.{le-div, div-mul-add, mod-mul-add}
use Rattle.std.specs.Int.Digits.{digits_of}
use Rattle.coefficients.specs.Coding.{Nonzero}
use Rattle.coefficients.specs.Numerals.{numeral, is_digit, read_digits, lean, read_numeral}

some_from_cond : (t : Bool) (r : Option ℕ) (m : ℕ) → cond t r None ≡ Some m → (t ≡ true) × (r ≡ Some m)
some_from_cond true r m e = (refl, e)
some_from_cond false r m e = let z : ◌≡◌ {A = ℕ} 0 1 = cc in absurd (omega arith)

module _ (b : ℕ) (two : 2 ≤ b) where
  digits_positive : (n : ℕ) → 0 < n → numeral b n ≡ map (λ d. 48 + d) (digits_of b n)
  unfolding numeral
  digits_positive zero h = absurd (omega arith)
  digits_positive (suc n) h = refl

  -- one digit
  pub numeral_digit : (n : ℕ) → n < b → numeral b n ≡ (48 + n) ∷ []
  unfolding numeral
  numeral_digit zero h = refl
  numeral_digit (suc n) h =
      ap (map (λ d. 48 + d)) (digits_of_step b (suc n) two (omega arith) ∙ ap (λ q. digits_of b q ++ (suc n % b ∷ [])) (div-eq_of_lt h))
      ∙ ap (λ d. (48 + d) ∷ []) (mod-eq_of_lt h)

  -- the last digit
  pub numeral-step : (n : ℕ) → b ≤ n → numeral b n ≡ numeral b (n / b) ++ ((48 + n % b) ∷ [])
  numeral-step n h =
      let p : 0 < n = omega arith in
      let q : 0 < n / b = le-div 1 n b (omega arith) (omega arith) in
      digits_positive n p ∙ ap (map (λ d. 48 + d)) (digits_of_step b n two p) ∙ map_push (λ d. 48 + d) (digits_of b (n / b)) (n % b)
      ∙ ap (λ ds. ds ++ ((48 + n % b) ∷ [])) (sym (digits_positive (n / b) q))

  -- what holds of the digits, and is kept by one more, holds of every numeral
  pub numeral_by_steps : (P : ℕ → List ℕ → Type 0) → ((n : ℕ) → n < b → P n ((48 + n) ∷ [])) → ((n : ℕ) (ds : List ℕ) → b ≤ n → P (n / b) ds → P n (ds ++ ((48 + n % b) ∷ [])))
      → (n : ℕ) → P n (numeral b n)
  numeral_by_steps P one more n = go (suc n) n (omega arith)
    where
      go : (k n : ℕ) → n < k → P n (numeral b n)
      go zero n h = absurd (omega arith)
      go (suc k) n h =
          ⊎_elim (λ l. subst (P n) (sym (numeral_digit n l)) (one n l))
          (λ l. let q : n / b < n = div-lt_self (omega arith) (omega arith) in subst (P n) (sym (numeral-step n l)) (more n (numeral b (n / b)) l (go k (n / b) (omega arith))))
          (cases_lt n b)

  -- a number and one more digit
  pub numeral_push : (n d : ℕ) → 0 < n → d < b → numeral b (n * b + d) ≡ numeral b n ++ ((48 + d) ∷ [])
  numeral_push n d p h =
      let l : b ≤ n * b + d = let e = mul-le-mul_right b p in omega (arith, one-mul b, e) in
      numeral-step (n * b + d) l ∙ ap₂ (λ (q r : ℕ). numeral b q ++ ((48 + r) ∷ [])) (div-mul-add n b d h) (mod-mul-add n b d h)

  read_digits-more : (n c : ℕ) (cs : List ℕ) (m : ℕ) → read_digits b n (c ∷ cs) ≡ Some m → (48 ≤ c) × (c < 48 + b) × (read_digits b (n * b + (c - 48)) cs ≡ Some m)
  unfolding read_digits
  read_digits-more n c cs m e =
      let t = some_from_cond (is_digit b c && nat_lt (n * b + (c - 48)) (2 ^ 64)) (read_digits b (n * b + (c - 48)) cs) m e in
      let p = and_parts (is_digit b c) (nat_lt (n * b + (c - 48)) (2 ^ 64)) t.0 in
      let q = and_parts (nat_le 48 c) (nat_lt c (48 + b)) p.0 in
      (leb-true 48 c q.0, ltb-true c (48 + b) q.1, t.1)

  numeral_of_read_on : (n : ℕ) (cs : List ℕ) (m : ℕ) → 0 < n → read_digits b n cs ≡ Some m → numeral b m ≡ numeral b n ++ cs
  unfolding read_digits
  numeral_of_read_on n [] m p e = let q : n ≡ m = cc in ap (numeral b) (sym q) ∙ sym (append-nil (numeral b n))
  numeral_of_read_on n (c ∷ cs) m p e =
      let t = read_digits-more n c cs m e in
      let l : 0 < n * b + (c - 48) = let k = mul-le-mul_right b p in omega (arith, one-mul b, k) in
      let d : 48 + (c - 48) ≡ c = omega arith in
      numeral_of_read_on (n * b + (c - 48)) cs m l t.2
      ∙ ap (λ ds. ds ++ cs) (numeral_push n (c - 48) p (omega arith))
      ∙ append_assoc (numeral b n) ((48 + (c - 48)) ∷ []) cs
      ∙ ap (λ x. numeral b n ++ (x ∷ cs)) d

  -- what is read is the numeral of the answer
  pub numeral_of_read : (cs : List ℕ) (m : ℕ) → read_numeral b cs ≡ Some m → numeral b m ≡ cs
  unfolding read_digits
  numeral_of_read [] m e = let z : ◌≡◌ {A = ℕ} 0 1 = cc in absurd (omega arith)
  numeral_of_read (c ∷ []) m e =
      let t = read_digits-more 0 c [] m e in
      let q : 0 * b + (c - 48) ≡ m = let u = t.2 in cc in
      let d : 48 + m ≡ c = omega (arith, zero-mul b) in
      numeral_digit m (omega (arith, zero-mul b)) ∙ ap (λ x. x ∷ []) d
  numeral_of_read (c ∷ d ∷ cs) m e =
      let u = some_from_cond (lean (c ∷ d ∷ cs)) (read_digits b 0 (c ∷ d ∷ cs)) m e in
      let t = read_digits-more 0 c (d ∷ cs) m u.1 in
      let z : 0 * b + (c - 48) ≡ c - 48 = omega (arith, zero-mul b) in
      let r : read_digits b (c - 48) (d ∷ cs) ≡ Some m = rw z at t.2 in
      let f : nat_eq (suc (suc (length cs))) 1 ≡ false = ne_eqb (suc (suc (length cs))) 1 (λ x. omega arith) in
      let l : 48 < c = ltb-true 48 c (rw f at u.0) in
      numeral_of_read_on (c - 48) (d ∷ cs) m (omega arith) r
      ∙ ap (λ ds. ds ++ (d ∷ cs)) (numeral_digit (c - 48) (omega arith))
      ∙ ap (λ x. x ∷ d ∷ cs) (omega arith)

  digits-below : (n : ℕ) (cs : List ℕ) (m : ℕ) → n < 2 ^ 64 → read_digits b n cs ≡ Some m → m < 2 ^ 64
  unfolding read_digits
  digits-below n [] m h e = let q : n ≡ m = cc in omega arith
  digits-below n (c ∷ cs) m h e =
      let u = some_from_cond (is_digit b c && nat_lt (n * b + (c - 48)) (2 ^ 64)) (read_digits b (n * b + (c - 48)) cs) m e in
      let p = and_parts (is_digit b c) (nat_lt (n * b + (c - 48)) (2 ^ 64)) u.0 in
      digits-below (n * b + (c - 48)) cs m (ltb-true (n * b + (c - 48)) (2 ^ 64) p.1) u.1

  -- what is read has 64 bits
  pub read_below : (cs : List ℕ) (m : ℕ) → read_numeral b cs ≡ Some m → m < 2 ^ 64
  read_below cs m e = digits-below 0 cs m (omega arith) (some_from_cond (lean cs) (read_digits b 0 cs) m e).1

  read_digits_push : (n : ℕ) (ds : List ℕ) (m c : ℕ) → read_digits b n ds ≡ Some m → is_digit b c ≡ true → m * b + (c - 48) < 2 ^ 64
      → read_digits b n (ds ++ (c ∷ [])) ≡ Some (m * b + (c - 48))
  unfolding read_digits
  read_digits_push n [] m c e t l =
      let q : n ≡ m = cc in rw (q, t, lt-ltb (m * b + (c - 48)) (2 ^ 64) l)
  read_digits_push n (x ∷ ds) m c e t l =
      let u = some_from_cond (is_digit b x && nat_lt (n * b + (x - 48)) (2 ^ 64)) (read_digits b (n * b + (x - 48)) ds) m e in
      rw u.0 (read_digits_push (n * b + (x - 48)) ds m c u.1 t l)

  is_digit_of : (d : ℕ) → d < b → is_digit b (48 + d) ≡ true
  is_digit_of d h = and_from (nat_le 48 (48 + d)) (nat_lt (48 + d) (48 + b)) (le-leb 48 (48 + d) (omega arith)) (lt-ltb (48 + d) (48 + b) (omega arith))

  -- what the numeral ds of n is like
  record Good (n : ℕ) (ds : List ℕ) : Type 0 where
    pub back : n < 2 ^ 64 → read_digits b 0 ds ≡ Some n
    pub some : 0 < length ds
    pub first : 0 < n → 48 < slice_index ds 0
    pub figure : 48 ≤ slice_index ds 0

  good_digit : (n : ℕ) → n < b → Good n ((48 + n) ∷ [])
  unfolding read_digits
  good_digit n h = record {
    back = λ l.
        let e : 0 * b + (48 + n - 48) ≡ n = omega (arith, zero-mul b) in
        rw (is_digit_of n h, e, lt-ltb n (2 ^ 64) l);
    some = omega arith;
    first = λ p. omega arith;
    figure = omega arith;
  }

  good_more : (n : ℕ) (ds : List ℕ) → b ≤ n → Good (n / b) ds → Good n (ds ++ ((48 + n % b) ∷ []))
  good_more n ds h g =
      let small : n / b < n = div-lt_self (omega arith) (omega arith) in
      let low : n % b < b = mod-lt n (omega arith) in
      let e : n / b * b + (48 + n % b - 48) ≡ n = omega (arith, div-add-mod' n b) in
      record {
        back = λ l. read_digits_push 0 ds (n / b) (48 + n % b) (g.back (omega arith)) (is_digit_of (n % b) low) (omega arith) ∙ ap Some e;
        some = simp length-append (omega (arith, g.some));
        first = λ p.
            rw (get_or_append_left ds ((48 + n % b) ∷ []) 0 0 g.some)
            (g.first (le-div 1 n b (omega arith) (omega (arith, one-mul b))));
        figure = rw (get_or_append_left ds ((48 + n % b) ∷ []) 0 0 g.some) g.figure;
      }

  good : (n : ℕ) → Good n (numeral b n)
  good = numeral_by_steps Good good_digit good_more

  lean-numeral : (n : ℕ) → lean (numeral b n) ≡ true
  unfolding numeral
  lean-numeral zero = refl
  lean-numeral (suc n) = or_right (length (numeral b (suc n)) == 1) (nat_lt 48 (slice_index (numeral b (suc n)) 0)) (lt-ltb 48 (slice_index (numeral b (suc n)) 0) ((good (suc n)).first (omega arith)))

  -- a numeral is read back
  pub read_of_numeral : (n : ℕ) → n < 2 ^ 64 → read_numeral b (numeral b n) ≡ Some n
  read_of_numeral n h = rw (lean-numeral n) ((good n).back h)

  pub numeral_some : (n : ℕ) → 0 < length (numeral b n)
  numeral_some n = (good n).some

  -- it begins with a digit
  pub numeral-figure : (n : ℕ) → 48 ≤ slice_index (numeral b n) 0
  numeral-figure n = (good n).figure

  pub numeral-length : (k n : ℕ) → 0 < k → n < b ^ k → length (numeral b n) ≤ k
  unfolding numeral
  numeral-length k zero p h = p
  numeral-length k (suc n) p h = rw (length-map (digits_of b (suc n)) (λ d. 48 + d)) (length-digits_of-le b k (suc n) two h)

  nonzero_push : (ds : List ℕ) (c : ℕ) → 0 < c → c < 256 → Nonzero ds → Nonzero (ds ++ (c ∷ []))
  nonzero_push [] c p h t = (p, h, tt)
  nonzero_push (x ∷ ds) c p h t = (t.0, t.1, nonzero_push ds c p h t.2)

  pub numeral_nonzero : b ≤ 10 → (n : ℕ) → Nonzero (numeral b n)
  numeral_nonzero ten = numeral_by_steps (λ n ds. Nonzero ds) (λ n h. (omega arith, omega arith, tt))
      (λ n ds h t. let low : n % b < b = mod-lt n (omega arith) in nonzero_push ds (48 + n % b) (omega arith) (omega arith) t)
