-- One digit more in front of what is spelled, at the end of a row of zeros.
use Rattle.std.proofs.Common.{◌≡◌, ℕ, zero, suc, ◌+◌, ◌-◌, ◌*◌, ◌/◌, ◌%◌, ◌^◌, ◌<◌, ◌≤◌, List, [], ◌∷◌, ◌++◌, length, take, drop, set, replicate, sym, refl, ap, ◌∙◌, ap₂, append_assoc, mul-le-mul_left, pow-suc, arith}
use Rattle.std.proofs.lemmas.Nat.{div_below}
use Rattle.std.proofs.lemmas.List.{take-set, drop-set, set_split, take-take, take_at, take-append-le, take-replicate, drop_at, length-append, length-replicate}
use Rattle.coefficients.specs.Coding.{filled}
use Rattle.coefficients.specs.Numerals.{numeral}
use Rattle.coefficients.specs.NumeralLaws.{numeral_digit, numeral-step}

-- while digits are left, there are places left
pub places-left : (b rest at : ℕ) → 2 ≤ b → b ≤ rest → 16 ≤ at → rest < 2 ^ (at - 16) → 17 ≤ at
places-left b rest at two more low h = go (at - 16) refl h
  where
    go : (k : ℕ) → at - 16 ≡ k → rest < 2 ^ k → 17 ≤ at
    go zero e l = absurd (omega arith)
    go (suc k) e l = omega arith

pub rest-falls : (b rest at : ℕ) → 2 ≤ b → 17 ≤ at → rest < 2 ^ (at - 16) → rest / b < 2 ^ (at - 1 - 16)
rest-falls b rest at two low h =
    let e : 2 ^ (at - 16) ≡ 2 ^ (at - 1 - 16) * 2 = ap (λ k. 2 ^ k) (omega arith) ∙ pow-suc 2 (at - 1 - 16) in
    let m : 2 ^ (at - 1 - 16) * 2 ≤ 2 ^ (at - 1 - 16) * b = mul-le-mul_left (2 ^ (at - 1 - 16)) two in
    div_below rest b (2 ^ (at - 1 - 16)) (omega arith) (omega arith)

pub zeros-left : (out : List ℕ) (at x : ℕ) → take at out ≡ replicate at 0 → take (at - 1) (set out (at - 1) x) ≡ replicate (at - 1) 0
zeros-left out at x z =
    take-set out (at - 1) x ∙ sym (take-take (at - 1) at out (omega arith)) ∙ ap (take (at - 1)) z ∙ take-replicate (at - 1) at 0 (omega arith)

module _ (b : ℕ) (two : 2 ≤ b) where
  pub digit_more : (out : List ℕ) (at rest : ℕ) (text : List ℕ) → 1 ≤ at → at ≤ length out → b ≤ rest → numeral b rest ++ drop at out ≡ text
      → numeral b (rest / b) ++ drop (at - 1) (set out (at - 1) (48 + rest % b)) ≡ text
  digit_more out at rest text p l h e =
      ap (λ ds. numeral b (rest / b) ++ ds) (drop-set out (at - 1) (48 + rest % b) (omega arith))
      ∙ ap (λ k. numeral b (rest / b) ++ ((48 + rest % b) ∷ drop k out)) (omega arith)
      ∙ sym (append_assoc (numeral b (rest / b)) ((48 + rest % b) ∷ []) (drop at out))
      ∙ ap (λ ds. ds ++ drop at out) (sym (numeral-step b two rest h))
      ∙ e

  pub last_digit : (out : List ℕ) (at rest : ℕ) (text : List ℕ) → 1 ≤ at → at ≤ length out → rest < b → take at out ≡ replicate at 0
      → numeral b rest ++ drop at out ≡ text → set out (at - 1) (48 + rest) ≡ replicate (at - 1) 0 ++ text
  last_digit out at rest text p l h z e =
      set_split out (at - 1) (48 + rest) (omega arith)
      ∙ ap₂ (λ (xs ys : List ℕ). xs ++ ys) (sym (take-set out (at - 1) (48 + rest)) ∙ zeros-left out at (48 + rest) z)
      (ap (λ k. (48 + rest) ∷ drop k out) here ∙ ap (λ ds. ds ++ drop at out) (sym (numeral_digit b two rest h)) ∙ e)
    where
      here : suc (at - 1) ≡ at
      here = omega arith

-- a sign in front
pub sign-more : (out : List ℕ) (r x : ℕ) (text : List ℕ) → 1 ≤ r → out ≡ replicate r 0 ++ text → set out (r - 1) x ≡ replicate (r - 1) 0 ++ (x ∷ text)
sign-more out r x text p e =
    let l : r - 1 < length out = rw e (simp (length-append, length-replicate) (omega arith)) in
    set_split out (r - 1) x l
    ∙ ap₂ (λ (xs ys : List ℕ). xs ++ (x ∷ ys))
    (ap (take (r - 1)) e ∙ take-append-le (r - 1) (replicate r 0) text (simp length-replicate (omega arith)) ∙ take-replicate (r - 1) r 0 (omega arith))
    (ap₂ drop here e ∙ drop_at (replicate r 0) text r (length-replicate r 0))
  where
    here : suc (r - 1) ≡ r
    here = omega arith

-- the text moved to the front
pub to_front : (out : List ℕ) (r : ℕ) (text : List ℕ) → length out ≡ 80 → out ≡ replicate r 0 ++ text → (drop r out ++ take r out ≡ filled text) × (80 - r ≡ length text)
to_front out r text l e =
    let k : r + length text ≡ 80 = let h : length (replicate r 0 ++ text) ≡ 80 = ap length (sym e) ∙ l in omega (arith, length-append (replicate r 0) text, length-replicate {A = ℕ} r 0) in
    let d : r ≡ 80 - length text = omega arith in (
      ap₂ (λ (xs ys : List ℕ). xs ++ ys) (ap (drop r) e ∙ drop_at (replicate r 0) text r (length-replicate r 0)) (ap (take r) e ∙ take_at (replicate r 0) text r (length-replicate r 0))
          ∙ ap (λ n. text ++ replicate n 0) d,
      omega arith,
    )
