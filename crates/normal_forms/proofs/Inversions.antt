-- The leftmost inversion of a word, as the run finds it and as the theory does.
use Rattle.std.proofs.Common.{◌≡◌, ℕ, zero, suc, ◌+◌, ◌<◌, true, leb, List, [], ◌∷◌, ◌++◌, length, get_or, take, drop, Some, None, refl, ap, ◌∙◌, subst, ap₂, arith}
use Rattle.std.proofs.lemmas.Bool.{and_parts, leb-true}
use Rattle.theory.specs.FreeSum.{place}
use Rattle.theory.specs.Words.{Rising, Standard, Inversion}
use Rattle.words.specs.Inversions.{rises, standard, leftmost_inversion}
use Rattle.words.proofs.Rising.{standard-words}

rises_rising : (x : ℕ) (w : List ℕ) → rises x w ≡ true → Rising x w
rises_rising x [] h = tt
rises_rising x (y ∷ w) h = let p = and_parts (leb x y) (rises y w) h in (leb-true x y p.0, rises_rising y w p.1)

is_standard : (w : List ℕ) → standard w ≡ true → Standard w
is_standard [] h = tt
is_standard (x ∷ w) h = rises_rising x w h

pub standard_of_none : (w : List ℕ) → leftmost_inversion w ≡ None → Standard w
standard_of_none w h = is_standard w ((standard-words.no_place w).1 h)

split-two : (w : List ℕ) (k : ℕ) → suc k < length w → w ≡ take k w ++ (get_or w k 0 ∷ get_or w (suc k) 0 ∷ drop (suc (suc k)) w)
split-two [] k h = absurd (omega arith)
split-two (x ∷ []) zero h = absurd (omega arith)
split-two (x ∷ y ∷ w) zero h = refl
split-two (x ∷ w) (suc k) h = ap (λ v. x ∷ v) (split-two w k (omega arith))

take-one : (w : List ℕ) (k : ℕ) → k < length w → take (suc k) w ≡ take k w ++ (get_or w k 0 ∷ [])
take-one [] k h = absurd (omega arith)
take-one (x ∷ w) zero h = refl
take-one (x ∷ w) (suc k) h = ap (λ v. x ∷ v) (take-one w k (omega arith))

-- the letters at k and k + 1 are the leftmost inversion of w
pub record FallsAt (w : List ℕ) (k : ℕ) : Type 0 where
  pub split : w ≡ place (take k w) (get_or w k 0 ∷ get_or w (k + 1) 0 ∷ []) (drop (k + 2) w)
  pub falls : get_or w (k + 1) 0 < get_or w k 0
  pub first : Standard (take k w ++ (get_or w k 0 ∷ []))

pub falls_at : (w : List ℕ) (k : ℕ) → leftmost_inversion w ≡ Some k → FallsAt w k
unfolding place
falls_at w k h =
    let p = standard-words.place w k h in
    let l = p.0 in
    let a : suc k ≡ k + 1 = omega arith in
    let b : suc (suc k) ≡ k + 2 = omega arith in
    record {
      split = split-two w k l ∙ ap₂ (λ q r. take k w ++ (get_or w k 0 ∷ get_or w q 0 ∷ drop r w)) a b;
      falls = subst (λ q. get_or w q 0 < get_or w k 0) a p.1;
      first = subst Standard (take-one w k (omega arith)) (is_standard (take (suc k) w) p.2);
    }

abbrev pub inversion_at : (w : List ℕ) (k : ℕ) → FallsAt w k → Inversion w
inversion_at w k d = record { before = take k w; j = get_or w k 0; i = get_or w (k + 1) 0; after = drop (k + 2) w; split = d.split; falls = d.falls }
