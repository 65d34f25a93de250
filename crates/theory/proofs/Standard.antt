-- The standard words of a sum: a sum whose other words have the coefficient zero is equal to a sum of standard words.
use mathlib.Core.Path.{◌≡◌, refl, sym, ap, subst, ◌∙◌}
use mathlib.Core.Logic.{◌⊎◌, inl, inr}
use mathlib.Core.List.{[], ◌∷◌}
use Rattle.theory.specs.Ring.{CommutativeRing}
use Rattle.theory.specs.FreeSum.{Word, word_eq, Term, FreeSum, Occurs, when, coeff, ◌≈◌}
use Rattle.theory.specs.Words.{Standard, Leftmost, leftmost, AllStandard}
use Rattle.theory.specs.Rewriting.{Ended}
use Rattle.theory.proofs.RingLaws as ring
use Rattle.theory.proofs.Words.{standard-no_inversion}

-- a term at another word adds nothing
other_word : (R : CommutativeRing) (x w : Word) (a : R.carrier) → ¬ (x ≡ w) → (d : Dec (x ≡ w)) (c : R.carrier) → R.add (when R d a) c ≡ c
other_word R x w a n (yes p) c = absurd (n p)
other_word R x w a n (no _) c = ring.zero-add R c

module _ {R : CommutativeRing} where
  keep_if : (e : Term R) → Standard e.word ⊎ Leftmost e.word → FreeSum R → FreeSum R
  keep_if e (inl s) f = e ∷ f
  keep_if e (inr l) f = f

  pub only-standard : FreeSum R → FreeSum R
  only-standard [] = []
  only-standard (e ∷ f) = keep_if e (leftmost e.word) (only-standard f)

  pub only-standard-standard : (f : FreeSum R) → AllStandard (only-standard f)
  unfolding only-standard keep_if
  only-standard-standard [] t o = absurd o
  only-standard-standard (e ∷ f) t o = go (only-standard-standard f) (leftmost e.word) o
    where
      go : AllStandard (only-standard f) → (d : Standard e.word ⊎ Leftmost e.word) → Occurs t (keep_if e d (only-standard f)) → Standard t
      go rest (inl s) (inl p) = subst Standard (sym p) s
      go rest (inl s) (inr o) = rest t o
      go rest (inr l) o = rest t o

  -- a standard word keeps its coefficient
  coeff-only-standard : (f : FreeSum R) (w : Word) → Standard w → coeff f w ≡ coeff (only-standard f) w
  unfolding only-standard keep_if coeff
  coeff-only-standard [] w s = refl
  coeff-only-standard (e ∷ f) w s = go (coeff-only-standard f w s) (leftmost e.word)
    where
      go : coeff f w ≡ coeff (only-standard f) w → (d : Standard e.word ⊎ Leftmost e.word)
          → R.add (when R (word_eq e.word w) e.coef) (coeff f w) ≡ coeff (keep_if e d (only-standard f)) w
      go h (inl _) = ap (R.add (when R (word_eq e.word w) e.coef)) h
      go h (inr l) = other_word R e.word w e.coef (λ p. standard-no_inversion e.word (subst Standard (sym p) s) l.inversion) (word_eq e.word w) (coeff f w) ∙ h

  pub standard-ended : (f : FreeSum R) → AllStandard f → Ended f
  unfolding coeff
  standard-ended [] a w n = refl
  standard-ended (e ∷ f) a w n =
      other_word R e.word w e.coef (λ p. n (subst Standard p (a e.word (inl refl)))) (word_eq e.word w) (coeff f w) ∙ standard-ended f (λ t o. a t (inr o)) w n

  pub ended-only-standard : (f : FreeSum R) → Ended f → f ≈ only-standard f
  ended-only-standard f h w = go (leftmost w)
    where
      go : Standard w ⊎ Leftmost w → coeff f w ≡ coeff (only-standard f) w
      go (inl s) = coeff-only-standard f w s
      go (inr l) =
          let n : ¬ Standard w = λ s. standard-no_inversion w s l.inversion in
          h w n ∙ sym (standard-ended (only-standard f) (only-standard-standard f) w n)
