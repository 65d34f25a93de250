-- No rewriting goes on for ever by whole steps at words whose coefficient is not zero: each lowers the list of words that may have one.
use mathlib.Core.Path.{◌≡◌, refl, sym, ap, ap₂, subst, ◌∙◌}
use mathlib.Core.Logic.{◌⊎◌, inl, inr}
use mathlib.Core.List.{List, [], ◌∷◌, ◌++◌}
use mathlib.Core.WellFounded.{Acc, WellFounded}
use Prim.Native.Nat.{ℕ, suc}
use Rattle.theory.specs.Ring.{CommutativeRing}
use Rattle.theory.specs.FreeSum.{Word, word_eq, FreeSum, Occurs, when, coeff}
use Rattle.theory.specs.Words.{Inversion}
use Rattle.theory.specs.Relations.{Relations}
use Rattle.theory.specs.Rewriting.{replaced, Below, below_one, rewritten, Active}
use Rattle.theory.proofs.RingLaws as ring
use Rattle.theory.proofs.Lists.{Listed, listed?, listed-append, listed-left, listed-right, without, listed_without, without_listed}
use Rattle.theory.proofs.Equality.{indicator, indicator-same, indicator_other, coeff-eval, words, occurs-words, words_occur}
use Rattle.theory.proofs.NormalForm.{eval-replaced, occurs-replaced}
use Rattle.theory.proofs.Lowered.{Lowered, lowered_ends}
use Rattle.theory.proofs.Rewriting.{eval-rewritten}

-- a word that does not occur has the coefficient 0
coeff_absent : {R : CommutativeRing} (t : Word) (f : FreeSum R) → ¬ Occurs t f → coeff f t ≡ R.zero
unfolding coeff
coeff_absent t [] n = refl
coeff_absent {R} t (e ∷ f) n = ap₂ R.add (go (word_eq e.word t)) (coeff_absent t f (λ o. n (inr o))) ∙ ring.add-zero R R.zero
  where
    go : (d : Dec (e.word ≡ t)) → when R d e.coef ≡ R.zero
    go (yes p) = absurd (n (inl (sym p)))
    go (no _) = refl

module _ {R : CommutativeRing} (P : Relations R) where
  -- no word but those of ws has a coefficient
  abbrev Supports : List Word → FreeSum R → Type 0
  Supports ws f = (t : Word) → ¬ Listed t ws → coeff f t ≡ R.zero

  supports_words : (f : FreeSum R) → Supports (words f) f
  supports_words f t n = coeff_absent t f (λ o. n (occurs-words f t o))

  coeff-rewritten : (f : FreeSum R) (a : R.carrier) {w : Word} (r : Inversion w) (t : Word)
      → coeff (rewritten P f a r) t ≡ R.add (coeff f t) (R.add (R.neg (R.mul a (indicator R t w))) (R.mul a (coeff (replaced P r) t)))
  coeff-rewritten f a {w} r t =
      coeff-eval (rewritten P f a r) t ∙ eval-rewritten P f a r (indicator R t)
      ∙ ap₂ (λ x y. R.add x (R.add (R.neg (R.mul a (indicator R t w))) (R.mul a y))) (sym (coeff-eval f t)) (sym (coeff-eval (replaced P r) t ∙ eval-replaced P r (indicator R t)))

  -- after a whole step at w, the words that may have a coefficient are others than w, and what w comes to
  module _ {f g : FreeSum R} (s : Active P g f) (ws : List Word) (supports : Supports ws f) where
    w : Word
    w = s.step.word

    a : R.carrier
    a = s.step.taken

    after : List Word
    after = without w ws ++ words (replaced P s.step.inversion)

    after_lowered : Lowered P after ws
    unfolding after w
    after_lowered = record { word = w; listed = here (listed? w ws); each = λ t l. each t (listed-append t (without w ws) (words (replaced P s.step.inversion)) l) }
      where
        here : Dec (Listed w ws) → Listed w ws
        here (yes l) = l
        here (no n) = absurd (s.present (supports w n))

        each : (t : Word) → Listed t (without w ws) ⊎ Listed t (words (replaced P s.step.inversion)) → (Listed t ws × ¬ (t ≡ w)) ⊎ Below P t w
        each t (inl l) = inl (listed_without w t ws l)
        each t (inr l) = inr (below_one (occurs-replaced P s.step.inversion t (words_occur (replaced P s.step.inversion) t l)))

    after_supports : Supports after g
    unfolding after w a
    after_supports t n =
        s.step.becomes t
        ∙ coeff-rewritten f a s.step.inversion t
        ∙ ap (λ x. R.add (coeff f t) (R.add (R.neg (R.mul a (indicator R t w))) (R.mul a x))) (coeff_absent t new (λ o. n (listed-right t (without w ws) (words new) (occurs-words new t o))))
        ∙ go (word_eq w t)
      where
        new : FreeSum R
        new = replaced P s.step.inversion

        go : Dec (w ≡ t) → R.add (coeff f t) (R.add (R.neg (R.mul a (indicator R t w))) (R.mul a R.zero)) ≡ R.zero
        go (yes e) =
            ap₂ (λ x y. R.add x (R.add (R.neg (R.mul a y)) (R.mul a R.zero))) (sym (s.whole ∙ ap (coeff f) e)) (indicator-same R t w e)
            ∙ ap₂ (λ x y. R.add a (R.add (R.neg x) y)) (ring.mul-one R a) (ring.mul-zero R a)
            ∙ ap (R.add a) (ring.add-zero R (R.neg a)) ∙ ring.add-neg R a
        go (no m) =
            let gone : ¬ Listed t ws = λ l. n (listed-left t (without w ws) (words new) (without_listed w t ws (λ p. m (sym p)) l)) in
            ap₂ (λ x y. R.add x (R.add (R.neg (R.mul a y)) (R.mul a R.zero))) (supports t gone) (indicator_other R t w m)
            ∙ ap (λ x. R.add R.zero (R.add (R.neg x) x)) (ring.mul-zero R a)
            ∙ ring.zero-add R _ ∙ ring.neg-add_self R R.zero

  active_acc : {ws : List Word} → Acc (Lowered P) ws → (f : FreeSum R) → Supports ws f → Acc (Active P) f
  active_acc (Acc.intro ws h) f supports = Acc.intro f (λ g s. active_acc (h (after s ws supports) (after_lowered s ws supports)) g (after_supports s ws supports))

  pub active_ends : WellFounded (Below P) → WellFounded (Active P)
  active_ends ends = record { apply = λ f. active_acc (lowered_ends P ends (words f)) f (supports_words f) }

  -- so there is no endless sequence
  never : {f : FreeSum R} → Acc (Active P) f → (s : ℕ → FreeSum R) → ((k : ℕ) → Active P (s (suc k)) (s k)) → f ≡ s 0 → ⊥
  never (Acc.intro f h) s steps e = never (h (s 1) (subst (Active P (s 1)) (sym e) (steps 0))) (λ k. s (suc k)) (λ k. steps (suc k)) refl

  pub no_endless : WellFounded (Below P) → (s : ℕ → FreeSum R) → ¬ ((k : ℕ) → Active P (s (suc k)) (s k))
  no_endless ends s steps = never ((active_ends ends).apply (s 0)) s steps refl
