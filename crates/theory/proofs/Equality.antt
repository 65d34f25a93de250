-- Free sums are equal exactly when their values are, at every function of words. So an equation of free sums is one of ring elements.
use mathlib.Core.Path.{◌≡◌, refl, sym, ap, ap₂, ◌∙◌}
use mathlib.Core.Logic.{◌⊎◌, inl, inr}
use mathlib.Core.List.{List, [], ◌∷◌, ◌++◌}
use Rattle.theory.specs.Ring.{CommutativeRing}
use Rattle.theory.specs.FreeSum.{Word, word_eq, Term, FreeSum, when, Occurs, coeff, ◌≈◌, negate, eval}
use Rattle.theory.proofs.RingLaws as ring
use Rattle.theory.proofs.Eval.{eval-append, eval-negate}
use Rattle.theory.proofs.Lists.{Listed}

-- the word w, as a function of words: 1 at w and 0 elsewhere
unfoldable pub indicator : (R : CommutativeRing) → Word → Word → R.carrier
indicator R w x = when R (word_eq x w) R.one

pub indicator-same : (R : CommutativeRing) (w x : Word) → x ≡ w → indicator R w x ≡ R.one
unfolding indicator
indicator-same R w x e = go (word_eq x w)
  where
    go : (d : Dec (x ≡ w)) → when R d R.one ≡ R.one
    go (yes _) = refl
    go (no n) = absurd (n e)

pub indicator_other : (R : CommutativeRing) (w x : Word) → ¬ (x ≡ w) → indicator R w x ≡ R.zero
unfolding indicator
indicator_other R w x n = go (word_eq x w)
  where
    go : (d : Dec (x ≡ w)) → when R d R.one ≡ R.zero
    go (yes e) = absurd (n e)
    go (no _) = refl

module _ {R : CommutativeRing} where
  -- a collected coefficient is a value of eval
  pub coeff-eval : (f : FreeSum R) (w : Word) → coeff f w ≡ eval f (indicator R w)
  unfolding eval coeff indicator
  coeff-eval [] w = refl
  coeff-eval (e ∷ f) w = ap₂ R.add (go (word_eq e.word w)) (coeff-eval f w)
    where
      go : (d : Dec (e.word ≡ w)) → when R d e.coef ≡ R.mul e.coef (when R d R.one)
      go (yes p) = sym (ring.mul-one R e.coef)
      go (no n) = sym (ring.mul-zero R e.coef)

  -- so two sums whose values agree at every function are equal
  pub ≈-of-eval : (f g : FreeSum R) → ((φ : Word → R.carrier) → eval f φ ≡ eval g φ) → f ≈ g
  ≈-of-eval f g h w = coeff-eval f w ∙ h (indicator R w) ∙ sym (coeff-eval g w)

  -- the terms of f other than those at w
  abbrev pub unless : {A : Type 0} → Dec A → Term R → FreeSum R → FreeSum R
  unless (yes p) e f = f
  unless (no n) e f = e ∷ f

  unfoldable pub remove : Word → FreeSum R → FreeSum R
  remove w [] = []
  remove w (e ∷ f) = unless (word_eq e.word w) e (remove w f)

  -- f is its terms at w and the others
  pub eval-remove : (w : Word) (f : FreeSum R) (φ : Word → R.carrier) → eval f φ ≡ R.add (R.mul (coeff f w) (φ w)) (eval (remove w f) φ)
  unfolding eval remove coeff
  eval-remove w [] φ = sym (ap (λ x. R.add x R.zero) (ring.zero-mul R (φ w)) ∙ ring.add-zero R R.zero)
  eval-remove w (e ∷ f) φ = ap (R.add (R.mul e.coef (φ e.word))) (eval-remove w f φ) ∙ go (word_eq e.word w)
    where
      a : R.carrier
      a = R.mul (coeff f w) (φ w)

      b : R.carrier
      b = eval (remove w f) φ

      go : (d : Dec (e.word ≡ w))
          → R.add (R.mul e.coef (φ e.word)) (R.add a b) ≡ R.add (R.mul (R.add (when R d e.coef) (coeff f w)) (φ w)) (eval (unless d e (remove w f)) φ)
      go (yes p) = sym (ring.add_assoc R _ _ _) ∙ ap (λ x. R.add x b) (ap (λ x. R.add (R.mul e.coef (φ x)) a) p ∙ sym (ring.add-mul R _ _ _))
      go (no n) = ring.add_left R _ _ _ ∙ ap (λ x. R.add (R.mul x (φ w)) (R.add (R.mul e.coef (φ e.word)) b)) (sym (ring.zero-add R (coeff f w)))

  pub occurs-remove : (w : Word) (f : FreeSum R) (t : Word) → Occurs t (remove w f) → Occurs t f × ¬ (t ≡ w)
  unfolding remove
  occurs-remove w [] t o = absurd o
  occurs-remove w (e ∷ f) t o = go (occurs-remove w f t) (word_eq e.word w) o
    where
      rest : (Occurs t (remove w f) → Occurs t f × ¬ (t ≡ w)) → Occurs t (remove w f) → Occurs t (e ∷ f) × ¬ (t ≡ w)
      rest ih o = (inr (ih o).0, (ih o).1)

      go : (Occurs t (remove w f) → Occurs t f × ¬ (t ≡ w)) → (d : Dec (e.word ≡ w)) → Occurs t (unless d e (remove w f)) → Occurs t (e ∷ f) × ¬ (t ≡ w)
      go ih (yes p) o = rest ih o
      go ih (no n) (inl q) = (inl q, λ r. n (sym q ∙ r))
      go ih (no n) (inr o) = rest ih o

module _ {R : CommutativeRing} where
  unfoldable pub words : FreeSum R → List Word
  words [] = []
  words (e ∷ f) = e.word ∷ words f

  pub occurs-words : (f : FreeSum R) (t : Word) → Occurs t f → Listed t (words f)
  unfolding words
  occurs-words [] t o = o
  occurs-words (e ∷ f) t (inl p) = inl p
  occurs-words (e ∷ f) t (inr o) = inr (occurs-words f t o)

  pub words_occur : (f : FreeSum R) (t : Word) → Listed t (words f) → Occurs t f
  unfolding words
  words_occur [] t l = l
  words_occur (e ∷ f) t (inl p) = inl p
  words_occur (e ∷ f) t (inr l) = inr (words_occur f t l)

  -- a sum without terms
  eval_none : (f : FreeSum R) → ((t : Word) → Occurs t f → ⊥) → (φ : Word → R.carrier) → eval f φ ≡ R.zero
  unfolding eval
  eval_none [] h φ = refl
  eval_none (e ∷ f) h φ = absurd (h e.word (inl refl))

  -- where the coefficient at w is 0, its terms may go
  remove-zero : (w : Word) (f : FreeSum R) → coeff f w ≡ R.zero → (φ : Word → R.carrier) → eval f φ ≡ eval (remove w f) φ
  remove-zero w f z φ = eval-remove w f φ ∙ ap (λ x. R.add (R.mul x (φ w)) (eval (remove w f) φ)) z ∙ ap (λ x. R.add x (eval (remove w f) φ)) (ring.zero-mul R (φ w)) ∙ ring.zero-add R _

  -- a sum whose collected coefficients are all 0 has the value 0: word after word of a list that has them all is removed
  vanish : (ws : List Word) (f : FreeSum R) → ((t : Word) → Occurs t f → Listed t ws) → ((w : Word) → coeff f w ≡ R.zero) → (φ : Word → R.carrier) → eval f φ ≡ R.zero
  vanish [] f h z φ = eval_none f h φ
  vanish (x ∷ ws) f h z φ = remove-zero x f (z x) φ ∙ vanish ws (remove x f) (λ t o. others t (occurs-remove x f t o)) (λ w. still w) φ
    where
      others : (t : Word) → Occurs t f × ¬ (t ≡ x) → Listed t ws
      others t o = pick (h t o.0)
        where
          pick : (t ≡ x) ⊎ Listed t ws → Listed t ws
          pick (inl p) = absurd (o.1 p)
          pick (inr l) = l

      still : (w : Word) → coeff (remove x f) w ≡ R.zero
      still w = coeff-eval (remove x f) w ∙ sym (remove-zero x f (z x) (indicator R w)) ∙ sym (coeff-eval f w) ∙ z w

  -- equal sums have equal values at every function of words
  pub eval_≈ : (f g : FreeSum R) → f ≈ g → (φ : Word → R.carrier) → eval f φ ≡ eval g φ
  eval_≈ f g h φ = ring.eq_of_sub R (eval f φ) (eval g φ) (sym (apart φ) ∙ vanish (words d) d (occurs-words d) none φ)
    where
      d : FreeSum R
      d = f ++ negate g

      apart : (ψ : Word → R.carrier) → eval d ψ ≡ R.add (eval f ψ) (R.neg (eval g ψ))
      apart ψ = eval-append f (negate g) ψ ∙ ap (R.add (eval f ψ)) (eval-negate g ψ)

      none : (w : Word) → coeff d w ≡ R.zero
      none w =
          coeff-eval d w ∙ apart (indicator R w)
          ∙ ap₂ (λ x y. R.add x (R.neg y)) (sym (coeff-eval f w)) (sym (coeff-eval g w))
          ∙ ap (λ x. R.add x (R.neg (coeff g w))) (h w) ∙ ring.add-neg R (coeff g w)
