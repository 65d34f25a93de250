-- The value of a free sum f at a function φ of words, the sum of a · φ(w) over the terms a · w of f: what it is of each operation.
use mathlib.Core.Path.{◌≡◌, refl, sym, ap, ap₂, ◌∙◌}
use mathlib.Core.Logic.{inl, inr}
use mathlib.Core.List.{[], ◌∷◌, ◌++◌}
use Rattle.theory.specs.Ring.{CommutativeRing}
use Rattle.theory.specs.FreeSum.{Word, place, Term, FreeSum, Occurs, single, scale, negate, around, bind, times_term, times}
unfoldable pub use Rattle.theory.specs.FreeSum.{eval}
use Rattle.theory.proofs.RingLaws as ring

module _ {R : CommutativeRing} where
  -- what eval makes of each operation
  pub eval-append : (f g : FreeSum R) (φ : Word → R.carrier) → eval (f ++ g) φ ≡ R.add (eval f φ) (eval g φ)
  unfolding eval
  eval-append [] g φ = sym (ring.zero-add R (eval g φ))
  eval-append (e ∷ f) g φ = ap (R.add (R.mul e.coef (φ e.word))) (eval-append f g φ) ∙ sym (ring.add_assoc R _ _ _)

  pub eval-scale : (r : R.carrier) (f : FreeSum R) (φ : Word → R.carrier) → eval (scale r f) φ ≡ R.mul r (eval f φ)
  unfolding eval scale
  eval-scale r [] φ = sym (ring.mul-zero R r)
  eval-scale r (e ∷ f) φ = ap₂ R.add (ring.mul_assoc R _ _ _) (eval-scale r f φ) ∙ sym (ring.mul-add R _ _ _)

  pub eval-negate : (f : FreeSum R) (φ : Word → R.carrier) → eval (negate f) φ ≡ R.neg (eval f φ)
  unfolding eval negate
  eval-negate [] φ = sym (ring.neg-zero R)
  eval-negate (e ∷ f) φ = ap₂ R.add (ring.neg-mul R _ _) (eval-negate f φ) ∙ sym (ring.neg-add R _ _)

  pub eval-around : (u : Word) (f : FreeSum R) (v : Word) (φ : Word → R.carrier) → eval (around u f v) φ ≡ eval f (λ x. φ (place u x v))
  unfolding eval around
  eval-around u [] v φ = refl
  eval-around u (e ∷ f) v φ = ap (R.add (R.mul e.coef (φ (place u e.word v)))) (eval-around u f v φ)

  pub eval-bind : (f : FreeSum R) (k : Word → FreeSum R) (φ : Word → R.carrier) → eval (bind f k) φ ≡ eval f (λ x. eval (k x) φ)
  unfolding eval bind
  eval-bind [] k φ = refl
  eval-bind (e ∷ f) k φ = eval-append (scale e.coef (k e.word)) (bind f k) φ ∙ ap₂ R.add (eval-scale e.coef (k e.word) φ) (eval-bind f k φ)

  eval-times_term : (e : Term R) (g : FreeSum R) (φ : Word → R.carrier) → eval (times_term e g) φ ≡ R.mul e.coef (eval g (λ y. φ (e.word ++ y)))
  unfolding eval times_term
  eval-times_term e [] φ = sym (ring.mul-zero R e.coef)
  eval-times_term e (d ∷ g) φ = ap₂ R.add (ring.mul_assoc R _ _ _) (eval-times_term e g φ) ∙ sym (ring.mul-add R _ _ _)

  pub eval-times : (f g : FreeSum R) (φ : Word → R.carrier) → eval (times f g) φ ≡ eval f (λ x. eval g (λ y. φ (x ++ y)))
  unfolding eval times
  eval-times [] g φ = refl
  eval-times (e ∷ f) g φ = eval-append (times_term e g) (times f g) φ ∙ ap₂ R.add (eval-times_term e g φ) (eval-times f g φ)

  -- and of each operation on φ
  pub eval_cong : (f : FreeSum R) (φ ψ : Word → R.carrier) → ((x : Word) → Occurs x f → φ x ≡ ψ x) → eval f φ ≡ eval f ψ
  unfolding eval
  eval_cong [] φ ψ h = refl
  eval_cong (e ∷ f) φ ψ h = ap₂ R.add (ap (R.mul e.coef) (h e.word (inl refl))) (eval_cong f φ ψ (λ x o. h x (inr o)))

  pub eval-zero : (f : FreeSum R) → eval f (λ x. R.zero) ≡ R.zero
  unfolding eval
  eval-zero [] = refl
  eval-zero (e ∷ f) = ap₂ R.add (ring.mul-zero R e.coef) (eval-zero f) ∙ ring.add-zero R R.zero

  pub eval_add : (f : FreeSum R) (φ ψ : Word → R.carrier) → eval f (λ x. R.add (φ x) (ψ x)) ≡ R.add (eval f φ) (eval f ψ)
  unfolding eval
  eval_add [] φ ψ = sym (ring.add-zero R R.zero)
  eval_add (e ∷ f) φ ψ = ap₂ R.add (ring.mul-add R _ _ _) (eval_add f φ ψ) ∙ ring.add_swap R _ _ _ _

  pub eval_mul : (f : FreeSum R) (r : R.carrier) (φ : Word → R.carrier) → eval f (λ x. R.mul r (φ x)) ≡ R.mul r (eval f φ)
  unfolding eval
  eval_mul [] r φ = sym (ring.mul-zero R r)
  eval_mul (e ∷ f) r φ = ap₂ R.add (ring.mul_left R _ _ _) (eval_mul f r φ) ∙ sym (ring.mul-add R _ _ _)

  -- two sums change places
  pub eval-exchange : (f g : FreeSum R) (φ : Word → Word → R.carrier) → eval f (λ x. eval g (λ y. φ x y)) ≡ eval g (λ y. eval f (λ x. φ x y))
  unfolding eval
  eval-exchange [] g φ = sym (eval-zero g)
  eval-exchange (e ∷ f) g φ =
      ap (R.add (R.mul e.coef (eval g (φ e.word)))) (eval-exchange f g φ)
      ∙ sym (eval_add g (λ y. R.mul e.coef (φ e.word y)) (λ y. eval f (λ x. φ x y)) ∙ ap (λ z. R.add z (eval g (λ y. eval f (λ x. φ x y)))) (eval_mul g e.coef (φ e.word)))

pub eval-nil : (R : CommutativeRing) (φ : Word → R.carrier) → eval {R = R} [] φ ≡ R.zero
unfolding eval
eval-nil R φ = refl

pub eval-single : (R : CommutativeRing) (w : Word) (φ : Word → R.carrier) → eval (single {R = R} w) φ ≡ φ w
unfolding eval single
eval-single R w φ = ring.add-zero R _ ∙ ring.one-mul R (φ w)
