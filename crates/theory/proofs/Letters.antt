-- The free sums in the letters 1 to n are closed under the operations.
use mathlib.Core.Path.{refl, sym, subst}
use mathlib.Core.Logic.{inl, inr}
use mathlib.Core.List.{[], ◌∷◌, ◌++◌}
use Prim.Native.Nat.{ℕ}
use Rattle.theory.specs.Ring.{CommutativeRing}
use Rattle.theory.specs.FreeSum.{Term, FreeSum, scale, negate, times_term, times}
use Rattle.theory.specs.Words.{Over, OverSum}
use Rattle.theory.proofs.Occurs.{occurs-append, occurs-scale, occurs-negate}
use Rattle.theory.proofs.Words.{over_join}

module _ {R : CommutativeRing} (n : ℕ) where
  pub append-over : (f g : FreeSum R) → OverSum n f → OverSum n g → OverSum n (f ++ g)
  append-over f g a b t o = elim (occurs-append f g t o) [ inl h ↦ a t h | inr h ↦ b t h ]

  pub scale-over : (r : R.carrier) (f : FreeSum R) → OverSum n f → OverSum n (scale r f)
  scale-over r f a t o = a t (occurs-scale r f t o)

  pub negate-over : (f : FreeSum R) → OverSum n f → OverSum n (negate f)
  negate-over f a t o = a t (occurs-negate f t o)

  times_term-over : (e : Term R) (g : FreeSum R) → Over n e.word → OverSum n g → OverSum n (times_term e g)
  unfolding times_term
  times_term-over e [] a b t o = absurd o
  times_term-over e (d ∷ g) a b t (inl p) = subst (Over n) (sym p) (over_join n e.word d.word a (b d.word (inl refl)))
  times_term-over e (d ∷ g) a b t (inr o) = times_term-over e g a (λ t h. b t (inr h)) t o

  pub times-over : (f g : FreeSum R) → OverSum n f → OverSum n g → OverSum n (times f g)
  unfolding times
  times-over [] g a b = λ t o. absurd o
  times-over (e ∷ f) g a b = append-over (times_term e g) (times f g) (times_term-over e g (a e.word (inl refl)) b) (times-over f g (λ t h. a t (inr h)) b)
