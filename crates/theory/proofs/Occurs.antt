-- The words that occur in a sum that is made of others.
use mathlib.Core.Path.{◌≡◌, refl}
use mathlib.Core.Logic.{◌⊎◌, inl, inr}
use mathlib.Core.List.{[], ◌∷◌, ◌++◌}
use Rattle.theory.specs.Ring.{CommutativeRing}
use Rattle.theory.specs.FreeSum.{Word, place, FreeSum, Occurs, single, scale, negate, around, bind}

module _ {R : CommutativeRing} where
  pub occurs-append : (f g : FreeSum R) (t : Word) → Occurs t (f ++ g) → Occurs t f ⊎ Occurs t g
  occurs-append [] g t o = inr o
  occurs-append (e ∷ f) g t (inl p) = inl (inl p)
  occurs-append (e ∷ f) g t (inr o) = go (occurs-append f g t o)
    where
      go : Occurs t f ⊎ Occurs t g → Occurs t (e ∷ f) ⊎ Occurs t g
      go (inl a) = inl (inr a)
      go (inr b) = inr b

  pub occurs-scale : (r : R.carrier) (f : FreeSum R) (t : Word) → Occurs t (scale r f) → Occurs t f
  unfolding scale
  occurs-scale r [] t o = o
  occurs-scale r (e ∷ f) t (inl p) = inl p
  occurs-scale r (e ∷ f) t (inr o) = inr (occurs-scale r f t o)

  pub occurs-negate : (f : FreeSum R) (t : Word) → Occurs t (negate f) → Occurs t f
  unfolding negate
  occurs-negate [] t o = o
  occurs-negate (e ∷ f) t (inl p) = inl p
  occurs-negate (e ∷ f) t (inr o) = inr (occurs-negate f t o)

  pub occurs-around : (u : Word) (f : FreeSum R) (v : Word) (t : Word) → Occurs t (around u f v) → (x : Word) × Occurs x f × (t ≡ place u x v)
  unfolding around
  occurs-around u [] v t o = absurd o
  occurs-around u (e ∷ f) v t (inl p) = (e.word, inl refl, p)
  occurs-around u (e ∷ f) v t (inr o) = let h = occurs-around u f v t o in (h.0, inr h.1, h.2)

  pub occurs-bind : (f : FreeSum R) (k : Word → FreeSum R) (t : Word) → Occurs t (bind f k) → (x : Word) × Occurs x f × Occurs t (k x)
  unfolding bind
  occurs-bind [] k t o = absurd o
  occurs-bind (e ∷ f) k t o = go (occurs-bind f k t) (occurs-append (scale e.coef (k e.word)) (bind f k) t o)
    where
      go : (Occurs t (bind f k) → (x : Word) × Occurs x f × Occurs t (k x)) → Occurs t (scale e.coef (k e.word)) ⊎ Occurs t (bind f k)
          → (x : Word) × Occurs x (e ∷ f) × Occurs t (k x)
      go rest (inl a) = (e.word, inl refl, occurs-scale e.coef (k e.word) t a)
      go rest (inr b) = let h = rest b in (h.0, inr h.1, h.2)

pub occurs-single : (R : CommutativeRing) (t w : Word) → Occurs t (single {R = R} w) → t ≡ w
unfolding single
occurs-single R t w (inl p) = p
occurs-single R t w (inr o) = absurd o
