-- Normal forms: a word is rewritten at its leftmost inversion until it is standard. That this ends is the hypothesis `ends`.
use Rattle.std.specs.Prelude.{refl, ◌⊎◌, [], ◌∷◌, ◌++◌, ℕ}
use Rattle.std.proofs.Common.{inl, inr}
use mathlib.Core.WellFounded.{WellFounded, fix}
use Rattle.theory.specs.Ring.{CommutativeRing}
use Rattle.theory.specs.FreeSum.{Word, place, FreeSum, Occurs, ◌≈◌, single, scale, bind}
use Rattle.theory.specs.Words.{Standard, Leftmost, leftmost}
use Rattle.theory.specs.Relations.{Relations, Triple, rhs, overlap}
use Rattle.theory.specs.Rewriting.{Below, below_one}

module _ {R : CommutativeRing} where
  -- `bind`, of a function that is told that its word occurs
  unfoldable pub bind_in : (f : FreeSum R) → ((t : Word) → Occurs t f → FreeSum R) → FreeSum R
  bind_in [] k = []
  bind_in (e ∷ f) k = scale e.coef (k e.word (inl refl)) ++ bind_in f (λ t o. k t (inr o))

module _ {R : CommutativeRing} (P : Relations R) where
  unfoldable pub nf_at : (w : Word) → Standard w ⊎ Leftmost w → ((y : Word) → Below P y w → FreeSum R) → FreeSum R
  nf_at w (inl s) smaller = single w
  nf_at w (inr l) smaller =
      let r = l.inversion in
      bind_in (rhs P r.j r.i) (λ t o. smaller (place r.before t r.after) (below_one (record { inversion = r; part = t; occurs = o; made = refl })))

  module _ (ends : WellFounded (Below P)) where
    unfoldable pub nf : Word → FreeSum R
    nf = fix ends (λ w smaller. nf_at w (leftmost w) smaller)

    unfoldable pub NF : FreeSum R → FreeSum R
    NF f = bind f nf

    -- the normal form of each overlap is zero
    abbrev pub Resolves : Type 0
    Resolves = (i j k : ℕ) → Triple P.n i j k → NF (overlap P i j k) ≈ []
