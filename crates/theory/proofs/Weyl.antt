-- Weyl algebras resolve: their tails are scalars, so that the non-degeneracy condition is zero.
use mathlib.Core.Path.{◌≡◌, sym, ap, subst, ◌∙◌}
use mathlib.Core.Bool.{Bool, true, false, cond}
use mathlib.Core.List.{[], ◌∷◌}
use mathlib.Core.WellFounded.{WellFounded}
use Prim.Native.Nat.{ℕ, ◌+◌}
use native.Mathlib.Omega.{arith}
use lib.Dec.{eqb}
use Rattle.theory.specs.Ring.{CommutativeRing}
use Rattle.theory.specs.FreeSum.{Word, place, Occurs, single}
use Rattle.theory.specs.Relations.{Pair, nondegeneracy}
use Rattle.theory.specs.Rewriting.{Below}
use Rattle.theory.specs.NormalForm.{Resolves}
use Rattle.theory.specs.Examples.{weyl, WeylResolves}
use Rattle.theory.proofs.RingLaws as ring
use Rattle.theory.proofs.Eval.{eval, eval-nil, eval_cong}
use Rattle.theory.proofs.Equality.{≈-of-eval}
use Rattle.theory.proofs.Occurs.{occurs-single}
use Rattle.theory.proofs.NormalForm.{NF_≈, NF_of_standard}
use Rattle.theory.proofs.Basis.{basis_of_resolves}
use Rattle.theory.proofs.Overlaps.{eval-nondegeneracy, overlap-nondegeneracy}
use Rattle.theory.proofs.Degree.{Short, short_ends, short-over}

module _ (R : CommutativeRing) (m : ℕ) where
  scalar : (b : Bool) (t : Word) → Occurs t (cond b (single {R = R} []) []) → t ≡ []
  scalar true t o = occurs-single R t [] o
  scalar false t o = absurd o

  weyl-short : (j i : ℕ) → Pair (m + m) j i → (t : Word) → Occurs t ((weyl R m).tail j i) → Short (m + m) t
  weyl-short j i p t o = subst (Short (m + m)) (sym (scalar (eqb j (m + i)) t o)) (record { short = omega arith; over = tt })

  weyl_ends : WellFounded (Below (weyl R m))
  weyl_ends = short_ends (weyl R m) weyl-short

  module _ (φ : Word → R.carrier) where
    -- a letter may stand on either side of a scalar
    moves : (j i x : ℕ) → eval ((weyl R m).tail j i) (λ w. φ (place (x ∷ []) w [])) ≡ eval ((weyl R m).tail j i) (λ w. φ (place [] w (x ∷ [])))
    unfolding place
    moves j i x =
        eval_cong ((weyl R m).tail j i) (λ w. φ (place (x ∷ []) w [])) (λ w. φ (place [] w (x ∷ [])))
        (λ t o. ap (λ w. φ (place (x ∷ []) w [])) (scalar (eqb j (m + i)) t o) ∙ sym (ap (λ w. φ (place [] w (x ∷ []))) (scalar (eqb j (m + i)) t o)))

    cancels : (p q r p' q' r' : R.carrier) → p' ≡ p → q' ≡ q → r' ≡ r
        → R.add (R.mul (R.mul R.one R.one) p) (R.add (R.neg p') (R.add (R.mul R.one q') (R.add (R.neg (R.mul R.one q)) (R.add r (R.neg (R.mul (R.mul R.one R.one) r')))))) ≡ R.zero
    cancels p q r p' q' r' a b c =
        (λ z. R.add (R.mul (R.mul R.one R.one) p) (R.add (R.neg (a z)) (R.add (R.mul R.one (b z)) (R.add (R.neg (R.mul R.one q)) (R.add r (R.neg (R.mul (R.mul R.one R.one) (c z))))))))
        ∙ simp (ring.one-mul R, ring.add-neg-left R, ring.add-neg R)

    weyl_condition : (i j k : ℕ) → eval (nondegeneracy (weyl R m) i j k) φ ≡ eval {R = R} [] φ
    weyl_condition i j k = eval-nondegeneracy (weyl R m) i j k φ ∙ cancels _ _ _ _ _ _ (moves j i k) (moves k i j) (moves k j i) ∙ sym (eval-nil R φ)

  weyl-overlaps : Resolves (weyl R m) weyl_ends
  weyl-overlaps i j k t w =
      overlap-nondegeneracy (weyl R m) weyl_ends i j k t w
      ∙ NF_≈ (weyl R m) weyl_ends (nondegeneracy (weyl R m) i j k) [] (≈-of-eval (nondegeneracy (weyl R m) i j k) [] (λ φ. weyl_condition φ i j k)) w
      ∙ NF_of_standard (weyl R m) weyl_ends [] (λ t o. absurd o) w

pub weyl-resolves : {R : CommutativeRing} → WeylResolves R
weyl-resolves {R} m = record {
  ends = weyl_ends R m;
  resolves = weyl-overlaps R m;
  basis = basis_of_resolves (weyl R m) (weyl_ends R m) (short-over (weyl R m) (weyl-short R m)) (weyl-overlaps R m);
}
