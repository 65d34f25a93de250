-- Examples over any ring: Weyl algebras, and the relations of sl2 with one tail free to be wrong.
use Rattle.std.specs.Prelude.{cond, [], ◌∷◌, ℕ, ◌+◌, eqb}
use mathlib.Core.WellFounded.{WellFounded}
use Rattle.theory.specs.Ring.{CommutativeRing}
use Rattle.theory.specs.FreeSum.{FreeSum, ◌≈◌, single, scale, negate}
use Rattle.theory.specs.Relations.{Relations, overlap}
use Rattle.theory.specs.Basis.{Basis}
use Rattle.theory.specs.Rewriting.{Below}
use Rattle.theory.specs.NormalForm.{NF, Resolves}

-- the letter x
abbrev pub generator : {R : CommutativeRing} → ℕ → FreeSum R
generator x = single (x ∷ [])

-- 2m generators: x_(m+i) x_i = x_i x_(m+i) + 1, and all other pairs commute
abbrev pub weyl : (R : CommutativeRing) → ℕ → Relations R
weyl R m = record { n = m + m; factor = λ j i. R.one; tail = λ j i. cond (eqb j (m + i)) (single []) [] }

-- x2 x1 = x1 x2 − x3, x3 x1 = x1 x3 + 2 x1, x3 x2 = x2 x3 − c x2: the relations of sl2 where c is 2
abbrev pub two : (R : CommutativeRing) → R.carrier
two R = R.add R.one R.one

abbrev pub sl2 : (R : CommutativeRing) → R.carrier → Relations R
sl2 R c = record {
  n = 3;
  factor = λ j i. R.one;
  tail = λ j i. cond (eqb j 2) (negate (generator 3)) (cond (eqb i 1) (scale (two R) (generator 1)) (negate (scale c (generator 2))));
}

-- rewriting ends and the overlaps vanish, so that the standard words are a basis
pub record Agreeing {R : CommutativeRing} (P : Relations R) : Type 0 where
  pub ends : WellFounded (Below P)
  pub resolves : Resolves P ends
  pub basis : Basis P

abbrev pub WeylResolves : CommutativeRing → Type 0
WeylResolves R = (m : ℕ) → Agreeing (weyl R m)

abbrev pub Sl2Resolves : CommutativeRing → Type 0
Sl2Resolves R = Agreeing (sl2 R (two R))

-- with c = 1, half of what it should be, the overlap of x1, x2 and x3 is − x3
abbrev pub halved : (R : CommutativeRing) → Relations R
halved R = sl2 R R.one

pub record HalvedSl2 (R : CommutativeRing) : Type 0 where
  pub ends : WellFounded (Below (halved R))
  pub overlap_is : NF (halved R) ends (overlap (halved R) 1 2 3) ≈ negate (generator 3)
  pub not_resolves : ¬ Resolves (halved R) ends
  pub not_basis : ¬ Basis (halved R)
