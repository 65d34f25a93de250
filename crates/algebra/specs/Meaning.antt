-- What verdicts and the terms of calculations mean.
use Rattle.std.specs.Prelude.{ℕ, ◌↔◌, List, ◌++◌, take, Ok, Err, Result}
use Rattle.theory.specs.FreeSum.{FreeSum, ◌≈◌, negate, times}
use Rattle.theory.specs.Basis.{Basis, StandardForm}
use Rattle.coefficients.specs.Coding.{Coding}
use Rattle.words.specs.declared.term.Term.{Term}
use Rattle.run.specs.declared.calls.Calculation.{Calculation}
use Rattle.run.specs.declared.calls.Calculation.TheVariants.{Normalise, Sum, Difference, Product}
use Rattle.run.specs.declared.relation.Relation.{Relation}
use Rattle.normal_forms.specs.Terms.{sum_of}
use Rattle.normal_forms.specs.Relations.{relations_of}
use Rattle.algebra.specs.declared.fault.AlgebraFault.{AlgebraFault}
use Rattle.algebra.specs.declared.fault.DecideFault.{DecideFault}
use Rattle.algebra.specs.declared.verdict.Verdict.{Verdict}
use Rattle.algebra.specs.Verdicts.{IsSound, IsDegenerate, IsDecided}

-- the free sum that a calculation is of
abbrev pub free_sum : (m : Coding) → Calculation → FreeSum m.ring
free_sum m (Normalise list) = sum_of m list.now
free_sum m (Sum first second) = sum_of m first.now ++ sum_of m second.now
free_sum m (Difference first second) = sum_of m first.now ++ negate (sum_of m second.now)
free_sum m (Product first second) = times (sum_of m first.now) (sum_of m second.now)

module _ (m : Coding) (n : ℕ) (table : List Relation) where
  -- once decided, an algebra is sound exactly where its standard words are a basis, and degenerate exactly where they are not
  pub record TellsTruth (v : Verdict) : Type 0 where
    pub sound_is_basis : IsDecided v → IsSound v ↔ Basis (relations_of m n table)
    pub degenerate_is_not : IsDecided v → IsDegenerate v ↔ (¬ Basis (relations_of m n table))

  -- an answered decision is a verdict that tells the truth
  abbrev pub Decided : Result Verdict DecideFault → Type 0
  Decided (Ok v) = IsDecided v × TellsTruth v
  Decided (Err e) = Unit {0}

  -- the terms are a combination of standard words congruent to f, and the only one where these are a basis
  pub record TheForm (f : FreeSum m.ring) (ts : List Term) : Type 0 where
    pub form : StandardForm (relations_of m n table) f (sum_of m ts)
    pub only : Basis (relations_of m n table) → (g : FreeSum m.ring) → StandardForm (relations_of m n table) f g → g ≈ sum_of m ts

  -- so are the terms that an answered calculation leaves in the result memory
  abbrev pub Formed : FreeSum m.ring → List Term → Result (ℕ × ℕ) AlgebraFault → Type 0
  Formed f out (Ok p) = TheForm f (take p.0 out)
  Formed f out (Err e) = Unit {0}
