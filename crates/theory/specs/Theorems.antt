-- What is proved of these definitions, over any ring. Where normal forms are spoken of, `ends` says that rewriting of words ends.
use Rattle.std.specs.Prelude.{◌↔◌, ◌++◌, ℕ, suc}
use mathlib.Core.WellFounded.{WellFounded}
use Rattle.theory.specs.Ring.{CommutativeRing}
use Rattle.theory.specs.FreeSum.{Word, FreeSum, ◌≈◌, single, scale, negate, times}
use Rattle.theory.specs.Words.{Over, Inversion, First, OverSum, AllStandard}
use Rattle.theory.specs.Relations.{Relations, Triple, TailsOver, overlap, nondegeneracy}
use Rattle.theory.specs.Congruence.{Congruent}
use Rattle.theory.specs.Basis.{Basis}
use Rattle.theory.specs.Rewriting.{Ended, replaced, Below, Rewriting, Standardised, Active}
use Rattle.theory.specs.NormalForm.{NF, Resolves}
use Rattle.theory.specs.Keys.{Keys, TailsFall}

-- NORMAL FORMS

-- rewriting of words ends under every order by keys in which the tail words come before x_i x_j
abbrev pub EndsByKeys : CommutativeRing → Type 0
EndsByKeys R = (P : Relations R) (K : Keys) → TailsFall P K → WellFounded (Below P)

pub record NormalForms {R : CommutativeRing} (P : Relations R) (ends : WellFounded (Below P)) : Type 0 where
  -- a word is rewritten at its leftmost inversion; standard words stay
  pub leftmost : (w : Word) (r : Inversion w) → First w r → NF P ends (single w) ≈ NF P ends (replaced P r)
  pub stay : (s : FreeSum R) → AllStandard s → NF P ends s ≈ s
  pub standard : (f : FreeSum R) → AllStandard (NF P ends f)
  -- normal forms are linear
  pub equal : (f g : FreeSum R) → f ≈ g → NF P ends f ≈ NF P ends g
  pub sum : (f g : FreeSum R) → NF P ends (f ++ g) ≈ NF P ends f ++ NF P ends g
  pub negative : (f : FreeSum R) → NF P ends (negate f) ≈ negate (NF P ends f)
  pub scaled : (r : R.carrier) (f : FreeSum R) → NF P ends (scale r f) ≈ scale r (NF P ends f)
  -- a sum is congruent to its normal form, which is in the same letters
  pub over : (f : FreeSum R) → OverSum P.n f → OverSum P.n (NF P ends f)
  pub congruent : (f : FreeSum R) → OverSum P.n f → Congruent P f (NF P ends f)

abbrev pub SumsHaveNormalForms : CommutativeRing → Type 0
SumsHaveNormalForms R = (P : Relations R) (ends : WellFounded (Below P)) → TailsOver P → NormalForms P ends

-- THE DIAMOND LEMMA

pub record Diamond {R : CommutativeRing} (P : Relations R) (ends : WellFounded (Below P)) : Type 0 where
  -- the normal form of a word can be had by rewriting it at any inversion
  pub any_inversion : (w : Word) → Over P.n w → (r : Inversion w) → NF P ends (single w) ≈ NF P ends (replaced P r)
  -- congruent sums have equal normal forms
  pub congruent_equal : (f g : FreeSum R) → Congruent P f g → NF P ends f ≈ NF P ends g

abbrev pub DiamondLemma : CommutativeRing → Type 0
DiamondLemma R = (P : Relations R) (ends : WellFounded (Below P)) → TailsOver P → Resolves P ends → Diamond P ends

-- the standard words are a basis exactly when the normal form of each overlap is zero
abbrev pub BasisIffResolves : CommutativeRing → Type 0
BasisIffResolves R = (P : Relations R) (ends : WellFounded (Below P)) → TailsOver P → Basis P ↔ Resolves P ends

-- the normal form of an overlap is that of the non-degeneracy condition
abbrev pub OverlapIsNondegeneracy : CommutativeRing → Type 0
OverlapIsNondegeneracy R = (P : Relations R) (ends : WellFounded (Below P)) (i j k : ℕ) → Triple P.n i j k
    → NF P ends (overlap P i j k) ≈ NF P ends (nondegeneracy P i j k)

-- REWRITING

-- it stays in one class of the quotient
abbrev pub RewritingIsCongruent : CommutativeRing → Type 0
RewritingIsCongruent R = (P : Relations R) (f g : FreeSum R) → Rewriting P f g → Congruent P f g

-- where the overlaps vanish, it ends at the normal form, whatever its steps
abbrev pub RewritingEndsAtNormalForm : CommutativeRing → Type 0
RewritingEndsAtNormalForm R = (P : Relations R) (ends : WellFounded (Below P)) → TailsOver P → Resolves P ends
    → (f g : FreeSum R) → Rewriting P f g → Ended g → g ≈ NF P ends f

-- one by whole steps ends
abbrev pub RewritingExists : CommutativeRing → Type 0
RewritingExists R = (P : Relations R) (ends : WellFounded (Below P)) → TailsOver P → (f : FreeSum R) → OverSum P.n f → Standardised P f

-- and none goes on for ever by whole steps at words whose coefficient is not zero
pub record Terminates {R : CommutativeRing} (P : Relations R) : Type 0 where
  pub well_founded : WellFounded (Active P)
  pub no_sequence : (s : ℕ → FreeSum R) → ¬ ((k : ℕ) → Active P (s (suc k)) (s k))

abbrev pub NoEndlessRewriting : CommutativeRing → Type 0
NoEndlessRewriting R = (P : Relations R) → WellFounded (Below P) → Terminates P

-- THE QUOTIENT

pub record QuotientOperations {R : CommutativeRing} (P : Relations R) : Type 0 where
  -- congruence is an equivalence, and the operations respect it
  pub equal : (f g : FreeSum R) → f ≈ g → Congruent P f g
  pub symmetric : (f g : FreeSum R) → Congruent P f g → Congruent P g f
  pub transitive : (f g h : FreeSum R) → Congruent P f g → Congruent P g h → Congruent P f h
  pub sum : (f f' g g' : FreeSum R) → Congruent P f f' → Congruent P g g' → Congruent P (f ++ g) (f' ++ g')
  pub negative : (f f' : FreeSum R) → Congruent P f f' → Congruent P (negate f) (negate f')
  pub scaled : (r : R.carrier) (f f' : FreeSum R) → Congruent P f f' → Congruent P (scale r f) (scale r f')
  pub product : (f f' g g' : FreeSum R) → OverSum P.n f' → OverSum P.n g → Congruent P f f' → Congruent P g g' → Congruent P (times f g) (times f' g')
  -- the free sums in the letters 1 to n are closed under the operations
  pub over_sum : (f g : FreeSum R) → OverSum P.n f → OverSum P.n g → OverSum P.n (f ++ g)
  pub over_negative : (f : FreeSum R) → OverSum P.n f → OverSum P.n (negate f)
  pub over_scaled : (r : R.carrier) (f : FreeSum R) → OverSum P.n f → OverSum P.n (scale r f)
  pub over_product : (f g : FreeSum R) → OverSum P.n f → OverSum P.n g → OverSum P.n (times f g)

abbrev pub OperationsRespectCongruence : CommutativeRing → Type 0
OperationsRespectCongruence R = (P : Relations R) → QuotientOperations P
