-- What is proved of insertions, steps and whole calculations, over any ring and any order, whether or not the relations agree.
use Rattle.std.specs.Prelude.{◌≡◌, ℕ, ◌↔◌, List, [], ◌∷◌, ◌++◌, take, Ok}
use Rattle.theory.specs.FreeSum.{FreeSum, ◌≈◌, negate, times}
use Rattle.theory.specs.Words.{OverSum, AllStandard}
use Rattle.theory.specs.Relations.{TailsOver}
use Rattle.theory.specs.Basis.{StandardForm}
use Rattle.theory.specs.NormalForm.{NF}
use Rattle.coefficients.specs.Coding.{Coding}
use Rattle.orders.specs.Models.{OrderModel}
use Rattle.words.specs.declared.term.Term.{Term}
use Rattle.kept.specs.Kept.{insert}
use Rattle.kept.specs.Falling.{Above}
use Rattle.run.specs.declared.relation.Relation.{Relation}
use Rattle.run.specs.Entries.{Entry}
use Rattle.run.specs.Step.{State, Outcome, step_of}
use Rattle.run.specs.Calls.{Memory, calculate, Answered, first_entries, second_entries, negated_entries, product_entries}
use Rattle.normal_forms.specs.Terms.{Among, sum_of, IsTerm, AreTerms, KeptTerms}
use Rattle.normal_forms.specs.Relations.{relations_of, Ends, Valid}
use Rattle.normal_forms.specs.Entries.{StandFor}

-- KEPT LISTS

-- an insertion adds its term to the free sum, and keeps the list kept
pub record Added (m : Coding) (o : OrderModel) (n : ℕ) (t : Term) (xs ys : List Term) : Type 0 where
  pub kept : KeptTerms m o n ys
  pub adds : sum_of m ys ≈ sum_of m xs ++ sum_of m (t ∷ [])

abbrev pub InsertionAdds : Coding → OrderModel → Type 0
InsertionAdds m o = (n room : ℕ) (t : Term) (xs ys : List Term) → IsTerm m n t → KeptTerms m o n xs → insert m o room t xs ≡ Ok ys → Added m o n t xs ys

-- kept lists that make equal free sums are equal, term by term
abbrev pub KeptListsEqual : Coding → OrderModel → Type 0
KeptListsEqual m o = (n : ℕ) (xs ys : List Term) → KeptTerms m o n xs → KeptTerms m o n ys → sum_of m xs ≈ sum_of m ys → xs ≡ ys

-- so one that makes zero is empty
abbrev pub KeptListEmpty : Coding → OrderModel → Type 0
KeptListEmpty m o = (n : ℕ) (xs : List Term) → KeptTerms m o n xs → sum_of m xs ≈ [] → xs ≡ []

-- RELATIONS

-- the tails of a valid table are in the letters 1 to n
abbrev pub ValidTailsOver : Coding → OrderModel → Type 0
ValidTailsOver m o = (n : ℕ) (table : List Relation) → Valid m o n table → TailsOver (relations_of m n table)

-- rewriting by its relations ends; what follows holds of normal forms whatever the proof that it does
abbrev pub ValidEnds : Coding → OrderModel → Type 0
ValidEnds m o = (n : ℕ) (table : List Relation) → Valid m o n table → Ends m n table

-- RUNS

-- a run between two steps: both lists are kept, the words of the result are standard, and each is greater than those at work
pub record Running (m : Coding) (o : OrderModel) (n : ℕ) (work done : List Term) : Type 0 where
  pub work_kept : KeptTerms m o n work
  pub done_kept : KeptTerms m o n done
  pub standard : AllStandard (sum_of m done)
  pub above : (z : Term) → Among z done → Above o z work

module _ (m : Coding) (o : OrderModel) (n : ℕ) (table : List Relation) (ends : Ends m n table) where
  abbrev pub form_of : FreeSum m.ring → FreeSum m.ring
  form_of f = NF (relations_of m n table) ends f

  -- the normal form of result and work together stays
  pub record StepKeeps (x : Term) (xs done : List Term) (s : State) : Type 0 where
    pub running : Running m o n s.work s.done
    pub same : form_of (sum_of m s.done ++ sum_of m s.work) ≈ form_of (sum_of m done ++ sum_of m (x ∷ xs))

  -- the terms are kept and standard, and make the normal form of f
  pub record IsNormalForm (f : FreeSum m.ring) (ts : List Term) : Type 0 where
    pub kept : KeptTerms m o n ts
    pub standard : AllStandard (sum_of m ts)
    pub normal_form : sum_of m ts ≈ form_of f

  -- each calculation answers the normal form of its list, of the sum, the difference or the product of its two
  pub record CallsAnswer (mem : Memory) : Type 0 where
    pub normalised : (p : ℕ) (ts : List Term) (r : Outcome) → AreTerms m n ts
        → calculate m o table mem (first_entries p ts) ≡ Ok r → IsNormalForm (sum_of m ts) r.terms
    pub added : (p q : ℕ) (ts us : List Term) (r : Outcome) → AreTerms m n ts → AreTerms m n us
        → calculate m o table mem (first_entries p ts ++ second_entries q us) ≡ Ok r → IsNormalForm (sum_of m ts ++ sum_of m us) r.terms
    pub subtracted : (p q : ℕ) (ts us : List Term) (r : Outcome) → AreTerms m n ts → AreTerms m n us
        → calculate m o table mem (first_entries p ts ++ negated_entries m q us) ≡ Ok r → IsNormalForm (sum_of m ts ++ negate (sum_of m us)) r.terms
    pub multiplied : (p : ℕ) (ts us : List Term) (r : Outcome) → AreTerms m n ts → AreTerms m n us
        → calculate m o table mem (product_entries m p ts us) ≡ Ok r → IsNormalForm (times (sum_of m ts) (sum_of m us)) r.terms

  -- lists that make normal forms are equal exactly where these are, and empty exactly where it is zero
  pub record TellApart : Type 0 where
    pub equal : (f g : FreeSum m.ring) (ts us : List Term) → IsNormalForm f ts → IsNormalForm g us → (ts ≡ us) ↔ (form_of f ≈ form_of g)
    pub empty : (f : FreeSum m.ring) (ts : List Term) → IsNormalForm f ts → (ts ≡ []) ↔ (form_of f ≈ [])

abbrev pub StepsKeep : Coding → OrderModel → Type 0
StepsKeep m o = (n : ℕ) (table : List Relation) → Valid m o n table → (ends : Ends m n table)
    → (cap out k : ℕ) (x : Term) (xs done : List Term) (s : State) → Running m o n (x ∷ xs) done → step_of m o table cap out k x xs done ≡ Ok s
    → StepKeeps m o n table ends x xs done s

abbrev pub AnsweredRuns : Coding → OrderModel → Type 0
AnsweredRuns m o = (n : ℕ) (table : List Relation) → Valid m o n table → (ends : Ends m n table)
    → (mem : Memory) (es : List Entry) (f : FreeSum m.ring) (r : Outcome) → StandFor m n es f → calculate m o table mem es ≡ Ok r
    → IsNormalForm m o n table ends f r.terms

-- so the result memory holds it, where a call answers how many terms are there
abbrev pub AnsweredMemories : Coding → OrderModel → Type 0
AnsweredMemories m o = (n : ℕ) (table : List Relation) → Valid m o n table → (ends : Ends m n table)
    → (mem : Memory) (es : List Entry) (f : FreeSum m.ring) (work out : List Term) (p : ℕ × ℕ) → StandFor m n es f → Answered (calculate m o table mem es) work out (Ok p)
    → IsNormalForm m o n table ends f (take p.0 out)

abbrev pub AnsweredCalls : Coding → OrderModel → Type 0
AnsweredCalls m o = (n : ℕ) (table : List Relation) → Valid m o n table → (ends : Ends m n table) (mem : Memory) → CallsAnswer m o n table ends mem

-- CONSEQUENCES

abbrev pub TermsTellApart : Coding → OrderModel → Type 0
TermsTellApart m o = (n : ℕ) (table : List Relation) (ends : Ends m n table) → TellApart m o n table ends

-- the terms are a combination of standard words that f is congruent to
abbrev pub TermsAreCongruent : Coding → OrderModel → Type 0
TermsAreCongruent m o = (n : ℕ) (table : List Relation) → Valid m o n table → (ends : Ends m n table)
    → (f : FreeSum m.ring) (ts : List Term) → OverSum n f → IsNormalForm m o n table ends f ts → StandardForm (relations_of m n table) f (sum_of m ts)
