-- What normalise, sum, difference and product answer in a closed algebra, and what a call leaves in the memories.
use Rattle.std.specs.Prelude.{◌≡◌, ℕ, ◌+◌, ◌-◌, ◌≤◌, cond, List, [], ◌∷◌, ◌++◌, length, take, drop, Ok, Err, Result}
use Rattle.coefficients.specs.Coding.{Coding}
use Rattle.coefficients.specs.declared.fault.RingFault.TheVariants.{NotInUse}
use Rattle.orders.specs.Models.{OrderModel}
use Rattle.words.specs.declared.term.Term.{Term}
use Rattle.kept.specs.Terms.{blanks}
use Rattle.run.specs.declared.relation.Relation.{Relation}
use Rattle.run.specs.Step.{Outcome}
use Rattle.run.specs.declared.calls.Calculation.{Calculation}
use Rattle.run.specs.declared.calls.Calculation.TheVariants.{Normalise, Sum, Difference, Product}
use Rattle.run.specs.Calls.{Memory, calculate, entries_of, first_entries, second_entries, negated_entries, product_entries}
use Rattle.relations.specs.Declare.{is_word}
use Rattle.algebra.specs.declared.fault.CallCause.{CallCause}
use Rattle.algebra.specs.declared.fault.CallCause.TheVariants as cause
use Rattle.algebra.specs.declared.fault.AlgebraFault.{AlgebraFault}
use Rattle.algebra.specs.declared.fault.AlgebraFault.TheVariants.{Call}
use Rattle.algebra.specs.declared.verdict.Verdict.{Verdict}
use Rattle.algebra.specs.declared.verdict.Verdict.TheVariants.{Undecided, Sound, Degenerate}
use Rattle.algebra.specs.Overlaps.{by_run}

-- r in a sound algebra
abbrev pub when_sound : {A : Type 0} → Verdict → Result A AlgebraFault → Result A AlgebraFault
when_sound Sound r = r
when_sound Undecided r = Err (Call (record { cause = cause.Undecided; a = 0; b = 0 }))
when_sound (Degenerate i j k) r = Err (Call (record { cause = cause.Degenerate; a = 0; b = 0 }))

-- the fault of the term at place p of the first list, and of the second
abbrev pub in_first : ℕ → CallCause → AlgebraFault
in_first p c = Call (record { cause = c; a = p; b = 0 })

abbrev pub in_second : ℕ → CallCause → AlgebraFault
in_second p c = Call (record { cause = c; a = 0; b = p })

-- a word in the letters 1 to n, then a code in use, then r
abbrev pub check_term : {A : Type 0} → (CallCause → AlgebraFault) → Coding → ℕ → Term → Result A AlgebraFault → Result A AlgebraFault
check_term f m n t r = cond (is_word n t.row) (cond (m.used t.code) r (Err (f (cause.Coefficient NotInUse)))) (Err (f cause.Generator))

-- each term of a list, counted from p
abbrev pub scan : {A : Type 0} → (ℕ → CallCause → AlgebraFault) → Coding → ℕ → ℕ → List Term → Result A AlgebraFault → Result A AlgebraFault
scan at m n p [] r = r
scan at m n p (t ∷ ts) r = check_term (at p) m n t (scan at m n (p + 1) ts r)

abbrev pub scan_first : {A : Type 0} → Coding → ℕ → ℕ → List Term → Result A AlgebraFault → Result A AlgebraFault
scan_first m n p ts r = scan in_first m n p ts r

abbrev pub scan_second : {A : Type 0} → Coding → ℕ → ℕ → List Term → Result A AlgebraFault → Result A AlgebraFault
scan_second m n p ts r = scan in_second m n p ts r

module _ (m : Coding) (o : OrderModel) (mem : Memory) (n : ℕ) (table : List Relation) (v : Verdict) where
  unfoldable pub normalise : List Term → Result Outcome AlgebraFault
  normalise ts = when_sound v (scan_first m n 1 ts (by_run (calculate m o table mem (first_entries 1 ts))))

  unfoldable pub sum : List Term → List Term → Result Outcome AlgebraFault
  sum ts us = when_sound v (scan_first m n 1 ts (scan_second m n 1 us (by_run (calculate m o table mem (first_entries 1 ts ++ second_entries 1 us)))))

  unfoldable pub difference : List Term → List Term → Result Outcome AlgebraFault
  difference ts us = when_sound v (scan_first m n 1 ts (scan_second m n 1 us (by_run (calculate m o table mem (first_entries 1 ts ++ negated_entries m 1 us)))))

  unfoldable pub product : List Term → List Term → Result Outcome AlgebraFault
  product ts us = when_sound v (scan_first m n 1 ts (scan_second m n 1 us (by_run (calculate m o table mem (product_entries m 1 ts us)))))

-- the lists of a calculation; the second is empty where there is one
abbrev pub first_list : Calculation → List Term
first_list (Normalise list) = list.now
first_list (Sum first second) = first.now
first_list (Difference first second) = first.now
first_list (Product first second) = first.now

abbrev pub second_list : Calculation → List Term
second_list (Normalise list) = []
second_list (Sum first second) = second.now
second_list (Difference first second) = second.now
second_list (Product first second) = second.now

-- r where a calculation passes its checks
abbrev pub checks : {A : Type 0} → Coding → ℕ → Verdict → Calculation → Result A AlgebraFault → Result A AlgebraFault
checks m n v c r = when_sound v (scan_first m n 1 (first_list c) (scan_second m n 1 (second_list c) r))

-- each of the four in one
unfoldable pub calculation_answer : Coding → OrderModel → Memory → ℕ → List Relation → Verdict → Calculation → Result Outcome AlgebraFault
calculation_answer m o mem n table v c = checks m n v c (by_run (calculate m o table mem (entries_of m c)))

-- after an answer the result memory holds the terms and then blanks, after a refusal blanks; work memory is blank
abbrev pub Answered : Result Outcome AlgebraFault → List Term → List Term → Result (ℕ × ℕ) AlgebraFault → Type 0
Answered want work out (Ok p) =
    (p.0 ≤ length out) × (Ok (record { terms = take p.0 out; steps = p.1 }) ≡ want) × (drop p.0 out ≡ blanks (length out - p.0)) × (work ≡ blanks (length work))
Answered want work out (Err e) = (want ≡ Err e) × (out ≡ blanks (length out)) × (work ≡ blanks (length work))
