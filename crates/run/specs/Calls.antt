-- Whole calculations: what each of them loads, and load and run together.
use Rattle.std.specs.Prelude.{◌≡◌, ℕ, ◌+◌, ◌-◌, ◌≤◌, List, [], ◌∷◌, ◌++◌, length, take, drop, Ok, Err, Result}
use Rattle.coefficients.specs.Coding.{Coding}
use Rattle.orders.specs.Letters.{letters}
use Rattle.orders.specs.Models.{OrderModel}
use Rattle.words.specs.declared.term.Term.{Term}
use Rattle.kept.specs.Terms.{blanks}
use Rattle.run.specs.declared.calls.Calculation.{Calculation}
use Rattle.run.specs.declared.calls.Calculation.TheVariants.{Normalise, Sum, Difference, Product}
use Rattle.run.specs.declared.fault.RunFault.{RunFault}
use Rattle.run.specs.declared.relation.Relation.{Relation}
use Rattle.run.specs.Entries.{Entry, load, then_do}
use Rattle.run.specs.Faults.{loading}
use Rattle.run.specs.Step.{run_from, Outcome}

-- what the term at place p of the first list gives
abbrev pub first_entry : ℕ → Term → Entry
first_entry p t = record { word = letters t.row; code = Ok t.code; place = loading p 0 }

-- the terms of the first list as they are, their places counted from p
abbrev pub first_entries : ℕ → List Term → List Entry
first_entries p [] = []
first_entries p (t ∷ ts) = record { word = letters t.row; code = Ok t.code; place = loading p 0 } ∷ first_entries (p + 1) ts

-- what the term at place p of the second list gives
abbrev pub second_entry : ℕ → Term → Entry
second_entry p t = record { word = letters t.row; code = Ok t.code; place = loading 0 p }

-- the terms of the second list as they are
abbrev pub second_entries : ℕ → List Term → List Entry
second_entries p [] = []
second_entries p (t ∷ ts) = record { word = letters t.row; code = Ok t.code; place = loading 0 p } ∷ second_entries (p + 1) ts

-- and its negative
abbrev pub negated_entry : Coding → ℕ → Term → Entry
negated_entry m p t = record { word = letters t.row; code = m.negative t.code; place = loading 0 p }

-- and with negatives
abbrev pub negated_entries : Coding → ℕ → List Term → List Entry
negated_entries m p [] = []
negated_entries m p (t ∷ ts) = record { word = letters t.row; code = m.negative t.code; place = loading 0 p } ∷ negated_entries m (p + 1) ts

-- the term t, at place p of the first list, times the term u, at place q of the second
abbrev pub joined_entry : Coding → ℕ → Term → ℕ → Term → Entry
joined_entry m p t q u = record { word = letters t.row ++ letters u.row; code = m.product t.code u.code; place = loading p q }

-- the term t, at place p of the first list, times each of the second
abbrev pub joined_entries : Coding → ℕ → Term → ℕ → List Term → List Entry
joined_entries m p t q [] = []
joined_entries m p t q (u ∷ us) =
    record { word = letters t.row ++ letters u.row; code = m.product t.code u.code; place = loading p q } ∷ joined_entries m p t (q + 1) us

abbrev pub product_entries : Coding → ℕ → List Term → List Term → List Entry
product_entries m p [] us = []
product_entries m p (t ∷ ts) us = joined_entries m p t 1 us ++ product_entries m (p + 1) ts us

-- what each calculation loads
abbrev pub entries_of : Coding → Calculation → List Entry
entries_of m (Normalise list) = first_entries 1 list.now
entries_of m (Sum first second) = first_entries 1 first.now ++ second_entries 1 second.now
entries_of m (Difference first second) = first_entries 1 first.now ++ negated_entries m 1 second.now
entries_of m (Product first second) = product_entries m 1 first.now second.now

-- how many places work and result memory have
pub record Memory : Type 0 where
  pub work : ℕ
  pub result : ℕ

unfoldable pub step_limit : ℕ
step_limit = 1000000

-- load, then run
unfoldable pub calculate : Coding → OrderModel → List Relation → Memory → List Entry → Result Outcome RunFault
calculate m o table mem es =
    then_do (load m o mem.work es []) (λ xs. run_from m o table mem.work mem.result step_limit 0 xs [])

-- what a call leaves: after an answer the result memory holds the terms and then blanks, after a refusal blanks; work memory is blank
abbrev pub Answered : Result Outcome RunFault → List Term → List Term → Result (ℕ × ℕ) RunFault → Type 0
Answered want work out (Ok p) =
    (p.0 ≤ length out) × (Ok (record { terms = take p.0 out; steps = p.1 }) ≡ want) × (drop p.0 out ≡ blanks (length out - p.0)) × (work ≡ blanks (length work))
Answered want work out (Err e) = (want ≡ Err e) × (out ≡ blanks (length out)) × (work ≡ blanks (length work))
