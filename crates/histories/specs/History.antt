-- Histories: what can happen to an algebra, call by call, and the calculations that it has answered.
use Rattle.std.specs.Prelude.{◌≡◌, ℕ, Bool, true, List, [], ◌∷◌, ◌++◌, Ok, Err}
use Rattle.theory.specs.FreeSum.{FreeSum, negate, times}
use Rattle.coefficients.specs.Coding.{Coding}
use Rattle.orders.specs.Models.{OrderModel}
use Rattle.words.specs.declared.term.Term.{Term}
use Rattle.run.specs.declared.relation.Relation.{Relation}
use Rattle.run.specs.Step.{Outcome}
use Rattle.run.specs.Calls.{Memory}
use Rattle.relations.specs.declared.fault.DeclareFault.{DeclareFault}
use Rattle.relations.specs.Counts.{is_count}
use Rattle.relations.specs.Declare.{declare_answer}
use Rattle.relations.specs.Presentations.{Opened, Declares}
use Rattle.algebra.specs.declared.fault.AlgebraFault.{AlgebraFault}
use Rattle.algebra.specs.declared.verdict.Verdict.{Verdict}
use Rattle.algebra.specs.declared.verdict.Verdict.TheVariants.{Undecided}
use Rattle.algebra.specs.Overlaps.{overlap_call}
use Rattle.algebra.specs.Decide.{decide, verdict_after}
use Rattle.algebra.specs.Calls.{normalise, sum, difference, product}
use Rattle.normal_forms.specs.Terms.{Among, sum_of}
use Rattle.histories.specs.State.{State, opened, closed}

-- an answered calculation: the free sum that it is of, and the terms answered
pub record Calculation (m : Coding) : Type 0 where
  pub free_sum : FreeSum m.ring
  pub terms : List Term

-- what a call is given, and the free sum that it stands for: a list, or the terms of an earlier calculation
pub data Operand (m : Coding) (cs : List (Calculation m)) : List Term → FreeSum m.ring → Type 0 where
  list : (ts : List Term) → Operand m cs ts (sum_of m ts)
  earlier : (c : Calculation m) → Among c cs → Operand m cs c.terms c.free_sum

-- s is a state that an algebra comes to, and cs are the calculations that it has answered by then, the latest first
pub data History (m : Coding) (o : OrderModel) : State → List (Calculation m) → Type 0 where
  opens : (n : ℕ) {table : List Relation} {declared : List Bool}
      → is_count n ≡ true → Opened m table declared → History m o (opened n table declared) []
  declares : {n : ℕ} {table table' : List Relation} {declared declared' : List Bool} {cs : List (Calculation m)} (j i c : ℕ) (tail : List Term)
      → History m o (opened n table declared) cs
      → declare_answer m o n declared j i c tail ≡ Ok tt → Declares j i c tail table declared table' declared'
      → History m o (opened n table' declared') cs
  declare_refused : {n : ℕ} {table : List Relation} {declared : List Bool} {cs : List (Calculation m)} {e : DeclareFault} (j i c : ℕ) (tail : List Term)
      → History m o (opened n table declared) cs → declare_answer m o n declared j i c tail ≡ Err e
      → History m o (opened n table declared) cs
  closes : {n : ℕ} {table : List Relation} {declared : List Bool} {cs : List (Calculation m)}
      → History m o (opened n table declared) cs → History m o (closed n table Undecided) cs
  overlaps : {n : ℕ} {table : List Relation} {v : Verdict} {cs : List (Calculation m)} {r : Outcome} (mem : Memory) (i j k : ℕ)
      → History m o (closed n table v) cs → overlap_call m o mem n table i j k ≡ Ok r
      → History m o (closed n table v) cs
  overlap_refused : {n : ℕ} {table : List Relation} {v : Verdict} {cs : List (Calculation m)} {e : AlgebraFault} (mem : Memory) (i j k : ℕ)
      → History m o (closed n table v) cs → overlap_call m o mem n table i j k ≡ Err e
      → History m o (closed n table v) cs
  -- answered, or refused
  decides : {n : ℕ} {table : List Relation} {v : Verdict} {cs : List (Calculation m)} (mem : Memory)
      → History m o (closed n table v) cs
      → History m o (closed n table (verdict_after v (decide m o mem n table v))) cs
  normalises : {n : ℕ} {table : List Relation} {v : Verdict} {cs : List (Calculation m)} {r : Outcome} (mem : Memory) {ts : List Term} {f : FreeSum m.ring}
      → History m o (closed n table v) cs → Operand m cs ts f → normalise m o mem n table v ts ≡ Ok r
      → History m o (closed n table v) (record { free_sum = f; terms = r.terms } ∷ cs)
  normalise_refused : {n : ℕ} {table : List Relation} {v : Verdict} {cs : List (Calculation m)} {e : AlgebraFault} (mem : Memory) (ts : List Term)
      → History m o (closed n table v) cs → normalise m o mem n table v ts ≡ Err e
      → History m o (closed n table v) cs
  adds : {n : ℕ} {table : List Relation} {v : Verdict} {cs : List (Calculation m)} {r : Outcome} (mem : Memory) {ts us : List Term} {f g : FreeSum m.ring}
      → History m o (closed n table v) cs → Operand m cs ts f → Operand m cs us g → sum m o mem n table v ts us ≡ Ok r
      → History m o (closed n table v) (record { free_sum = f ++ g; terms = r.terms } ∷ cs)
  sum_refused : {n : ℕ} {table : List Relation} {v : Verdict} {cs : List (Calculation m)} {e : AlgebraFault} (mem : Memory) (ts us : List Term)
      → History m o (closed n table v) cs → sum m o mem n table v ts us ≡ Err e
      → History m o (closed n table v) cs
  subtracts : {n : ℕ} {table : List Relation} {v : Verdict} {cs : List (Calculation m)} {r : Outcome} (mem : Memory) {ts us : List Term} {f g : FreeSum m.ring}
      → History m o (closed n table v) cs → Operand m cs ts f → Operand m cs us g → difference m o mem n table v ts us ≡ Ok r
      → History m o (closed n table v) (record { free_sum = f ++ negate g; terms = r.terms } ∷ cs)
  difference_refused : {n : ℕ} {table : List Relation} {v : Verdict} {cs : List (Calculation m)} {e : AlgebraFault} (mem : Memory) (ts us : List Term)
      → History m o (closed n table v) cs → difference m o mem n table v ts us ≡ Err e
      → History m o (closed n table v) cs
  multiplies : {n : ℕ} {table : List Relation} {v : Verdict} {cs : List (Calculation m)} {r : Outcome} (mem : Memory) {ts us : List Term} {f g : FreeSum m.ring}
      → History m o (closed n table v) cs → Operand m cs ts f → Operand m cs us g → product m o mem n table v ts us ≡ Ok r
      → History m o (closed n table v) (record { free_sum = times f g; terms = r.terms } ∷ cs)
  product_refused : {n : ℕ} {table : List Relation} {v : Verdict} {cs : List (Calculation m)} {e : AlgebraFault} (mem : Memory) (ts us : List Term)
      → History m o (closed n table v) cs → product m o mem n table v ts us ≡ Err e
      → History m o (closed n table v) cs

-- an answered declare: x_j x_i = c x_i x_j + tail
pub record Declaration : Type 0 where
  pub j : ℕ
  pub i : ℕ
  pub c : ℕ
  pub tail : List Term

-- the declares that were answered, the latest first
abbrev pub declarations : {m : Coding} {o : OrderModel} {s : State} {cs : List (Calculation m)} → History m o s cs → List Declaration
declarations (opens n c h) = []
declarations (declares j i c tail h e d) = record { j = j; i = i; c = c; tail = tail } ∷ declarations h
declarations (declare_refused j i c tail h e) = declarations h
declarations (closes h) = declarations h
declarations (overlaps mem i j k h e) = declarations h
declarations (overlap_refused mem i j k h e) = declarations h
declarations (decides mem h) = declarations h
declarations (normalises mem h p e) = declarations h
declarations (normalise_refused mem ts h e) = declarations h
declarations (adds mem h p q e) = declarations h
declarations (sum_refused mem ts us h e) = declarations h
declarations (subtracts mem h p q e) = declarations h
declarations (difference_refused mem ts us h e) = declarations h
declarations (multiplies mem h p q e) = declarations h
declarations (product_refused mem ts us h e) = declarations h
