-- The decision: all overlaps i < j < k, by smallest i, then j, then k.
use Rattle.std.specs.Prelude.{ℕ, cond, ◌&&◌, List, [], ◌∷◌, ◌++◌, Ok, Err, Result, nat_lt}
use Rattle.std.specs.List.{range_with_len}
use Rattle.coefficients.specs.Coding.{Coding}
use Rattle.orders.specs.Models.{OrderModel}
use Rattle.words.specs.declared.term.Term.{Term}
use Rattle.run.specs.declared.fault.RunFault.{RunFault}
use Rattle.run.specs.declared.relation.Relation.{Relation}
use Rattle.run.specs.Step.{Outcome}
use Rattle.run.specs.Calls.{Memory}
use Rattle.algebra.specs.declared.fault.AlgebraFault.TheVariants.{Run}
use Rattle.algebra.specs.declared.fault.DecideFault.{DecideFault}
use Rattle.algebra.specs.declared.verdict.Verdict.{Verdict}
use Rattle.algebra.specs.declared.verdict.Verdict.TheVariants.{Undecided, Sound, Degenerate}
use Rattle.algebra.specs.Overlaps.{overlap_run}

pub record Triple : Type 0 where
  pub i : ℕ
  pub j : ℕ
  pub k : ℕ

abbrev pub each : {A B : Type 0} → (A → List B) → List A → List B
each f [] = []
each f (x ∷ xs) = f x ++ each f xs

-- the triples i < j < k of 1 to n, by smallest i, then j, then k
unfoldable pub triples : ℕ → List Triple
triples n =
    each (λ i. each (λ j. each (λ k. cond (nat_lt i j && nat_lt j k) (record { i = i; j = j; k = k } ∷ []) []) (range_with_len 1 n)) (range_with_len 1 n)) (range_with_len 1 n)

-- a triple whose overlap is not empty decides; its refusal is the decision's; else the rest decides
abbrev pub after_terms : Triple → List Term → Result Verdict DecideFault → Result Verdict DecideFault
after_terms t [] rest = rest
after_terms t (x ∷ xs) rest = Ok (Degenerate t.i t.j t.k)

abbrev pub after_overlap : Triple → Result Outcome RunFault → Result Verdict DecideFault → Result Verdict DecideFault
after_overlap t (Err f) rest = Err (record { overlap = Run f; i = t.i; j = t.j; k = t.k })
after_overlap t (Ok r) rest = after_terms t r.terms rest

abbrev pub decide_over : Coding → OrderModel → Memory → List Relation → List Triple → Result Verdict DecideFault
decide_over m o mem table [] = Ok Sound
decide_over m o mem table (t ∷ ts) = after_overlap t (overlap_run m o mem table t.i t.j t.k) (decide_over m o mem table ts)

-- a decided algebra repeats its answer
abbrev pub unless_decided : Verdict → Result Verdict DecideFault → Result Verdict DecideFault
unless_decided Undecided r = r
unless_decided Sound r = Ok Sound
unless_decided (Degenerate i j k) r = Ok (Degenerate i j k)

unfoldable pub decide : Coding → OrderModel → Memory → ℕ → List Relation → Verdict → Result Verdict DecideFault
decide m o mem n table v = unless_decided v (decide_over m o mem table (triples n))

-- the verdict after a decision: a refusal leaves it
abbrev pub verdict_after : Verdict → Result Verdict DecideFault → Verdict
verdict_after v (Ok w) = w
verdict_after v (Err f) = v
