-- What an expression comes to in a closed algebra: each leaf normalised, each operand joined to those before it.
use Rattle.std.specs.Prelude.{ℕ, ◌≤◌, List, [], ◌∷◌, take, Ok, Err, Result}
use Rattle.coefficients.specs.Coding.{Coding}
use Rattle.orders.specs.Models.{OrderModel}
use Rattle.words.specs.declared.term.Term.{Term}
use Rattle.words.specs.declared.word.WordFault.{WordFault}
use Rattle.words.specs.Growth.{grown}
use Rattle.words.specs.Rows.{row_of}
use Rattle.run.specs.declared.relation.Relation.{Relation}
use Rattle.run.specs.Step.{Outcome}
use Rattle.run.specs.Calls.{Memory}
use Rattle.algebra.specs.declared.closed.Closed.{Closed}
use Rattle.algebra.specs.declared.fault.AlgebraFault.{AlgebraFault}
use Rattle.algebra.specs.declared.verdict.Verdict.{Verdict}
use Rattle.algebra.specs.Calls as call
use Rattle.grammar.specs.declared.piece.Operator.{Operator}
use Rattle.grammar.specs.declared.piece.Operator.TheVariants.{Sum, Product, Difference}
use Rattle.grammar.specs.Expressions.{Expr, generator, coefficient, apply, Operands, first, next, operator_of}
use Rattle.answers.specs.declared.fault.ScriptFault.{ScriptFault}
use Rattle.answers.specs.declared.fault.ScriptFault.TheVariants.{Word, Algebra}
use Rattle.evaluation.specs.declared.frame.Frame.{Frame}
use Rattle.evaluation.specs.Frames.{frame_terms}
use Rattle.evaluation.specs.Coefficients.{and_then, by_ring}

abbrev pub by_word : {A : Type 0} → Result A WordFault → Result A ScriptFault
by_word (Ok x) = Ok x
by_word (Err e) = Err (Word e)

-- the terms of a calculation
abbrev pub by_algebra : Result Outcome AlgebraFault → Result (List Term) ScriptFault
by_algebra (Ok x) = Ok x.terms
by_algebra (Err e) = Err (Algebra e)

-- a term of a word
unfoldable pub term_of : List ℕ → ℕ → Term
term_of w c = record { row = row_of w; code = c }

-- where calculations take place: the closed algebra and the sizes of the memories
pub record Setting : Type 1 where
  pub coding : Coding
  pub order : OrderModel
  pub memory : Memory
  pub count : ℕ
  pub table : List Relation
  pub verdict : Verdict

-- a closed algebra with this many places of work memory; a result has at most 64 terms
abbrev pub setting : {R O : Type 0} {kr : _} {ko : _} → (R → Coding) → (O → OrderModel) → ℕ → Closed R O kr ko → Setting
setting rings orders places a =
    let rules = a.presentation.rules in
    record { coding = rings rules.ring; order = orders rules.order; memory = record { work = places; result = 64 }; count = a.presentation.count.n; table = rules.table; verdict = a.verdict }

unfoldable pub normal_form : Setting → List Term → Result (List Term) ScriptFault
normal_form s ts = by_algebra (call.normalise s.coding s.order s.memory s.count s.table s.verdict ts)

-- the values of two operands joined
unfoldable pub joined : Setting → Operator → List Term → List Term → Result (List Term) ScriptFault
joined s Sum ts us = by_algebra (call.sum s.coding s.order s.memory s.count s.table s.verdict ts us)
joined s Product ts us = by_algebra (call.product s.coding s.order s.memory s.count s.table s.verdict ts us)
joined s Difference ts us = by_algebra (call.difference s.coding s.order s.memory s.count s.table s.verdict ts us)

-- the word of one generator, with coefficient one
abbrev pub generator_value : Setting → ℕ → Result (List Term) ScriptFault
generator_value s x = and_then (by_word (grown [] x)) (λ w. normal_form s (term_of w s.coding.one ∷ []))

-- the empty word with the coefficient that is written so
abbrev pub coefficient_value : Setting → List ℕ → Result (List Term) ScriptFault
coefficient_value s a = and_then (by_ring (s.coding.read a)) (λ c. normal_form s (term_of [] c ∷ []))

unfoldable mutual
  pub worked_out : Setting → Expr → Result (List Term) ScriptFault
  worked_out s (generator x) = generator_value s x
  worked_out s (coefficient a) = coefficient_value s a
  worked_out s (apply os) = worked_out_all s os

  pub worked_out_all : Setting → Operands → Result (List Term) ScriptFault
  worked_out_all s (first o e) = worked_out s e
  worked_out_all s (next os e) = and_then (worked_out_all s os) (λ ts. and_then (worked_out s e) (λ us. joined s (operator_of os) ts us))

-- a value by its terms
abbrev pub value_of : Result Frame ScriptFault → Result (List Term) ScriptFault
value_of (Ok f) = Ok (frame_terms f)
value_of (Err e) = Err e

-- an answer of the algebra with its result memory: how many terms there are, and then which
abbrev pub Short : Result (ℕ × ℕ) AlgebraFault → Type 0
Short (Ok p) = p.0 ≤ 64
Short (Err e) = Unit {0}

abbrev pub by_answer : Result (ℕ × ℕ) AlgebraFault → List Term → Result (List Term) ScriptFault
by_answer (Ok p) out = Ok (take p.0 out)
by_answer (Err e) out = Err (Algebra e)
