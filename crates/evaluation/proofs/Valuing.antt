-- What a call answered as a value.
use Rattle.std.proofs.Common.{◌≡◌, ℕ, List, [], ◌∷◌, Ok, Err, Result, sym, ap, ◌∙◌}
use Rattle.coefficients.specs.Coding.{Coding}
use Rattle.orders.specs.Models.{OrderModel}
use Rattle.words.specs.declared.term.Term.{Term}
use Rattle.words.specs.declared.word.WordFault.{WordFault}
use Rattle.words.specs.Growth.{grown, answer, value_or}
use Rattle.words.specs.Rows.{row_of}
use Rattle.run.specs.declared.relation.Relation.{Relation}
use Rattle.run.specs.Step.{Outcome}
use Rattle.run.specs.Calls.{Memory}
use Rattle.algebra.specs.declared.fault.AlgebraFault.{AlgebraFault}
use Rattle.algebra.specs.declared.verdict.Verdict.{Verdict}
use Rattle.algebra.specs.Calls.{Answered}
use Rattle.answers.specs.declared.fault.ScriptFault.{ScriptFault}
use Rattle.evaluation.specs.Coefficients.{and_then, by_ring}
use Rattle.evaluation.specs.Working.{Setting, by_algebra, by_answer, by_word, term_of, normal_form, generator_value, coefficient_value}

pub answered-value : (want : Result Outcome AlgebraFault) (work out : List Term) (r : Result (ℕ × ℕ) AlgebraFault) → Answered want work out r → by_answer r out ≡ by_algebra want
answered-value want work out (Ok p) h = ap by_algebra h.1
answered-value want work out (Err e) h = sym (ap by_algebra h.0)

-- a call in a setting, where the result memory has 64 places
pub called : (s : Setting) (call : Coding → OrderModel → Memory → ℕ → List Relation → Verdict → Result Outcome AlgebraFault) (places : ℕ) (work out : List Term) (r : Result (ℕ × ℕ) AlgebraFault)
    → places ≡ 64 → Answered (call s.coding s.order (record { work = s.memory.work; result = places }) s.count s.table s.verdict) work out r
    → by_answer r out ≡ by_algebra (call s.coding s.order (record { work = s.memory.work; result = 64 }) s.count s.table s.verdict)
called s call places work out r full h =
    answered-value _ work out r h ∙ ap (λ k. by_algebra (call s.coding s.order (record { work = s.memory.work; result = k }) s.count s.table s.verdict)) full

-- a word that has grown
pub grown_on : (w v : List ℕ) (x : ℕ) (u : Unit {0}) → Ok u ≡ answer (grown w x) → v ≡ value_or w (grown w x) → grown w x ≡ Ok v
grown_on w v x u = at (grown w x)
  where
    at : (r : Result (List ℕ) WordFault) → Ok u ≡ answer r → v ≡ value_or w r → r ≡ Ok v
    at (Ok y) p q = ap Ok (sym q)
    at (Err e) p q = cc

pub term_is : (w row : List ℕ) (c d : ℕ) → row ≡ row_of w → c ≡ d → record { row = row; code = c } ≡ term_of w d
unfolding term_of
term_is w row c d p q = ap (λ r. record { row = r; code = c }) p ∙ ap (λ k. record { row = row_of w; code = k }) q

-- the value of a leaf from the call that was made
pub generator_worked : (s : Setting) (x : ℕ) (w v : List ℕ) (u : Unit {0}) (t : Term) (r : Result (List Term) ScriptFault)
    → w ≡ [] → Ok u ≡ answer (grown w x) → v ≡ value_or w (grown w x) → t ≡ term_of v s.coding.one → r ≡ normal_form s (t ∷ []) → r ≡ generator_value s x
generator_worked s x w v u t r none pushed after is got =
    got ∙ ap (λ y. normal_form s (y ∷ [])) is
    ∙ ap (λ g. and_then (by_word g) (λ z. normal_form s (term_of z s.coding.one ∷ []))) (sym (grown_on w v x u pushed after))
    ∙ ap (λ z. generator_value_of z) none
  where
    generator_value_of : List ℕ → Result (List Term) ScriptFault
    generator_value_of z = and_then (by_word (grown z x)) (λ y. normal_form s (term_of y s.coding.one ∷ []))

pub coefficient_worked : (s : Setting) (a : List ℕ) (c : ℕ) (t : Term) (r : Result (List Term) ScriptFault)
    → Ok c ≡ s.coding.read a → t ≡ term_of [] c → r ≡ normal_form s (t ∷ []) → r ≡ coefficient_value s a
coefficient_worked s a c t r read is got =
    got ∙ ap (λ y. normal_form s (y ∷ [])) is
    ∙ ap (λ g. and_then (by_ring g) (λ d. normal_form s (term_of [] d ∷ []))) read
