-- What a form does to a session: the state and the form together settle the answer and the state after it.
use Rattle.std.specs.Prelude.{ℕ, Bool, cond, List, ◌∷◌, map, Ok, Err, Result}
use Rattle.words.specs.declared.term.Term.{Term}
use Rattle.run.specs.declared.relation.Relation.{Relation}
use Rattle.run.specs.Calls.{Memory}
use Rattle.relations.specs.Counts.{is_count}
use Rattle.relations.specs.Declare.{declare_answer}
use Rattle.relations.specs.Presentations.{opened_table, no_pairs, declared_table, with_pair}
use Rattle.algebra.specs.declared.fault.DecideFault.{DecideFault}
use Rattle.algebra.specs.declared.verdict.Verdict.{Verdict}
use Rattle.algebra.specs.declared.verdict.Verdict.TheVariants.{Undecided}
use Rattle.algebra.specs.Decide as deciding
use Rattle.choices.specs.declared.ring.AnyRing.{AnyRing}
use Rattle.choices.specs.declared.ring.AnyRing.TheVariants.{Integers, QPolynomials}
use Rattle.choices.specs.declared.order.AnyOrder.{AnyOrder}
use Rattle.choices.specs.declared.order.AnyOrder.TheVariants.{Lex}
use Rattle.choices.specs.Rings.{ring_model, residues_from}
use Rattle.choices.specs.Orders.{order_model, degree_from}
use Rattle.grammar.specs.declared.forms.RingForm.{RingForm}
use Rattle.grammar.specs.declared.forms.RingForm.TheVariants.{Mod, Int, QPoly}
use Rattle.grammar.specs.declared.fault.FormFault.{FormFault}
use Rattle.grammar.specs.Expressions.{Expr}
use Rattle.grammar.specs.Forms.{OrderChoice, lex, degree, padded, TermForm, Form, algebra, rel, decide, calc}
use Rattle.answers.specs.declared.fault.ScriptFault.{ScriptFault}
use Rattle.answers.specs.declared.fault.ScriptFault.TheVariants as fault
use Rattle.answers.specs.Answers.{Answer, opened, declared, decided, list, refused}
use Rattle.evaluation.specs.Coefficients.{and_then, by_ring, all_read, expr_coefficients}
use Rattle.evaluation.specs.Working.{Setting, worked_out}
use Rattle.evaluation.specs.Tails.{made_terms}
use Rattle.session.specs.State.{State, start, declaring, calculating}

pub record Turn : Type 0 where
  pub answer : Answer
  pub after : State

-- the answer of a call of the layer below, its fault as the script's
abbrev pub wrapped : {A E : Type 0} → (E → ScriptFault) → Result A E → Result A ScriptFault
wrapped f (Ok x) = Ok x
wrapped f (Err e) = Err (f e)

-- the answer of a value, or the refusal
abbrev pub answered : {A : Type 0} → (A → Answer) → Result A ScriptFault → Answer
answered f (Ok x) = f x
answered f (Err e) = refused e

-- refused, the state is unchanged
abbrev pub unless_refused : State → Answer → Result State ScriptFault → Turn
unless_refused s a (Ok t) = record { answer = a; after = t }
unless_refused s a (Err e) = record { answer = refused e; after = s }

-- ALGEBRA

abbrev pub ring_from : RingForm → Result AnyRing ScriptFault
ring_from (Mod m) = wrapped fault.Modulus (residues_from m)
ring_from Int = Ok (Integers (record {}))
ring_from QPoly = Ok (QPolynomials (record {}))

-- missing weights are 1
abbrev pub order_from : OrderChoice → Result AnyOrder ScriptFault
order_from lex = Ok (Lex (record {}))
order_from (degree ws) = wrapped fault.Weight (degree_from (padded ws))

-- the count, then the modulus, then the weights
abbrev pub opening : ℕ → RingForm → OrderChoice → Result State ScriptFault
opening n r o =
    cond (is_count n) (and_then (ring_from r) (λ k. and_then (order_from o) (λ p. Ok (declaring k p n (opened_table (ring_model k)) no_pairs)))) (Err (fault.Count (record {})))

-- REL

-- all coefficients are read, then all words grown, then it is declared
abbrev pub declaration : AnyRing → AnyOrder → ℕ → List Relation → List Bool → ℕ → ℕ → List ℕ → List TermForm → Result State ScriptFault
declaration k o n table pairs j i c ts =
    and_then (all_read (ring_model k) (c ∷ map (λ t. t.coefficient) ts)) (λ _. and_then (made_terms (ring_model k) ts) (λ tail. and_then (by_ring ((ring_model k).read c)) (λ a.
    and_then (wrapped fault.Declare (declare_answer (ring_model k) (order_model o) n pairs j i a tail)) (λ _. Ok (declaring k o n (declared_table table j i a tail) (with_pair pairs j i))))))

-- DECIDE

-- work memory has 512 places, result lists 64
abbrev pub memory : Memory
memory = record { work = 512; result = 64 }

abbrev pub decision : AnyRing → AnyOrder → ℕ → List Relation → Verdict → Result Verdict DecideFault
decision k o n table v = deciding.decide (ring_model k) (order_model o) memory n table v

-- refused, the algebra is closed all the same, and undecided
abbrev pub decide_turn : AnyRing → AnyOrder → ℕ → List Relation → Verdict → Turn
decide_turn k o n table v = record {
  answer = answered decided (wrapped fault.Decide (decision k o n table v));
  after = calculating k o n table (deciding.verdict_after v (decision k o n table v));
}

-- CALC

abbrev pub setting_of : AnyRing → AnyOrder → ℕ → List Relation → Verdict → Setting
setting_of k o n table v = record { coding = ring_model k; order = order_model o; memory = memory; count = n; table = table; verdict = v }

-- all coefficients are read, then it is worked out
abbrev pub calculation : AnyRing → AnyOrder → ℕ → List Relation → Verdict → Expr → Result (List Term) ScriptFault
calculation k o n table v e = and_then (all_read (ring_model k) (expr_coefficients e)) (λ _. worked_out (setting_of k o n table v) e)

-- THE TURN

abbrev pub out_of_turn : State → Turn
out_of_turn s = record { answer = refused fault.OutOfTurn; after = s }

-- at first only algebra is in turn, then rel and decide, after closing decide and calc
abbrev pub turn : State → Form → Turn
turn start (algebra n r o) = unless_refused start opened (opening n r o)
turn start (rel j i c ts) = out_of_turn start
turn start decide = out_of_turn start
turn start (calc e) = out_of_turn start
turn (declaring k o n table pairs) (algebra m r p) = out_of_turn (declaring k o n table pairs)
turn (declaring k o n table pairs) (rel j i c ts) = unless_refused (declaring k o n table pairs) declared (declaration k o n table pairs j i c ts)
turn (declaring k o n table pairs) decide = decide_turn k o n table Undecided
turn (declaring k o n table pairs) (calc e) = out_of_turn (declaring k o n table pairs)
turn (calculating k o n table v) (algebra m r p) = out_of_turn (calculating k o n table v)
turn (calculating k o n table v) (rel j i c ts) = out_of_turn (calculating k o n table v)
turn (calculating k o n table v) decide = decide_turn k o n table v
turn (calculating k o n table v) (calc e) = record { answer = answered (list k) (calculation k o n table v e); after = calculating k o n table v }

-- a line that is no form is refused
abbrev pub turn_of : State → Result Form FormFault → Turn
turn_of s (Ok f) = turn s f
turn_of s (Err e) = record { answer = refused (fault.Form e); after = s }
