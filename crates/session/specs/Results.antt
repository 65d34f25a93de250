-- How what the functions of a session give is told by its definitions.
use Rattle.std.specs.Prelude.{◌≡◌, ℕ, List, Ok, Err, Result}
use Rattle.coefficients.specs.Coding.{Coding}
use Rattle.relations.specs.declared.open.Open.{Open}
use Rattle.choices.specs.declared.ring.AnyRing.{AnyRing}
use Rattle.choices.specs.declared.order.AnyOrder.{AnyOrder}
use Rattle.answers.specs.declared.fault.ScriptFault.{ScriptFault}
use Rattle.evaluation.specs.Coefficients.{and_then, by_ring, all_read}
use Rattle.answers.specs.Answers.{refused}
use Rattle.answers.specs.declared.failure.Failure.{Failure}
use Rattle.answers.specs.declared.failure.Failure.TheVariants.{Refused, Memory}
use Rattle.session.specs.declared.answer.Answer.{Answer}
use Rattle.session.specs.State.{State, open_state}
use Rattle.session.specs.Turns.{Turn}
use Rattle.session.specs.Answers.{answer_of}

-- an open algebra of this state, or the fault
abbrev pub Opens : {kr : _} {ko : _} → Result State ScriptFault → Result (Open AnyRing AnyOrder kr ko) ScriptFault → Type 0
Opens want (Ok a) = want ≡ Ok (open_state a)
Opens want (Err e) = want ≡ Err e

-- the code of the factor c, where it and all others are read
abbrev pub first_read : Coding → List ℕ → List (List ℕ) → Result ℕ ScriptFault
first_read m c others = and_then (by_ring (m.read c)) (λ a. and_then (all_read m others) (λ _. Ok a))

-- the state after, or the fault and the state as it was; nothing where there was no memory
abbrev pub Comes : Result State ScriptFault → State → State → Result (Unit {0}) Failure → Type 0
Comes want before after (Ok u) = want ≡ Ok after
Comes want before after (Err (Refused e)) = (want ≡ Err e) × (after ≡ before)
Comes want before after (Err (Memory a)) = Unit {0}

-- the answer and the state after of a turn; nothing where there was no memory
abbrev pub Turned : Turn → State → Result Answer Failure → Type 0
Turned want after (Ok a) = (want.answer ≡ answer_of a) × (want.after ≡ after)
Turned want after (Err (Refused e)) = (want.answer ≡ refused e) × (want.after ≡ after)
Turned want after (Err (Memory a)) = Unit {0}
