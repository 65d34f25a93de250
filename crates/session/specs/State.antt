-- The state of a session: nothing yet, an algebra that relations are declared in, or a closed one.
use Rattle.std.specs.Prelude.{ℕ, Bool, List}
use Rattle.relations.specs.declared.open.Open.{Open as OpenAlgebra}
use Rattle.run.specs.declared.relation.Relation.{Relation}
use Rattle.algebra.specs.declared.verdict.Verdict.{Verdict}
use Rattle.algebra.specs.declared.verdict.Verdict.TheVariants.{Undecided}
use Rattle.choices.specs.declared.ring.AnyRing.{AnyRing}
use Rattle.choices.specs.declared.order.AnyOrder.{AnyOrder}
use Rattle.session.specs.declared.state.Stage.{Stage}
use Rattle.session.specs.declared.state.Stage.TheVariants.{Empty, Open, Closed}

-- the ring, the order, how many generators, the relation of each pair, and which pairs were declared or what is known of the algebra
pub data State : Type 0 where
  start : State
  declaring : AnyRing → AnyOrder → ℕ → List Relation → List Bool → State
  calculating : AnyRing → AnyOrder → ℕ → List Relation → Verdict → State

-- of an open algebra
abbrev pub open_state : {kr : _} {ko : _} → OpenAlgebra AnyRing AnyOrder kr ko → State
open_state a = declaring a.presentation.rules.ring a.presentation.rules.order a.presentation.count.n a.presentation.rules.table a.declared

abbrev pub state_of : Stage → State
state_of Empty = start
state_of (Open a) = open_state a
state_of (Closed a) = calculating a.presentation.rules.ring a.presentation.rules.order a.presentation.count.n a.presentation.rules.table a.verdict

-- the state that closing leaves
abbrev pub closed_state : State → State
closed_state start = start
closed_state (declaring k o n table pairs) = calculating k o n table Undecided
closed_state (calculating k o n table v) = calculating k o n table v
