-- The model of a stack.
use Rattle.std.specs.Prelude.{◌≤◌, length}
use Rattle.evaluation.specs.declared.stack.Stack.TheInside.{Inside}
use Rattle.evaluation.specs.Machine.{Values, held}

abbrev pub stack_values : Inside → Values
stack_values a = record { room = length a.frames.now; values = held a.count a.frames.now }

abbrev pub IsStack : Inside → Type 0
IsStack a = a.count ≤ length a.frames.now
