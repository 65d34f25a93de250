-- Which faults a scan of a list has.
use Rattle.std.specs.Prelude.{ℕ, Ok, Err, Result}
use Rattle.algebra.specs.declared.fault.CallCause.{CallCause}
use Rattle.algebra.specs.declared.fault.AlgebraFault.{AlgebraFault}
use Rattle.algebra.specs.declared.scan.Side.{Side}
use Rattle.algebra.specs.declared.scan.Side.TheVariants.{First, Second}
use Rattle.algebra.specs.Calls.{in_first, in_second}

abbrev pub in_list : Side → ℕ → CallCause → AlgebraFault
in_list First = in_first
in_list Second = in_second

-- the same, or the fault of its cause
abbrev pub placed : {A : Type 0} → (CallCause → AlgebraFault) → Result A CallCause → Result A AlgebraFault
placed f (Ok x) = Ok x
placed f (Err e) = Err (f e)
