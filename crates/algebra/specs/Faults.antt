-- The refusal of each fault of a call: number and layer by its cause, and its places.
use Rattle.refusals.specs.declared.Refusal.{Refusal}
use Rattle.refusals.specs.Refusals.{plain}
use Rattle.coefficients.specs.Faults.{ring_refusal}
use Rattle.run.specs.Faults.{run_refusal}
use Rattle.algebra.specs.declared.fault.CallCause.{CallCause}
use Rattle.algebra.specs.declared.fault.CallCause.TheVariants.{Undecided, Degenerate, Generator, NotRising, Coefficient}
use Rattle.algebra.specs.declared.fault.AlgebraFault.{AlgebraFault}
use Rattle.algebra.specs.declared.fault.AlgebraFault.TheVariants.{Call, Run}

-- a fault of the ring has no places either
abbrev pub cause_refusal : CallCause → Refusal
cause_refusal Undecided = plain 21 3
cause_refusal Degenerate = plain 22 3
cause_refusal Generator = plain 2 3
cause_refusal NotRising = plain 3 3
cause_refusal (Coefficient f) = ring_refusal f

abbrev pub algebra_refusal : AlgebraFault → Refusal
algebra_refusal (Call f) = record (cause_refusal f.cause) { a = f.a; b = f.b }
algebra_refusal (Run f) = run_refusal f
