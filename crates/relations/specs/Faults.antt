-- The refusal of a declaration: number and layer by its cause, and the term of the tail as place b.
use Rattle.refusals.specs.declared.Refusal.{Refusal}
use Rattle.refusals.specs.Refusals.{plain}
use Rattle.coefficients.specs.Faults.{ring_refusal}
use Rattle.relations.specs.declared.fault.DeclareCause.{DeclareCause}
use Rattle.relations.specs.declared.fault.DeclareCause.TheVariants.{Generator, NotRising, AlreadyDeclared, Coefficient, FactorZero, TailSize, TailNotKept, TailNotBefore}
use Rattle.relations.specs.declared.fault.DeclareFault.{DeclareFault}

-- a fault of the ring has no places either
abbrev pub cause_refusal : DeclareCause → Refusal
cause_refusal Generator = plain 2 3
cause_refusal NotRising = plain 3 3
cause_refusal AlreadyDeclared = plain 20 3
cause_refusal (Coefficient f) = ring_refusal f
cause_refusal FactorZero = plain 5 3
cause_refusal TailSize = plain 6 3
cause_refusal TailNotKept = plain 7 3
cause_refusal TailNotBefore = plain 8 3

abbrev pub declare_refusal : DeclareFault → Refusal
declare_refusal f = record (cause_refusal f.cause) { b = f.term }
