-- The refusal of each fault of a coefficient ring: layer 1, no places.
use Rattle.refusals.specs.declared.Refusal.{Refusal}
use Rattle.refusals.specs.Refusals.{plain}
use Rattle.coefficients.specs.declared.fault.RingFault.{RingFault}
use Rattle.coefficients.specs.declared.fault.RingFault.TheVariants.{NotInUse, NoWriting, NoCode}

abbrev pub ring_refusal : RingFault → Refusal
ring_refusal NotInUse = plain 4 1
ring_refusal NoWriting = plain 4 1
ring_refusal NoCode = plain 10 1
