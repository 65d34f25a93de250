-- The refusal of each fault of an insertion, without its places.
use Rattle.refusals.specs.declared.Refusal.{Refusal}
use Rattle.refusals.specs.Refusals.{plain}
use Rattle.coefficients.specs.Faults.{ring_refusal}
use Rattle.kept.specs.declared.fault.KeptFault.{KeptFault}
use Rattle.kept.specs.declared.fault.KeptFault.TheVariants.{Sum, Full}

abbrev pub kept_refusal : KeptFault → Refusal
kept_refusal (Sum f) = ring_refusal f
kept_refusal Full = plain 23 2
