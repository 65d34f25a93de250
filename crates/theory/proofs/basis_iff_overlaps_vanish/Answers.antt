use Rattle.theory.proofs.Theorems.{basis_iff_resolves}
use Rattle.theory.proofs.basis_iff_overlaps_vanish.Goals as goal

pub returns : goal.returns
returns g c = basis_iff_resolves
