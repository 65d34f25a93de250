use Rattle.theory.proofs.Overlaps.{overlap-nondegeneracy}
use Rattle.theory.proofs.overlap_is_nondegeneracy_condition.Goals as goal

pub returns : goal.returns
returns g c = overlap-nondegeneracy
