use Rattle.theory.proofs.Theorems.{no_endless_rewriting}
use Rattle.theory.proofs.no_rewriting_goes_on_for_ever.Goals as goal

pub returns : goal.returns
returns g c = no_endless_rewriting
