use Rattle.theory.proofs.Theorems.{diamond_lemma}
use Rattle.theory.proofs.diamond_lemma.Goals as goal

pub returns : goal.returns
returns g c = diamond_lemma
