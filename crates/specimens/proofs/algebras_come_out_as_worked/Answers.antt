use Rattle.specimens.proofs.Algebras.{worked_algebras}
use Rattle.specimens.proofs.algebras_come_out_as_worked.Goals as goal

pub returns : goal.returns
returns c = worked_algebras
