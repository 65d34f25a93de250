use Rattle.specimens.proofs.Runs.{worked_runs}
use Rattle.specimens.proofs.runs_come_out_as_worked.Goals as goal

pub returns : goal.returns
returns c = worked_runs
