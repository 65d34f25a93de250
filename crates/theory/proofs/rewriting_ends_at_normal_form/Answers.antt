use Rattle.theory.proofs.Rewriting.{rewriting_ends}
use Rattle.theory.proofs.rewriting_ends_at_normal_form.Goals as goal

pub returns : goal.returns
returns g c = rewriting_ends
