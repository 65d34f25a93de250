use Rattle.theory.proofs.Theorems.{normal_forms}
use Rattle.theory.proofs.sums_have_normal_forms.Goals as goal

pub returns : goal.returns
returns g c = normal_forms
