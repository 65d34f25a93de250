use Rattle.std.proofs.Common.{refl}
use Rattle.words.specs.Terms.{blank}
use Rattle.words.proofs.term.Term.blank.Goals as goal

pub returns : goal.returns
unfolding blank
returns c = refl
