use Rattle.std.proofs.Common.{mod-eq_of_lt, rules}
use Rattle.residues.proofs.residues.methods.ResiduesRing.sum.Goals as goal

pub returns : goal.returns
returns c = search (rules, mod-eq_of_lt)
