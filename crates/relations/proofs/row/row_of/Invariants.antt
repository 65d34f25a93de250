use Rattle.std.proofs.Common.{◌≡◌}
use Rattle.relations.proofs.Rows.{filled}
use Rattle.relations.proofs.row.row_of.Given as goal

abbrev pub invariant-loop-k : goal.invariant-loop-k
invariant-loop-k l = l.row ≡ filled l.letters l.k
