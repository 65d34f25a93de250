use Rattle.std.proofs.Common.{take, ap}
use native.Mathlib.Nat.{sub-zero}
use Rattle.run.specs.Relations.{tail_of}
use Rattle.run.proofs.relation.Relation.tail.Goals as goal

pub returns : goal.returns
unfolding tail_of
returns c = ap (λ i. take i c.args.self.now.tail) (sub-zero c.args.self.now.count)
