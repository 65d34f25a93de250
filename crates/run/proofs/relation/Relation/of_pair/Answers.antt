use Rattle.std.proofs.Common.{◌+◌, ◌-◌, ◌*◌, arith}
use Rattle.std.proofs.lemmas.List.{get_or_default}
use Rattle.run.specs.Relations.{relation_of, null}
use Rattle.run.proofs.relation.Relation.of_pair.Goals as goal

pub returns : goal.returns
unfolding relation_of
returns c = get_or_default c.args.table.now (8 * (c.args.j - 1) + (c.args.i - 1)) c.index-table-place.result null (omega arith)
