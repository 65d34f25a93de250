use Rattle.std.proofs.Common.{arith}
use Rattle.std.proofs.lemmas.List.{get_or_default}
use Rattle.run.specs.Relations.{relation_of, null}
use Rattle.run.proofs.relation.Relation.of_letters.Goals as goal

pub returns : goal.returns
unfolding relation_of
returns c = rw (← c.pair_place.ensures.value) (get_or_default c.args.table.now c.pair_place.result c.index-table-pair_place.result null (omega arith))
