use Rattle.std.proofs.Common.{◌≡◌, ◌<◌, [], replicate, refl, ap}
use Rattle.std.proofs.lemmas.Option.{MatchOption-at_some}
use Rattle.run.specs.declared.relation.Relation.{Relation}
use Rattle.run.specs.Relations.{tail_of, made_relation}
use Rattle.relations.proofs.presentation.methods.plain_table.Goals as goal

pub returns : goal.returns
returns c =
    let e = MatchOption-at_some (8 < 0) (λ (x : Relation). (x.factor ≡ c.args.factor) × (tail_of x ≡ [])) c.unwrap-relation.result c.unwrap-relation.ensures c.new.ensures.says in
    let w = MatchOption-at_some Unit (λ (x : Relation). x ≡ made_relation c.args.factor []) c.unwrap-relation.result c.unwrap-relation.ensures c.new.ensures.whole in
    record {
      plain = record { relation = c.unwrap-relation.result; says = record { factor = e.0; tail = e.1 }; table_is = refl };
      whole = ap (replicate 64) w;
    }
