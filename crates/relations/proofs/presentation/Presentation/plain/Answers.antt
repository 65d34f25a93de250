use Rattle.std.proofs.Common.{ℕ, arith, [], replicate, subst, ap, ◌∙◌}
use Rattle.run.specs.Relations.{made_relation}
use Rattle.relations.specs.Presentations.{Plain}
use Rattle.relations.proofs.Validity.{opened-valid}
use Rattle.relations.proofs.presentation.Presentation.plain.Goals as goal

pub invariant_of-result : goal.invariant_of-result
invariant_of-result g c =
    let m = g.R.Ring.model c.args.ring in
    let t = c.plain_table-table.result in
    record { valid = opened-valid m (g.O.MonomialOrder.model c.args.order) c.args.count.n t (omega arith) (subst (λ (k : ℕ). Plain k t) c.one.ensures c.plain_table-table.ensures.plain) }

pub returns-clause-plain : goal.returns-clause-plain
returns-clause-plain g c = subst (λ (k : ℕ). Plain k c.plain_table-table.result) c.one.ensures c.plain_table-table.ensures.plain

pub returns-clause-table : goal.returns-clause-table
returns-clause-table g c = c.plain_table-table.ensures.whole ∙ ap (λ k. replicate 64 (made_relation k [])) c.one.ensures
