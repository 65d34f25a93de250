use Rattle.std.proofs.Common.{◌≡◌, true, set, slice_set, sym, ap, ◌∙◌}
use Rattle.std.proofs.lemmas.Result.{err_from_is_err_and}
use Rattle.run.specs.Entries.{then_do}
use Rattle.run.specs.Relations.{pair_place, made_relation}
use Rattle.relations.specs.Declare.{check_relation}
use Rattle.relations.proofs.Checking.{pair-first, pair-passes}
use Rattle.relations.proofs.open.Open.declare.Goals as goal

pub returns-in_err-pair-clause-answer : goal.returns-in_err-pair-clause-answer
returns-in_err-pair-clause-answer g c =
    let q = c.args.self.now.presentation in
    let m = g.R.Ring.model q.rules.ring in
    let o = g.O.MonomialOrder.model q.rules.order in
    let p = err_from_is_err_and c.from_residual.result c.from_residual.ensures.1 in
    let rest = check_relation m o q.count.n c.args.j c.args.i c.args.factor c.args.tail.now in
    rw (p.1, p.2)
    (sym (pair-first m o q.count.n c.args.self.now.declared c.args.j c.args.i c.args.factor c.args.tail.now ∙ ap (λ r. then_do r (λ _. rest)) c.in_err-pair.ensures.refused))

pub returns-in_err-relate-clause-answer : goal.returns-in_err-relate-clause-answer
returns-in_err-relate-clause-answer g c =
    let q = c.args.self.now.presentation in
    let m = g.R.Ring.model q.rules.ring in
    let o = g.O.MonomialOrder.model q.rules.order in
    let x = c.in_ok-pair.pair in
    let p = err_from_is_err_and c.from_residual-in_err-relate.result c.from_residual-in_err-relate.ensures.1 in
    rw (p.1, p.2)
    (c.in_err-relate.ensures.answer
    ∙ pair-passes m o q.count.n c.args.self.now.declared c.args.j c.args.i c.args.factor c.args.tail.now x.j.number x.i.number c.in_ok-pair.ensures.passed c.in_ok-pair.ensures.pair)

pub returns-clause-answer : goal.returns-clause-answer
returns-clause-answer g c =
    let q = c.args.self.now.presentation in
    let m = g.R.Ring.model q.rules.ring in
    let o = g.O.MonomialOrder.model q.rules.order in
    let x = c.in_ok-pair.pair in
    c.in_ok-relate.ensures.answer
    ∙ pair-passes m o q.count.n c.args.self.now.declared c.args.j c.args.i c.args.factor c.args.tail.now x.j.number x.i.number c.in_ok-pair.ensures.passed c.in_ok-pair.ensures.pair

pub returns-clause-answered : goal.returns-clause-answered
returns-clause-answered g c =
    let s = c.args.self.now in
    let x = c.in_ok-pair.pair in
    let place : pair_place x.j.number x.i.number ≡ pair_place c.args.j c.args.i = ap (λ k. pair_place k x.i.number) c.in_ok-pair.ensures.pair.0 ∙ ap (pair_place c.args.j) c.in_ok-pair.ensures.pair.1 in
    record {
      relation = made_relation c.args.factor c.args.tail.now;
      says = c.in_ok-relate.ensures.says;
      table_is = c.in_ok-relate.ensures.table ∙ ap (λ k. slice_set s.presentation.rules.table k (made_relation c.args.factor c.args.tail.now)) place;
      declared_is = ap (λ k. set s.declared k true) (c.place.ensures.value ∙ place);
      full = c.in_ok-relate.ensures.full;
    }
