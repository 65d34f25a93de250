use Rattle.std.proofs.Common.{rules, ◌+◌, sym, ap, ◌∙◌, subst, arith}
use Rattle.std.specs.Option.{option_map}
use Rattle.std.proofs.lemmas.List.{drop_more, drop_all}
use Rattle.std.proofs.lemmas.Result.{err_from_is_err_and}
use Rattle.kept.specs.Terms.{nil_term}
use Rattle.run.specs.Entries.{then_do}
use Rattle.relations.specs.Declare.{AllFull}
use Rattle.relations.proofs.Checking.{tail_from, tail-more, tail-all, last-more}
use Rattle.relations.proofs.presentation.Presentation.check_tail.Goals as goal

pub returns-in_err-map_err-clause-answer : goal.returns-in_err-map_err-clause-answer
returns-in_err-map_err-clause-answer g c =
    let s = c.args.self.now in
    let m = g.R.Ring.model s.rules.ring in
    let o = g.O.MonomialOrder.model s.rules.order in
    let j = c.args.pair.j.number in
    let i = c.args.pair.i.number in
    let ts = c.args.tail.now in
    let k = c.loop-e.e-counter in
    let p = err_from_is_err_and c.from_residual.result c.from_residual.ensures.1 in
    rw (p.1, p.2)
    (ap (λ r. then_do r (λ _. tail_from m o s.count.n j i ts (k + 1))) (sym c.in_err-map_err.was)
    ∙ tail-more m o s.count.n j i ts k (option_map (λ x. x.now) c.loop-e.last) c.check_term.result c.map_err.result (omega arith) c.loop-e.invariant.last c.check_term.ensures.answer c.map_err.ensures.cases (λ e f h. search rules)
    ∙ c.loop-e.invariant.same)

pub loop-e-preserved : goal.loop-e-preserved
loop-e-preserved g c =
    let s = c.args.self.now in
    let m = g.R.Ring.model s.rules.ring in
    let o = g.O.MonomialOrder.model s.rules.order in
    let j = c.args.pair.j.number in
    let i = c.args.pair.i.number in
    let ts = c.args.tail.now in
    let k = c.loop-e.e-counter in
    record {
      last = last-more ts k;
      full = λ h. c.loop-e.invariant.full (subst AllFull (sym (drop_more ts k nil_term (omega arith))) (c.check_term.ensures.full, h));
      same =
          ap (λ r. then_do r (λ _. tail_from m o s.count.n j i ts (k + 1))) (sym c.in_ok-map_err.was)
          ∙ tail-more m o s.count.n j i ts k (option_map (λ x. x.now) c.loop-e.last) c.check_term.result c.map_err.result (omega arith) c.loop-e.invariant.last c.check_term.ensures.answer c.map_err.ensures.cases (λ e f h. search rules)
          ∙ c.loop-e.invariant.same;
    }

pub returns : goal.returns
returns g c =
    let s = c.args.self.now in
    record {
      full = c.loop-e.invariant.full (subst AllFull (sym (drop_all c.loop-e.e-counter c.args.tail.now (omega arith))) tt);
      answer =
          tail-all (g.R.Ring.model s.rules.ring) (g.O.MonomialOrder.model s.rules.order) s.count.n c.args.pair.j.number c.args.pair.i.number c.args.tail.now c.loop-e.e-counter (omega arith)
          ∙ c.loop-e.invariant.same;
    }
