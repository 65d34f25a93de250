use Rattle.std.proofs.Common.{rules, ◌≡◌, ◌<◌, length, sym, ◌∙◌, arith, subst, set}
use Rattle.std.proofs.lemmas.Option.{MatchOption-at_some}
use Rattle.std.proofs.lemmas.Result.{err_from_is_err_and}
use Rattle.theory.specs.Relations.{Pair}
use Rattle.normal_forms.specs.Relations.{Valid}
use Rattle.run.specs.declared.relation.Relation.{Relation}
use Rattle.run.specs.Relations.{tail_of}
use Rattle.relations.specs.Declare.{passed, check_factor}
use Rattle.relations.proofs.Checking.{terms-decide}
use Rattle.relations.proofs.Validity.{related-valid}
use Rattle.relations.proofs.presentation.Presentation.relate.Goals as goal

pub returns-in_err-check_tail-clause-answer : goal.returns-in_err-check_tail-clause-answer
returns-in_err-check_tail-clause-answer g c =
    let s = c.args.self.now in
    let m = g.R.Ring.model s.rules.ring in
    let f : passed ≡ check_factor m c.args.factor passed = search rules in
    let p = err_from_is_err_and c.from_residual-in_err-check_tail.result c.from_residual-in_err-check_tail.ensures.1 in
    rw (p.1, p.2)
    (c.in_err-check_tail.ensures.answer
    ∙ terms-decide m (g.O.MonomialOrder.model s.rules.order) s.count.n c.args.pair.j.number c.args.pair.i.number c.args.factor c.args.tail.now c.new.result c.in_ok-relation.relation c.new.ensures.says
    c.in_ok-relation.ensures.ok_part f)

pub returns-clause-answer : goal.returns-clause-answer
returns-clause-answer g c =
    let s = c.args.self.now in
    let m = g.R.Ring.model s.rules.ring in
    let f : passed ≡ check_factor m c.args.factor passed = search rules in
    c.in_ok-check_tail.ensures.answer
    ∙ terms-decide m (g.O.MonomialOrder.model s.rules.order) s.count.n c.args.pair.j.number c.args.pair.i.number c.args.factor c.args.tail.now c.new.result c.in_ok-relation.relation c.new.ensures.says
    c.in_ok-relation.ensures.ok_part f

pub invariant_of-self : goal.invariant_of-self
invariant_of-self g c =
    let s = c.args.self.now in
    let m = g.R.Ring.model s.rules.ring in
    let o = g.O.MonomialOrder.model s.rules.order in
    let ts = c.args.tail.now in
    let j = c.args.pair.j.number in
    let i = c.args.pair.i.number in
    let x = c.in_ok-relation.relation in
    let f : passed ≡ check_factor m c.args.factor passed = search rules in
    let made = MatchOption-at_some (8 < length ts) (λ (x : Relation). (x.factor ≡ c.args.factor) × (tail_of x ≡ ts)) x c.in_ok-relation.ensures.ok_part c.new.ensures.says in
    let pair : Pair s.count.n j i = record { low = omega arith; falls = omega arith; high = omega arith } in
    let answer = c.in_ok-check_tail.ensures.answer ∙ terms-decide m o s.count.n j i c.args.factor ts c.new.result x c.new.ensures.says c.in_ok-relation.ensures.ok_part f in
    record {
      valid = subst (λ p. Valid m o s.count.n (set s.rules.table p x)) (sym c.place.ensures.value)
          (related-valid m o s.count.n j i pair s.rules.table c.args.factor ts x (sym answer) c.in_ok-check_tail.ensures.full (record { factor = made.0; tail = made.1 }) s.valid);
    }
