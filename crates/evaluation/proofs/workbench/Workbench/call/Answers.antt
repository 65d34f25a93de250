use Rattle.std.proofs.Common.{◌≡◌, length, sym, ap, ◌∙◌, arith}
use Rattle.algebra.specs.Calls as call
use Rattle.evaluation.specs.Working.{joined}
use Rattle.evaluation.specs.Workbenches.{place}
use Rattle.evaluation.proofs.Valuing.{called}
use Rattle.evaluation.proofs.workbench.Workbench.call.Goals as goal

pub returns-in-Sum-clause-value : goal.returns-in-Sum-clause-value
unfolding joined
returns-in-Sum-clause-value g c =
    let s = place g.R.Ring.model g.O.MonomialOrder.model c.args.self.now in
    let f = c.args.f.now in
    let h = c.args.g.now in
    let full : length c.args.self.now.out.now ≡ 64 = omega arith in
    called s (λ m o mem n table v. call.sum m o mem n table v f h) (length c.args.self.now.out.now) c.sum.new.work c.sum.new.out c.sum.result full c.sum.ensures.answer
    ∙ ap (λ q. joined s q f h) (sym c.in-Sum.is)

pub returns-in-Product-clause-value : goal.returns-in-Product-clause-value
unfolding joined
returns-in-Product-clause-value g c =
    let s = place g.R.Ring.model g.O.MonomialOrder.model c.args.self.now in
    let f = c.args.f.now in
    let h = c.args.g.now in
    let full : length c.args.self.now.out.now ≡ 64 = omega arith in
    called s (λ m o mem n table v. call.product m o mem n table v f h) (length c.args.self.now.out.now) c.product.new.work c.product.new.out c.product.result full c.product.ensures.answer
    ∙ ap (λ q. joined s q f h) (sym c.in-Product.is)

pub returns-in-Difference-clause-value : goal.returns-in-Difference-clause-value
unfolding joined
returns-in-Difference-clause-value g c =
    let s = place g.R.Ring.model g.O.MonomialOrder.model c.args.self.now in
    let f = c.args.f.now in
    let h = c.args.g.now in
    let full : length c.args.self.now.out.now ≡ 64 = omega arith in
    called s (λ m o mem n table v. call.difference m o mem n table v f h) (length c.args.self.now.out.now) c.difference.new.work c.difference.new.out c.difference.result full c.difference.ensures.answer
    ∙ ap (λ q. joined s q f h) (sym c.in-Difference.is)
