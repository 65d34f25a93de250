use Rattle.std.proofs.Common.{◌≡◌, [], ◌∷◌, length, ◌∙◌, arith}
use Rattle.algebra.specs.Calls as call
use Rattle.evaluation.specs.Working.{normal_form}
use Rattle.evaluation.specs.Workbenches.{place}
use Rattle.evaluation.proofs.Valuing.{called}
use Rattle.evaluation.proofs.workbench.Workbench.normal.Goals as goal

pub returns-clause-value : goal.returns-clause-value
unfolding normal_form
returns-clause-value g c =
    let s = place g.R.Ring.model g.O.MonomialOrder.model c.args.self.now in
    let ts = c.args.term ∷ [] in
    let full : length c.args.self.now.out.now ≡ 64 = omega arith in
    c.framed.ensures
    ∙ called s (λ m o mem n table v. call.normalise m o mem n table v ts) (length c.args.self.now.out.now) c.normalise-answer.new.work c.normalise-answer.new.out c.normalise-answer.result full c.normalise-answer.ensures.answer
