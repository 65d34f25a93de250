use Rattle.std.proofs.Common.{Ok, rules}
use Rattle.std.proofs.lemmas.Result.{IfOk-weaker, IfErr-weaker}
use Rattle.orders.specs.Weights.{Weighs}
use Rattle.choices.proofs.Chosen.{zip_weaker, all_weighed}
use Rattle.choices.proofs.order.checked.Goals as goal

pub returns : goal.returns
returns c =
    all_weighed c.args.weights c.try_map.result
    (IfOk-weaker c.try_map.result _ _ (λ vs a. zip_weaker _ (λ n v. Weighs n (Ok v)) (λ n v s. search rules) _ _ a.whole) c.try_map.ensures.ok)
    (IfErr-weaker c.try_map.result _ _ (λ e k. (k.0, k.1, search rules)) c.try_map.ensures.err)
