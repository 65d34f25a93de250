use Rattle.std.proofs.Common.{◌≡◌, ap, ◌∙◌}
use Rattle.orders.specs.Models.{degree_model}
use Rattle.orders.specs.Weights.{weight_values}
use Rattle.choices.proofs.Chosen.{degree_chosen}
use Rattle.choices.proofs.order.AnyOrder.degree.Goals as goal

pub returns : goal.returns
returns c =
    let h = c.in_ok-weights.ensures in
    let e : weight_values c.new.result.weights ≡ c.args.weights = ap weight_values c.new.ensures ∙ h.1 in
    record { value = degree_chosen c.args.weights c.new.result h.0 e; model = (h.0, ap degree_model e) }
