use Rattle.std.proofs.Common.{sym, ap, ◌∙◌}
use Rattle.answers.specs.declared.fault.ScriptFault.TheVariants as fault
use Rattle.choices.specs.Orders.{degree_from}
use Rattle.grammar.specs.Forms.{order_choice}
use Rattle.session.specs.Turns.{wrapped, order_from}
use Rattle.session.proofs.opening.chosen_order.Goals as goal

pub returns-in_ok-order-in-Degree : goal.returns-in_ok-order-in-Degree
returns-in_ok-order-in-Degree c =
    ap (wrapped fault.Weight) (c.in_ok-order-in-Degree.ensures.value ∙ ap degree_from c.eight.ensures) ∙ sym (ap (λ f. order_from (order_choice f)) c.in-Degree.is)
