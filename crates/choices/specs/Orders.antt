-- What each of the monomial orders means, and which order weights choose.
use Rattle.std.specs.Prelude.{◌≡◌, ℕ, Bool, true, false, ◌&&◌, List, [], ◌∷◌, Ok, Err, Result, nat_le, nat_lt, refl}
use Rattle.std.proofs.lemmas.Bool.{ltb-true, and_parts}
use Rattle.orders.specs.Models.{OrderModel, lex_model, degree_model}
use Rattle.orders.specs.Weights.{weight_values}
use Rattle.orders.specs.declared.weight.Weight.{Weight}
use Rattle.orders.specs.declared.weight.WeightOutOfRange.{WeightOutOfRange}
use Rattle.choices.specs.declared.order.AnyOrder.{AnyOrder}
use Rattle.choices.specs.declared.order.AnyOrder.TheVariants.{Lex, Degree}

abbrev pub order_model : AnyOrder → OrderModel
order_model (Lex l) = lex_model
order_model (Degree d) = degree_model (weight_values d.weights)

abbrev pub is_weight : ℕ → Bool
is_weight w = nat_lt 0 w && nat_le w 255

abbrev pub all_weights : List ℕ → Bool
all_weights [] = true
all_weights (w ∷ ws) = is_weight w && all_weights ws

abbrev pub weights_of : (ws : List ℕ) → all_weights ws ≡ true → List Weight
weights_of [] h = []
weights_of (w ∷ ws) h =
    let p = and_parts (is_weight w) (all_weights ws) h in
    record { value = w; positive = ltb-true 0 w (and_parts (nat_lt 0 w) (nat_le w 255) p.0).0 } ∷ weights_of ws p.1

-- the order by weighted degree, by whether the weights are from 1 to 255
abbrev pub degree_when : (ws : List ℕ) (t : Bool) → all_weights ws ≡ t → Result AnyOrder WeightOutOfRange
degree_when ws true h = Ok (Degree (record { weights = weights_of ws h }))
degree_when ws false h = Err (record {})

-- the order by weighted degree, or the refusal
abbrev pub degree_from : List ℕ → Result AnyOrder WeightOutOfRange
degree_from ws = degree_when ws (all_weights ws) refl

abbrev pub the_lex : AnyOrder
the_lex = Lex (record {})
