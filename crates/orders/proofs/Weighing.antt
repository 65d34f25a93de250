-- A weighted sum over pairs of a weight and a count.
use Rattle.std.proofs.Common.{◌≡◌, ℕ, ◌+◌, ◌*◌, List, [], ◌∷◌, sum_by, refl, ap, ◌∙◌}
use Rattle.std.specs.List.{zip}
use Rattle.std.proofs.lemmas.List.Sums.{sum_by-cons}
use Rattle.orders.specs.Orders.{dot}
use Rattle.orders.specs.Weights.{weight_values}
use Rattle.orders.specs.declared.weight.Weight.{Weight}

abbrev pub weight_of_pair : Weight × ℕ → ℕ
weight_of_pair p = p.0.value * p.1

pub pairs_dot : (ws : List Weight) (ns : List ℕ) → sum_by weight_of_pair (zip ws ns) ≡ dot (weight_values ws) ns
pairs_dot [] ns = refl
pairs_dot (w ∷ ws) [] = refl
pairs_dot (w ∷ ws) (n ∷ ns) = sum_by-cons weight_of_pair (w, n) (zip ws ns) ∙ ap (λ k. w.value * n + k) (pairs_dot ws ns)
