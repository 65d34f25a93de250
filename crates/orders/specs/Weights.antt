-- Weights, and the one refusal of this crate.
use Rattle.std.specs.Prelude.{◌≡◌, ℕ, ◌<◌, ◌≤◌, List, map, Result, MatchResult}
use Rattle.refusals.specs.declared.Refusal.{Refusal}
use Rattle.refusals.specs.Refusals.{plain}
use Rattle.orders.specs.declared.weight.Weight.{Weight}
use Rattle.orders.specs.declared.weight.WeightOutOfRange.{WeightOutOfRange}

-- the numbers that weights were made from
abbrev pub weight_values : List Weight → List ℕ
weight_values ws = map (λ w. w.value) ws

-- the weight of value n, or a refusal, which comes exactly where n is not from 1 to 255
abbrev pub Weighs : ℕ → Result Weight WeightOutOfRange → Type 0
Weighs n r = MatchResult r (λ w. (0 < n) × (n ≤ 255) × (w.value ≡ n)) (λ _. 0 < n → n ≤ 255 → ⊥)

abbrev pub refusal_of : WeightOutOfRange → Refusal
refusal_of e = plain 9 1
