-- Refusals without places.
use Rattle.std.specs.Prelude.{ℕ}
use Rattle.refusals.specs.declared.Refusal.{Refusal}

abbrev pub plain : ℕ → ℕ → Refusal
plain n l = record { number = n; layer = l; step = 0; a = 0; b = 0; e = 0 }
