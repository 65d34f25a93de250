-- Writings that no space or bracket breaks.
use Rattle.std.specs.Prelude.{◌≡◌, ℕ, true, ◌≢◌, List, [], ◌∷◌}
use Rattle.coefficients.specs.Coding.{Coding}

-- no space, which is 32, and no bracket, which is 40 or 41
abbrev pub Plain : List ℕ → Type 0
Plain [] = Unit {0}
Plain (b ∷ bs) = (b ≢ 32) × (b ≢ 40) × (b ≢ 41) × Plain bs

-- the writing of every code in use is plain
abbrev pub WritesPlainly : Coding → Type 0
WritesPlainly m = (c : ℕ) → m.used c ≡ true → Plain (m.writing c)
