use Rattle.std.proofs.Common.{◌≡◌, ◌-◌, ◌^◌, ◌<◌, ◌≤◌, ◌++◌, length, take, drop, replicate}
use Rattle.coefficients.specs.Numerals.{numeral}
use Rattle.coefficients.proofs.numeral.writes.spell.Given as goal

abbrev pub invariant-loop-rest : goal.invariant-loop-rest
invariant-loop-rest l =
    (length l.out ≡ 80)
    × (16 ≤ l.at)
    × (l.at ≤ 80)
    × (l.rest < 2 ^ (l.at - 16))
    × (take l.at l.out ≡ replicate l.at 0)
    × (numeral l.radix l.rest ++ drop l.at l.out ≡ numeral l.radix l.n)

abbrev pub decreases-loop-rest : goal.decreases-loop-rest
decreases-loop-rest l = l.rest
