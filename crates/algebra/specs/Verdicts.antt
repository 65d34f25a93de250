-- What a verdict says.
use Rattle.algebra.specs.declared.verdict.Verdict.{Verdict}
use Rattle.algebra.specs.declared.verdict.Verdict.TheVariants.{Undecided, Sound, Degenerate}

abbrev pub IsSound : Verdict → Type 0
IsSound Undecided = ⊥
IsSound Sound = Unit {0}
IsSound (Degenerate i j k) = ⊥

abbrev pub IsDegenerate : Verdict → Type 0
IsDegenerate Undecided = ⊥
IsDegenerate Sound = ⊥
IsDegenerate (Degenerate i j k) = Unit {0}

abbrev pub IsDecided : Verdict → Type 0
IsDecided Undecided = ⊥
IsDecided Sound = Unit {0}
IsDecided (Degenerate i j k) = Unit {0}
