-- What an insertion leaves in the memory, whose list goes from `start` to its end.
use Rattle.std.specs.Prelude.{◌≡◌, ℕ, ◌≤◌, List, length, take, drop, Ok, Err, Result}
use Rattle.words.specs.declared.term.Term.{Term}
use Rattle.kept.specs.declared.fault.KeptFault.{KeptFault}
use Rattle.kept.specs.Kept.{Listed}
use Rattle.kept.specs.Terms.{blanks}

-- the list `want`, or its refusal; blank places before the list stay blank, and a refusal changes nothing
abbrev pub Inserted : Listed → ℕ → List Term → List Term → Result ℕ KeptFault → Type 0
Inserted want start before after (Ok s) =
    (s ≤ length after) × (Ok (drop s after) ≡ want) × (take start before ≡ blanks start → take s after ≡ blanks s)
Inserted want start before after (Err e) = (after ≡ before) × (want ≡ Err e)
