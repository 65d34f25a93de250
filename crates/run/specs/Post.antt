-- What loading, a step and a run leave of the work list and of the terms that are done.
use Rattle.std.specs.Prelude.{◌≡◌, ℕ, ◌-◌, ◌≤◌, List, [], length, take, drop, Ok, Err, Result}
use Rattle.words.specs.declared.term.Term.{Term}
use Rattle.orders.specs.Models.{OrderModel}
use Rattle.kept.specs.Falling.{Falls}
use Rattle.kept.specs.declared.list.KeptList.{KeptList}
use Rattle.kept.specs.Lists.{items, BlankBefore, SameMemory}
use Rattle.kept.specs.Terms.{blanks}
use Rattle.run.specs.declared.done.Done.{Done}
use Rattle.run.specs.declared.fault.RunFault.{RunFault}
use Rattle.run.specs.Dones.{terms, BlankBehind, SameResult}
use Rattle.run.specs.Step.{State, Outcome}

module _ {O : Type 0} {k : _} where
  -- the list `want`, or its refusal; blank places before the list stay blank
  abbrev pub Left : {E : Type 0} → Result (List Term) E → KeptList O k → KeptList O k → Result (Unit {0}) E → Type 0
  Left want before after (Ok u) = SameMemory before after × (Ok (items after) ≡ want) × (BlankBefore before → BlankBefore after)
  Left want before after (Err e) = SameMemory before after × (want ≡ Err e)

  -- the state `want`, or its refusal; blank places stay blank
  abbrev pub Stepped : Result State RunFault → KeptList O k → Done → KeptList O k → Done → Result (Unit {0}) RunFault → Type 0
  Stepped want list done list' done' (Ok u) =
      SameMemory list list' × SameResult done done' × (Ok (record { work = items list'; done = terms done' }) ≡ want)
      × (BlankBefore list → BlankBefore list')
      × (BlankBehind done → BlankBehind done')
  Stepped want list done list' done' (Err e) = SameMemory list list' × SameResult done done' × (want ≡ Err e)

  -- the outcome `want`, the work list empty, or its refusal; blank places stay blank
  abbrev pub Ran : Result Outcome RunFault → KeptList O k → Done → KeptList O k → Done → Result ℕ RunFault → Type 0
  Ran want list done list' done' (Ok n) =
      SameMemory list list' × SameResult done done' × (Ok (record { terms = terms done'; steps = n }) ≡ want) × (items list' ≡ [])
      × (BlankBefore list → BlankBefore list')
      × (BlankBehind done → BlankBehind done')
  Ran want list done list' done' (Err e) = SameMemory list list' × SameResult done done' × (want ≡ Err e)

-- the outcome `want`, or its refusal; of blank memories the result memory holds the terms and then blanks, and the work memory is blank
abbrev pub Calculated : Result Outcome RunFault → List Term → List Term → List Term → List Term → Result (ℕ × ℕ) RunFault → Type 0
Calculated want work out work' out' (Ok p) =
    (p.0 ≤ length out') × (Ok (record { terms = take p.0 out'; steps = p.1 }) ≡ want)
    × (work ≡ blanks (length work) → work' ≡ blanks (length work'))
    × (out ≡ blanks (length out) → drop p.0 out' ≡ blanks (length out' - p.0))
Calculated want work out work' out' (Err e) = want ≡ Err e

-- the same of a list that goes from `start` to the end of a lent memory, and that its words fall
abbrev pub LeftFrom : {E : Type 0} → OrderModel → Result (List Term) E → ℕ → List Term → List Term → Result ℕ E → Type 0
LeftFrom o want start before after (Ok s) =
    (s ≤ length after) × (Ok (drop s after) ≡ want) × (take start before ≡ blanks start → take s after ≡ blanks s) × Falls o (drop s after)
LeftFrom o want start before after (Err e) = want ≡ Err e

-- the list that was loaded, or the refusal
abbrev pub listed : Result ℕ RunFault → List Term → Result (List Term) RunFault
listed (Ok s) work = Ok (drop s work)
listed (Err e) work = Err e

-- a list that was loaded stands in its memory, its words fall, and the places before it are blank
abbrev pub Ready : OrderModel → Result ℕ RunFault → List Term → Type 0
Ready o (Ok s) work = (s ≤ length work) × (take s work ≡ blanks s) × Falls o (drop s work)
Ready o (Err e) work = Unit {0}

-- the outcome `want`, or its refusal; the work memory is blank, and of a blank result memory it holds the terms and then blanks
abbrev pub Ended : Result Outcome RunFault → List Term → List Term → List Term → Result (ℕ × ℕ) RunFault → Type 0
Ended want out work' out' (Ok p) =
    (p.0 ≤ length out') × (Ok (record { terms = take p.0 out'; steps = p.1 }) ≡ want) × (work' ≡ blanks (length work'))
    × (out ≡ blanks (length out) → drop p.0 out' ≡ blanks (length out' - p.0))
Ended want out work' out' (Err e) = want ≡ Err e
