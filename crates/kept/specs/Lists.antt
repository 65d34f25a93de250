-- The kept list that stands at the end of a lent memory, and what a change of it leaves.
use Rattle.std.specs.Prelude.{◌≡◌, ℕ, List, [], ◌∷◌, length, take, drop, Some, None, Option, Ok, Err, Result}
use Rattle.words.specs.declared.term.Term.{Term}
use Rattle.kept.specs.declared.fault.KeptFault.{KeptFault}
use Rattle.kept.specs.declared.list.KeptList.{KeptList}
use Rattle.kept.specs.Kept.{Listed}
use Rattle.kept.specs.Terms.{blanks}

module _ {O : Type 0} {k : _} where
  -- its terms
  abbrev pub items : KeptList O k → List Term
  items l = drop l.start l.memory.now

  -- how many places its memory has
  abbrev pub places : KeptList O k → ℕ
  places l = length l.memory.now

  -- the places before it are blank
  abbrev pub BlankBefore : KeptList O k → Type 0
  BlankBefore l = take l.start l.memory.now ≡ blanks l.start

  -- a change leaves its order, and the memory that it stands in
  pub record SameMemory (before after : KeptList O k) : Type 0 where
    pub order : after.order.now ≡ before.order.now
    pub reference : after.memory.ghost_name ≡ before.memory.ghost_name
    pub places : length after.memory.now ≡ length before.memory.now

  -- the list `want`, or its refusal; blank places before the list stay blank, and a refusal changes nothing
  abbrev pub Changed : Listed → KeptList O k → KeptList O k → Result (Unit {0}) KeptFault → Type 0
  Changed want before after (Ok u) = (Ok (items after) ≡ want) × (BlankBefore before → BlankBefore after)
  Changed want before after (Err e) = (want ≡ Err e) × (after.memory.now ≡ before.memory.now) × (after.start ≡ before.start)

  -- the first term, which is gone then, and its place blank; no term of an empty list
  abbrev pub Taken : KeptList O k → KeptList O k → Option Term → Type 0
  Taken before after (Some t) = (items before ≡ t ∷ items after) × (BlankBefore before → BlankBefore after)
  Taken before after None = (items before ≡ []) × (after.memory.now ≡ before.memory.now) × (after.start ≡ before.start)
