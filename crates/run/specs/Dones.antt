-- The terms that are done, at the front of a lent memory.
use Rattle.std.specs.Prelude.{◌≡◌, ℕ, ◌+◌, ◌-◌, ◌≤◌, List, [], ◌∷◌, ◌++◌, length, take, drop, Ok, Err, Result}
use Rattle.words.specs.declared.term.Term.{Term}
use Rattle.kept.specs.Terms.{blanks}
use Rattle.run.specs.declared.done.Done.{Done}
use Rattle.run.specs.declared.fault.Cause.{Cause}
use Rattle.run.specs.declared.fault.Cause.TheVariants.{ResultFull}

abbrev pub terms : Done → List Term
terms d = take d.count d.memory.now

-- how many places their memory has
abbrev pub room : Done → ℕ
room d = length d.memory.now

-- the places behind them are blank
abbrev pub BlankBehind : Done → Type 0
BlankBehind d = drop d.count d.memory.now ≡ blanks (length d.memory.now - d.count)

-- a change leaves the memory that they stand in
pub record SameResult (before after : Done) : Type 0 where
  pub reference : after.memory.ghost_name ≡ before.memory.ghost_name
  pub room : length after.memory.now ≡ length before.memory.now

-- one term more, or no room for it
abbrev pub Pushed : Term → Done → Done → Result (Unit {0}) Cause → Type 0
Pushed t before after (Ok u) = (before.count + 1 ≤ room before) × (terms after ≡ terms before ++ t ∷ []) × (BlankBehind before → BlankBehind after)
Pushed t before after (Err e) = (e ≡ ResultFull) × (room before ≤ before.count)
