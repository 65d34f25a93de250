-- Entries: what is to be inserted, and what comes of inserting entries one after another.
use Rattle.std.specs.Prelude.{ℕ, ◌+◌, ◌-◌, List, [], ◌∷◌, length, Some, None, Ok, Err, Option, Result}
use Rattle.coefficients.specs.Coding.{Coding, Answer}
use Rattle.orders.specs.Models.{OrderModel}
use Rattle.words.specs.declared.term.Term.{Term}
use Rattle.kept.specs.Kept.{insert, Listed}
use Rattle.run.specs.declared.entry.Entry.{Entry as RowEntry}
use Rattle.run.specs.declared.fault.Cause.{Cause}
use Rattle.run.specs.declared.fault.Cause.TheVariants.{Coefficient, WordTooLong}
use Rattle.run.specs.declared.fault.Place.{Place}
use Rattle.run.specs.declared.fault.RunFault.{RunFault}
use Rattle.run.specs.Faults.{cause_of_kept}
use Rattle.run.specs.Pieces.{rowed}

-- a word, the answer that gives its code, and the place of a fault
pub record Entry : Type 0 where
  pub word : List ℕ
  pub code : Answer
  pub place : Place

abbrev pub then_do : {A B E : Type 0} → Result A E → (A → Result B E) → Result B E
then_do (Ok x) f = f x
then_do (Err e) f = Err e

-- the same, or the fault at its place
abbrev pub at_place : {A : Type 0} → Place → Result A Cause → Result A RunFault
at_place p (Ok x) = Ok x
at_place p (Err e) = Err (record { cause = e; place = p })

abbrev pub from_kept : Listed → Result (List Term) Cause
from_kept (Ok xs) = Ok xs
from_kept (Err e) = Err (cause_of_kept e)

-- a row and a code into a list, where the memory has cap places: first the length, then the code, then the insertion
abbrev pub added : Coding → OrderModel → ℕ → Option (List ℕ) → Answer → List Term → Result (List Term) Cause
added m o cap None r xs = Err WordTooLong
added m o cap (Some row) (Err e) xs = Err (Coefficient e)
added m o cap (Some row) (Ok c) xs = from_kept (insert m o (cap - length xs) (record { row = row; code = c }) xs)

-- the same for an entry as code has it, which refuses at its place
abbrev pub entered : Coding → OrderModel → ℕ → RowEntry → List Term → Result (List Term) RunFault
entered m o cap e xs = at_place e.place (added m o cap e.row e.code xs)

-- an entry as code has it, with the row of its word
abbrev pub row_entry : Entry → RowEntry
row_entry e = record { row = rowed e.word; code = e.code; place = e.place }

unfoldable pub add_entry : Coding → OrderModel → ℕ → Entry → List Term → Result (List Term) RunFault
add_entry m o cap e xs = at_place e.place (added m o cap (rowed e.word) e.code xs)

-- what each term of a list gives, the places counted from p
abbrev pub each_entry : (ℕ → Term → Entry) → ℕ → List Term → List Entry
each_entry f p [] = []
each_entry f p (t ∷ ts) = f p t ∷ each_entry f (p + 1) ts

-- one entry after another
abbrev pub load : Coding → OrderModel → ℕ → List Entry → List Term → Result (List Term) RunFault
load m o cap [] xs = Ok xs
load m o cap (e ∷ es) xs = then_do (add_entry m o cap e xs) (load m o cap es)
