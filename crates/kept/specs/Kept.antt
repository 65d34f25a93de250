-- Insertion into a kept list, by the order of words: zero does nothing, a word that is present gets the sum or goes, a new word gets its place.
use Rattle.std.specs.Prelude.{ℕ, suc, Bool, true, false, cond, List, [], ◌∷◌, Ok, Err, Result, ◌==◌}
use Rattle.std.specs.declared.cmp.Ordering.TheVariants.{Less, Equal, Greater}
use Rattle.std.specs.declared.cmp.Ordering.{Ordering}
use Rattle.coefficients.specs.Coding.{Coding, Answer}
use Rattle.orders.specs.Letters.{letters}
use Rattle.orders.specs.Models.{OrderModel}
use Rattle.words.specs.Compare.{compare_words}
use Rattle.words.specs.declared.term.Term.{Term}
use Rattle.kept.specs.declared.fault.KeptFault.{KeptFault}
use Rattle.kept.specs.declared.fault.KeptFault.TheVariants.{Sum, Full}

abbrev pub Listed : Type 0
Listed = Result (List Term) KeptFault

-- terms compare as their words do
unfoldable pub compare_terms : OrderModel → Term → Term → Ordering
compare_terms o s t = compare_words o (letters s.row) (letters t.row)

-- one term more in front
abbrev pub onto : Term → Listed → Listed
onto x (Ok xs) = Ok (x ∷ xs)
onto x (Err e) = Err e

-- the term x, before the terms xs, with the code that an addition answers; a sum that is zero goes
abbrev pub merged : Term → List Term → Answer → Listed
merged x xs (Ok c) = cond (c == 0) (Ok xs) (Ok (record { row = x.row; code = c } ∷ xs))
merged x xs (Err e) = Err (Sum e)

-- a new term in front of xs; room says how many more terms the memory takes
abbrev pub fresh : ℕ → Term → List Term → Listed
fresh room t xs = cond (room == 0) (Err Full) (Ok (t ∷ xs))

abbrev pub by_order : {A : Type 0} → Ordering → A → A → A → A
by_order Less x y z = x
by_order Equal x y z = y
by_order Greater x y z = z

-- a term that is not zero, at its place
abbrev pub placed : Coding → OrderModel → ℕ → Term → List Term → Listed
placed m o room t [] = fresh room t []
placed m o room t (x ∷ xs) = by_order (compare_terms o x t) (fresh room t (x ∷ xs)) (merged x xs (m.sum x.code t.code)) (onto x (placed m o room t xs))

abbrev pub insert : Coding → OrderModel → ℕ → Term → List Term → Listed
insert m o room t xs = cond (t.code == 0) (Ok xs) (placed m o room t xs)

-- how many terms are greater than t
abbrev pub place : OrderModel → Term → List Term → ℕ
place o t [] = 0
place o t (x ∷ xs) = by_order (compare_terms o x t) 0 0 (suc (place o t xs))

-- whether the word of t is present
abbrev pub present : OrderModel → Term → List Term → Bool
present o t [] = false
present o t (x ∷ xs) = by_order (compare_terms o x t) false true (present o t xs)
