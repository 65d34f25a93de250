-- How a word grows by one letter.
use Rattle.std.specs.Prelude.{ℕ, cond, List, [], ◌∷◌, ◌++◌, length, Ok, Err, Result, nat_lt}
use Rattle.orders.specs.Letters.{is_letter, row_places}
use Rattle.words.specs.declared.word.WordFault.{WordFault}
use Rattle.words.specs.declared.word.WordFault.TheVariants.{BadLetter, TooLong}

-- the word with the letter x at its end, or why not
abbrev pub grown : List ℕ → ℕ → Result (List ℕ) WordFault
grown w x = cond (is_letter x) (cond (nat_lt (length w) row_places) (Ok (w ++ x ∷ [])) (Err TooLong)) (Err BadLetter)

-- whether there is a value, or why not
abbrev pub answer : {A E : Type 0} → Result A E → Result (Unit {0}) E
answer (Ok x) = Ok tt
answer (Err e) = Err e

-- the value, or else d
abbrev pub value_or : {A E : Type 0} → A → Result A E → A
value_or d (Ok x) = x
value_or d (Err e) = d
