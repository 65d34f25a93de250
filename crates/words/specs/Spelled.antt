-- The letters of a word, and the word that a row holds.
use Rattle.std.specs.Prelude.{◌≡◌, ℕ, true, false, List, Result, MatchResult}
use Rattle.orders.specs.Letters.{letters}
use Rattle.words.specs.Rows.{is_row}
use Rattle.words.specs.declared.word.Word.{Word}
use Rattle.words.specs.declared.word.WordFault.{WordFault}
use Rattle.words.specs.declared.word.WordFault.TheVariants.{NoWord}

abbrev pub spelled : Word → List ℕ
spelled w = letters w.row

-- the word that a row holds, or NoWord, which comes exactly where the row is not letters, then zeros
abbrev pub HeldBy : List ℕ → Result Word WordFault → Type 0
HeldBy row r = MatchResult r (λ w. (is_row row ≡ true) × (w.row ≡ row)) (λ e. (is_row row ≡ false) × (e ≡ NoWord))
