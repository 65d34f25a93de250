-- What a whole script is answered with: a line of answer for each line.
use Rattle.std.specs.Prelude.{ℕ, ◌+◌, cond, List, [], ◌∷◌, ◌++◌, length, ◌==◌, nat_le}
use Rattle.grammar.specs.declared.fault.FormFault.TheVariants.{TooLong}
use Rattle.grammar.specs.FormReader.{read_form}
use Rattle.answers.specs.declared.fault.ScriptFault.TheVariants.{Form}
use Rattle.answers.specs.Answers.{answer_bytes, refused}
use Rattle.session.specs.State.{State, start}
use Rattle.session.specs.Turns.{Turn, turn_of}

-- LINES

-- how many bytes come before the first byte 10
abbrev pub line_length : List ℕ → ℕ
line_length [] = 0
line_length (b ∷ bs) = cond (b == 10) 0 (1 + line_length bs)

abbrev pub put_first : ℕ → List (List ℕ) → List (List ℕ)
put_first b [] = (b ∷ []) ∷ []
put_first b (l ∷ ls) = (b ∷ l) ∷ ls

-- a line ends at byte 10, and bytes after the last are one more
unfoldable pub lines : List ℕ → List (List ℕ)
lines [] = []
lines (b ∷ bs) = cond (b == 10) ([] ∷ lines bs) (put_first b (lines bs))

-- ANSWERS

abbrev pub line_turn : State → List ℕ → Turn
line_turn s line = turn_of s (read_form line)

-- the answers of lines from this number on, each ended by a byte 10
unfoldable pub answers : ℕ → State → List (List ℕ) → List ℕ
answers number s [] = []
answers number s (l ∷ ls) = (answer_bytes number (line_turn s l).answer ++ (10 ∷ [])) ++ answers (number + 1) (line_turn s l).after ls

-- an input of more than 65,536 bytes is refused whole
unfoldable pub transcript : List ℕ → List ℕ
transcript input = cond (nat_le (length input) 65536) (answers 1 start (lines input)) (answer_bytes 0 (refused (Form TooLong)) ++ (10 ∷ []))
