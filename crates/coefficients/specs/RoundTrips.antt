-- What reading a text and writing it again gives.
use Rattle.std.specs.Prelude.{ℕ, List, length, Ok, Err}
use Rattle.coefficients.specs.Coding.{Coding, Answer, filled}

-- the length of the text where it is a writing, else the refusal
abbrev pub answer_again : Answer → ℕ → Answer
answer_again (Ok c) n = Ok n
answer_again (Err f) n = Err f

abbrev pub written_again : Coding → List ℕ → Answer
written_again m text = answer_again (m.read text) (length text)

-- the text and zeros where it is a writing, else what was there
abbrev pub bytes_again : Answer → List ℕ → List ℕ → List ℕ
bytes_again (Ok c) text old = filled text
bytes_again (Err f) text old = old

abbrev pub text_after : Coding → List ℕ → List ℕ → List ℕ
text_after m text old = bytes_again (m.read text) text old
