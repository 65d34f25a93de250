-- What the reader answers, in terms of the language alone.
use Rattle.std.specs.Prelude.{◌≡◌, ℕ, ◌+◌, ◌-◌, ◌<◌, ◌≤◌, cond, ◌↔◌, List, [], ◌∷◌, ◌++◌, length, Ok, Err, ◌==◌, ◌≢◌}
use Rattle.grammar.specs.declared.fault.FormFault.TheVariants.{TooLong, Unreadable, TooDeep}
use Rattle.grammar.specs.Forms.{Form}
use Rattle.grammar.specs.FormReader.{read_form}
use Rattle.grammar.specs.Grammar.{write_form, FineAnyhow, FineForm}

abbrev pub count_of : ℕ → List ℕ → ℕ
count_of b [] = 0
count_of b (c ∷ cs) = cond (c == b) 1 0 + count_of b cs

-- the brackets that are open behind these bytes
abbrev pub open_brackets : List ℕ → ℕ
open_brackets bs = count_of 40 bs - count_of 41 bs

-- up to a bracket inside sixteen others, the line is written like a form of any depth
pub record IsTooDeep (bs : List ℕ) : Type 0 where
  pub form : Form
  pub before : List ℕ
  pub inside : List ℕ
  pub behind : List ℕ
  pub fine : FineAnyhow form
  pub written : write_form form ≡ before ++ (40 ∷ inside)
  pub begins : bs ≡ before ++ (40 ∷ behind)
  pub opened : open_brackets before ≡ 16

-- exactly what is written is read
abbrev pub FormsRead : Type 0
FormsRead = (bs : List ℕ) (f : Form) → (read_form bs ≡ Ok f) ↔ ((length bs ≤ 1000) × FineForm f × (write_form f ≡ bs))

abbrev pub LongRefused : Type 0
LongRefused = (bs : List ℕ) → (read_form bs ≡ Err TooLong) ↔ (1000 < length bs)

abbrev pub DeepRefused : Type 0
DeepRefused = (bs : List ℕ) → (read_form bs ≡ Err TooDeep) ↔ ((length bs ≤ 1000) × IsTooDeep bs)

abbrev pub OthersRefused : Type 0
OthersRefused = (bs : List ℕ) → (read_form bs ≡ Err Unreadable) ↔ ((length bs ≤ 1000) × ((f : Form) → FineForm f → write_form f ≢ bs) × (IsTooDeep bs → ⊥))
