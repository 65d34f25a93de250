-- The forms that a line of a script may hold, and how a line that was read holds one.
use Rattle.std.specs.Prelude.{◌≡◌, ℕ, List, [], ◌∷◌, ◌++◌, map, take, replicate}
use Rattle.grammar.specs.declared.forms.RingForm.{RingForm}
use Rattle.grammar.specs.declared.line.Weights.{Weights}
use Rattle.grammar.specs.declared.line.OrderForm.{OrderForm}
use Rattle.grammar.specs.declared.line.OrderForm.TheVariants.{Lex, Degree}
use Rattle.grammar.specs.declared.line.Line.{Line}
use Rattle.grammar.specs.declared.line.Line.TheVariants.{Algebra, Rel, Decide, Calc}
use Rattle.grammar.specs.Expressions.{Expr}
use Rattle.grammar.specs.Pieces.{Shown, a_generator, a_coefficient, shown, postfix}

-- lex, or the weights as they are written
pub data OrderChoice : Type 0 where
  lex : OrderChoice
  degree : List ℕ → OrderChoice

-- a term: the bytes of its coefficient, and the numbers of its generators
pub record TermForm : Type 0 where
  pub coefficient : List ℕ
  pub generators : List ℕ

pub data Form : Type 0 where
  algebra : ℕ → RingForm → OrderChoice → Form
  -- j, i, the bytes of the factor, the tail
  rel : ℕ → ℕ → List ℕ → List TermForm → Form
  decide : Form
  calc : Expr → Form

abbrev pub written_weights : Weights → List ℕ
written_weights ws = take ws.count ws.values

-- eight weights: those written, then ones
abbrev pub padded : List ℕ → List ℕ
padded ws = take 8 (ws ++ replicate 8 1)

abbrev pub order_choice : OrderForm → OrderChoice
order_choice Lex = lex
order_choice (Degree ws) = degree (written_weights ws)

-- the pieces of a term: its coefficient, then its generators
abbrev pub one_term : TermForm → List Shown
one_term t = a_coefficient t.coefficient ∷ map a_generator t.generators

abbrev pub term_pieces : List TermForm → List Shown
term_pieces [] = []
term_pieces (t ∷ ts) = one_term t ++ term_pieces ts

-- a line that was read, and its pieces, hold this form
abbrev pub Holds : Line → Form → Type 0
Holds (Algebra n r o) f = f ≡ algebra n r (order_choice o)
Holds (Rel j i c ps) f = (ts : List TermForm) × (f ≡ rel j i c.now ts) × (map shown ps.now ≡ term_pieces ts)
Holds Decide f = f ≡ decide
Holds (Calc ps) f = (e : Expr) × (f ≡ calc e) × (map shown ps.now ≡ postfix e)
