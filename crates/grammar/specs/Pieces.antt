-- What the reader leaves of a form for being worked out: its pieces, those of an expression in postfix order.
use Rattle.std.specs.Prelude.{◌≡◌, ℕ, List, [], ◌∷◌, ◌++◌, map}
use Rattle.grammar.specs.declared.piece.Operator.{Operator}
use Rattle.grammar.specs.declared.piece.Piece.{Piece}
use Rattle.grammar.specs.declared.piece.Piece.TheVariants.{Generator, Coefficient, Join}
use Rattle.grammar.specs.Expressions.{Expr, generator, coefficient, apply, Operands, first, next, operator_of}

-- a piece by what it refers to
pub data Shown : Type 0 where
  a_generator : ℕ → Shown
  a_coefficient : List ℕ → Shown
  a_join : Operator → Shown

abbrev pub shown : Piece → Shown
shown (Generator n) = a_generator n
shown (Coefficient a) = a_coefficient a.now
shown (Join o) = a_join o

-- each operand behind the first is joined before the next
unfoldable mutual
  pub postfix : Expr → List Shown
  postfix (generator n) = a_generator n ∷ []
  postfix (coefficient a) = a_coefficient a ∷ []
  postfix (apply os) = postfix_all os

  pub postfix_all : Operands → List Shown
  postfix_all (first o e) = postfix e
  postfix_all (next os e) = postfix_all os ++ (postfix e ++ (a_join (operator_of os) ∷ []))

-- the added pieces stand behind those before
abbrev pub Added : List Piece → List Piece → List Shown → Type 0
Added old new added = map shown new ≡ map shown old ++ added
