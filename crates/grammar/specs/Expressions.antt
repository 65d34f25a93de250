-- Expressions, and how they are written.
use Rattle.std.specs.Prelude.{ℕ, ◌+◌, List, [], ◌∷◌, ◌++◌, decimal}
use Rattle.grammar.specs.declared.piece.Operator.{Operator}
use Rattle.grammar.specs.declared.piece.Operator.TheVariants.{Sum, Product, Difference}

-- a generator by its number, a coefficient by its bytes, or an operator with its operands
mutual
  pub data Expr : Type 0 where
    generator : ℕ → Expr
    coefficient : List ℕ → Expr
    apply : Operands → Expr

  -- the operator and its first operand, then one operand more and more
  pub data Operands : Type 0 where
    first : Operator → Expr → Operands
    next : Operands → Expr → Operands

abbrev pub operator_of : Operands → Operator
operator_of (first o e) = o
operator_of (next os e) = operator_of os

-- how many operands follow the first
abbrev pub joined_by : Operands → ℕ
joined_by (first o e) = 0
joined_by (next os e) = joined_by os + 1

abbrev pub sign : Operator → ℕ
sign Sum = 43
sign Product = 42
sign Difference = 45

unfoldable mutual
  pub write : Expr → List ℕ
  write (generator n) = 120 ∷ decimal n
  write (coefficient a) = a
  write (apply os) = write_all os ++ (41 ∷ [])

  pub write_all : Operands → List ℕ
  write_all (first o e) = 40 ∷ (sign o ∷ (32 ∷ write e))
  write_all (next os e) = write_all os ++ (32 ∷ write e)
