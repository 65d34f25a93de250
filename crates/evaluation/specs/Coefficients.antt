-- The coefficients that a line writes, from the left, and whether a ring reads them all.
use Rattle.std.specs.Prelude.{ℕ, List, [], ◌∷◌, ◌++◌, Ok, Err, Result}
use Rattle.coefficients.specs.Coding.{Coding}
use Rattle.coefficients.specs.declared.fault.RingFault.{RingFault}
use Rattle.grammar.specs.Expressions.{Expr, generator, coefficient, apply, Operands, first, next}
use Rattle.grammar.specs.Pieces.{Shown, a_generator, a_coefficient, a_join}
use Rattle.answers.specs.declared.fault.ScriptFault.{ScriptFault}
use Rattle.answers.specs.declared.fault.ScriptFault.TheVariants.{Coefficient}

abbrev pub and_then : {A B : Type 0} → Result A ScriptFault → (A → Result B ScriptFault) → Result B ScriptFault
and_then (Ok x) f = f x
and_then (Err e) f = Err e

-- what a ring answers, its fault as the script's
abbrev pub by_ring : {A : Type 0} → Result A RingFault → Result A ScriptFault
by_ring (Ok x) = Ok x
by_ring (Err e) = Err (Coefficient e)

-- the coefficients among pieces
abbrev pub coefficients_of : List Shown → List (List ℕ)
coefficients_of [] = []
coefficients_of (a_generator n ∷ ps) = coefficients_of ps
coefficients_of (a_coefficient a ∷ ps) = a ∷ coefficients_of ps
coefficients_of (a_join o ∷ ps) = coefficients_of ps

-- the coefficients of an expression
unfoldable mutual
  pub expr_coefficients : Expr → List (List ℕ)
  expr_coefficients (generator n) = []
  expr_coefficients (coefficient a) = a ∷ []
  expr_coefficients (apply os) = operand_coefficients os

  pub operand_coefficients : Operands → List (List ℕ)
  operand_coefficients (first o e) = expr_coefficients e
  operand_coefficients (next os e) = operand_coefficients os ++ expr_coefficients e

-- each is read by the ring, or the first that is not is refused
abbrev pub all_read : Coding → List (List ℕ) → Result (Unit {0}) ScriptFault
all_read m [] = Ok tt
all_read m (a ∷ more) = and_then (by_ring (m.read a)) (λ _. all_read m more)
