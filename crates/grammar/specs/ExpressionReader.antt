-- How an expression is read.
use Rattle.std.specs.Prelude.{◌≡◌, ℕ, zero, suc, Bool, true, false, cond, List, [], ◌∷◌, length, Some, None, Ok, Err, Option, ◌==◌}
use Rattle.std.specs.Borrow.{Bor}
use Rattle.grammar.specs.declared.fault.ReadFault.TheVariants.{Misfit, DeepBracket}
use Rattle.grammar.specs.declared.piece.Operator.{Operator}
use Rattle.grammar.specs.declared.piece.Operator.TheVariants.{Sum, Product, Difference}
use Rattle.grammar.specs.Reading.{Reads, read_atom, generator_of, read_next, by_next, and_then}
use Rattle.grammar.specs.Expressions.{Expr, generator, coefficient, apply, Operands, first, next, operator_of, joined_by}
use Rattle.grammar.specs.Pieces.{Shown, a_generator, a_coefficient}

-- a space behind the operator
abbrev pub spaced : Operator → List ℕ → Reads Operator
spaced o [] = Err Misfit
spaced o (c ∷ cs) = cond (c == 32) (Ok (o, cs)) (Err Misfit)

abbrev pub read_operator : List ℕ → Reads Operator
read_operator [] = Err Misfit
read_operator (b ∷ bs) = cond (b == 43) (spaced Sum bs) (cond (b == 42) (spaced Product bs) (cond (b == 45) (spaced Difference bs) (Err Misfit)))

-- x and a number is a generator, and anything else a coefficient
abbrev pub generator_or : List ℕ → Option ℕ → Expr
generator_or a (Some n) = generator n
generator_or a None = coefficient a

abbrev pub leaf : List ℕ → Expr
leaf a = generator_or a (generator_of a)

abbrev pub step_or : List ℕ → Option ℕ → Shown
step_or a (Some n) = a_generator n
step_or a None = a_coefficient a

abbrev pub leaf_of : List ℕ → Shown
leaf_of a = step_or a (generator_of a)

-- a difference has two operands, a sum or a product at least one
abbrev pub may_end : Operator → ℕ → Bool
may_end Sum k = true
may_end Product k = true
may_end Difference k = k == 1

abbrev pub may_go_on : Operator → ℕ → Bool
may_go_on Sum k = true
may_go_on Product k = true
may_go_on Difference k = k == 0

-- the operands behind those in os; n bounds how many
unfoldable pub read_more : ℕ → (List ℕ → Reads Expr) → Operands → List ℕ → Reads Expr
read_more zero R os bs = Err Misfit
read_more (suc n) R os bs = by_next (read_next bs)
    (λ q. cond (may_end (operator_of os) (joined_by os)) (Ok (apply os, q)) (Err Misfit))
    (λ r. cond (may_go_on (operator_of os) (joined_by os)) (and_then (R r) (λ p. read_more n R (next os p.0) p.1)) (Err Misfit))

-- what follows an opening bracket
abbrev pub read_inner : (List ℕ → Reads Expr) → List ℕ → Reads Expr
read_inner R bs = and_then (read_operator bs) (λ o. and_then (R o.1) (λ p. read_more (length p.1) R (first o.0 p.0) p.1))

abbrev pub read_leaf : List ℕ → Reads Expr
read_leaf bs = and_then (read_atom bs) (λ p. Ok (leaf p.0, p.1))

abbrev pub by_open : List ℕ → (List ℕ → Reads Expr) → Reads Expr → Reads Expr
by_open [] f g = g
by_open (b ∷ bs) f g = cond (b == 40) (f bs) g

-- an expression whose brackets nest at most d deep
unfoldable pub read_expr : ℕ → List ℕ → Reads Expr
read_expr zero bs = by_open bs (λ _. Err DeepBracket) (read_leaf bs)
read_expr (suc d) bs = by_open bs (λ r. read_inner (λ l. read_expr d l) r) (read_leaf bs)

abbrev pub starts_open : List ℕ → Bool
starts_open [] = false
starts_open (b ∷ bs) = b == 40

abbrev pub Opens : List ℕ → Option (Bor (List ℕ)) → Type 0
Opens bs (Some r) = bs ≡ 40 ∷ r.now
Opens bs None = starts_open bs ≡ false
