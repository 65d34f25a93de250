-- The check of coefficients: its loop, and which coefficients it is of.
use Rattle.std.proofs.Common.{◌≡◌, ℕ, ◌+◌, ◌<◌, ◌≤◌, List, [], ◌∷◌, ◌++◌, map, length, get_or, drop, Ok, Result, sym, refl, ap, ◌∙◌}
use Rattle.std.proofs.lemmas.List.{at_drop_more, at_drop_all, append-nil}
use Rattle.coefficients.specs.Coding.{Coding}
use Rattle.grammar.specs.declared.piece.Piece.{Piece}
use Rattle.grammar.specs.Expressions.{Expr, generator, coefficient, apply, Operands, first, next, operator_of}
use Rattle.grammar.specs.Forms.{TermForm, term_pieces}
use Rattle.grammar.specs.Pieces.{Shown, a_generator, a_coefficient, a_join, shown, postfix, postfix_all}
use Rattle.answers.specs.declared.fault.ScriptFault.{ScriptFault}
use Rattle.evaluation.specs.Coefficients.{coefficients_of, expr_coefficients, operand_coefficients, all_read, and_then, by_ring}
use Rattle.evaluation.proofs.Answering.{then_assoc}

-- what is left to check of pieces
abbrev pub read_pieces : Coding → List Piece → Result (Unit {0}) ScriptFault
read_pieces m ps = all_read m (coefficients_of (map shown ps))

pub coefficients_append : (ps qs : List Shown) → coefficients_of (ps ++ qs) ≡ coefficients_of ps ++ coefficients_of qs
coefficients_append [] qs = refl
coefficients_append (a_generator n ∷ ps) qs = coefficients_append ps qs
coefficients_append (a_coefficient a ∷ ps) qs = ap (λ l. a ∷ l) (coefficients_append ps qs)
coefficients_append (a_join o ∷ ps) qs = coefficients_append ps qs

-- the coefficients among the pieces of an expression are the expression's
mutual
  unfolding postfix postfix_all expr_coefficients operand_coefficients

  pub postfix_coefficients : (e : Expr) → coefficients_of (postfix e) ≡ expr_coefficients e
  postfix_coefficients (generator n) = refl
  postfix_coefficients (coefficient a) = refl
  postfix_coefficients (apply os) = operands_coefficients os

  pub operands_coefficients : (os : Operands) → coefficients_of (postfix_all os) ≡ operand_coefficients os
  operands_coefficients (first o e) = postfix_coefficients e
  operands_coefficients (next os e) =
      coefficients_append (postfix_all os) (postfix e ++ (a_join (operator_of os) ∷ []))
      ∙ ap (λ l. coefficients_of (postfix_all os) ++ l) (coefficients_append (postfix e) (a_join (operator_of os) ∷ []) ∙ append-nil (coefficients_of (postfix e)))
      ∙ ap (λ l. coefficients_of (postfix_all os) ++ l) (postfix_coefficients e)
      ∙ ap (λ l. l ++ expr_coefficients e) (operands_coefficients os)

generators-only : (xs : List ℕ) → coefficients_of (map a_generator xs) ≡ []
generators-only [] = refl
generators-only (x ∷ xs) = generators-only xs

-- and those among the pieces of terms are the terms' own
pub term_coefficients : (ts : List TermForm) → coefficients_of (term_pieces ts) ≡ map (λ (t : TermForm). t.coefficient) ts
term_coefficients [] = refl
term_coefficients (t ∷ ts) =
    ap (λ l. t.coefficient ∷ l) (coefficients_append (map a_generator t.generators) (term_pieces ts)
    ∙ ap (λ l. l ++ coefficients_of (term_pieces ts)) (generators-only t.generators) ∙ term_coefficients ts)

pub read-append : (m : Coding) (xs ys : List (List ℕ)) → all_read m (xs ++ ys) ≡ and_then (all_read m xs) (λ _. all_read m ys)
read-append m [] ys = refl
read-append m (x ∷ xs) ys =
    ap (λ r. and_then (by_ring (m.read x)) (λ _. r)) (read-append m xs ys)
    ∙ sym (then_assoc (by_ring (m.read x)) (λ _. all_read m xs) (λ _. all_read m ys))

-- one piece more
pub read_more : (m : Coding) (ps : List Piece) (i : ℕ) (d : Piece) → i < length ps
    → read_pieces m (drop i ps) ≡ and_then (all_read m (coefficients_of (shown (get_or ps i d) ∷ []))) (λ _. read_pieces m (drop (i + 1) ps))
read_more m ps i d h =
    at_drop_more (read_pieces m) ps i d h
    ∙ ap (all_read m) (coefficients_append (shown (get_or ps i d) ∷ []) (map shown (drop (i + 1) ps)))
    ∙ read-append m (coefficients_of (shown (get_or ps i d) ∷ [])) (coefficients_of (map shown (drop (i + 1) ps)))

pub read_all : (m : Coding) (ps : List Piece) (i : ℕ) → length ps ≤ i → read_pieces m (drop i ps) ≡ Ok tt
read_all m ps i h = at_drop_all (read_pieces m) ps i h

-- what was answered, of an expression and of terms
module _ (m : Coding) (ps : List Piece) (r : Result (Unit {0}) ScriptFault) (answer : r ≡ read_pieces m ps) where
  pub expression_read : (e : Expr) → map shown ps ≡ postfix e → r ≡ all_read m (expr_coefficients e)
  expression_read e h = answer ∙ ap (λ l. all_read m (coefficients_of l)) h ∙ ap (all_read m) (postfix_coefficients e)

  pub terms_read : (ts : List TermForm) → map shown ps ≡ term_pieces ts → r ≡ all_read m (map (λ (t : TermForm). t.coefficient) ts)
  terms_read ts h = answer ∙ ap (λ l. all_read m (coefficients_of l)) h ∙ ap (all_read m) (term_coefficients ts)
