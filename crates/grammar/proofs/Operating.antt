-- Pieces that are added, and what the loop over operands keeps.
use Rattle.std.proofs.Common.{◌≡◌, ℕ, ◌+◌, ◌-◌, ◌<◌, ◌≤◌, List, [], ◌∷◌, ◌++◌, map, length, Some, None, Ok, Option, sym, refl, ap, ◌∙◌, append_assoc, append-nil, arith, length-drop}
use Rattle.grammar.specs.declared.piece.Piece.{Piece}
use Rattle.grammar.specs.declared.piece.Operator.{Operator}
use Rattle.grammar.specs.Expressions.{Operands, operator_of, joined_by}
use Rattle.grammar.specs.Pieces.{Shown, shown, postfix, postfix_all, Added}
use Rattle.grammar.specs.ExpressionReader.{read_expr, read_more, leaf, leaf_of, generator_or, step_or}
use Rattle.std.proofs.lemmas.Bool.Decides.{nat_tests}
use Rattle.std.proofs.lemmas.List.{map_push}
use Rattle.grammar.specs.Reading.{read_atom, atom_length, generator_of}

-- what a turn of the loop over operands keeps
pub record Going (d : ℕ) (bs : List ℕ) (old code : List Piece) (op : Operator) (joined : ℕ) (rest : List ℕ) : Type 0 where
  pub fuel : ℕ
  pub os : Operands
  pub enough : length rest ≤ fuel
  pub goes : read_more fuel (λ l. read_expr (d - 1) l) os rest ≡ read_expr d bs
  pub stored : Added old code (postfix_all os)
  pub room : length code + length rest ≤ length old + length bs
  pub shorter : length rest < length bs
  pub op_is : op ≡ operator_of os
  pub joined_is : joined ≡ joined_by os
  pub few : joined + length rest ≤ length bs

pub added_none : (all : List Piece) → Added all all []
added_none all = sym (append-nil (map shown all))

pub added_on : (a b c : List Piece) (p q : List Shown) → Added a b p → Added b c q → Added a c (p ++ q)
added_on a b c p q x y = y ∙ ap (λ l. l ++ q) x ∙ append_assoc (map shown a) p q

-- one piece more
pub added_one : (old new : List Piece) (one : Piece) → new ≡ old ++ (one ∷ []) → Added old new (shown one ∷ [])
added_one old new one h = ap (map shown) h ∙ map_push shown old one

-- all pieces there are, where there were none before
pub added_alone : (old new seen : List Piece) (p : List Shown) → old ≡ [] → Added old new p → seen ≡ new → map shown seen ≡ p
added_alone old new seen p e h i = ap (map shown) i ∙ h ∙ ap (λ o. map shown o ++ p) e

pub postfix-leaf : (a : List ℕ) → postfix (leaf a) ≡ leaf_of a ∷ []
unfolding postfix
postfix-leaf a = go (generator_of a)
  where
    go : (o : Option ℕ) → postfix (generator_or a o) ≡ step_or a o ∷ []
    go (Some n) = refl
    go None = refl

pub atom_length_le : (bs : List ℕ) → atom_length bs ≤ length bs
atom_length_le [] = omega arith
atom_length_le (b ∷ bs) = let i = atom_length_le bs in grind (arith, nat_tests)

pub atom_shrinks : (bs a rest : List ℕ) → Ok (a, rest) ≡ read_atom bs → length rest < length bs
atom_shrinks bs a rest h =
    let i = atom_length_le bs in
    let l = length-drop (atom_length bs) bs in
    grind (arith, nat_tests)
