-- The pieces of the expression reader.
use Rattle.std.proofs.Common.{◌≡◌, ℕ, zero, suc, ◌+◌, ◌-◌, ◌<◌, ◌≤◌, Bool, true, false, cond, List, [], ◌∷◌, ◌++◌, length, Ok, Err, sym, refl, ap, ◌∙◌, length-append, arith}
use Rattle.std.proofs.lemmas.Bool.Decides.{nat_tests}
use Rattle.grammar.specs.declared.fault.ReadFault.{ReadFault}
use Rattle.grammar.proofs.Operating.{Going, added_on, added_one}
use Rattle.grammar.specs.declared.fault.ReadFault.TheVariants.{Misfit, DeepBracket}
use Rattle.grammar.specs.declared.bytes.Next.{Next}
use Rattle.grammar.specs.declared.bytes.Next.TheVariants.{Part, End}
use Rattle.grammar.specs.declared.piece.Piece.{Piece}
use Rattle.grammar.specs.declared.piece.Piece.TheVariants.{Join}
use Rattle.grammar.specs.declared.piece.Operator.{Operator}
use Rattle.grammar.specs.declared.piece.Operator.TheVariants.{Sum, Product, Difference}
use Rattle.grammar.specs.Reading.{Reads, and_then}
use Rattle.grammar.specs.Reading.{read_next}
use Rattle.grammar.specs.Expressions.{Expr, apply, Operands, first, next, operator_of, joined_by}
use Rattle.grammar.specs.Pieces.{a_join, postfix, postfix_all, Added}
use Rattle.grammar.specs.ExpressionReader.{read_expr, read_more, read_inner, read_leaf, read_operator, spaced, starts_open, may_end, may_go_on}

pub at_leaf : (d : ℕ) (bs : List ℕ) → starts_open bs ≡ false → read_expr d bs ≡ read_leaf bs
unfolding read_expr
at_leaf zero [] h = refl
at_leaf zero (b ∷ bs) h = rw h
at_leaf (suc d) [] h = refl
at_leaf (suc d) (b ∷ bs) h = rw h

pub too_deep : (d : ℕ) (bs r : List ℕ) → bs ≡ 40 ∷ r → d ≡ 0 → read_expr d bs ≡ Err DeepBracket
unfolding read_expr
too_deep zero bs r e h = rw e
too_deep (suc d) bs r e h = absurd (omega arith)

pub at_open : (d : ℕ) (bs r : List ℕ) → bs ≡ 40 ∷ r → 0 < d → read_expr d bs ≡ read_inner (λ l. read_expr (d - 1) l) r
unfolding read_expr
at_open zero bs r e h = absurd (omega arith)
at_open (suc d) bs r e h = let z : d ≡ suc d - 1 = omega arith in rw e (ap (λ k. read_inner (λ l. read_expr k l) r) z)

spaced_shrinks : (o p : Operator) (bs rest : List ℕ) → Ok (p, rest) ≡ spaced o bs → length rest + 1 ≤ length bs
spaced_shrinks o p [] rest h = absurd (cc)
spaced_shrinks o p (b ∷ bs) rest h = grind (arith, nat_tests)

pub operator_shrinks : (o : Operator) (bs rest : List ℕ) → Ok (o, rest) ≡ read_operator bs → length rest + 1 ≤ length bs
operator_shrinks o [] rest h = absurd (cc)
operator_shrinks o (b ∷ bs) rest h = let s = spaced_shrinks Sum o bs rest in let p = spaced_shrinks Product o bs rest in let d = spaced_shrinks Difference o bs rest in grind (arith, nat_tests)

pub next_shrinks : (x : Next) (bs rest : List ℕ) → Ok (x, rest) ≡ read_next bs → length rest + 1 ≡ length bs
next_shrinks x [] rest h = absurd (cc)
next_shrinks x (b ∷ bs) rest h = grind (arith, nat_tests)

pub inner_none : (R : List ℕ → Reads Expr) (bs : List ℕ) (x : ReadFault) → Err x ≡ read_operator bs → read_inner R bs ≡ Err x
inner_none R bs x e = rw (sym e)

pub inner_first : (R : List ℕ → Reads Expr) (bs r : List ℕ) (o : Operator) (x : ReadFault) → Ok (o, r) ≡ read_operator bs → R r ≡ Err x → read_inner R bs ≡ Err x
inner_first R bs r o x e f = rw (sym e, f)

pub inner_goes : (R : List ℕ → Reads Expr) (bs r rest : List ℕ) (o : Operator) (e : Expr) → Ok (o, r) ≡ read_operator bs → R r ≡ Ok (e, rest) → read_inner R bs ≡ read_more (length rest) R (first o e) rest
inner_goes R bs r rest o e h f = rw (sym h, f)

pub more_none : (n : ℕ) (R : List ℕ → Reads Expr) (os : Operands) (bs : List ℕ) (x : ReadFault) → length bs ≤ n → Err x ≡ read_next bs → read_more n R os bs ≡ Err x
unfolding read_more
more_none zero R os [] x h e = cc
more_none zero R os (b ∷ bs) x h e = absurd (omega arith)
more_none (suc n) R os bs x h e = rw (sym e)

module _ (R : List ℕ → Reads Expr) (os : Operands) (op : Operator) (k : ℕ) (is-op : op ≡ operator_of os) (is-k : k ≡ joined_by os) where
  pub more-end : (n : ℕ) (x : Next) (bs rest : List ℕ) (b : Bool) → length bs ≤ n → x ≡ End → Ok (x, rest) ≡ read_next bs → b ≡ may_end op k → read_more n R os bs ≡ cond b (Ok (apply os, rest)) (Err Misfit)
  unfolding read_more
  more-end zero x bs rest b h i e f = let s = next_shrinks x bs rest e in absurd (omega arith)
  more-end (suc n) x bs rest b h i e f = rw (sym e, i, sym is-op, sym is-k, sym f)

  pub more-part : (n : ℕ) (x : Next) (bs rest : List ℕ) (b : Bool) → length bs ≤ n → x ≡ Part → Ok (x, rest) ≡ read_next bs → b ≡ may_go_on op k → read_more n R os bs ≡ cond b (and_then (R rest) (λ p. read_more (n - 1) R (next os p.0) p.1)) (Err Misfit)
  unfolding read_more
  more-part zero x bs rest b h i e f = let s = next_shrinks x bs rest e in absurd (omega arith)
  more-part (suc n) x bs rest b h i e f = let z : n ≡ suc n - 1 = omega arith in rw (sym e, i, sym is-op, sym is-k, sym f) (ap (λ m. cond b (and_then (R rest) (λ p. read_more m R (next os p.0) p.1)) (Err Misfit)) z)

-- another operand, and then the operator
added_next : (old a b c : List Piece) (os : Operands) (e : Expr) (o : Operator) → o ≡ operator_of os → Added old a (postfix_all os) → Added a b (postfix e) → Added b c (a_join o ∷ []) → Added old c (postfix_all (next os e))
unfolding postfix
added_next old a b c os e o h x y z = rw (sym h) (added_on old a c (postfix_all os) (postfix e ++ (a_join o ∷ [])) x (added_on a b c (postfix e) (a_join o ∷ []) y z))

-- a turn of the loop over operands, by what comes next
module _ {d joined : ℕ} {bs rest : List ℕ} {old new : List Piece} {op : Operator} (g : Going d bs old new op joined rest) where
  pub going_fault : (x : ReadFault) → Err x ≡ read_next rest → read_expr d bs ≡ Err x
  going_fault x e = sym g.goes ∙ more_none g.fuel (λ l. read_expr (d - 1) l) g.os rest x g.enough e

  pub going_end : (x : Next) (after : List ℕ) (b : Bool) → x ≡ End → Ok (x, after) ≡ read_next rest → b ≡ may_end op joined → read_expr d bs ≡ cond b (Ok (apply g.os, after)) (Err Misfit)
  going_end x after b i e f = sym g.goes ∙ more-end (λ l. read_expr (d - 1) l) g.os op joined g.op_is g.joined_is g.fuel x rest after b g.enough i e f

  pub going_part : (x : Next) (after : List ℕ) (b : Bool) → x ≡ Part → Ok (x, after) ≡ read_next rest → b ≡ may_go_on op joined → read_expr d bs ≡ cond b (and_then (read_expr (d - 1) after) (λ p. read_more (g.fuel - 1) (λ l. read_expr (d - 1) l) (next g.os p.0) p.1)) (Err Misfit)
  going_part x after b i e f = sym g.goes ∙ more-part (λ l. read_expr (d - 1) l) g.os op joined g.op_is g.joined_is g.fuel x rest after b g.enough i e f

  pub going_stops : (x : Next) (after : List ℕ) (y : ReadFault) → x ≡ Part → Ok (x, after) ≡ read_next rest → true ≡ may_go_on op joined → read_expr (d - 1) after ≡ Err y → read_expr d bs ≡ Err y
  going_stops x after y i e f h = going_part x after true i e f ∙ ap (λ r. and_then r (λ p. read_more (g.fuel - 1) (λ l. read_expr (d - 1) l) (next g.os p.0) p.1)) h

  pub going_again : (x : Next) (after more : List ℕ) (e : Expr) (mid last : List Piece) → x ≡ Part → Ok (x, after) ≡ read_next rest → true ≡ may_go_on op joined → read_expr (d - 1) after ≡ Ok (e, more) → Added new mid (postfix e) → length mid + length more ≤ length new + length after → length more < length after → last ≡ mid ++ (Join op ∷ []) → Going d bs old last op (joined + 1) more
  going_again x after more e mid last i h f r s room less t =
      let k = next_shrinks x rest after h in
      let l = ap length t ∙ length-append mid _ in
      record {
        fuel = g.fuel - 1;
        os = next g.os e;
        enough = omega (arith, g.enough);
        goes = sym (going_part x after true i h f ∙ ap (λ r. and_then r (λ p. read_more (g.fuel - 1) (λ l. read_expr (d - 1) l) (next g.os p.0) p.1)) r);
        stored = added_next old new mid last g.os e op g.op_is g.stored s (added_one mid last (Join op) t);
        room = omega (arith, g.room);
        shorter = omega (arith, g.shorter);
        op_is = g.op_is;
        joined_is = ap (λ x. x + 1) g.joined_is;
        few = omega (arith, g.few);
      }
