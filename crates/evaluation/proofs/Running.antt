-- The stack machine, piece by piece, and what it makes of an expression.
use Rattle.std.proofs.Common.{◌≡◌, ℕ, ◌+◌, ◌<◌, ◌≤◌, List, [], ◌∷◌, ◌++◌, map, length, get_or, drop, Ok, Err, Result, sym, refl, ap, ◌∙◌, arith}
use native.Mathlib.Nat.{le-max_left, le-max_right}
use Rattle.std.proofs.lemmas.List.{at_drop_more, at_drop_all}
use Rattle.coefficients.specs.Coding.{Coding}
use Rattle.orders.specs.Models.{OrderModel}
use Rattle.words.specs.declared.term.Term.{Term}
use Rattle.grammar.specs.declared.piece.Operator.{Operator}
use Rattle.grammar.specs.declared.piece.Piece.{Piece}
use Rattle.grammar.specs.Expressions.{Expr, generator, coefficient, apply, Operands, first, next, operator_of}
use Rattle.grammar.specs.Pieces.{Shown, a_generator, a_coefficient, a_join, shown, postfix, postfix_all}
use Rattle.answers.specs.declared.fault.ScriptFault.{ScriptFault}
use Rattle.evaluation.specs.Coefficients.{and_then}
use Rattle.evaluation.specs.Working.{Setting, setting, generator_value, coefficient_value, joined, worked_out, worked_out_all}
use Rattle.evaluation.specs.declared.workbench.Workbench.{Workbench}
use Rattle.evaluation.specs.Workbenches.{place, Same}
use Rattle.grammar.specs.Grammar.{depth, depth_all}
use Rattle.evaluation.specs.Machine.{Stack, pushed, step, run, only, machine}
use Rattle.evaluation.proofs.Answering.{then_assoc, then_same, then_ok}
use Rattle.evaluation.proofs.Stacking.{room}

module _ (s : Setting) (cap : ℕ) where
  -- what is left to work out of pieces
  abbrev pub run_rest : List Piece → Stack → Result Stack ScriptFault
  run_rest ps st = run s cap (map shown ps) st

  pub run_more : (ps : List Piece) (i : ℕ) (d : Piece) (st : Stack) → i < length ps → run_rest (drop i ps) st ≡ and_then (step s cap (shown (get_or ps i d)) st) (λ t. run_rest (drop (i + 1) ps) t)
  unfolding run
  run_more ps i d st h = at_drop_more (λ l. run s cap (map shown l) st) ps i d h

  pub run_all : (ps : List Piece) (i : ℕ) (st : Stack) → length ps ≤ i → run_rest (drop i ps) st ≡ Ok st
  unfolding run
  run_all ps i st h = at_drop_all (λ l. run s cap (map shown l) st) ps i h

  -- pieces and then others
  pub run-append : (ps qs : List Shown) (st : Stack) → run s cap (ps ++ qs) st ≡ and_then (run s cap ps st) (λ t. run s cap qs t)
  unfolding run
  run-append [] qs st = refl
  run-append (p ∷ ps) qs st =
      then_same (step s cap p st) (λ t. run s cap (ps ++ qs) t) (λ t. and_then (run s cap ps t) (λ u. run s cap qs u)) (λ t. run-append ps qs t)
      ∙ sym (then_assoc (step s cap p st) (λ t. run s cap ps t) (λ u. run s cap qs u))

  run-one : (p : Shown) (st : Stack) → run s cap (p ∷ []) st ≡ step s cap p st
  unfolding run
  run-one p st = then_ok (step s cap p st)

  leaf_runs : (p : Shown) (st : Stack) (r : Result (List Term) ScriptFault) → step s cap p st ≡ pushed cap st r → length st + 0 < cap → run s cap (p ∷ []) st ≡ and_then r (λ v. Ok (v ∷ st))
  leaf_runs p st r e h = run-one p st ∙ e ∙ room cap st r (omega arith)

  -- an operand worked out behind the value v, and joined to it
  operand_runs : (ps : List Shown) (o : Operator) (v : List Term) (st : Stack) (e : Result (List Term) ScriptFault) → run s cap ps (v ∷ st) ≡ and_then e (λ u. Ok (u ∷ (v ∷ st)))
      → run s cap (ps ++ (a_join o ∷ [])) (v ∷ st) ≡ and_then (and_then e (λ u. joined s o v u)) (λ w. Ok (w ∷ st))
  unfolding step
  operand_runs ps o v st e h =
      run-append ps (a_join o ∷ []) (v ∷ st) ∙ ap (λ r. and_then r (λ t. run s cap (a_join o ∷ []) t)) h
      ∙ then_assoc e (λ u. Ok (u ∷ (v ∷ st))) (λ t. run s cap (a_join o ∷ []) t)
      ∙ then_same e (λ u. run s cap (a_join o ∷ []) (u ∷ (v ∷ st))) (λ u. and_then (joined s o v u) (λ w. Ok (w ∷ st))) (λ u. run-one (a_join o) (u ∷ (v ∷ st)))
      ∙ sym (then_assoc e (λ u. joined s o v u) (λ w. Ok (w ∷ st)))

  -- an expression leaves its value on the stack: its depth and one frame more are enough
  mutual
    unfolding postfix postfix_all worked_out worked_out_all depth depth_all step

    pub expression_runs : (e : Expr) (st : Stack) → length st + depth e < cap → run s cap (postfix e) st ≡ and_then (worked_out s e) (λ v. Ok (v ∷ st))
    expression_runs (generator x) st h = leaf_runs (a_generator x) st (generator_value s x) refl h
    expression_runs (coefficient a) st h = leaf_runs (a_coefficient a) st (coefficient_value s a) refl h
    expression_runs (apply os) st h = operands_run os st (omega arith)

    pub operands_run : (os : Operands) (st : Stack) → length st + depth_all os + 1 < cap → run s cap (postfix_all os) st ≡ and_then (worked_out_all s os) (λ v. Ok (v ∷ st))
    operands_run (first o e) st h = expression_runs e st (omega arith)
    operands_run (next os e) st h =
        let left = le-max_left (depth_all os) (depth e) in
        let right = le-max_right (depth_all os) (depth e) in
        let join = operator_of os in
        run-append (postfix_all os) (postfix e ++ (a_join join ∷ [])) st
        ∙ ap (λ r. and_then r (λ t. run s cap (postfix e ++ (a_join join ∷ [])) t)) (operands_run os st (omega arith))
        ∙ then_assoc (worked_out_all s os) (λ v. Ok (v ∷ st)) (λ t. run s cap (postfix e ++ (a_join join ∷ [])) t)
        ∙ then_same (worked_out_all s os) (λ v. run s cap (postfix e ++ (a_join join ∷ [])) (v ∷ st)) (λ v. and_then (and_then (worked_out s e) (λ u. joined s join v u)) (λ w. Ok (w ∷ st)))
        (λ v. operand_runs (postfix e) join v st (worked_out s e) (expression_runs e (v ∷ st) (omega arith)))
        ∙ sym (then_assoc (worked_out_all s os) (λ v. and_then (worked_out s e) (λ u. joined s join v u)) (λ w. Ok (w ∷ st)))

  pub expression_worked : (e : Expr) → depth e < cap → machine s cap (postfix e) ≡ worked_out s e
  expression_worked e h =
      ap (λ r. and_then r only) (expression_runs e [] (omega arith)) ∙ then_assoc (worked_out s e) (λ v. Ok (v ∷ [])) only ∙ then_ok (worked_out s e)

  pub value_worked : (ps : List Shown) (r : Result (List Term) ScriptFault) → r ≡ machine s cap ps → (e : Expr) → ps ≡ postfix e → depth e < cap → r ≡ worked_out s e
  value_worked ps r answer e is h = answer ∙ ap (machine s cap) is ∙ expression_worked e h

  -- one turn of the loop: what a step left is run on, and its fault is the run's
  pub run_on : (ps : List Piece) (i : ℕ) (d : Piece) (st t : Stack) → i < length ps → step s cap (shown (get_or ps i d)) st ≡ Ok t → run_rest (drop (i + 1) ps) t ≡ run_rest (drop i ps) st
  run_on ps i d st t within done = sym (run_more ps i d st within ∙ ap (λ r. and_then r (λ u. run_rest (drop (i + 1) ps) u)) done)

  pub run_stop : (ps : List Piece) (i : ℕ) (d : Piece) (st : Stack) (x : ScriptFault) → i < length ps → step s cap (shown (get_or ps i d)) st ≡ Err x → run_rest (drop i ps) st ≡ Err x
  run_stop ps i d st x within refused = run_more ps i d st within ∙ ap (λ r. and_then r (λ u. run_rest (drop (i + 1) ps) u)) refused

-- the same on a workbench, of which a call leaves the place where it calculates as it was
module _ {R O : Type 0} {kr : _} {ko : _} (rings : R → Coding) (orders : O → OrderModel) where
  abbrev pub rest_at : Workbench R O kr ko → ℕ → List Piece → Stack → Result Stack ScriptFault
  rest_at b cap ps st = run_rest (place rings orders b) cap ps st

  pub rest_same : (b b' : Workbench R O kr ko) (cap cap' : ℕ) (ps : List Piece) (st : Stack) → Same b b' → cap' ≡ cap → rest_at b' cap' ps st ≡ rest_at b cap ps st
  rest_same b b' cap cap' ps st same room =
      ap (λ a. run_rest (setting rings orders (length b'.work.now) a) cap' ps st) same.algebra
      ∙ ap (λ n. run_rest (setting rings orders n b.algebra.now) cap' ps st) same.work
      ∙ ap (λ k. rest_at b k ps st) room
