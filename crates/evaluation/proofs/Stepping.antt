-- One piece worked out with a stack.
use Rattle.std.proofs.Common.{◌≡◌, ℕ, ◌<◌, ◌≤◌, List, [], ◌∷◌, length, Ok, Err, Result, sym, ap, ◌∙◌, subst}
use Rattle.words.specs.declared.term.Term.{Term}
use Rattle.grammar.specs.declared.fault.FormFault.TheVariants.{TooDeep, Unreadable}
use Rattle.grammar.specs.declared.piece.Operator.{Operator}
use Rattle.grammar.specs.Pieces.{a_join}
use Rattle.answers.specs.declared.fault.ScriptFault.{ScriptFault}
use Rattle.answers.specs.declared.fault.ScriptFault.TheVariants.{Form}
use Rattle.evaluation.specs.Coefficients.{and_then}
use Rattle.evaluation.specs.Working.{Setting, joined}
use Rattle.evaluation.specs.Machine.{Stack, pushed, step, Left}
use Rattle.evaluation.proofs.Stacking.{room, no_room}

module _ (cap : ℕ) (st : Stack) (r : Result (List Term) ScriptFault) where
  pub leaf_full : (e : ScriptFault) → cap ≤ length st → e ≡ Form TooDeep → pushed cap st r ≡ Err e
  leaf_full e full fault = no_room cap st r full ∙ ap Err (sym fault)

  pub leaf_refused : (e : ScriptFault) → length st < cap → Err e ≡ r → pushed cap st r ≡ Err e
  leaf_refused e fits refused = room cap st r fits ∙ ap (λ x. and_then x (λ v. Ok (v ∷ st))) (sym refused)

  pub leaf_done : (v : List Term) (after : Stack) (x : Result (Unit {0}) ScriptFault) → Ok v ≡ r → Left (pushed cap st (Ok v)) after x → Left (pushed cap st r) after x
  leaf_done v after x is left = subst (λ y. Left (pushed cap st y) after x) is left

module _ (s : Setting) (cap : ℕ) (o : Operator) where
  pub nothing_to_join : (st : Stack) (e : ScriptFault) → st ≡ [] → e ≡ Form Unreadable → step s cap (a_join o) st ≡ Err e
  unfolding step
  nothing_to_join st e none fault = ap (step s cap (a_join o)) none ∙ ap Err (sym fault)

  pub one_to_join : (st mid : Stack) (v : List Term) (e : ScriptFault) → st ≡ v ∷ mid → mid ≡ [] → e ≡ Form Unreadable → step s cap (a_join o) st ≡ Err e
  unfolding step
  one_to_join st mid v e some none fault = ap (step s cap (a_join o)) (some ∙ ap (λ t. v ∷ t) none) ∙ ap Err (sym fault)

  -- the last two values, and what is below them
  module _ (st mid below : Stack) (u v : List Term) (last : st ≡ v ∷ mid) (before : mid ≡ u ∷ below) where
    join_step : step s cap (a_join o) st ≡ and_then (joined s o u v) (λ w. Ok (w ∷ below))
    unfolding step
    join_step = ap (step s cap (a_join o)) (last ∙ ap (λ t. v ∷ t) before)

    pub join_refused : (e : ScriptFault) → Err e ≡ joined s o u v → step s cap (a_join o) st ≡ Err e
    join_refused e refused = join_step ∙ ap (λ r. and_then r (λ w. Ok (w ∷ below))) (sym refused)

    pub join_done : (w : List Term) (places : ℕ) (after : Stack) (x : Result (Unit {0}) ScriptFault) → Ok w ≡ joined s o u v → length below < places
        → Left (pushed places below (Ok w)) after x → Left (step s cap (a_join o) st) after x
    join_done w places after x is fits left =
        subst (λ y. Left y after x) (room places below (Ok w) fits ∙ sym (join_step ∙ ap (λ r. and_then r (λ w. Ok (w ∷ below))) (sym is))) left
