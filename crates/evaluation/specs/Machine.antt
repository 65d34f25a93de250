-- Pieces worked out one after another with a stack of values, the last value first.
use Rattle.std.specs.Prelude.{◌≡◌, ℕ, cond, List, [], ◌∷◌, map, reverse, length, take, Ok, Err, Result, nat_lt}
use Rattle.words.specs.declared.term.Term.{Term}
use Rattle.grammar.specs.declared.fault.FormFault.TheVariants.{TooDeep, Unreadable}
use Rattle.grammar.specs.Pieces.{Shown, a_generator, a_coefficient, a_join}
use Rattle.answers.specs.declared.fault.ScriptFault.{ScriptFault}
use Rattle.answers.specs.declared.fault.ScriptFault.TheVariants.{Form}
use Rattle.evaluation.specs.declared.frame.Frame.{Frame}
use Rattle.evaluation.specs.Frames.{frame_terms}
use Rattle.evaluation.specs.Coefficients.{and_then}
use Rattle.evaluation.specs.Working.{Setting, generator_value, coefficient_value, joined}

abbrev pub Stack : Type 0
Stack = List (List Term)

-- one value more, where the stack has room for cap values
abbrev pub pushed : ℕ → Stack → Result (List Term) ScriptFault → Result Stack ScriptFault
pushed cap st r = cond (nat_lt (length st) cap) (and_then r (λ v. Ok (v ∷ st))) (Err (Form TooDeep))

-- a leaf is one value more, a join one for the last two
unfoldable pub step : Setting → ℕ → Shown → Stack → Result Stack ScriptFault
step s cap (a_generator x) st = pushed cap st (generator_value s x)
step s cap (a_coefficient a) st = pushed cap st (coefficient_value s a)
step s cap (a_join o) [] = Err (Form Unreadable)
step s cap (a_join o) (v ∷ []) = Err (Form Unreadable)
step s cap (a_join o) (v ∷ u ∷ st) = and_then (joined s o u v) (λ w. Ok (w ∷ st))

unfoldable pub run : Setting → ℕ → List Shown → Stack → Result Stack ScriptFault
run s cap [] st = Ok st
run s cap (p ∷ ps) st = and_then (step s cap p st) (λ t. run s cap ps t)

-- an expression leaves one value
abbrev pub only : Stack → Result (List Term) ScriptFault
only [] = Err (Form Unreadable)
only (v ∷ []) = Ok v
only (v ∷ u ∷ st) = Err (Form Unreadable)

abbrev pub machine : Setting → ℕ → List Shown → Result (List Term) ScriptFault
machine s cap ps = and_then (run s cap ps []) only

-- the values in the first n frames
unfoldable pub held : ℕ → List Frame → Stack
held n frames = reverse (map frame_terms (take n frames))

-- how many values a stack has room for, and which it has
pub record Values : Type 0 where
  pub room : ℕ
  pub values : Stack

-- the values of a stack after a step, or the fault
abbrev pub Left : Result Stack ScriptFault → Stack → Result (Unit {0}) ScriptFault → Type 0
Left want after (Ok u) = want ≡ Ok after
Left want after (Err e) = want ≡ Err e
