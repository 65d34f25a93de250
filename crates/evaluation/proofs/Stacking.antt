-- The stack of values in the first frames of a memory.
use Rattle.std.proofs.Common.{◌≡◌, ℕ, ◌+◌, ◌-◌, ◌<◌, ◌≤◌, List, [], ◌∷◌, ◌++◌, map, reverse, length, get_or, take, set, Ok, Err, Result, refl, ap, ◌∙◌, arith}
use Rattle.std.proofs.lemmas.Bool.Decides.{nat_tests}
use Rattle.std.proofs.lemmas.List.{length-take-le, length-map, length-reverse, take_more, take_more_set, map_push, reverse-append}
use Rattle.words.specs.declared.term.Term.{Term}
use Rattle.grammar.specs.declared.fault.FormFault.TheVariants.{TooDeep, Unreadable}
use Rattle.answers.specs.declared.fault.ScriptFault.{ScriptFault}
use Rattle.answers.specs.declared.fault.ScriptFault.TheVariants.{Form}
use Rattle.evaluation.specs.declared.frame.Frame.{Frame}
use Rattle.evaluation.specs.Frames.{frame_terms}
use Rattle.evaluation.specs.Coefficients.{and_then}
use Rattle.evaluation.specs.Machine.{Stack, pushed, only, held}

push_reversed : (fs : List Frame) (f : Frame) → reverse (map frame_terms (fs ++ f ∷ [])) ≡ frame_terms f ∷ reverse (map frame_terms fs)
push_reversed fs f = ap reverse (map_push frame_terms fs f) ∙ reverse-append (map frame_terms fs) (frame_terms f ∷ [])

module _ (frames : List Frame) where
  pub held_more : (n : ℕ) (d : Frame) → n < length frames → held (n + 1) frames ≡ frame_terms (get_or frames n d) ∷ held n frames
  unfolding held
  held_more n d h = ap (λ l. reverse (map frame_terms l)) (take_more frames n d h) ∙ push_reversed (take n frames) (get_or frames n d)

  pub held_push : (n : ℕ) (f : Frame) → n < length frames → held (n + 1) (set frames n f) ≡ frame_terms f ∷ held n frames
  unfolding held
  held_push n f h = ap (λ l. reverse (map frame_terms l)) (take_more_set frames n f h) ∙ push_reversed (take n frames) f

  pub length_held : (n : ℕ) → n ≤ length frames → length (held n frames) ≡ n
  unfolding held
  length_held n h = length-reverse (map frame_terms (take n frames)) ∙ length-map (take n frames) frame_terms ∙ length-take-le n frames h

  pub held_none : (n : ℕ) → n ≡ 0 → held n frames ≡ []
  unfolding held
  held_none n h = ap (λ k. held k frames) h

  -- the last value and those before it
  pub held_last : (n : ℕ) (d : Frame) → 0 < n → n ≤ length frames → held n frames ≡ frame_terms (get_or frames (n - 1) d) ∷ held (n - 1) frames
  held_last n d some fits =
      let before : n ≡ n - 1 + 1 = omega arith in
      ap (λ k. held k frames) before ∙ held_more (n - 1) d (omega arith)

-- a value more
pub room : (cap : ℕ) (st : Stack) (r : Result (List Term) ScriptFault) → length st < cap → pushed cap st r ≡ and_then r (λ v. Ok (v ∷ st))
room cap st r h = grind (arith, nat_tests)

pub no_room : (cap : ℕ) (st : Stack) (r : Result (List Term) ScriptFault) → cap ≤ length st → pushed cap st r ≡ Err (Form TooDeep)
no_room cap st r h = grind (arith, nat_tests)

-- a value above others is not the only one
pub some_under : (v : List Term) (st : Stack) → 0 < length st → only (v ∷ st) ≡ Err (Form Unreadable)
some_under v [] h = absurd (omega arith)
some_under v (u ∷ st) h = refl
