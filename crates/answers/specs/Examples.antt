-- Answers as they are printed.
use Rattle.std.specs.Prelude.{◌≡◌, List, [], ◌∷◌, codes}
use Rattle.choices.specs.Rings.{the_integers}
use Rattle.words.specs.Rows.{row_of}
use Rattle.words.specs.declared.term.Term.{Term}
use Rattle.run.specs.Faults.{stepping}
use Rattle.run.specs.declared.fault.Cause.TheVariants.{WorkFull}
use Rattle.algebra.specs.declared.fault.AlgebraFault.TheVariants.{Run}
use Rattle.algebra.specs.declared.verdict.Verdict.TheVariants.{Sound, Degenerate}
use Rattle.answers.specs.Answers.{opened, declared, decided, list, refused, answer_bytes}
use Rattle.answers.specs.declared.fault.ScriptFault.TheVariants.{OutOfTurn, Decide}

-- the code of an integer a from 0 is 2a
abbrev weyl_terms : List Term
weyl_terms = record { row = row_of (1 ∷ 1 ∷ 2 ∷ 2 ∷ []); code = 2 } ∷ record { row = row_of (1 ∷ 2 ∷ []); code = 8 } ∷ record { row = row_of []; code = 4 } ∷ []

-- the line has the number 7
pub record Printed : Type 0 where
  pub an_opened : answer_bytes 7 opened ≡ codes "(opened)"
  pub a_declared : answer_bytes 7 declared ≡ codes "(declared)"
  pub a_sound : answer_bytes 7 (decided Sound) ≡ codes "(sound)"
  pub a_degenerate : answer_bytes 7 (decided (Degenerate 1 2 3)) ≡ codes "(degenerate 1 2 3)"
  pub a_list : answer_bytes 7 (list the_integers weyl_terms) ≡ codes "(list (1 x1 x1 x2 x2) (4 x1 x2) (2))"
  pub an_empty_list : answer_bytes 7 (list the_integers []) ≡ codes "(list)"
  pub out_of_turn : answer_bytes 7 (refused OutOfTurn) ≡ codes "(refused 26 4 7 0 0 0 0 0 0 0)"
  pub a_full_memory : answer_bytes 7 (refused (Decide (record { overlap = Run (record { cause = WorkFull; place = stepping 5 3 2 1 }); i = 1; j = 2; k = 3 })))
      ≡ codes "(refused 23 2 7 5 3 2 1 1 2 3)"
