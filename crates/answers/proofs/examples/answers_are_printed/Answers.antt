use Rattle.std.proofs.Common.{refl}
use Rattle.std.specs.Fmt.{digits}
use Rattle.coefficients.specs.Numerals.{numeral}
use Rattle.answers.proofs.examples.answers_are_printed.Goals as goal

pub returns : goal.returns
unfolding digits numeral
returns c = record {
  an_opened = refl;
  a_declared = refl;
  a_sound = refl;
  a_degenerate = refl;
  a_list = refl;
  an_empty_list = refl;
  out_of_turn = refl;
  a_full_memory = refl;
}
