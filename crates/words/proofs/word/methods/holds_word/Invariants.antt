use Rattle.std.proofs.Common.{◌≡◌, cond, drop}
use Rattle.words.specs.Rows.{is_row, all_zero}
use Rattle.words.proofs.word.methods.holds_word.Given as goal

abbrev pub invariant-loop-x : goal.invariant-loop-x
invariant-loop-x l = cond l.ended (all_zero (drop l.x-index l.row)) (is_row (drop l.x-index l.row)) ≡ is_row l.row
