use Rattle.std.proofs.Common.{◌≡◌, ◌-◌, ◌≤◌, [], length}
use Rattle.grammar.specs.Reading.{read_number, read_parts}
use Rattle.grammar.specs.Forms.{written_weights}
use Rattle.grammar.proofs.forms.weights.Given as goal

abbrev pub invariant-loop-next : goal.invariant-loop-next
invariant-loop-next l = record {
  goes : read_parts (9 - length (written_weights l.weights)) read_number (written_weights l.weights) l.rest ≡ read_parts 9 read_number [] l.s;
  few : length (written_weights l.weights) ≤ 8;
}

abbrev pub decreases-loop-next : goal.decreases-loop-next
decreases-loop-next l = 8 - length (written_weights l.weights)
