use Rattle.std.proofs.Common.{◌≡◌, ◌+◌, ◌≤◌, ◌++◌, length, vec_items}
use Rattle.std.specs.Iterator.Adapters.{enumerate_source, enumerate_count}
use Rattle.session.specs.State.{start, state_of}
use Rattle.session.specs.Transcript.{answers, lines}
use Rattle.session.proofs.script.answer_lines.Given as goal

abbrev pub invariant-loop-i : goal.invariant-loop-i
invariant-loop-i l =
    let number = enumerate_count l.i-iterator in
    let left = lines (enumerate_source l.i-iterator).0.now in
    (goal.iterator-loop-i).can_next l.i-iterator
    × (goal.iterator-loop-i).is_finite l.i-iterator
    × (number + length left ≤ 65536)
    × (vec_items l.out ++ answers (number + 1) (state_of l.session.stage) left ≡ answers 1 start (lines l.input))
