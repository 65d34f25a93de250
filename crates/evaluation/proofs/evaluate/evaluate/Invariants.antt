use Rattle.std.proofs.Common.{◌≡◌, [], length, drop}
use Rattle.evaluation.proofs.Running.{rest_at}
use Rattle.evaluation.proofs.evaluate.evaluate.Given as goal

abbrev pub invariant-loop-piece : goal.invariant-loop-piece
invariant-loop-piece g l =
    let rest = rest_at g.R.Ring.model g.O.MonomialOrder.model in
    (rest l.bench l.values.room (drop l.piece-index l.pieces) l.values.values ≡ rest l.initial.bench (length l.fn.stack) l.pieces [])
    × (length l.bench.out.now ≡ 64)
