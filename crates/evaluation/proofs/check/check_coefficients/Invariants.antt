use Rattle.std.proofs.Common.{◌≡◌, drop}
use Rattle.evaluation.proofs.Reading.{read_pieces}
use Rattle.evaluation.proofs.check.check_coefficients.Given as goal

abbrev pub invariant-loop-piece : goal.invariant-loop-piece
invariant-loop-piece g l =
    let m = g.R.Ring.model l.ring in
    read_pieces m (drop l.piece-index l.pieces) ≡ read_pieces m l.pieces
