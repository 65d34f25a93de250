use Rattle.std.proofs.Common.{◌≡◌, [], drop}
use Rattle.evaluation.specs.Drafts.{drafted}
use Rattle.evaluation.proofs.Tailing.{rest_taken}
use Rattle.evaluation.proofs.tail.terms_from.Given as goal

abbrev pub invariant-loop-piece : goal.invariant-loop-piece
invariant-loop-piece g l =
    let m = g.R.Ring.model l.ring in
    rest_taken m (drafted l.draft) (drop l.piece-index l.pieces) ≡ rest_taken m (record { done = []; code = l.code; word = [] }) l.pieces
