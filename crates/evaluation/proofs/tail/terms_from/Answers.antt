use Rattle.std.proofs.Common.{Err, arith}
use Rattle.std.proofs.lemmas.Result.{err_from_is_err_and}
use Rattle.evaluation.specs.Drafts.{drafted}
use Rattle.evaluation.proofs.Tailing.{take_stop, made_at}
use Rattle.evaluation.proofs.tail.terms_from.Goals as goal

pub returns-in_err-take : goal.returns-in_err-take
returns-in_err-take g c =
    let m = g.R.Ring.model c.args.ring.now in
    let p = err_from_is_err_and c.from_residual.result c.from_residual.ensures.1 in
    rw (p.1, p.2)
    (made_at (Err c.in_err-take.field-0.0) c.loop-piece.invariant (take_stop m (drafted c.loop-piece.draft) (drafted c.take.new.self) c.args.pieces.now c.loop-piece.piece-index _ c.in_err-take.field-0.0 (omega arith) c.in_err-take.ensures))
