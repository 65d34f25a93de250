use Rattle.std.proofs.Common.{ℕ, ◌+◌, drop, Err, sym, ap, ◌∙◌, arith}
use Rattle.std.proofs.lemmas.Result.{err_from_is_err_and}
use Rattle.evaluation.specs.Coefficients.{and_then}
use Rattle.evaluation.proofs.Reading.{read_pieces, read_more, read_all, expression_read, terms_read}
use Rattle.evaluation.proofs.check.check_coefficients.Goals as goal

pub returns-in_err-check_piece : goal.returns-in_err-check_piece
returns-in_err-check_piece g c =
    let m = g.R.Ring.model c.args.ring.now in
    let ps = c.args.pieces.now in
    let k : ℕ = c.loop-piece.piece-index in
    let p = err_from_is_err_and c.from_residual.result c.from_residual.ensures.1 in
    let h = p.1 ∙ ap Err p.2 ∙ ap (λ r. and_then r (λ _. read_pieces m (drop (k + 1) ps))) c.in_err-check_piece.ensures ∙ sym (read_more m ps k _ (omega arith)) ∙ c.loop-piece.invariant in
    record { answer = h; expression = expression_read m ps _ h; terms = terms_read m ps _ h }

pub returns : goal.returns
returns g c =
    let m = g.R.Ring.model c.args.ring.now in
    let ps = c.args.pieces.now in
    let h = sym (read_all m ps c.loop-piece.piece-index (omega arith)) ∙ c.loop-piece.invariant in
    record { answer = h; expression = expression_read m ps _ h; terms = terms_read m ps _ h }
