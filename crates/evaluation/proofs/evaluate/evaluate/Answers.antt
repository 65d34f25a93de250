use Rattle.std.proofs.Common.{◌≡◌, map, length, sym, ap, ◌∙◌, arith}
use Rattle.std.proofs.lemmas.Result.{err_from_is_err_and}
use Rattle.grammar.specs.Pieces.{shown}
use Rattle.evaluation.specs.Coefficients.{and_then}
use Rattle.evaluation.specs.Working.{setting, value_of}
use Rattle.evaluation.specs.Workbenches.{place}
use Rattle.evaluation.specs.Machine.{only, machine}
use Rattle.evaluation.proofs.Running.{run_stop, run_all, value_worked}
use Rattle.evaluation.proofs.evaluate.evaluate.Goals as goal

pub returns-in_err-step : goal.returns-in_err-step
returns-in_err-step g c =
    let s = setting g.R.Ring.model g.O.MonomialOrder.model (length c.args.work.now) c.args.algebra.now in
    let cap = length c.args.stack.now in
    let ps = map shown c.args.pieces.now in
    let p = err_from_is_err_and c.from_residual.result c.from_residual.ensures.1 in
    let stopped = sym c.loop-piece.invariant.0 ∙ run_stop (place g.R.Ring.model g.O.MonomialOrder.model c.loop-piece.bench) c.loop-piece.values.room c.args.pieces.now c.loop-piece.piece-index _ c.loop-piece.values.values _ (omega arith) c.in_err-step.ensures.left in
    let a : value_of c.from_residual.result ≡ machine s cap ps = rw (p.1, p.2) (sym (ap (λ r. and_then r only) stopped)) in
    record { answer = a; value = value_worked s cap ps (value_of c.from_residual.result) a }

pub returns : goal.returns
returns g c =
    let s = setting g.R.Ring.model g.O.MonomialOrder.model (length c.args.work.now) c.args.algebra.now in
    let cap = length c.args.stack.now in
    let ps = map shown c.args.pieces.now in
    let ran = sym c.loop-piece.invariant.0 ∙ run_all (place g.R.Ring.model g.O.MonomialOrder.model c.loop-piece.bench) c.loop-piece.values.room c.args.pieces.now c.loop-piece.piece-index c.loop-piece.values.values (omega arith) in
    let a : value_of c.only.result ≡ machine s cap ps = c.only.ensures ∙ sym (ap (λ r. and_then r only) ran) in
    record { answer = a; value = value_worked s cap ps (value_of c.only.result) a }
