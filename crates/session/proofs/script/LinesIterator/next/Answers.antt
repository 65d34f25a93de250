use Rattle.std.proofs.Common.{◌∷◌, length, sym, ap, ◌∙◌, arith, false-eqb}
use Rattle.std.proofs.lemmas.List.{take_rest}
use Rattle.session.specs.Transcript.{lines}
use Rattle.session.proofs.Splitting.{next_line}
use Rattle.session.proofs.script.LinesIterator.next.Goals as goal

pub returns-clause-steps : goal.returns-clause-steps
returns-clause-steps c =
    let some = false-eqb (length c.args.self.now.0.now) 0 c.if-is_empty.ensures in
    let parts = c.split_at.ensures in
    next_line c.args.self.now.0.now c.split_at.result.0.now c.split_at.result.1.now c.line_end.result c.min.result (omega (arith, some)) c.line_end.ensures.value parts.front parts.back c.min.ensures
    ∙ ap (λ l. c.split_at.result.0.now ∷ lines l) (sym (take_rest c.split_at.result.1.now c.min.result))

pub returns-clause-goes : goal.returns-clause-goes
returns-clause-goes c =
    let fewer = ap length (returns-clause-steps c) in
    record { on = λ _. (tt, tt, omega (arith, fewer)); keeps = tt; rests = λ _. tt }
