use Rattle.std.proofs.Common.{◌<◌, sym, subst, arith}
use Rattle.grammar.proofs.Law.{forms_read}
use Rattle.grammar.specs.Grammar.{nesting}
use Rattle.session.specs.State.{state_of}
use Rattle.session.specs.Turns.{turn_of}
use Rattle.session.specs.Results.{Turned}
use Rattle.session.proofs.state.Session.line_turn.Goals as goal

pub returns : goal.returns
returns c =
    let h = c.in_ok-form.ensures in
    let fine = (forms_read c.args.line.now h.0).0 h.1 in
    let shallow : nesting h.0 < 16 = omega (arith, fine.1.1) in
    let t = c.turn.ensures h.0 h.2 shallow in
    subst (λ r. Turned (turn_of (state_of c.args.self.now.stage) r) (state_of c.turn.new.self.stage) c.turn.result) (sym h.1) t
