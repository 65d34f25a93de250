use Rattle.std.proofs.Common.{[], ◌∷◌, ◌++◌, vec_items, sym, ap, ◌∙◌}
use Rattle.std.proofs.lemmas.List.{append_assoc}
use Rattle.answers.specs.Answers.{answer_bytes}
use Rattle.session.specs.State.{state_of}
use Rattle.session.specs.Transcript.{line_turn}
use Rattle.session.proofs.state.Session.answer_with.Goals as goal

pub returns-clause-bytes : goal.returns-clause-bytes
returns-clause-bytes c =
    c.in_ok-push.ensures.items ∙ ap (λ l. l ++ (10 ∷ [])) (c.in_ok-push_turn.ensures.bytes _ _ c.line_turn-turned.ensures)
    ∙ append_assoc (vec_items c.args.out.now) (answer_bytes c.args.number (line_turn (state_of c.args.self.now.stage) c.args.line.now).answer) (10 ∷ [])

pub returns-clause-state : goal.returns-clause-state
returns-clause-state c = sym (c.in_ok-push_turn.ensures.after _ _ c.line_turn-turned.ensures)
