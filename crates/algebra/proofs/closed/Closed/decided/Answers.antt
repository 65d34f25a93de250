use Rattle.std.proofs.Common.{length, ap, ◌∙◌}
use Rattle.run.specs.Calls.{Memory}
use Rattle.algebra.specs.Decide.{decide_over, triples}
use Rattle.algebra.proofs.Searching.{open_yet, known_already}
use Rattle.algebra.proofs.closed.Closed.decided.Goals as goal
use Rattle.algebra.proofs.closed.Closed.decided.Goals.{in-Undecided, in_default}

pub returns-clause-value : goal.returns-clause-value
returns-clause-value g c =
    let a = c.args.self.now in
    let q = a.presentation in
    let m = g.R.Ring.model q.rules.ring in
    let o = g.O.MonomialOrder.model q.rules.order in
    let mem : Memory = record { work = length c.args.work.now; result = length c.args.out.now } in
    elim c.match-self.branch [
      | in-Undecided w ↦
          w.answer-is ∙ w.search-answer.ensures
          ∙ ap (λ r. decide_over (g.R.Ring.model r.ring) (g.O.MonomialOrder.model r.order) mem r.table (triples w.count-count.result.n)) w.rules.ensures
          ∙ ap (λ k. decide_over m o mem q.rules.table (triples k.n)) w.count-count.ensures
          ∙ open_yet m o mem q.count.n q.rules.table a.verdict w.in-Undecided.is
      | in_default w ↦ w.answer-is ∙ known_already m o mem q.count.n q.rules.table a.verdict w.in_default.not-Undecided
    ]
