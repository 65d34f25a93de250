use Rattle.std.proofs.Common.{◌≡◌, drop}
use Rattle.std.specs.Option.{option_map}
use Rattle.relations.specs.Declare.{last_at, AllFull}
use Rattle.relations.proofs.Checking.{tail_from}
use Rattle.relations.proofs.presentation.Presentation.check_tail.Given as goal

abbrev pub invariant-loop-e : goal.invariant-loop-e
invariant-loop-e g l =
    let from = tail_from (g.R.Ring.model l.self.rules.ring) (g.O.MonomialOrder.model l.self.rules.order) l.self.count.n l.pair.j.number l.pair.i.number l.tail in
    record {
      last : option_map (λ x. x.now) l.last ≡ last_at l.tail l.e-counter;
      full : AllFull (drop l.e-counter l.tail) → AllFull l.tail;
      same : from l.e-counter ≡ from 0;
    }
