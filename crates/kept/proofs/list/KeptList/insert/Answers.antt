use Rattle.std.proofs.Common.{drop, sym}
use Rattle.kept.proofs.Keeps.{insert-falls}
use Rattle.kept.proofs.list.KeptList.insert.Goals as goal

pub invariant_of-self-2 : goal.invariant_of-self-2
invariant_of-self-2 g c =
    let l = c.args.self.now in
    let m = g.R.Ring.model c.args.ring.now in
    let o = g.O.MonomialOrder.model l.order.now in
    let h = c.in_ok-self.ensures in
    record {
      within = h.0;
      falls = insert-falls m o l.start c.args.t (drop l.start l.memory.now) _ l.falls (sym h.1);
    }
