use Rattle.std.proofs.Common.{◌≡◌, drop, ◌+◌}
use Rattle.kept.specs.Lists.{items, places, SameMemory, BlankBefore}
use Rattle.run.specs.Calls.{product_entries}
use Rattle.run.specs.Entries.{load}
use Rattle.run.proofs.rules.Rules.load_products.Given as goal

abbrev pub invariant-loop-i : goal.invariant-loop-i
invariant-loop-i g l =
    let m = g.R.Ring.model l.self.ring in
    let o = g.O.MonomialOrder.model l.initial.list.order.now in
    let cap = places l.initial.list in
    record {
      same : SameMemory l.initial.list l.list;
      so_far : load m o cap (product_entries m (l.i + 1) (drop l.i l.first) l.second) (items l.list) ≡ load m o cap (product_entries m 1 l.first l.second) (items l.initial.list);
      blank : BlankBefore l.initial.list → BlankBefore l.list;
    }
