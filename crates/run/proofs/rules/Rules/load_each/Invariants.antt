use Rattle.std.proofs.Common.{◌≡◌, ℕ, drop, ◌+◌}
use Rattle.kept.specs.Lists.{items, places, SameMemory, BlankBefore}
use Rattle.run.specs.Entries.{Entry, each_entry, load, row_entry}
use Rattle.words.specs.declared.term.Term.{Term}
use Rattle.run.proofs.rules.Rules.load_each.Given as goal

abbrev pub invariant-loop-i : goal.invariant-loop-i
invariant-loop-i g l =
    let m = g.R.Ring.model l.self.ring in
    let o = g.O.MonomialOrder.model l.initial.list.order.now in
    let cap = places l.initial.list in
    record {
      same : SameMemory l.initial.list l.list;
      so_far : (f : ℕ → Term → Entry) → ((p : _) (t : _) (r : _) → goal.F-post g l.entry p t r → r ≡ row_entry (f p t.now))
          → load m o cap (each_entry f (l.i + 1) (drop l.i l.terms)) (items l.list) ≡ load m o cap (each_entry f 1 l.terms) (items l.initial.list);
      blank : BlankBefore l.initial.list → BlankBefore l.list;
    }
