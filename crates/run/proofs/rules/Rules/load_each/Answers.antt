use Rattle.std.proofs.Common.{arith}
use Rattle.std.proofs.lemmas.Result.{err_from_is_err_and}
use Rattle.kept.specs.Lists.{items, places}
use Rattle.run.specs.Entries.{each_entry, load}
use Rattle.run.proofs.Entering.{same_memory}
use Rattle.run.proofs.Loading.{each_on, each_stop}
use Rattle.run.proofs.rules.Rules.load_each.Goals as goal

pub returns-in_err-add_entry : goal.returns-in_err-add_entry
returns-in_err-add_entry g c f says =
    let m = g.R.Ring.model c.args.self.now.ring in
    let l = c.args.list.now in
    let o = g.O.MonomialOrder.model l.order.now in
    let same = c.loop-i.invariant.same in
    let want = load m o (places l) (each_entry f 1 c.args.terms.now) (items l) in
    let e = err_from_is_err_and c.from_residual.result c.from_residual.ensures.1 in
    let h = c.in_err-add_entry.ensures in
    rw (e.1, e.2) (
      same_memory same h.0,
      each_stop m o (places l) f c.args.terms.now c.loop-i.i (items c.loop-i.list) want (c.loop-i.invariant.so_far f says) (omega arith) c.entry.result (says _ _ _ c.entry.ensures) c.in_err-add_entry.field-0.0 (rw (same.order, same.places) at h.1),
    )

pub loop-i-preserved : goal.loop-i-preserved
loop-i-preserved g c =
    let m = g.R.Ring.model c.args.self.now.ring in
    let l = c.args.list.now in
    let o = g.O.MonomialOrder.model l.order.now in
    let same = c.loop-i.invariant.same in
    let h = c.in_ok-add_entry.ensures in
    record {
      same = same_memory same h.0;
      so_far = λ f says.
          let want = load m o (places l) (each_entry f 1 c.args.terms.now) (items l) in
          each_on m o (places l) f c.args.terms.now c.loop-i.i (items c.loop-i.list) want (c.loop-i.invariant.so_far f says) (omega arith) c.entry.result (says _ _ _ c.entry.ensures) (items c.add_entry.new.list) (rw (same.order, same.places) at h.1);
      blank = λ b. h.2 (c.loop-i.invariant.blank b);
    }
