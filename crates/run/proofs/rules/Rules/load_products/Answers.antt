use Rattle.std.proofs.Common.{arith}
use Rattle.std.proofs.lemmas.Result.{err_from_is_err_and}
use Rattle.kept.specs.Lists.{items, places}
use Rattle.run.specs.Calls.{product_entries}
use Rattle.run.specs.Entries.{load}
use Rattle.run.proofs.Entering.{same_memory}
use Rattle.run.proofs.Loading.{products_on, products_stop}
use Rattle.run.proofs.rules.Rules.load_products.Goals as goal

pub returns-in_err-load_joined : goal.returns-in_err-load_joined
returns-in_err-load_joined g c =
    let m = g.R.Ring.model c.args.self.now.ring in
    let l = c.args.list.now in
    let o = g.O.MonomialOrder.model l.order.now in
    let same = c.loop-i.invariant.same in
    let want = load m o (places l) (product_entries m 1 c.args.first.now c.args.second.now) (items l) in
    let e = err_from_is_err_and c.from_residual.result c.from_residual.ensures.1 in
    let h = c.in_err-load_joined.ensures in
    rw (e.1, e.2) (
      same_memory same h.0,
      products_stop m o (places l) c.loop-i.i c.args.first.now c.args.second.now (items c.loop-i.list) want c.loop-i.invariant.so_far (omega arith) c.in_err-load_joined.field-0.0 (rw (same.order, same.places) at h.1),
    )

pub loop-i-preserved : goal.loop-i-preserved
loop-i-preserved g c =
    let m = g.R.Ring.model c.args.self.now.ring in
    let l = c.args.list.now in
    let o = g.O.MonomialOrder.model l.order.now in
    let same = c.loop-i.invariant.same in
    let want = load m o (places l) (product_entries m 1 c.args.first.now c.args.second.now) (items l) in
    let h = c.in_ok-load_joined.ensures in
    record {
      same = same_memory same h.0;
      so_far = products_on m o (places l) c.loop-i.i c.args.first.now c.args.second.now (items c.loop-i.list) want c.loop-i.invariant.so_far (omega arith) (items c.load_joined.new.list) (rw (same.order, same.places) at h.1);
      blank = λ b. h.2 (c.loop-i.invariant.blank b);
    }
