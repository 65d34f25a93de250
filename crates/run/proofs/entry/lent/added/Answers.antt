use Rattle.std.proofs.Common.{length, drop, sym, ap, ◌∙◌}
use Rattle.std.proofs.lemmas.Result.{err_from_is_err_and}
use Rattle.run.specs.Entries.{from_kept}
use Rattle.run.proofs.Standing.{added_is, room, added-falls}
use Rattle.run.proofs.entry.lent.added.Goals as goal

pub returns-in_err-at : goal.returns-in_err-at
returns-in_err-at g c =
    let xs = drop c.args.start c.args.work.now in
    let p = err_from_is_err_and c.from_residual-in_err-at.result c.from_residual-in_err-at.ensures.1 in
    rw (p.1, p.2)
    (added_is (g.R.Ring.model c.args.ring.now) (g.O.MonomialOrder.model c.args.order.now) (length c.args.work.now) c.args.start c.in_ok-code.code c.in-Some.row c.args.row c.args.code xs c.in-Some.is c.in_ok-code.was (room c.args.work.now c.args.start c.requires.0)
    ∙ ap from_kept c.in_err-at.ensures.1)

pub returns : goal.returns
returns g c =
    let m = g.R.Ring.model c.args.ring.now in
    let o = g.O.MonomialOrder.model c.args.order.now in
    let cap = length c.args.work.now in
    let xs = drop c.args.start c.args.work.now in
    let h = c.in_ok-at.ensures in
    let same = ap from_kept h.1 ∙ sym (added_is m o cap c.args.start c.in_ok-code.code c.in-Some.row c.args.row c.args.code xs c.in-Some.is c.in_ok-code.was (room c.args.work.now c.args.start c.requires.0)) in
    (h.0, same, h.2, added-falls m o cap c.args.row c.args.code xs _ c.requires.1 (sym same))
