use Rattle.std.proofs.lemmas.Result.{err_from_is_err_and}
use Rattle.kept.specs.Lists.{items, places}
use Rattle.run.specs.Entries.{each_entry}
use Rattle.run.specs.Relations.{tail_of}
use Rattle.run.proofs.Entering.{left_cons, cons-err}
use Rattle.algebra.proofs.overlap.load_half.Goals as goal

pub returns-in_err-add_entry : goal.returns-in_err-add_entry
returns-in_err-add_entry g c =
    let m = g.R.Ring.model c.args.rules.now.ring in
    let l = c.args.list.now in
    let h = c.in_err-add_entry.ensures in
    let p = err_from_is_err_and c.from_residual.result c.from_residual.ensures.1 in
    λ w f e says. rw (p.1, p.2)
    (h.0, cons-err m (g.O.MonomialOrder.model l.order.now) (places l) w c.args.head (each_entry f 1 (tail_of c.args.relation.now)) (items l) e c.in_err-add_entry.field-0.0 h.1)

pub returns : goal.returns
returns g c =
    let m = g.R.Ring.model c.args.rules.now.ring in
    λ w f e says. left_cons g.O.MonomialOrder.model m c.args.list.now c.add_entry.new.list c.load_each.new.list (each_entry f 1 (tail_of c.args.relation.now)) c.load_each.result
    (rw c.tail.ensures at (c.load_each.ensures f says)) w c.args.head tt e c.in_ok-add_entry.ensures
