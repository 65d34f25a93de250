use Rattle.std.proofs.Common.{ℕ}
use Rattle.std.proofs.lemmas.Result.{err_from_is_err_and}
use Rattle.kept.specs.Lists.{items, places}
use Rattle.run.specs.Relations.{relation_of}
use Rattle.run.proofs.Entering.{left_append, append-err}
use Rattle.algebra.specs.Overlaps.{first_half, second_half}
use Rattle.algebra.proofs.overlap.TripleSource.load.Goals as goal

pub returns-in_err-load_first : goal.returns-in_err-load_first
returns-in_err-load_first g c =
    let m = g.R.Ring.model c.args.rules.now.ring in
    let table = c.args.rules.now.table in
    let i : ℕ = c.args.self.now.i.number in
    let j : ℕ = c.args.self.now.j.number in
    let k : ℕ = c.args.self.now.k.number in
    let l = c.args.list.now in
    let h = c.in_err-load_first.ensures in
    let p = err_from_is_err_and c.from_residual.result c.from_residual.ensures.1 in
    rw (p.1, p.2)
    (h.0, append-err m (g.O.MonomialOrder.model l.order.now) (places l) (second_half m (relation_of table j i) i j k) (first_half (relation_of table k j) i j k) (items l) c.in_err-load_first.field-0.0 h.1)

pub returns : goal.returns
returns g c =
    let m = g.R.Ring.model c.args.rules.now.ring in
    let table = c.args.rules.now.table in
    let i : ℕ = c.args.self.now.i.number in
    let j : ℕ = c.args.self.now.j.number in
    let k : ℕ = c.args.self.now.k.number in
    left_append g.O.MonomialOrder.model m c.args.list.now c.load_first.new.list c.load_second.new.list (second_half m (relation_of table j i) i j k) c.load_second.result c.load_second.ensures (first_half (relation_of table k j) i j k) tt c.in_ok-load_first.ensures
