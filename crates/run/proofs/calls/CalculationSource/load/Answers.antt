use Rattle.std.proofs.lemmas.Result.{err_from_is_err_and}
use Rattle.kept.specs.Lists.{items, places}
use Rattle.run.specs.Calls.{first_entries, second_entries, negated_entries}
use Rattle.run.proofs.Entering.{left_append, append-err}
use Rattle.run.proofs.calls.CalculationSource.load.Goals as goal

pub returns-in_err-load_first-in-Sum : goal.returns-in_err-load_first-in-Sum
returns-in_err-load_first-in-Sum g c =
    let m = g.R.Ring.model c.args.rules.now.ring in
    let l = c.args.list.now in
    let h = c.in_err-load_first-in-Sum.ensures in
    let e = err_from_is_err_and c.from_residual.result c.from_residual.ensures.1 in
    rw (c.in-Sum.is, e.1, e.2)
    (h.0, append-err m (g.O.MonomialOrder.model l.order.now) (places l) (second_entries 1 c.in-Sum.second.now) (first_entries 1 c.in-Sum.first.now) (items l) c.in_err-load_first-in-Sum.field-0.0 h.1)

pub returns-in_err-load_first-in-Difference : goal.returns-in_err-load_first-in-Difference
returns-in_err-load_first-in-Difference g c =
    let m = g.R.Ring.model c.args.rules.now.ring in
    let l = c.args.list.now in
    let h = c.in_err-load_first-in-Difference.ensures in
    let e = err_from_is_err_and c.from_residual-in_err-load_first-in-Difference.result c.from_residual-in_err-load_first-in-Difference.ensures.1 in
    rw (c.in-Difference.is, e.1, e.2)
    (h.0, append-err m (g.O.MonomialOrder.model l.order.now) (places l) (negated_entries m 1 c.in-Difference.second.now) (first_entries 1 c.in-Difference.first.now) (items l) c.in_err-load_first-in-Difference.field-0.0 h.1)

pub returns-in_ok-load_first-in-Sum : goal.returns-in_ok-load_first-in-Sum
returns-in_ok-load_first-in-Sum g c =
    let m = g.R.Ring.model c.args.rules.now.ring in
    rw c.in-Sum.is
    (left_append g.O.MonomialOrder.model m c.args.list.now c.load_first-in-Sum.new.list c.load_second.new.list (second_entries 1 c.in-Sum.second.now) c.load_second.result c.load_second.ensures (first_entries 1 c.in-Sum.first.now) tt c.in_ok-load_first-in-Sum.ensures)

pub returns-in_ok-load_first-in-Difference : goal.returns-in_ok-load_first-in-Difference
returns-in_ok-load_first-in-Difference g c =
    let m = g.R.Ring.model c.args.rules.now.ring in
    rw c.in-Difference.is
    (left_append g.O.MonomialOrder.model m c.args.list.now c.load_first-in-Difference.new.list c.load_negated.new.list (negated_entries m 1 c.in-Difference.second.now) c.load_negated.result c.load_negated.ensures (first_entries 1 c.in-Difference.first.now) tt c.in_ok-load_first-in-Difference.ensures)
