use Rattle.std.proofs.Common.{◌≡◌, ℕ, ◌+◌, [], ◌∷◌, get_or, Some}
use Rattle.std.proofs.lemmas.Result.{err_from_is_err_and}
use Rattle.orders.specs.Letters.{letters}
use Rattle.kept.specs.Lists.{items, places}
use Rattle.run.specs.Entries.{Entry, row_entry}
use Rattle.run.specs.Faults.{stepping}
use Rattle.run.specs.Pieces.{around}
use Rattle.run.specs.Relations.{relation_of, tail_of}
use Rattle.run.specs.Step.{entries_at, tail_entries}
use Rattle.run.specs.declared.entry.Entry.{Entry as RowEntry}
use Rattle.run.proofs.Entering.{left_cons, cons-err}
use Rattle.run.proofs.rules.Rules.rewrite.Goals as goal

pub returns-in_err-add_entry : goal.returns-in_err-add_entry
unfolding entries_at
returns-in_err-add_entry g c =
    let m = g.R.Ring.model c.args.self.now.ring in
    let l = c.args.list.now in
    let w = letters c.args.inversion.t.now.row in
    let a : ℕ = c.args.inversion.t.now.code in
    let k : ℕ = c.args.inversion.k in
    let n : ℕ = c.args.n in
    let j : ℕ = get_or w k 0 in
    let i : ℕ = get_or w (k + 1) 0 in
    let r = relation_of c.args.self.now.table j i in
    let e : Entry = record { word = around w k (i ∷ j ∷ []); code = m.product a r.factor; place = stepping n j i 0 } in
    let x : RowEntry = record { row = Some c.exchanged_row.result; code = c.product.result; place = c.stepping-place.result } in
    let same : x ≡ row_entry e = cc in
    let h = c.in_err-add_entry.ensures in
    let p = err_from_is_err_and c.from_residual.result c.from_residual.ensures.1 in
    rw (p.1, p.2)
    (h.0, cons-err m (g.O.MonomialOrder.model l.order.now) (places l) e x (tail_entries m n j i w k a 1 (tail_of r)) (items l) same c.in_err-add_entry.field-0.0 h.1)

pub returns : goal.returns
unfolding entries_at
returns g c =
    let m = g.R.Ring.model c.args.self.now.ring in
    let w = letters c.args.inversion.t.now.row in
    let a : ℕ = c.args.inversion.t.now.code in
    let k : ℕ = c.args.inversion.k in
    let n : ℕ = c.args.n in
    let j : ℕ = get_or w k 0 in
    let i : ℕ = get_or w (k + 1) 0 in
    let r = relation_of c.args.self.now.table j i in
    let e : Entry = record { word = around w k (i ∷ j ∷ []); code = m.product a r.factor; place = stepping n j i 0 } in
    let x : RowEntry = record { row = Some c.exchanged_row.result; code = c.product.result; place = c.stepping-place.result } in
    let same : x ≡ row_entry e = cc in
    let place : c.stepping-place.result ≡ stepping n j i 0 = cc in
    let tail : c.tail.result.now ≡ tail_of r = cc in
    left_cons g.O.MonomialOrder.model m c.args.list.now c.add_entry.new.list c.add_tail.new.list (tail_entries m n j i w k a 1 (tail_of r)) c.add_tail.result (rw (place, tail) at c.add_tail.ensures) e x tt same c.in_ok-add_entry.ensures
