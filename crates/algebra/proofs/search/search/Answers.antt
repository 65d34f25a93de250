use Rattle.std.proofs.Common.{length, ℕ, Ok, ap, ◌∙◌, arith}
use Rattle.std.proofs.lemmas.Result.{err_from_is_err_and}
use Rattle.run.specs.Calls.{Memory}
use Rattle.algebra.specs.Decide.{decide_over}
use Rattle.algebra.proofs.Searching.{first-starts, second-starts, third-starts, next-passes, not_rising, step-on, step-found, step-refused}
use Rattle.algebra.proofs.search.search.Goals as goal

pub loop-i-init : goal.loop-i-init
loop-i-init g c =
    let r = c.args.rules.now in
    let mem : Memory = record { work = length c.args.work.now; result = length c.args.out.now } in
    ap (decide_over (g.R.Ring.model r.ring) (g.O.MonomialOrder.model r.order) mem r.table) (first-starts c.args.count.n)

pub loop-j-init : goal.loop-j-init
loop-j-init g c =
    let r = c.args.rules.now in
    let mem : Memory = record { work = length c.args.work.now; result = length c.args.out.now } in
    ap (decide_over (g.R.Ring.model r.ring) (g.O.MonomialOrder.model r.order) mem r.table) (second-starts c.args.count.n c.loop-i.i (omega arith)) ∙ c.loop-i.invariant

pub loop-k-init : goal.loop-k-init
loop-k-init g c =
    let r = c.args.rules.now in
    let mem : Memory = record { work = length c.args.work.now; result = length c.args.out.now } in
    ap (decide_over (g.R.Ring.model r.ring) (g.O.MonomialOrder.model r.order) mem r.table) (third-starts c.args.count.n c.loop-i.i c.loop-j.j (omega arith)) ∙ c.loop-j.invariant

pub loop-k-preserved-in_default : goal.loop-k-preserved-in_default
loop-k-preserved-in_default g c =
    let r = c.args.rules.now in
    let n = c.args.count.n in
    let i : ℕ = c.loop-i.i in
    let j : ℕ = c.loop-j.j in
    let k : ℕ = c.loop-k.k in
    let mem : Memory = record { work = length c.args.work.now; result = length c.args.out.now } in
    let falls = not_rising n i j k _ (omega arith, omega arith) (omega arith, omega arith) (omega arith, omega arith) c.in_default.ensures.refused in
    ap (decide_over (g.R.Ring.model r.ring) (g.O.MonomialOrder.model r.order) mem r.table) (next-passes n i j k (omega arith) falls) ∙ c.loop-k.invariant

pub returns-in_err-vanishes : goal.returns-in_err-vanishes
returns-in_err-vanishes g c =
    let r = c.args.rules.now in
    let m = g.R.Ring.model r.ring in
    let o = g.O.MonomialOrder.model r.order in
    let p = err_from_is_err_and c.from_residual.result c.from_residual.ensures.1 in
    rw (p.1, p.2) (step-refused m o (length c.args.work.now) (length c.args.out.now) r.table c.args.count.n c.loop-i.i c.loop-j.j c.loop-k.k (omega arith) c.in-Ok.triple c.in-Ok.ensures.triple (length c.loop-k.work) (length c.loop-k.out) (omega arith) (omega arith)
    c.vanishes.result c.vanishes.ensures c.in_err-vanishes.field-0.0 c.in_err-vanishes.was ∙ c.loop-k.invariant)

pub returns-then-not-branch : goal.returns-then-not-branch
returns-then-not-branch g c =
    let r = c.args.rules.now in
    let m = g.R.Ring.model r.ring in
    let o = g.O.MonomialOrder.model r.order in
    step-found m o (length c.args.work.now) (length c.args.out.now) r.table c.args.count.n c.loop-i.i c.loop-j.j c.loop-k.k (omega arith) c.in-Ok.triple c.in-Ok.ensures.triple (length c.loop-k.work) (length c.loop-k.out) (omega arith) (omega arith)
    c.vanishes.result c.vanishes.ensures (c.in_ok-vanishes.was ∙ ap Ok c.if-not-branch.true) ∙ c.loop-k.invariant

pub loop-k-preserved : goal.loop-k-preserved
loop-k-preserved g c =
    let r = c.args.rules.now in
    let m = g.R.Ring.model r.ring in
    let o = g.O.MonomialOrder.model r.order in
    step-on m o (length c.args.work.now) (length c.args.out.now) r.table c.args.count.n c.loop-i.i c.loop-j.j c.loop-k.k (omega arith) c.in-Ok.triple c.in-Ok.ensures.triple (length c.loop-k.work) (length c.loop-k.out) (omega arith) (omega arith)
    c.vanishes.result c.vanishes.ensures (c.in_ok-vanishes.was ∙ ap Ok c.if-not-branch.false) ∙ c.loop-k.invariant
