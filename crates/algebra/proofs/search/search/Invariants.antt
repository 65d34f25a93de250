use Rattle.std.proofs.Common.{◌≡◌, length}
use Rattle.run.specs.Calls.{Memory}
use Rattle.algebra.specs.Decide.{decide_over, triples}
use Rattle.algebra.proofs.Searching.{from_first, from_second, from_third}
use Rattle.algebra.proofs.search.search.Given as goal

-- what is left decides as the whole does
abbrev pub invariant-loop-i : goal.invariant-loop-i
invariant-loop-i g l =
    let mem : Memory = record { work = length l.fn.work; result = length l.fn.out } in
    let over = decide_over (g.R.Ring.model l.rules.ring) (g.O.MonomialOrder.model l.rules.order) mem l.rules.table in
    over (from_first l.count.n l.i) ≡ over (triples l.count.n)

abbrev pub invariant-loop-j : goal.invariant-loop-j
invariant-loop-j g l =
    let mem : Memory = record { work = length l.fn.work; result = length l.fn.out } in
    let over = decide_over (g.R.Ring.model l.rules.ring) (g.O.MonomialOrder.model l.rules.order) mem l.rules.table in
    over (from_second l.count.n l.i l.j) ≡ over (triples l.count.n)

abbrev pub invariant-loop-k : goal.invariant-loop-k
invariant-loop-k g l =
    let mem : Memory = record { work = length l.fn.work; result = length l.fn.out } in
    let over = decide_over (g.R.Ring.model l.rules.ring) (g.O.MonomialOrder.model l.rules.order) mem l.rules.table in
    over (from_third l.count.n l.i l.j l.k) ≡ over (triples l.count.n)
