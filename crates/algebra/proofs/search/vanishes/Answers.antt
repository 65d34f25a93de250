use Rattle.std.proofs.Common.{Ok, sym, ap, ◌∙◌}
use Rattle.algebra.specs.Decide.{Triple}
use Rattle.algebra.specs.Overlaps.{overlap_run}
use Rattle.algebra.specs.Searching.{vanishing}
use Rattle.algebra.proofs.Searching.{counted-none}
use Rattle.algebra.proofs.search.vanishes.Goals as goal

pub returns-in-Ok : goal.returns-in-Ok
unfolding overlap_run
returns-in-Ok g c =
    let h = c.in-Ok.ensures in
    let t : Triple = record { i = c.args.triple.i.number; j = c.args.triple.j.number; k = c.args.triple.k.number } in
    ap Ok (counted-none c.calculate.new.out c.in-Ok.count h.0) ∙ ap (vanishing t) h.1

pub returns-in-Err : goal.returns-in-Err
unfolding overlap_run
returns-in-Err g c =
    let t : Triple = record { i = c.args.triple.i.number; j = c.args.triple.j.number; k = c.args.triple.k.number } in
    rw (c.number.ensures.value, c.number-in-Err.ensures.value, c.number-in-Err-2.ensures.value) (ap (vanishing t) (sym c.in-Err.ensures.0))
