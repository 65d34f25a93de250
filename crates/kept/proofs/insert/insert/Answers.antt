use Rattle.std.proofs.Common.{ℕ, ◌-◌, [], drop, Ok, Err, sym, refl, ap, ◌∙◌, arith, length-set}
use Rattle.std.proofs.lemmas.Result.{err_from_is_err_and}
use Rattle.std.proofs.lemmas.List.{take-set-le}
use Rattle.std.proofs.lemmas.Bool.{ne_eqb}
use Rattle.words.specs.declared.term.Term.{Term}
use Rattle.kept.specs.Search.{measured_term}
use Rattle.kept.proofs.Places.{found_here, found_absent, insert_here, insert-new, summed-zero, summed-more, code-set, blanks-more, blanks_less}
use Rattle.kept.proofs.insert.insert.Goals as goal

abbrev null : Term
null = record { row = []; code = 0 }

pub returns-in_err-code-in-Ok : goal.returns-in_err-code-in-Ok
returns-in_err-code-in-Ok g c =
    let m = g.R.Ring.model c.args.ring.now in
    let o = g.O.MonomialOrder.model c.args.order.now in
    let xs = c.args.work.now in
    let s : ℕ = c.args.start in
    let f = found_here o (measured_term c.new.result) c.args.t (drop s xs) s c.in-Ok.p c.new.ensures c.in-Ok.ensures.value in
    let e = err_from_is_err_and c.from_residual.result c.from_residual.ensures.1 in
    rw (e.1, e.2) (refl, insert_here m o c.args.t xs s c.in-Ok.p c.if-t-eq0.false f.0 null (Err c.in_err-code-in-Ok.field-0.0) f.1 c.in_err-code-in-Ok.ensures)

pub returns-then-code-eq0 : goal.returns-then-code-eq0
returns-then-code-eq0 g c =
    let m = g.R.Ring.model c.args.ring.now in
    let o = g.O.MonomialOrder.model c.args.order.now in
    let xs = c.args.work.now in
    let s : ℕ = c.args.start in
    let p : ℕ = c.in-Ok.p in
    let f = found_here o (measured_term c.new.result) c.args.t (drop s xs) s p c.new.ensures c.in-Ok.ensures.value in
    let w = insert_here m o c.args.t xs s p c.if-t-eq0.false f.0 null (Ok c.in_ok-code-in-Ok.code) f.1 c.in_ok-code-in-Ok.ensures in (
      omega (arith, c.in-Ok.ensures.here.1),
      ap Ok c.take_out.ensures.list ∙ sym (w ∙ summed-zero (drop s xs) (p - s) null c.in_ok-code-in-Ok.code c.if-code-eq0.true),
      blanks-more xs c.take_out.new.work s c.take_out.ensures.rest,
    )

pub returns-then-start-eq0 : goal.returns-then-start-eq0
returns-then-start-eq0 g c =
    let m = g.R.Ring.model c.args.ring.now in
    let o = g.O.MonomialOrder.model c.args.order.now in
    let xs = c.args.work.now in
    let s : ℕ = c.args.start in
    let f = found_absent o (measured_term c.new.result) c.args.t (drop s xs) s c.in-Err.p c.new.ensures c.in-Err.ensures.value in
    (refl, insert-new m o c.args.t xs s c.in-Err.p c.if-t-eq0.false f.0 f.1 ∙ simp c.if-start-eq0.true)

pub returns-else-code-eq0 : goal.returns-else-code-eq0
returns-else-code-eq0 g c =
    let m = g.R.Ring.model c.args.ring.now in
    let o = g.O.MonomialOrder.model c.args.order.now in
    let xs = c.args.work.now in
    let s : ℕ = c.args.start in
    let p : ℕ = c.in-Ok.p in
    let f = found_here o (measured_term c.new.result) c.args.t (drop s xs) s p c.new.ensures c.in-Ok.ensures.value in
    let w = insert_here m o c.args.t xs s p c.if-t-eq0.false f.0 null (Ok c.in_ok-code-in-Ok.code) f.1 c.in_ok-code-in-Ok.ensures in (
      simp length-set (omega arith),
      ap Ok (code-set m o c.args.t xs s p c.if-t-eq0.false f.0 null c.in_ok-code-in-Ok.code) ∙ sym (w ∙ summed-more (drop s xs) (p - s) null c.in_ok-code-in-Ok.code c.if-code-eq0.false),
      λ h. take-set-le s xs p _ (omega arith) ∙ h,
    )

pub returns-else-start-eq0 : goal.returns-else-start-eq0
returns-else-start-eq0 g c =
    let m = g.R.Ring.model c.args.ring.now in
    let o = g.O.MonomialOrder.model c.args.order.now in
    let xs = c.args.work.now in
    let s : ℕ = c.args.start in
    let f = found_absent o (measured_term c.new.result) c.args.t (drop s xs) s c.in-Err.p c.new.ensures c.in-Err.ensures.value in
    let w = insert-new m o c.args.t xs s c.in-Err.p c.if-t-eq0.false f.0 f.1 in (
      omega arith,
      ap Ok c.put_in.ensures.list ∙ sym (rw (ne_eqb s 0 c.if-start-eq0.false) at w),
      blanks_less xs c.put_in.new.work s (s - 1) (omega arith) c.put_in.ensures.rest,
    )
