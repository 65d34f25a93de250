use Rattle.std.proofs.Common.{◌<◌, true, false, length, sym, refl, ap, ◌∙◌, arith, rules}
use Rattle.grammar.specs.Expressions.{apply, first}
use Rattle.grammar.specs.Pieces.{postfix}
use Rattle.grammar.proofs.Nesting.{at_leaf, too_deep, at_open, inner_none, inner_first, inner_goes, next_shrinks, operator_shrinks, going_fault, going_end, going_part, going_stops, going_again}
use Rattle.grammar.proofs.reading.Reading.+expression.Goals as goal

pub returns-in_default : goal.returns-in_default
returns-in_default t c = rw (at_leaf c.args.depth c.args.self.now.rest.now c.in_default.ensures) c.leaf.ensures

pub returns-then-depth-eq0 : goal.returns-then-depth-eq0
returns-then-depth-eq0 t c = too_deep c.args.depth c.args.self.now.rest.now c.in-Some.inner.now c.in-Some.ensures c.if-depth-eq0.true

pub returns-in_err-op : goal.returns-in_err-op
returns-in_err-op t c =
    let deep : 0 < c.args.depth = omega arith in
    let h = at_open c.args.depth c.args.self.now.rest.now c.in-Some.inner.now c.in-Some.ensures deep ∙ inner_none _ c.in-Some.inner.now c.in_err-op.field-0.0 c.in_err-op.ensures in
    search rules

pub returns-in_err-expression : goal.returns-in_err-expression
returns-in_err-expression t c =
    let deep : 0 < c.args.depth = omega arith in
    let h = at_open c.args.depth c.args.self.now.rest.now c.in-Some.inner.now c.in-Some.ensures deep
    ∙ inner_first _ c.in-Some.inner.now c.in_ok-op.start.now c.in_ok-op.op c.in_err-expression.field-0.0 c.in_ok-op.ensures c.in_err-expression.ensures in
    search rules

pub loop-next-init : goal.loop-next-init
unfolding postfix
loop-next-init t c =
    let h = c.in_ok-expression.ensures in
    let deep : 0 < c.args.depth = omega arith in
    let i = ap length c.in-Some.ensures in
    let s = operator_shrinks c.in_ok-op.op c.in-Some.inner.now c.in_ok-op.start.now c.in_ok-op.ensures in
    record {
      fuel = length c.expression.new.self.rest.now;
      os = first c.in_ok-op.op h.0;
      enough = omega arith;
      goes = sym (at_open c.args.depth c.args.self.now.rest.now c.in-Some.inner.now c.in-Some.ensures deep
          ∙ inner_goes _ c.in-Some.inner.now c.in_ok-op.start.now c.expression.new.self.rest.now c.in_ok-op.op h.0 c.in_ok-op.ensures h.1);
      stored = h.2;
      room = omega (arith, h.3);
      shorter = omega (arith, h.4);
      op_is = refl;
      joined_is = refl;
      few = omega (arith, h.4);
    }

pub returns-in_err-next : goal.returns-in_err-next
returns-in_err-next t c = let h = going_fault c.loop-next.invariant c.in_err-next.field-0.0 c.in_err-next.ensures in search rules

pub returns-then-not-can_end : goal.returns-then-not-can_end
returns-then-not-can_end t c = going_end c.loop-next.invariant c.in_ok-next.next c.in_ok-next.after.now false c.in-End.is c.in_ok-next.ensures c.if-not-can_end.ensures

pub returns-in-End : goal.returns-in-End
unfolding postfix
returns-in-End t c =
    let g = c.loop-next.invariant in
    let s = next_shrinks c.in_ok-next.next c.loop-next.self.rest.now c.in_ok-next.after.now c.in_ok-next.ensures in
    let h = c.in_ok-expression.ensures in (
      apply g.os,
      going_end g c.in_ok-next.next c.in_ok-next.after.now true c.in-End.is c.in_ok-next.ensures c.if-not-can_end.ensures,
      g.stored,
      omega (arith, g.room, s),
      omega (arith, g.shorter, s),
    )

pub returns-then-not-can_go_on : goal.returns-then-not-can_go_on
returns-then-not-can_go_on t c = going_part c.loop-next.invariant c.in_ok-next.next c.in_ok-next.after.now false c.in-Part.is c.in_ok-next.ensures c.if-not-can_go_on.ensures

pub returns-in_err-expression-in-Part : goal.returns-in_err-expression-in-Part
returns-in_err-expression-in-Part t c =
    let h = going_stops c.loop-next.invariant c.in_ok-next.next c.in_ok-next.after.now c.in_err-expression-in-Part.field-0.0 c.in-Part.is c.in_ok-next.ensures c.if-not-can_go_on.ensures c.in_err-expression-in-Part.ensures in
    search rules

pub loop-next-smaller : goal.loop-next-smaller
loop-next-smaller t c =
    let s = next_shrinks c.in_ok-next.next c.loop-next.self.rest.now c.in_ok-next.after.now c.in_ok-next.ensures in
    omega (arith, s, c.in_ok-expression-in-Part.ensures.4)

pub loop-next-preserved : goal.loop-next-preserved
loop-next-preserved t c =
    let m = c.in_ok-expression-in-Part.ensures in
    going_again c.loop-next.invariant c.in_ok-next.next c.in_ok-next.after.now c.expression-in-Part.new.self.rest.now m.0 _ _
    c.in-Part.is c.in_ok-next.ensures c.if-not-can_go_on.ensures m.1 m.2 m.3 m.4 c.push.ensures.items
