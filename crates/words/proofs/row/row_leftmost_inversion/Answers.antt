use Rattle.std.proofs.Common.{◌≡◌, suc, ◌+◌, ◌-◌, get_or, drop, sym, ap, ◌∙◌, ap₂, arith}
use Rattle.orders.specs.Letters.{letters}
use Rattle.orders.proofs.Steps.{letters_stop, letters-go, letters-end}
use Rattle.words.specs.Inversions.{falls, leftmost_inversion}
use Rattle.words.proofs.Rising.{falls_here, falls_later}
use Rattle.words.proofs.row.row_leftmost_inversion.Goals as goal

pub returns-then-not-is_letter : goal.returns-then-not-is_letter
returns-then-not-is_letter c = sym (ap leftmost_inversion (letters_stop c.args.row.now 0 (omega arith) (cc)))

pub loop-i-init : goal.loop-i-init
loop-i-init c = sym (ap leftmost_inversion (letters-go c.args.row.now 0 (omega arith) (cc)))

pub returns-then-not-is_letter-2 : goal.returns-then-not-is_letter-2
returns-then-not-is_letter-2 c =
    let s = ap (falls (c.loop-i.i - 1) (get_or c.args.row.now (c.loop-i.i - 1) 0)) (letters_stop c.args.row.now c.loop-i.i (omega arith) (cc)) in
    sym s ∙ c.loop-i.invariant

pub returns-then-row-i : goal.returns-then-row-i
returns-then-row-i c =
    let row = c.args.row.now in
    let i = c.loop-i.i in
    let s = ap (falls (i - 1) (get_or row (i - 1) 0)) (letters-go row i (omega arith) (cc)) in
    sym (falls_here (i - 1) (get_or row (i - 1) 0) (get_or row i 0) (letters (drop (i + 1) row)) c.if-row-i.true) ∙ sym s ∙ c.loop-i.invariant

pub loop-i-preserved : goal.loop-i-preserved
loop-i-preserved c =
    let row = c.args.row.now in
    let i = c.loop-i.i in
    let s = ap (falls (i - 1) (get_or row (i - 1) 0)) (letters-go row i (omega arith) (cc)) in
    let w = letters (drop (i + 1) row) in
    let here : i + 1 - 1 ≡ i = omega arith in
    let next : i + 1 - 1 ≡ suc (i - 1) = omega arith in
    ap₂ (λ k j. falls k (get_or row j 0) w) next here ∙ sym (falls_later (i - 1) (get_or row (i - 1) 0) (get_or row i 0) w c.if-row-i.false) ∙ sym s ∙ c.loop-i.invariant

pub returns : goal.returns
returns c =
    let s = ap (falls (c.loop-i.i - 1) (get_or c.args.row.now (c.loop-i.i - 1) 0)) (letters-end c.args.row.now c.loop-i.i (omega arith)) in
    sym s ∙ c.loop-i.invariant
