use Rattle.std.proofs.Common.{◌≡◌, ◌+◌, ◌%◌, take, drop, ap, subst, sym, arith}
use Rattle.orders.specs.Letters.{letters}
use Rattle.orders.proofs.Steps.{letters_stop, letters-end}
use Rattle.words.specs.Inversions.{inversions}
use Rattle.words.proofs.Casting.{Counted, cut, counted_none, counted_all, counted_cut, counted_next, shifted_here, pairs_most, pairs_least, parts}
use Rattle.words.proofs.row.row_inversions.Goals as goal

pub loop-part-init : goal.loop-part-init
loop-part-init c = (omega arith, omega arith, counted_none (letters c.args.row.now))

pub loop-x-init : goal.loop-x-init
loop-x-init c =
    let row = c.args.row.now in
    let l = c.loop-part in
    let z : cut l.part-index + 0 ≡ cut l.part-index = omega arith in (
      omega arith,
      omega arith,
      parts row _ _ _ c.told-row (λ i. take 23 row) (λ i. take 9 (drop 23 row)) l.part-index c.loop-part-test.true,
      subst (λ i. Counted l.part-index i l.seen l.n 0 (letters (drop i row)) (inversions (letters row))) (sym z) l.invariant.2,
    )

pub returns-then-not-is_letter : goal.returns-then-not-is_letter
returns-then-not-is_letter c =
    let row = c.args.row.now in
    let l = c.loop-x in
    let k = c.loop-part.part-index in
    let i = cut k + l.x-index in
    let here = l.invariant.2.2 l.x-index (omega arith) in
    let s = letters_stop row i (omega arith) (cc) in
    counted_all k i l.seen c.loop-part.n l.sum (inversions (letters row)) (letters (drop i row)) s l.invariant.3

pub overflow_add-seen : goal.overflow_add-seen
overflow_add-seen c =
    let l = c.loop-x in
    let here = l.invariant.2.2 l.x-index (omega arith) in
    let b = shifted_here _ _ here (cc) in
    omega arith

pub loop-x-preserved : goal.loop-x-preserved
loop-x-preserved c =
    let row = c.args.row.now in
    let l = c.loop-x in
    let k = c.loop-part.part-index in
    let i = cut k + l.x-index in
    let here = l.invariant.2.2 l.x-index (omega arith) in
    let b = shifted_here _ _ here (cc) in
    let p = l.invariant.2 in
    let f = pairs_most k (i + 1) (omega arith) in
    let next = counted_next k i (cut k + (l.x-index + 1)) l.seen c.loop-part.n l.sum (inversions (letters row)) _ row here (omega arith) (cc) (omega arith) (omega arith) f l.invariant.1 l.invariant.3 in
    (omega arith, next.0, l.invariant.2, next.1)

pub loop-part-preserved : goal.loop-part-preserved
loop-part-preserved c =
    let row = c.args.row.now in
    let l = c.loop-x in
    let k = c.loop-part.part-index in
    let i = cut k + l.x-index in
    let p = l.invariant.2 in
    let e : i ≡ cut (k + 1) = omega arith in
    let g = pairs_least (k + 1) i (omega arith) e in
    let d = counted_cut k i l.seen c.loop-part.n l.sum (inversions (letters row)) (letters (drop i row)) g l.invariant.3 in
    (omega arith, omega arith, subst (λ i. Counted (k + 1) i l.seen (c.loop-part.n + l.sum % 255) 0 (letters (drop i row)) (inversions (letters row))) e d)

pub returns : goal.returns
returns c =
    let row = c.args.row.now in
    let l = c.loop-part in
    let e : l.part-index ≡ 2 = omega arith in
    let s = letters-end row (cut l.part-index) (let q = ap cut e in omega arith) in
    let t = counted_all l.part-index (cut l.part-index) l.seen l.n 0 (inversions (letters row)) (letters (drop (cut l.part-index) row)) s l.invariant.2 in
    omega arith
