use Rattle.std.proofs.Common.{◌≡◌, ◌-◌, ◌*◌, ◌%◌, ◌^◌, true, get_or, ap, ◌∙◌, arith}
use Rattle.std.proofs.lemmas.Nat.{one_shl}
use Rattle.orders.specs.Letters.{letters, is_letter}
use Rattle.orders.specs.Images.{bytes, counts}
use Rattle.orders.proofs.Packing.{packing, packing-counts, unit_of, unit_le}
use Rattle.orders.proofs.Steps.{letters_stop, letters-go, letters-end, letter_bounds}
use Rattle.orders.proofs.image.Image.of_row.Goals as goal

pub returns-then-not-is_letter : goal.returns-then-not-is_letter
unfolding counts
returns-then-not-is_letter c =
    let row = c.args.row.now in
    let i = c.loop-x.x-index in
    let s = ap packing (letters_stop row i (omega arith) (cc)) in
    let p : c.loop-x.packed ≡ packing (letters row) = omega arith in
    ap (bytes 8) p ∙ packing-counts row (omega arith)

pub loop-x-preserved : goal.loop-x-preserved
loop-x-preserved c =
    let row = c.args.row.now in
    let i = c.loop-x.x-index in
    let x = get_or row i 0 in
    let t : is_letter x ≡ true = cc in
    let b = letter_bounds x t in
    let s : (1 * 2 ^ (64 - 8 * x)) % 2 ^ 64 ≡ 256 ^ (8 - x) = one_shl (64 - 8 * x) 64 (omega arith) ∙ unit_of x (omega arith) in
    let u = unit_le x (omega arith) in
    let m = ap packing (letters-go row i (omega arith) t) in
    (omega arith, omega arith)

pub returns-after-loop-x : goal.returns-after-loop-x
unfolding counts
returns-after-loop-x c =
    let row = c.args.row.now in
    let e = ap packing (letters-end row c.loop-x.x-index (omega arith)) in
    let p : c.loop-x.packed ≡ packing (letters row) = omega arith in
    ap (bytes 8) p ∙ packing-counts row (omega arith)
