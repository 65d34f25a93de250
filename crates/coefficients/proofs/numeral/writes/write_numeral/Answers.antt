use Rattle.std.proofs.Common.{◌≡◌, ◌++◌, replicate, ◌∙◌, arith}
use Rattle.coefficients.specs.Numerals.{numeral, radix, signed_numeral}
use Rattle.coefficients.proofs.Spelling.{sign-more, to_front}
use Rattle.coefficients.proofs.numeral.writes.write_numeral.Goals as goal
use Rattle.coefficients.proofs.numeral.writes.write_numeral.Goals.{then-minus, else-minus}

pub returns : goal.returns
returns c =
    let digits : c.spell-at.new.out ≡ replicate c.spell-at.result 0 ++ numeral (radix c.args.base) c.args.n = c.spell-at.ensures.bytes in
    let text : c.if-minus.out ≡ replicate c.if-minus.at 0 ++ signed_numeral (radix c.args.base) c.args.minus c.args.n =
    elim c.if-minus.branch [
      | then-minus w ↦ simp (w.out-is, w.at-is, w.if-minus.true) (sign-more c.spell-at.new.out c.spell-at.result 45 (numeral (radix c.args.base) c.args.n) c.spell-at.ensures.least digits)
      | else-minus w ↦ simp (w.out-is, w.at-is, w.if-minus.false) digits
    ] in
    let front = to_front c.if-minus.out c.if-minus.at (signed_numeral (radix c.args.base) c.args.minus c.args.n) (omega arith) text in
    record { bytes = c.rotate_left.ensures.after ∙ front.0; len = front.1 }
