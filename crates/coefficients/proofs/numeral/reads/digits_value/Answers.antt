use Rattle.std.proofs.Common.{arith}
use Rattle.std.proofs.lemmas.Bool.Decides.{nat_tests}
use Rattle.coefficients.specs.Numerals.{radix}
use Rattle.coefficients.proofs.Reading.{digits_more}
use Rattle.coefficients.proofs.numeral.reads.digits_value.Goals as goal

pub loop-c-preserved : goal.loop-c-preserved
loop-c-preserved c =
    let d = digits_more (radix c.args.base) c.loop-c.n c.args.text.now c.loop-c.c-index (omega arith) in
    grind (arith, nat_tests)
