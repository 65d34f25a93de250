use Rattle.std.proofs.Common.{◌^◌, ◌<◌, arith}
use lib.Bits.{xor_lt}
use Rattle.std.proofs.lemmas.Bool.{lt-ltb}
use Rattle.qpolynomials.proofs.qpolynomials.QPolynomialsRing.sum.Goals as goal

pub returns : goal.returns
returns c =
    let a : c.args.a < 2 ^ 64 = omega arith in
    let b : c.args.b < 2 ^ 64 = omega arith in
    rw (lt-ltb _ _ a, lt-ltb _ _ b, lt-ltb _ _ (xor_lt 64 c.args.a c.args.b a b))
