use Rattle.std.proofs.Common.{◌+◌, arith}
use Rattle.qpolynomials.specs.Product.{times}
use Rattle.qpolynomials.specs.Degrees.{degree_times, degree_small, degree_large}
use Rattle.qpolynomials.proofs.qpolynomials.QPolynomialsRing.product.Goals as goal

pub returns-clause-degree : goal.returns-clause-degree
returns-clause-degree c d e g h =
    let t = degree_times d e c.args.a c.args.b g h in
    let small = degree_small (d + e) (times c.args.a c.args.b) t in
    let large = degree_large (d + e) (times c.args.a c.args.b) t in
    grind arith
