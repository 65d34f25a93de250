use Rattle.std.proofs.Common.{◌∙◌}
use Rattle.coefficients.proofs.RoundTrips.{read_back}
use Rattle.coefficients.proofs.round_trip.read_again.Goals as goal

pub returns : goal.returns
returns g c =
    c.read.ensures
    ∙ read_back (g.R.Ring.model c.args.ring.now) c.args.a c.in_ok-n.n _ _ c.in_ok-n.ensures.answer c.write.ensures.bytes
