use Rattle.choices.proofs.Chosen.{residues_chosen}
use Rattle.choices.proofs.ring.AnyRing.residues.Goals as goal

pub returns : goal.returns
returns c = residues_chosen c.args.modulus c.in_ok-ring.ring c.in_ok-ring.ensures.0 c.in_ok-ring.ensures.1
