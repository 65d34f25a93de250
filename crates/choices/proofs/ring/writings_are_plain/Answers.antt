use Rattle.choices.proofs.Writings.{writes_plainly}
use Rattle.choices.proofs.ring.writings_are_plain.Goals as goal

pub returns : goal.returns
returns c = writes_plainly c.args.ring.now
