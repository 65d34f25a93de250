use Rattle.choices.specs.Rings.{ring_model}
use Rattle.choices.proofs.Writings.{writes_plainly}
use Rattle.answers.proofs.Apart.{told_apart}
use Rattle.answers.proofs.list.lists_are_told_apart.Goals as goal

pub returns : goal.returns
returns c = told_apart (ring_model c.args.ring.now) (writes_plainly c.args.ring.now)
