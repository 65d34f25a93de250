use Rattle.std.proofs.Common.{arith}
use Rattle.run.proofs.inversion.Inversion.letter_pair.Goals as goal

pub overflow_add-self : goal.overflow_add-self
overflow_add-self c = omega (arith, c.args.self.inside, c.args.self.short)
