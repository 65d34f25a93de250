use Rattle.std.proofs.Common.{arith}
use Rattle.std.proofs.lemmas.Grind.{common_steps}
use Rattle.grammar.proofs.Expecting.{expect_is}
use Rattle.grammar.proofs.bytes.take_bytes.Goals as goal

pub returns : goal.returns
returns c = let e = expect_is c.args.wanted.now c.args.s.now in grind (arith, common_steps)
