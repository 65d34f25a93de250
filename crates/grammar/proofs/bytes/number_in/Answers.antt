use Rattle.std.proofs.Common.{◌∙◌, arith}
use Rattle.grammar.proofs.Expecting.{number_is}
use Rattle.grammar.proofs.bytes.number_in.Goals as goal

pub returns : goal.returns
returns c = c.read_numeral.ensures ∙ number_is c.args.a.now (omega arith)
