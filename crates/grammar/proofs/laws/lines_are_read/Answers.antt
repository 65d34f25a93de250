use Rattle.grammar.proofs.Law.{forms_read, long_refused, deep_refused, others-refused}
use Rattle.grammar.proofs.laws.lines_are_read.Goals as goal

pub returns : goal.returns
returns c = (forms_read, long_refused, deep_refused, others-refused)
