use Rattle.std.proofs.Common.{refl, arith}
use Rattle.words.proofs.Filling.{row_of_letters}
use Rattle.words.proofs.word.Word.row.Goals as goal

pub returns : goal.returns
returns c = record { value = refl; padded = row_of_letters c.args.self.now.row (omega arith) c.args.self.now.filled }
