use Rattle.run.proofs.Splice.{cleaned}
use Rattle.run.proofs.substitute.clean_row.Goals as goal

pub returns : goal.returns
returns c =
    cleaned c.args.row.now c.zero_row-new.result c.write_part.new.row c.row_length-n.result c.row_length-n.ensures.value c.row_length-n.ensures.bound c.zero_row-new.ensures c.write_part.ensures
