use Rattle.std.proofs.Common.{◌++◌, arith}
use Rattle.std.proofs.lemmas.List.{length-append}
use Rattle.orders.specs.Letters.{letters}
use Rattle.run.proofs.Splice.{joined, rowed_long}
use Rattle.run.proofs.substitute.joined_row.Goals as goal

pub returns-then-n-m-gt-ROW_LENGTH : goal.returns-then-n-m-gt-ROW_LENGTH
returns-then-n-m-gt-ROW_LENGTH c =
    let e = length-append (letters c.args.a.now) (letters c.args.b.now) in
    let n = c.row_length-n.ensures.value in
    let m = c.row_length-m.ensures.value in
    rowed_long (letters c.args.a.now ++ letters c.args.b.now) (omega arith)

pub returns : goal.returns
returns c =
    joined c.args.a.now c.args.b.now c.zero_row-new.result c.write_part.new.row c.write_part-2.new.row c.row_length-n.result c.row_length-m.result c.row_length-n.ensures.value c.row_length-m.ensures.value (omega arith) c.zero_row-new.ensures c.write_part.ensures c.write_part-2.ensures
