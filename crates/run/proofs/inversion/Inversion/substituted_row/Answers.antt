use Rattle.std.proofs.Common.{arith}
use Rattle.orders.specs.Letters.{letters}
use Rattle.run.specs.Pieces.{around}
use Rattle.run.proofs.Splice.{substituted, around-length, rowed_long}
use Rattle.run.proofs.inversion.Inversion.substituted_row.Goals as goal

pub returns-then-n-m-gt-ROW_LENGTH : goal.returns-then-n-m-gt-ROW_LENGTH
returns-then-n-m-gt-ROW_LENGTH c =
    let w = letters c.args.self.t.now.row in
    let v = letters c.args.middle.now in
    let e = around-length w v c.args.self.k c.args.self.inside in
    let n = c.row_length-n.ensures.value in
    let m = c.row_length-m.ensures.value in
    rowed_long (around w c.args.self.k v) (omega arith)

pub returns : goal.returns
returns c =
    substituted c.args.self.t.now.row c.args.middle.now c.zero_row-new.result c.write_part.new.row c.write_part-2.new.row c.write_part-3.new.row c.args.self.k c.row_length-n.result c.row_length-m.result c.row_length-n.ensures.value c.row_length-m.ensures.value (omega arith) (omega arith) c.zero_row-new.ensures c.write_part.ensures c.write_part-2.ensures c.write_part-3.ensures
