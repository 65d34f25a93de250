use Rattle.std.proofs.Common.{◌-◌, arith}
use Rattle.kept.proofs.Memory.{put_list, put_rest}
use Rattle.kept.proofs.edits.put_in.Goals as goal

pub returns : goal.returns
returns c =
    let xs = c.args.work.now in
    let s = c.args.start in
    record {
      list = put_list xs c.rotate_left.new.self (s - 1) s c.args.p (c.args.p - (s - 1)) c.args.t (omega arith) (omega arith) (omega arith) (omega arith) c.rotate_left.ensures.after;
      rest = put_rest xs c.rotate_left.new.self (s - 1) (c.args.p - (s - 1)) c.args.t (omega arith);
    }
