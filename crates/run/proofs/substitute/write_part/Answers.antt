use Rattle.std.proofs.Common.{◌+◌, ◌-◌, length, refl, arith}
use Rattle.std.proofs.lemmas.Slice.{put_mid-paste}
use Rattle.run.proofs.substitute.write_part.Goals as goal

pub returns : goal.returns
returns c =
    put_mid-paste c.args.at (c.args.at + length c.args.part.now - c.args.at) c.args.row.now c.copy_from_slice.new.self c.args.part.now (length c.args.part.now) c.copy_from_slice.ensures.after (omega arith) refl
