use Rattle.std.proofs.Common.{◌+◌, set, sym, length-set, arith}
use Rattle.std.proofs.lemmas.List.{take_more_set, drop-set-lt}
use Rattle.run.proofs.Stepping.{blank-behind}
use Rattle.run.proofs.done.Done.push.Goals as goal

pub returns-clause-answer : goal.returns-clause-answer
returns-clause-answer c =
    let d = c.args.self.now in
    let xs = d.memory.now in (
      omega arith,
      take_more_set xs d.count c.args.t (omega arith),
      blank-behind xs (set xs d.count c.args.t) d.count (sym (length-set xs d.count c.args.t)) (drop-set-lt (d.count + 1) xs d.count c.args.t (omega arith)),
    )
