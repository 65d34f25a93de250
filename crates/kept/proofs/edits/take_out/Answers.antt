use Rattle.std.proofs.Common.{◌+◌, ◌-◌, [], ◌∷◌, ◌++◌, ap, ◌∙◌, arith}
use Rattle.words.specs.Terms.{blank}
use Rattle.kept.proofs.Memory.{out_list, take_part}
use Rattle.kept.proofs.edits.take_out.Goals as goal

pub returns : goal.returns
returns c =
    let xs = c.args.work.now in
    let s = c.args.start in
    let p = c.args.p in
    let ys = c.rotate_right.new.self in
    record {
      list = c.take_first.ensures.list ∙ out_list xs ys s p (p + 1 - s) (omega arith) (omega arith) (omega arith) c.rotate_right.ensures.after;
      rest = c.take_first.ensures.rest ∙ ap (λ l. l ++ blank ∷ []) (take_part xs ys s (p + 1 - s) (omega arith));
    }
