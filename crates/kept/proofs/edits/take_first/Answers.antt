use Rattle.std.proofs.Common.{◌+◌, [], ◌∷◌, ◌++◌, take, ap, ◌∙◌, arith, rules}
use Rattle.std.proofs.lemmas.List.{drop-set-lt, take_more_set}
use Rattle.kept.proofs.edits.take_first.Goals as goal

pub returns : goal.returns
returns c =
    let xs = c.args.work.now in
    let s = c.args.start in
    record {
      value = search rules;
      list = drop-set-lt (s + 1) xs s c.replace.new.dest (omega arith);
      rest = take_more_set xs s c.replace.new.dest (omega arith) ∙ ap (λ x. take s xs ++ x ∷ []) (c.replace.ensures.after ∙ c.blank.ensures);
    }
