use Rattle.std.proofs.Common.{◌≡◌, set, length, ap, ◌∙◌, arith}
use Rattle.relations.proofs.Rows.{filled, filled-more, filled-all}
use Rattle.relations.proofs.row.row_of.Goals as goal

pub loop-k-preserved : goal.loop-k-preserved
loop-k-preserved c =
    ap (λ row. set row c.loop-k.k c.number.result) c.loop-k.invariant
    ∙ filled-more c.args.letters.now c.loop-k.k c.index-letters-k.result c.number.result (omega arith) (omega arith) c.index-letters-k.is c.number.ensures.value

pub returns : goal.returns
returns c =
    let end : c.loop-k.k ≡ length c.args.letters.now = omega arith in
    c.loop-k.invariant ∙ ap (filled c.args.letters.now) end ∙ filled-all c.args.letters.now
