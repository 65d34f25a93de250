use Rattle.run.proofs.Splice.{exchanged}
use Rattle.run.proofs.inversion.Inversion.exchanged_row.Goals as goal

pub returns : goal.returns
returns c =
    rw (← c.number.ensures.value, ← c.number-2.ensures.value)
    (exchanged c.args.self.t.now.row c.clean_row-new.result c.args.self.k c.number.result c.number-2.result c.clean_row-new.ensures c.args.self.inside c.args.self.short)
