use Rattle.std.proofs.Common.{sym, ap, ◌∙◌}
use Rattle.std.specs.Option.{is_some}
use Rattle.orders.specs.Letters.{letters}
use Rattle.words.proofs.Rising.{standard_told}
use Rattle.words.proofs.row.row_is_standard.Goals as goal

pub returns : goal.returns
returns c = standard_told (letters c.args.row.now) c.is_none.result (ap is_some (sym c.row_leftmost_inversion.ensures) ∙ c.is_none.ensures)
