use Rattle.std.proofs.Common.{◌≡◌, rules, true, ◌&&◌, ap, sym, ◌∙◌}
use Rattle.orders.specs.Letters.{letters}
use Rattle.words.specs.Rows.{is_row}
use Rattle.relations.specs.Declare.{letters_to}
use Rattle.relations.proofs.row.is_word_over.Goals as goal

pub returns-then-is_ok : goal.returns-then-is_ok
returns-then-is_ok c =
    let w : is_row c.args.row.now ≡ true = search rules in
    c.is_within.ensures ∙ ap (λ b. b && letters_to c.args.n (letters c.args.row.now)) (sym w)
