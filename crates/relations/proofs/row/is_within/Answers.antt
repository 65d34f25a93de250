use Rattle.std.proofs.Common.{ap, ◌∙◌, rules}
use borrow.Author.Tests.{tests}
use Rattle.std.specs.Prelude.{nat_le}
use Rattle.std.specs.List.{list_all}
use Rattle.std.proofs.lemmas.Iterator.{YieldsList-from_slice}
use Rattle.std.proofs.lemmas.Iterator.Search.{all_from_yields_List, YieldsList-from_take_while}
use Rattle.orders.specs.Letters.{is_letter, letters}
use Rattle.orders.proofs.Steps.{letters_taken}
use Rattle.relations.proofs.Rows.{all-letters}
use Rattle.relations.proofs.row.is_within.Goals as goal

pub returns : goal.returns
returns c =
    let n = c.args.n in
    all_from_yields_List (λ x. nat_le x n) _ _ c.all.result c.all.ensures.ran
    (YieldsList-from_take_while _ is_letter (YieldsList-from_slice c.args.row.now cc) c.take_while.ensures.closure c.take_while.ensures.done (λ x b q k. search (rules, tests)))
    (λ x b q k. search (rules, tests))
    ∙ ap (list_all (λ x. nat_le x n)) (letters_taken c.args.row.now)
    ∙ all-letters n (letters c.args.row.now)
