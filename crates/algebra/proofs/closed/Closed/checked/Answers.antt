use Rattle.std.proofs.Common.{Ok, ap, ◌∙◌}
use Rattle.std.proofs.lemmas.Result.{err_from_is_err_and}
use Rattle.algebra.specs.Calls.{in_first, in_second, scan}
use Rattle.algebra.specs.Overlaps.{passed}
use Rattle.algebra.proofs.Checking.{first_refuses, second_refuses, checks_pass}
use Rattle.algebra.proofs.closed.Closed.checked.Goals as goal

pub returns-in_err-check_list : goal.returns-in_err-check_list
returns-in_err-check_list g c =
    let a = c.args.self.now in
    let m = g.R.Ring.model a.presentation.rules.ring in
    let n = a.presentation.count.n in
    let p = err_from_is_err_and c.from_residual-in_err-check_list.result c.from_residual-in_err-check_list.ensures.1 in
    rw (p.1, p.2)
    (first_refuses m n a.verdict c.args.calculation (Ok c.args.calculation) c.in_err-check_list.field-0.0 c.in_ok-check_sound.ensures
    (c.in_err-check_list.ensures ∙ ap (λ l. scan in_first m n 1 l passed) c.lists.ensures.first))

pub returns-in_err-check_list-2 : goal.returns-in_err-check_list-2
returns-in_err-check_list-2 g c =
    let a = c.args.self.now in
    let m = g.R.Ring.model a.presentation.rules.ring in
    let n = a.presentation.count.n in
    let p = err_from_is_err_and c.from_residual-in_err-check_list-2.result c.from_residual-in_err-check_list-2.ensures.1 in
    rw (p.1, p.2)
    (second_refuses m n a.verdict c.args.calculation (Ok c.args.calculation) c.in_err-check_list-2.field-0.0 c.in_ok-check_sound.ensures
    (c.in_ok-check_list.ensures ∙ ap (λ l. scan in_first m n 1 l passed) c.lists.ensures.first)
    (c.in_err-check_list-2.ensures ∙ ap (λ l. scan in_second m n 1 l passed) c.lists.ensures.second))

pub returns : goal.returns
returns g c =
    let a = c.args.self.now in
    let m = g.R.Ring.model a.presentation.rules.ring in
    let n = a.presentation.count.n in
    checks_pass m n a.verdict c.args.calculation (Ok c.args.calculation) c.in_ok-check_sound.ensures
    (c.in_ok-check_list.ensures ∙ ap (λ l. scan in_first m n 1 l passed) c.lists.ensures.first)
    (c.in_ok-check_list-2.ensures ∙ ap (λ l. scan in_second m n 1 l passed) c.lists.ensures.second)
