use Rattle.std.proofs.Common.{rules, ℕ, ◌+◌, get_or, ap, sym, ◌∙◌, arith}
use Rattle.std.proofs.lemmas.Result.{err_from_is_err_and}
use Rattle.kept.specs.Terms.{nil_term}
use Rattle.run.specs.Entries.{then_do}
use Rattle.algebra.specs.Calls.{check_term}
use Rattle.algebra.specs.Overlaps.{passed}
use Rattle.algebra.specs.Scans.{in_list}
use Rattle.algebra.proofs.Checking.{scan_from, scan-more}
use Rattle.algebra.proofs.scan.check_list.Goals as goal

pub returns-in_err-map_err : goal.returns-in_err-map_err
returns-in_err-map_err g c =
    let q = c.args.presentation.now in
    let m = g.R.Ring.model q.rules.ring in
    let at = in_list c.args.side in
    let ts = c.args.list.now in
    let k : ℕ = c.loop-p.p in
    let t = get_or ts k nil_term in
    let checked =
    c.check_term.ensures (at (k + 1))
    ∙ ap (λ r. check_term (at (k + 1)) (g.R.Ring.model r.ring) c.value-n.result t passed) c.rules.ensures
    ∙ ap (λ n. check_term (at (k + 1)) m n t passed) (c.value-n.ensures.value ∙ ap (λ x. x.n) c.count.ensures) in
    let p = err_from_is_err_and c.from_residual.result c.from_residual.ensures.1 in
    rw (p.1, p.2) (ap (λ r. then_do r (λ _. scan_from at m q.count.n ts (k + 1))) (sym c.in_err-map_err.was) ∙ scan-more at m q.count.n ts k c.check_term.result c.map_err.result (omega arith) checked c.map_err.ensures.cases (λ e f h. search rules) ∙ c.loop-p.invariant)

pub loop-p-preserved : goal.loop-p-preserved
loop-p-preserved g c =
    let q = c.args.presentation.now in
    let m = g.R.Ring.model q.rules.ring in
    let at = in_list c.args.side in
    let ts = c.args.list.now in
    let k : ℕ = c.loop-p.p in
    let t = get_or ts k nil_term in
    let checked =
    c.check_term.ensures (at (k + 1))
    ∙ ap (λ r. check_term (at (k + 1)) (g.R.Ring.model r.ring) c.value-n.result t passed) c.rules.ensures
    ∙ ap (λ n. check_term (at (k + 1)) m n t passed) (c.value-n.ensures.value ∙ ap (λ x. x.n) c.count.ensures) in
    ap (λ r. then_do r (λ _. scan_from at m q.count.n ts (k + 1))) (sym c.in_ok-map_err.was) ∙ scan-more at m q.count.n ts k c.check_term.result c.map_err.result (omega arith) checked c.map_err.ensures.cases (λ e f h. search rules) ∙ c.loop-p.invariant
