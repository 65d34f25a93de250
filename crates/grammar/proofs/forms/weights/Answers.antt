use Rattle.std.proofs.Common.{◌≡◌, ◌+◌, ◌-◌, length, Err, sym, ◌∙◌, arith, length-append, ap, rules}
use Rattle.std.proofs.lemmas.Result.{err_from_is_err_and}
use Rattle.std.proofs.lemmas.List.{length-take}
use Rattle.grammar.specs.Reading.{read_number, read_parts}
use Rattle.grammar.specs.Forms.{written_weights}
use Rattle.grammar.proofs.Chains.{parts_more, parts_full}
use Rattle.grammar.proofs.forms.weights.Goals as goal

pub returns-in_err-next : goal.returns-in_err-next
returns-in_err-next c =
    let ws = written_weights c.loop-next.weights in
    let d = parts_more read_number 9 (length ws) ws c.loop-next.rest.now (omega arith) in
    search rules

pub returns-in-End : goal.returns-in-End
returns-in-End c =
    let ws = written_weights c.loop-next.weights in
    let d = parts_more read_number 9 (length ws) ws c.loop-next.rest.now (omega arith) in
    search rules

pub returns-in_err-weight-in-Part : goal.returns-in_err-weight-in-Part
returns-in_err-weight-in-Part c =
    let ws = written_weights c.loop-next.weights in
    let d = parts_more read_number 9 (length ws) ws c.loop-next.rest.now (omega arith) in
    search rules

pub returns-in_err-push-in-Part : goal.returns-in_err-push-in-Part
returns-in_err-push-in-Part c =
    let ws = written_weights c.loop-next.weights in
    let p = err_from_is_err_and c.from_residual-in_err-push-in-Part.result c.from_residual-in_err-push-in-Part.ensures.1 in
    let n : 9 - length ws ≡ 1 = omega (arith, c.in_err-push-in-Part.ensures) in
    let f = parts_full read_number ws c.loop-next.rest.now c.in_ok-next.after.now c.in_ok-weight-in-Part.more.now c.in_ok-weight-in-Part.weight in
    rw p.1 (ap Err (p.2 ∙ c.in_err-push-in-Part.ensures.err.0) ∙ sym (f (search rules) c.in_ok-weight-in-Part.ensures) ∙ ap (λ k. read_parts k read_number ws c.loop-next.rest.now) (sym n) ∙ c.loop-next.invariant.goes)

pub loop-next-preserved : goal.loop-next-preserved
loop-next-preserved c =
    let ws = written_weights c.loop-next.weights in
    let d = parts_more read_number 9 (length ws) ws c.loop-next.rest.now (omega arith) in
    let e = c.in_ok-push-in-Part.ensures.ok in
    let n : length (written_weights c.push.new.self) ≡ length ws + 1 = ap length e ∙ length-append ws _ in
    record { goes = rw (n, e) (search rules); few = omega (arith, length-take c.push.new.self.count c.push.new.self.values) }
