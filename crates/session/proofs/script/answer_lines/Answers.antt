use Rattle.std.proofs.Common.{length, ap, ◌∙◌, arith, inl, rules}
use Rattle.std.specs.Iterator.Adapters.{enumerate_source, enumerate_count}
use Rattle.session.specs.Transcript.{lines}
use Rattle.session.proofs.Splitting.{length_lines}
use Rattle.session.proofs.script.answer_lines.Goals as goal

pub loop-i-init : goal.loop-i-init
loop-i-init c =
    let few = length_lines c.args.input.now in
    let from = ap length (ap (λ s. lines s.0.now) (ap enumerate_source c.into_iter-i-iterator.ensures.into_iter_gives ∙ c.enumerate-i-items.ensures.source)) in
    let first = ap enumerate_count c.into_iter-i-iterator.ensures.into_iter_gives ∙ c.enumerate-i-items.ensures.count in
    ((tt, tt, inl (omega (arith, few, from, first))), tt, omega (arith, few, from, first), search rules)
