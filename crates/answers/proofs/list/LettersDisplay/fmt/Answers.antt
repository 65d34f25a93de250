use Rattle.std.proofs.Common.{◌++◌, codes, decimal, get_or, sym, ap, ◌∙◌, arith, rules}
use Rattle.std.proofs.Output.{has_written_append}
use Rattle.std.proofs.lemmas.List.{append_assoc}
use Rattle.answers.specs.Text.{letters_bytes}
use Rattle.answers.proofs.Appending.{letters-more}
use Rattle.answers.proofs.list.LettersDisplay.fmt.Goals as goal

pub loop-x-preserved : goal.loop-x-preserved
loop-x-preserved g c = λ plain.
    let so_far = c.loop-x.invariant plain in
    let row = c.args.self.now.0.now in
    let now = codes " x" ++ decimal (get_or row c.loop-x.x-index 0) in
    let d = ap letters_bytes (letters-more row c.loop-x.x-index (omega arith) (sym c.if-not-is_letter.ensures)) in (
      so_far.0 ++ now,
      has_written_append _ _ _ _ _ _ so_far.1 (search rules),
      append_assoc so_far.0 now _ ∙ ap (λ bs. so_far.0 ++ bs) (sym d) ∙ so_far.2,
    )
