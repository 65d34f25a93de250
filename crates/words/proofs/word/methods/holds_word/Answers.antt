use Rattle.std.proofs.Common.{ap, arith}
use Rattle.std.proofs.lemmas.Bool.Decides.{nat_tests}
use Rattle.std.proofs.lemmas.Bool.{cases_Bool}
use Rattle.std.proofs.lemmas.List.{drop_all}
use Rattle.words.specs.Rows.{is_row, all_zero}
use Rattle.words.proofs.Filling.{row_more, zero_more}
use Rattle.words.proofs.word.methods.holds_word.Goals as goal
use Rattle.words.proofs.word.methods.holds_word.Goals.{then-ended+else-x-ne0, then-ended-via-then-ended, then-ended-via-else-ended+then-not-is_letter, else-ended+else-not-is_letter}

pub returns-then-x-ne0 : goal.returns-then-x-ne0
returns-then-x-ne0 c =
    let z = zero_more c.args.row.now c.loop-x.x-index (omega arith) in
    let y = row_more c.args.row.now c.loop-x.x-index (omega arith) in
    let h = c.loop-x.invariant in
    elim c.then-ended.branch [
      | then-ended-via-then-ended w ↦ grind (arith, nat_tests)
      | then-ended-via-else-ended+then-not-is_letter w ↦ grind (arith, nat_tests)
    ]

pub loop-x-preserved : goal.loop-x-preserved
loop-x-preserved c =
    let z = zero_more c.args.row.now c.loop-x.x-index (omega arith) in
    let y = row_more c.args.row.now c.loop-x.x-index (omega arith) in
    let h = c.loop-x.invariant in
    elim c.if-ended.branch [
      | then-ended+else-x-ne0 w ↦
          elim w.then-ended.branch [
            | then-ended-via-then-ended v ↦ grind (arith, nat_tests)
            | then-ended-via-else-ended+then-not-is_letter v ↦ grind (arith, nat_tests)
          ]
      | else-ended+else-not-is_letter w ↦ grind (arith, nat_tests)
    ]

pub returns : goal.returns
returns c =
    let d = drop_all c.loop-x.x-index c.args.row.now (omega arith) in
    let h = c.loop-x.invariant in
    grind (arith, cases_Bool c.loop-x.ended, ap is_row d, ap all_zero d)
