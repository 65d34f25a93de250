use Rattle.std.proofs.Common.{not, refl, arith, rules, tests}
use Rattle.std.proofs.lemmas.Bool.Decides.{nat_tests}
use Rattle.std.proofs.lemmas.Iterator.{YieldsList-from_slice}
use Rattle.std.proofs.lemmas.Iterator.Search.{position_from_yields_List}
use Rattle.std.proofs.lemmas.List.Recursion.{is_position_or_len}
use Rattle.std.proofs.lemmas.List.Sums.{prefix_len-le-length}
use Rattle.grammar.specs.Reading.{breaks, atom_length}
use Rattle.grammar.proofs.bytes.atom_end.Goals as goal

pub returns-clause-value : goal.returns-clause-value
returns-clause-value c =
    let p = position_from_yields_List breaks _ _ c.position-end.result c.position-end.ensures.ran (YieldsList-from_slice c.args.s.now cc) (λ x b q k. search (rules, tests)) in
    let n = is_position_or_len atom_length breaks refl (λ x xs. refl) c.args.s.now in
    let l = prefix_len-le-length (λ b. not (breaks b)) c.args.s.now in
    grind (arith, nat_tests)
