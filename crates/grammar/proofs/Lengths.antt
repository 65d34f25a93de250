-- The length of a line comes first.
use Rattle.std.proofs.Common.{◌≡◌, ℕ, ◌<◌, ◌≤◌, List, length, Err, arith}
use Rattle.std.proofs.lemmas.Bool.Decides.{nat_tests}
use Rattle.grammar.specs.declared.fault.FormFault.TheVariants.{TooLong}
use Rattle.grammar.specs.FormReader.{read_any, read_form, whole}

pub long : (bs : List ℕ) → 1000 < length bs → read_form bs ≡ Err TooLong
unfolding read_form
long bs h = grind (arith, nat_tests)

pub short : (bs : List ℕ) → length bs ≤ 1000 → read_form bs ≡ whole (read_any bs)
unfolding read_form
short bs h = grind (arith, nat_tests)
