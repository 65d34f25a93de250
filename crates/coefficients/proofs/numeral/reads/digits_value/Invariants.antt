use Rattle.std.proofs.Common.{◌≡◌, drop}
use Rattle.coefficients.specs.Numerals.{radix, read_digits}
use Rattle.coefficients.proofs.numeral.reads.digits_value.Given as goal

abbrev pub invariant-loop-c : goal.invariant-loop-c
invariant-loop-c l = read_digits (radix l.base) l.n (drop l.c-index l.text) ≡ read_digits (radix l.base) 0 l.text
