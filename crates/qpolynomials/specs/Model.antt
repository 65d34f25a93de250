-- The codes of polynomials: all numbers of 64 bits, that is degree up to 63; written in binary, the highest power first.
use Rattle.std.specs.Prelude.{ℕ, ◌^◌, ◌<◌, refl}
use Rattle.std.proofs.Common.{le_refl, arith, lit<, lit≤}
use Rattle.coefficients.specs.Coding.{Coding, Writable}
use Rattle.coefficients.specs.Numerals.{numeral, read_numeral}
use Rattle.coefficients.specs.NumeralLaws.{numeral_some, numeral-length, numeral_nonzero, read_below, read_of_numeral, numeral_of_read}
use Rattle.coefficients.specs.Numbering.{Numbering, coding_of}
use Rattle.qpolynomials.specs.Ring.{qpolynomial_ring}

pub writable : (c : ℕ) → c < 2 ^ 64 → Writable (numeral 2 c)
writable c h =
    let l = numeral-length 2 (lit≤ tt) 64 c (lit< tt) h in
    record { some = numeral_some 2 (lit≤ tt) c; short = omega arith; nonzero = numeral_nonzero 2 (lit≤ tt) (lit≤ tt) c }

abbrev pub qpolynomial_numbering : Numbering qpolynomial_ring
qpolynomial_numbering = record {
  bound = 2 ^ 64;
  bound_fits = le_refl (2 ^ 64);
  number = λ x. x;
  means = λ c. c;
  number_means = λ c h. refl;
  means_number = λ x. refl;
  number_zero = refl;
  unit = 1;
  number_one = refl;
  unit_below = lit< tt;
  writing = numeral 2;
  read = read_numeral 2;
  writable = writable;
  read_writing = λ c h. read_of_numeral 2 (lit≤ tt) c h;
  reads = λ bs c e. (read_below 2 (lit≤ tt) bs c e, numeral_of_read 2 (lit≤ tt) bs c e);
}

abbrev pub qpolynomial_coding : Coding
qpolynomial_coding = coding_of qpolynomial_ring qpolynomial_numbering
