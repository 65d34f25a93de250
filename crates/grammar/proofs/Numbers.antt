-- A number is read from its decimal writing, and from nothing else.
use Rattle.std.proofs.Common.{◌≡◌, ℕ, zero, suc, ◌^◌, ◌<◌, ◌≤◌, List, length, Some, decimal, sym, ap, ◌∙◌, arith}
use Rattle.std.proofs.Math.Nat.{pow-le-pow_right}
use Rattle.std.proofs.lemmas.Int.Digits.{digits_value-lt}
use Rattle.std.proofs.lemmas.Bool.Decides.{nat_tests}
use Rattle.std.proofs.lemmas.Fmt.{decimal-digits_of, decimal_digit, length-decimal-le, decimal_is_IsNumeral}
use Rattle.coefficients.specs.Numerals.{numeral, read_numeral}
use Rattle.coefficients.specs.NumeralLaws.{numeral_of_read, read_below, read_of_numeral}
use Rattle.grammar.specs.Reading.{number_of}
use Rattle.grammar.proofs.Expecting.{number_is}

decimal_is : (n : ℕ) → n < 2 ^ 64 → decimal n ≡ numeral 10 n
unfolding numeral
decimal_is zero h = decimal_digit 0 (omega arith)
decimal_is (suc n) h = decimal-digits_of (suc n) (omega arith) h

pub number_writes : (n : ℕ) → n < 10 ^ 10 → number_of (decimal n) ≡ Some n
number_writes n h =
    let small : n < 2 ^ 64 = omega arith in
    sym (number_is (decimal n) (length-decimal-le 10 n (omega arith) h small)) ∙ ap (read_numeral 10) (decimal_is n small) ∙ read_of_numeral 10 (omega arith) n small

few : (ds : List ℕ) (n : ℕ) → number_of ds ≡ Some n → length ds ≤ 10
few ds n h = grind (arith, nat_tests)

pub number-written : (ds : List ℕ) (n : ℕ) → number_of ds ≡ Some n → decimal n ≡ ds
number-written ds n h =
    let r : read_numeral 10 ds ≡ Some n = number_is ds (few ds n h) ∙ h in
    decimal_is n (read_below 10 (omega arith) ds n r) ∙ numeral_of_read 10 (omega arith) ds n r

pub number-below : (ds : List ℕ) (n : ℕ) → number_of ds ≡ Some n → n < 10 ^ 10
number-below ds n h =
    let small : n < 2 ^ 64 = read_below 10 (omega arith) ds n (number_is ds (few ds n h) ∙ h) in
    let k = decimal_is_IsNumeral n small in
    let l : length (decimal n) ≤ 10 = omega (arith, few ds n h, ap length (number-written ds n h)) in
    omega (arith, k.1, digits_value-lt 10 (decimal n) k.0.1, pow-le-pow_right {n = 10} (omega arith) l)
