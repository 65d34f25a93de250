-- Fixed bytes, and numbers.
use Rattle.std.proofs.Common.{◌≡◌, ℕ, suc, ◌+◌, ◌-◌, ◌*◌, ◌^◌, ◌<◌, ◌≤◌, cond, nat_eq, List, [], ◌∷◌, length, take, drop, Ok, Err, refl, pow-suc, arith}
use Rattle.std.proofs.Math.Nat.{pow-le-pow_right}
use Rattle.std.specs.Cmp.Lexicographic.{pointwise}
use Rattle.std.proofs.lemmas.Bool.Decides.{nat_tests}
use Rattle.coefficients.specs.Numerals.{read_digits, read_numeral}
use Rattle.grammar.specs.declared.fault.ReadFault.TheVariants.{Misfit}
use Rattle.grammar.specs.Reading.{expect, number_on, number_of}

pub expect_is : (w s : List ℕ) → expect w s ≡ cond (pointwise nat_eq (take (length w) s) w) (Ok (drop (length w) s)) (Err Misfit)
expect_is [] s = refl
expect_is (c ∷ w) [] = refl
expect_is (c ∷ w) (b ∷ s) = let i = expect_is w s in grind (arith, nat_tests)

-- ten digits fit 64 bits
digits_are : (i n : ℕ) (cs : List ℕ) → n < 10 ^ i → i + length cs ≤ 10 → read_digits 10 n cs ≡ number_on n cs
unfolding read_digits
digits_are i n [] h k = refl
digits_are i n (c ∷ cs) h k =
    let p : 10 ^ suc i ≤ 10 ^ 10 = pow-le-pow_right {n = 10} (omega arith) {i = suc i} {j = 10} (omega arith) in
    let d : c ≤ 57 → n * 10 + (c - 48) < 10 ^ suc i = λ l. rw pow-suc (omega arith) in
    let t : c ≤ 57 → n * 10 + (c - 48) < 2 ^ 64 = λ l. omega (arith, d l, p) in
    let r : c ≤ 57 → read_digits 10 (n * 10 + (c - 48)) cs ≡ number_on (n * 10 + (c - 48)) cs = λ l. digits_are (suc i) (n * 10 + (c - 48)) cs (d l) (omega arith) in
    grind (arith, nat_tests)

-- a number is a decimal numeral of at most ten digits
pub number_is : (ds : List ℕ) → length ds ≤ 10 → read_numeral 10 ds ≡ number_of ds
number_is ds h = go ds h (digits_are 0 0 ds (omega arith) (omega arith))
  where
    go : (ds : List ℕ) → length ds ≤ 10 → read_digits 10 0 ds ≡ number_on 0 ds → read_numeral 10 ds ≡ number_of ds
    go [] h r = refl
    go (c ∷ []) h r = grind (arith, nat_tests)
    go (c ∷ d ∷ ds) h r = grind (arith, nat_tests)
