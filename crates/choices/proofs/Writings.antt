-- Numerals, with or without a minus sign, are plain.
use Rattle.std.proofs.Common.{ℕ, suc, ◌+◌, ◌%◌, ◌<◌, ◌≤◌, List, [], ◌∷◌, ◌++◌, ℤ, pos, negsuc, arith, lit≤}
use Rattle.coefficients.specs.Numerals.{numeral}
use Rattle.coefficients.specs.NumeralLaws.{numeral_by_steps}
use Rattle.integers.specs.Model.{integer, written}
use Rattle.choices.specs.Rings.{ring_model}
use Rattle.choices.specs.Writings.{Plain, WritesPlainly}
use Rattle.choices.specs.declared.ring.AnyRing.{AnyRing}
use Rattle.choices.specs.declared.ring.AnyRing.TheVariants.{Residues, Integers, QPolynomials}

plain_push : (bs : List ℕ) (b : ℕ) → 41 < b → Plain bs → Plain (bs ++ (b ∷ []))
plain_push [] b h p = (λ e. omega arith, λ e. omega arith, λ e. omega arith, tt)
plain_push (x ∷ bs) b h p = (p.0, p.1, p.2, plain_push bs b h p.3)

plain-numeral : (b : ℕ) → 2 ≤ b → (n : ℕ) → Plain (numeral b n)
plain-numeral b h = numeral_by_steps b h (λ n ds. Plain ds) (λ n l. plain_push [] (48 + n) (omega arith) tt) (λ n ds l p. plain_push ds (48 + n % b) (omega arith) p)

plain-integer : (x : ℤ) → Plain (written x)
plain-integer (pos n) = plain-numeral 10 (lit≤ tt) n
plain-integer (negsuc n) = (λ e. omega arith, λ e. omega arith, λ e. omega arith, plain-numeral 10 (lit≤ tt) (suc n))

pub writes_plainly : (k : AnyRing) → WritesPlainly (ring_model k)
writes_plainly (Residues k) c h = plain-numeral 10 (lit≤ tt) c
writes_plainly (Integers k) c h = plain-integer (integer c)
writes_plainly (QPolynomials k) c h = plain-numeral 2 (lit≤ tt) c
