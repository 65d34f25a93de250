-- The ring of polynomials in q over the field of two elements.
use Rattle.std.specs.Prelude.{◌≡◌, ℕ, bit_xor}
use mathlib.Core.HLevel.{hedberg}
use Rattle.std.proofs.Math.Decide.{ℕ_discrete}
use Rattle.std.proofs.Common.{arith}
use Rattle.std.specs.Int.Bits.{xor_zero_r, xor_self, xor_assoc}
use Rattle.std.proofs.lemmas.Nat.{xor_comm}
use Rattle.theory.specs.Ring.{CommutativeRing, laws_of}
use Rattle.qpolynomials.specs.Product.{times}
use Rattle.qpolynomials.specs.Laws.{times_assoc, times_comm, times-one, times-xor}

-- every polynomial is its own negative
abbrev pub same : ℕ → ℕ
same a = a

pub one_not_zero : ¬ (◌≡◌ {A = ℕ} 1 0)
one_not_zero e = omega arith

abbrev pub qpolynomial_ring : CommutativeRing
qpolynomial_ring = record {
  carrier = ℕ;
  add = bit_xor;
  mul = times;
  zero = 0;
  neg = same;
  one = 1;
  laws = laws_of bit_xor times 0 same 1 (hedberg ℕ_discrete) xor_assoc xor_comm xor_zero_r xor_self times_assoc times_comm times-one times-xor;
  one≢zero = one_not_zero;
}
