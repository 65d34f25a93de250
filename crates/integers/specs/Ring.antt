-- The ring of integers.
use Rattle.std.specs.Prelude.{◌≡◌, ℕ, ℤ, pos, ◌+ℤ◌, ◌*ℤ◌, neg_ℤ, unsigned_abs}
use Rattle.std.proofs.Common.{ap, arith}
use Rattle.std.proofs.Math.IntN.{one, ℤ_set, +ℤ_assoc, +ℤ_comm, +ℤ_idr, +ℤ_invr, *ℤ-one, *ℤ_comm}
use Rattle.theory.specs.Ring.{CommutativeRing, laws_of}
use Rattle.integers.specs.Laws.{*ℤ-assoc, *ℤ-add}

pub one_not_zero : ¬ (pos 1 ≡ pos 0)
one_not_zero e = let h : ◌≡◌ {A = ℕ} 1 0 = ap unsigned_abs e in omega arith

pub times-one : (a : ℤ) → a *ℤ pos 1 ≡ a
unfolding one
times-one a = *ℤ-one a

abbrev pub integer_ring : CommutativeRing
integer_ring = record {
  carrier = ℤ;
  add = ◌+ℤ◌;
  mul = ◌*ℤ◌;
  zero = pos 0;
  neg = neg_ℤ;
  one = pos 1;
  laws = laws_of ◌+ℤ◌ ◌*ℤ◌ (pos 0) neg_ℤ (pos 1) ℤ_set +ℤ_assoc +ℤ_comm +ℤ_idr +ℤ_invr *ℤ-assoc *ℤ_comm times-one *ℤ-add;
  one≢zero = one_not_zero;
}
