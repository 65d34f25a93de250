-- The codes of residues modulo m: the remainders themselves, written in decimal.
use Rattle.std.specs.Prelude.{◌≡◌, ℕ, ◌^◌, ◌<◌, ◌≤◌, Bool, true, false, cond, List, Some, None, Option, nat_lt, refl}
use Rattle.std.proofs.Common.{ap, ◌∙◌, mod-eq_of_lt, arith, lit≤, lit<}
use Rattle.std.proofs.Math.Nat.{zero-mod}
use native.Mathlib.Fin
use Rattle.std.proofs.lemmas.Bool.{ltb-true, lt-ltb}
use Rattle.coefficients.specs.Coding.{Coding, Writable}
use Rattle.coefficients.specs.Numerals.{numeral, read_numeral}
use Rattle.coefficients.specs.NumeralLaws.{numeral_some, numeral-length, numeral_nonzero, read_of_numeral, numeral_of_read}
use Rattle.coefficients.specs.Numbering.{Numbering, coding_of}
use Rattle.residues.specs.Ring.{class, residue_ring}

-- a number that is below the bound
abbrev pub below : ℕ → Option ℕ → Option ℕ
below m None = None
below m (Some n) = cond (nat_lt n m) (Some n) None

pub below_some : (m c : ℕ) (r : Option ℕ) → below m r ≡ Some c → (c < m) × (r ≡ Some c)
below_some m c None e = let z : ◌≡◌ {A = ℕ} 0 1 = cc in absurd (omega arith)
below_some m c (Some n) e = go (nat_lt n m) refl e
  where
    go : (t : Bool) → nat_lt n m ≡ t → cond t (Some n) None ≡ Some c → (c < m) × (◌≡◌ {A = Option ℕ} (Some n) (Some c))
    go true p e = let q : n ≡ c = cc in (omega (arith, ltb-true n m p, q), ap Some q)
    go false p e = let z : ◌≡◌ {A = ℕ} 0 1 = cc in absurd (omega arith)

abbrev pub read_residue : ℕ → List ℕ → Option ℕ
read_residue m bs = below m (read_numeral 10 bs)

module _ (m : ℕ) (low : 2 ≤ m) (high : m < 2 ^ 32) where
  pub residue_writable : (c : ℕ) → c < m → Writable (numeral 10 c)
  residue_writable c h =
      let l = numeral-length 10 (lit≤ tt) 10 c (lit< tt) (omega arith) in
      record { some = numeral_some 10 (lit≤ tt) c; short = omega arith; nonzero = numeral_nonzero 10 (lit≤ tt) (lit≤ tt) c }

  pub read-written : (c : ℕ) → c < m → read_residue m (numeral 10 c) ≡ Some c
  read-written c h = ap (below m) (read_of_numeral 10 (lit≤ tt) c (omega arith)) ∙ ap (λ t. cond t (Some c) None) (lt-ltb c m h)

  pub written_read : (bs : List ℕ) (c : ℕ) → read_residue m bs ≡ Some c → (c < m) × (numeral 10 c ≡ bs)
  written_read bs c e = let h = below_some m c (read_numeral 10 bs) e in (h.0, numeral_of_read 10 (lit≤ tt) bs c h.1)

  abbrev pub residue_numbering : Numbering (residue_ring m low)
  residue_numbering = record {
    bound = m;
    bound_fits = omega arith;
    number = λ x. x.0;
    means = class m low;
    number_means = λ c l. mod-eq_of_lt l;
    means_number = λ x. Fin.val_path (mod-eq_of_lt x.1);
    number_zero = zero-mod m;
    unit = 1;
    number_one = mod-eq_of_lt low;
    unit_below = low;
    writing = numeral 10;
    read = read_residue m;
    writable = residue_writable;
    read_writing = read-written;
    reads = written_read;
  }

  abbrev pub residue_coding : Coding
  residue_coding = coding_of (residue_ring m low) residue_numbering
