-- What each of the coefficient rings means, and which ring a modulus chooses.
use Rattle.std.specs.Prelude.{◌≡◌, ℕ, Bool, true, false, Ok, Err, Result, nat_le, refl}
use Rattle.std.proofs.Common.{arith}
use Rattle.std.proofs.lemmas.Bool.{leb-true, and_parts}
use Rattle.coefficients.specs.Coding.{Coding}
use Rattle.residues.specs.Model.{residue_coding}
use Rattle.residues.specs.Modulus.{is_modulus}
use Rattle.residues.specs.declared.residues.ModulusOutOfRange.{ModulusOutOfRange}
use Rattle.integers.specs.Model.{integer_coding}
use Rattle.qpolynomials.specs.Model.{qpolynomial_coding}
use Rattle.choices.specs.declared.ring.AnyRing.{AnyRing}
use Rattle.choices.specs.declared.ring.AnyRing.TheVariants.{Residues, Integers, QPolynomials}

abbrev pub ring_model : AnyRing → Coding
ring_model (Residues k) = residue_coding k.modulus k.range.0 k.range.1
ring_model (Integers k) = integer_coding
ring_model (QPolynomials k) = qpolynomial_coding

-- the ring of residues modulo m, by whether m is a modulus
abbrev pub residues_when : (m : ℕ) (t : Bool) → is_modulus m ≡ t → Result AnyRing ModulusOutOfRange
residues_when m true h =
    let low = leb-true 2 m (and_parts (nat_le 2 m) (nat_le m 4294967295) h).0 in
    let high = leb-true m 4294967295 (and_parts (nat_le 2 m) (nat_le m 4294967295) h).1 in
    Ok (Residues (record { modulus = m; range = (low, omega arith) }))
residues_when m false h = Err (record {})

-- the ring of residues modulo m, or the refusal
abbrev pub residues_from : ℕ → Result AnyRing ModulusOutOfRange
residues_from m = residues_when m (is_modulus m) refl

abbrev pub the_integers : AnyRing
the_integers = Integers (record {})

abbrev pub the_q_polynomials : AnyRing
the_q_polynomials = QPolynomials (record {})
