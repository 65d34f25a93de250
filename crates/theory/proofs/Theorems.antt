-- The theorems, each from the file that proves it.
use Rattle.theory.specs.Ring.{CommutativeRing}
use Rattle.theory.specs.Theorems.{SumsHaveNormalForms, DiamondLemma, BasisIffResolves, RewritingIsCongruent, NoEndlessRewriting, OperationsRespectCongruence}
use Rattle.theory.proofs.NormalForm.{NF_first, NF_of_standard, NF-standard, NF_≈, NF-append, NF-negate, NF-scale}
use Rattle.theory.proofs.Diamond.{NF_any}
use Rattle.theory.proofs.Basis.{NF-over, congruent-NF, NF-congruent, basis_of_resolves, resolves_of_basis}
use Rattle.theory.proofs.Congruence.{congruent_≈, congruent-sym, congruent_trans, congruent-append, congruent-negate, congruent-scale}
use Rattle.theory.proofs.Products.{congruent-times}
use Rattle.theory.proofs.Letters.{append-over, scale-over, negate-over, times-over}
use Rattle.theory.proofs.Rewriting.{rewriting-congruent}
use Rattle.theory.proofs.Terminates.{active_ends, no_endless}

pub normal_forms : {R : CommutativeRing} → SumsHaveNormalForms R
normal_forms P ends tails = record {
  leftmost = NF_first P ends;
  stay = NF_of_standard P ends;
  standard = NF-standard P ends;
  equal = NF_≈ P ends;
  sum = NF-append P ends;
  negative = NF-negate P ends;
  scaled = NF-scale P ends;
  over = NF-over P ends tails;
  congruent = congruent-NF P ends tails;
}

pub diamond_lemma : {R : CommutativeRing} → DiamondLemma R
diamond_lemma P ends tails res = record {
  any_inversion = NF_any P ends tails res;
  congruent_equal = NF-congruent P ends tails res;
}

pub basis_iff_resolves : {R : CommutativeRing} → BasisIffResolves R
basis_iff_resolves P ends tails = (resolves_of_basis P ends tails, basis_of_resolves P ends tails)

pub rewriting_is_congruent : {R : CommutativeRing} → RewritingIsCongruent R
rewriting_is_congruent P f g t = rewriting-congruent P t

pub no_endless_rewriting : {R : CommutativeRing} → NoEndlessRewriting R
no_endless_rewriting P ends = record { well_founded = active_ends P ends; no_sequence = no_endless P ends }

pub operations_respect_congruence : {R : CommutativeRing} → OperationsRespectCongruence R
operations_respect_congruence P = record {
  equal = congruent_≈ P;
  symmetric = congruent-sym P;
  transitive = congruent_trans P;
  sum = congruent-append P;
  negative = congruent-negate P;
  scaled = congruent-scale P;
  product = congruent-times P;
  over_sum = append-over P.n;
  over_negative = negate-over P.n;
  over_scaled = scale-over P.n;
  over_product = times-over P.n;
}
