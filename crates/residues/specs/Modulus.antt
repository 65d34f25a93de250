-- Which numbers are a modulus.
use Rattle.std.specs.Prelude.{ℕ, Bool, ◌&&◌, nat_le}
use Rattle.refusals.specs.declared.Refusal.{Refusal}
use Rattle.refusals.specs.Refusals.{plain}
use Rattle.residues.specs.declared.residues.ModulusOutOfRange.{ModulusOutOfRange}

abbrev pub is_modulus : ℕ → Bool
is_modulus m = nat_le 2 m && nat_le m 4294967295

abbrev pub modulus_refusal : ModulusOutOfRange → Refusal
modulus_refusal f = plain 9 1
