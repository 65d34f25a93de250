-- The standard words are a basis when each free sum in the letters 1 to n is congruent to exactly one combination of them.
use Rattle.theory.specs.Ring.{CommutativeRing}
use Rattle.theory.specs.FreeSum.{FreeSum, ◌≈◌}
use Rattle.theory.specs.Words.{OverSum, AllStandard}
use Rattle.theory.specs.Relations.{Relations}
use Rattle.theory.specs.Congruence.{Congruent}

module _ {R : CommutativeRing} (P : Relations R) where
  -- s is a combination of standard words that f is congruent to
  pub record StandardForm (f s : FreeSum R) : Type 0 where
    pub standard : AllStandard s
    pub over : OverSum P.n s
    pub congruent : Congruent P f s

  pub record OneForm (f : FreeSum R) : Type 0 where
    pub form : FreeSum R
    pub is_form : StandardForm f form
    pub only : (t : FreeSum R) → StandardForm f t → t ≈ form

  abbrev pub Basis : Type 0
  Basis = (f : FreeSum R) → OverSum P.n f → OneForm f
