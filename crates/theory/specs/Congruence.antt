-- Congruence: free sums that differ by a finite sum of r u g v, with r in the ring, u and v words, and g the relator of a pair.
use Rattle.std.specs.Prelude.{List, [], ◌∷◌, ◌++◌, ℕ}
use Rattle.theory.specs.Ring.{CommutativeRing}
use Rattle.theory.specs.FreeSum.{Word, FreeSum, ◌≈◌, scale, around}
use Rattle.theory.specs.Words.{Over}
use Rattle.theory.specs.Relations.{Relations, Pair, relator}

module _ {R : CommutativeRing} (P : Relations R) where
  -- r u g v
  pub record Multiple : Type 0 where
    pub by : R.carrier
    pub before : Word
    pub j : ℕ
    pub i : ℕ
    pub after : Word
    pub pair : Pair P.n j i
    pub over_before : Over P.n before
    pub over_after : Over P.n after

  unfoldable pub multiple : Multiple → FreeSum R
  multiple m = scale m.by (around m.before (relator P m.j m.i) m.after)

  unfoldable pub combination : List Multiple → FreeSum R
  combination [] = []
  combination (m ∷ l) = multiple m ++ combination l

  pub record Congruent (f g : FreeSum R) : Type 0 where
    pub by : List Multiple
    pub differ : f ≈ g ++ combination by
