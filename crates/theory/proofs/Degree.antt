-- Relations whose tails have words of at most one letter: by degree, rewriting ends.
use mathlib.Core.Path.{refl, ap}
use mathlib.Core.Logic.{inl}
use mathlib.Core.List.{[], ◌∷◌}
use mathlib.Core.WellFounded.{WellFounded}
use Prim.Native.Nat.{ℕ, ◌<◌}
use lib.ListN.{length, length-append}
use Rattle.theory.specs.Ring.{CommutativeRing}
use Rattle.theory.specs.FreeSum.{Word, Occurs}
use Rattle.theory.specs.Words.{Over}
use Rattle.theory.specs.Relations.{Relations, Pair, TailsOver}
use Rattle.theory.specs.Rewriting.{Below}
use Rattle.theory.specs.Keys.{Keys, TailsFall}
use Rattle.theory.proofs.Ends.{ends_by_keys}

degree : Keys
degree = record { width = 1; key = λ w. length w ∷ []; key_length = λ w. refl; key_join = λ u v. ap (λ n. n ∷ []) (length-append u v) }

-- tails of words with at most one letter, which is one of 1 to n
pub record Short (n : ℕ) (t : Word) : Type 0 where
  pub short : length t < 2
  pub over : Over n t

module _ {R : CommutativeRing} (P : Relations R) (short : (j i : ℕ) → Pair P.n j i → (t : Word) → Occurs t (P.tail j i) → Short P.n t) where
  short_fall : TailsFall P degree
  unfolding degree
  short_fall j i p t o = inl (short j i p t o).short

  pub short_ends : WellFounded (Below P)
  short_ends = ends_by_keys P degree short_fall

  pub short-over : TailsOver P
  short-over j i p t o = (short j i p t o).over
