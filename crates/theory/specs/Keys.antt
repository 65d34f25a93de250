-- Orders by keys: rows of numbers of one length, which add up entry by entry where words are joined and are compared at their first difference.
use Rattle.std.specs.Prelude.{◌≡◌, ◌⊎◌, List, [], ◌∷◌, ◌++◌, ℕ, ◌+◌, ◌<◌, length}
use Rattle.theory.specs.Ring.{CommutativeRing}
use Rattle.theory.specs.FreeSum.{Word, Occurs}
use Rattle.theory.specs.Relations.{Relations, Pair}

abbrev pub plus : List ℕ → List ℕ → List ℕ
plus [] b = []
plus (x ∷ a) [] = []
plus (x ∷ a) (y ∷ b) = (x + y) ∷ plus a b

-- a is less than b at their first difference
abbrev pub Before : List ℕ → List ℕ → Type 0
Before [] b = ⊥
Before (x ∷ a) [] = ⊥
Before (x ∷ a) (y ∷ b) = (x < y) ⊎ ((x ≡ y) × Before a b)

-- a key for each word. As keys add up, they depend only on how often each letter occurs; that they tell these counts apart is not needed here
pub record Keys : Type 0 where
  pub width : ℕ
  pub key : Word → List ℕ
  pub key_length : (w : Word) → length (key w) ≡ width
  pub key_join : (u v : Word) → key (u ++ v) ≡ plus (key u) (key v)

-- the key of each tail word is before that of x_i x_j
abbrev pub TailsFall : {R : CommutativeRing} → Relations R → Keys → Type 0
TailsFall P K = (j i : ℕ) → Pair P.n j i → (t : Word) → Occurs t (P.tail j i) → Before (K.key t) (K.key (i ∷ j ∷ []))
