-- Relations x_j x_i = factor x_i x_j + tail, one for each pair 1 ≤ i < j ≤ n of generators, and their overlaps.
use Rattle.std.specs.Prelude.{[], ◌∷◌, ◌++◌, ℕ, ◌≤◌, ◌<◌}
use Rattle.std.proofs.Math.Decide.{dec_le, dec_lt}
use Rattle.theory.specs.Ring.{CommutativeRing}
use Rattle.theory.specs.FreeSum.{FreeSum, single, scale, negate, around}
use Rattle.theory.specs.Words.{OverSum}

-- n generators, and for each pair of them a factor and a tail; what is given for other numbers means nothing
pub record Relations (R : CommutativeRing) : Type 0 where
  pub n : ℕ
  pub factor : ℕ → ℕ → R.carrier
  pub tail : ℕ → ℕ → FreeSum R

-- 1 ≤ i < j ≤ n
pub record Pair (n j i : ℕ) : Type 0 where
  pub low : 1 ≤ i
  pub falls : i < j
  pub high : j ≤ n

pub pair? : (n j i : ℕ) → Dec (Pair n j i)
pair? n j i = go (dec_le 1 i) (dec_lt i j) (dec_le j n)
  where
    go : Dec (1 ≤ i) → Dec (i < j) → Dec (j ≤ n) → Dec (Pair n j i)
    go (yes a) (yes b) (yes c) = yes (record { low = a; falls = b; high = c })
    go (no a) _ _ = no (λ p. a p.low)
    go (yes a) (no b) _ = no (λ p. b p.falls)
    go (yes a) (yes b) (no c) = no (λ p. c p.high)

-- f where the test passed, else no term
abbrev pub keep {ℓ} : {R : CommutativeRing} {A : Type ℓ} → Dec A → FreeSum R → FreeSum R
keep (yes p) f = f
keep (no n) f = []

-- 1 ≤ i < j < k ≤ n
pub record Triple (n i j k : ℕ) : Type 0 where
  pub low : 1 ≤ i
  pub first : i < j
  pub second : j < k
  pub high : k ≤ n

module _ {R : CommutativeRing} (P : Relations R) where
  -- the tail of a pair; other letters have none
  unfoldable pub tail_of : ℕ → ℕ → FreeSum R
  tail_of j i = keep (pair? P.n j i) (P.tail j i)

  -- what x_j x_i is replaced by: factor x_i x_j + tail
  unfoldable pub rhs : ℕ → ℕ → FreeSum R
  rhs j i = record { coef = P.factor j i; word = i ∷ j ∷ [] } ∷ tail_of j i

  -- x_j x_i − factor x_i x_j − tail
  unfoldable pub relator : ℕ → ℕ → FreeSum R
  relator j i = single (j ∷ i ∷ []) ++ negate (rhs j i)

  -- the tails are sums of words in the letters 1 to n
  abbrev pub TailsOver : Type 0
  TailsOver = (j i : ℕ) → Pair P.n j i → OverSum P.n (P.tail j i)

  -- x_k x_j x_i with its first two letters replaced, less the same with its last two replaced
  unfoldable pub overlap : ℕ → ℕ → ℕ → FreeSum R
  overlap i j k = around [] (rhs k j) (i ∷ []) ++ negate (around (k ∷ []) (rhs j i) [])

  -- c_ik c_jk d_ij x_k − x_k d_ij + c_jk x_j d_ik − c_ij d_ik x_j + d_jk x_i − c_ij c_ik x_i d_jk, with c the factors and d the tails
  unfoldable pub nondegeneracy : ℕ → ℕ → ℕ → FreeSum R
  nondegeneracy i j k =
      scale (R.mul (P.factor k i) (P.factor k j)) (around [] (P.tail j i) (k ∷ []))
      ++ negate (around (k ∷ []) (P.tail j i) [])
      ++ scale (P.factor k j) (around (j ∷ []) (P.tail k i) [])
      ++ negate (scale (P.factor j i) (around [] (P.tail k i) (j ∷ [])))
      ++ around [] (P.tail k j) (i ∷ [])
      ++ negate (scale (R.mul (P.factor j i) (P.factor k i)) (around (i ∷ []) (P.tail k j) []))
