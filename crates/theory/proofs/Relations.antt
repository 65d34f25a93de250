-- Relations: pairs and triples of generators, the tail of a pair, and the letters of what a word is rewritten to.
use mathlib.Core.Path.{◌≡◌, refl, sym, ap, subst}
use mathlib.Core.Logic.{inl, inr}
use mathlib.Core.List.{[], ◌∷◌}
use Prim.Native.Nat.{ℕ}
use native.Mathlib.Omega.{arith}
use Rattle.theory.specs.Ring.{CommutativeRing}
use Rattle.theory.specs.FreeSum.{Word, Occurs}
use Rattle.theory.specs.Words.{Letter, Over, Inversion, OverSum}
use Rattle.theory.specs.Relations.{Relations, Pair, pair?, keep, Triple, tail_of, rhs, TailsOver}
use Rattle.theory.specs.Rewriting.{Reduct, Below, below_one, below_more}
use Rattle.theory.proofs.Words.{over-place, over-place_join}

-- the letters of a pair, and the pairs of a triple
pub upper : {n j i : ℕ} → Pair n j i → Letter n j
upper p = record { low = omega arith; high = p.high }

pub lower : {n j i : ℕ} → Pair n j i → Letter n i
lower p = record { low = p.low; high = omega arith }

module _ {n i j k : ℕ} (t : Triple n i j k) where
  pub pair_ji : Pair n j i
  pair_ji = record { low = t.low; falls = t.first; high = omega arith }

  pub pair_kj : Pair n k j
  pair_kj = record { low = omega arith; falls = t.second; high = t.high }

  pub pair_ki : Pair n k i
  pair_ki = record { low = t.low; falls = omega arith; high = t.high }

module _ {R : CommutativeRing} (P : Relations R) where
  pub tail_of_pair : (j i : ℕ) → Pair P.n j i → tail_of P j i ≡ P.tail j i
  unfolding tail_of
  tail_of_pair j i p = go (pair? P.n j i)
    where
      go : (d : Dec (Pair P.n j i)) → keep d (P.tail j i) ≡ P.tail j i
      go (yes _) = refl
      go (no n) = absurd (n p)

  pub rhs-pair : (j i : ℕ) → Pair P.n j i → rhs P j i ≡ record { coef = P.factor j i; word = i ∷ j ∷ [] } ∷ P.tail j i
  unfolding rhs
  rhs-pair j i p = ap (λ f. record { coef = P.factor j i; word = i ∷ j ∷ [] } ∷ f) (tail_of_pair j i p)

  -- a word of a tail is one of a pair's tail
  pub occurs-tail_of : (j i : ℕ) (t : Word) → Occurs t (tail_of P j i) → Pair P.n j i × Occurs t (P.tail j i)
  unfolding tail_of
  occurs-tail_of j i t = go (pair? P.n j i)
    where
      go : (d : Dec (Pair P.n j i)) → Occurs t (keep d (P.tail j i)) → Pair P.n j i × Occurs t (P.tail j i)
      go (yes p) o = (p, o)
      go (no n) o = absurd o

  pub inversion-pair : (w : Word) → Over P.n w → (r : Inversion w) → Pair P.n r.j r.i
  inversion-pair w o r =
      let k = over-place P.n r.before (r.j ∷ r.i ∷ []) r.after (subst (Over P.n) r.split o) in
      record { low = k.1.1.0.low; falls = r.falls; high = k.1.0.high }

  pub reduct_below : {x y w : Word} → Reduct P x y → Below P y w → Below P x w
  reduct_below s (below_one t) = below_more (below_one s) t
  reduct_below s (below_more b t) = below_more (reduct_below s b) t

module _ {R : CommutativeRing} (P : Relations R) (tails : TailsOver P) where
  -- the letters of what a rewriting brings
  pub rhs-over : (j i : ℕ) → Pair P.n j i → OverSum P.n (rhs P j i)
  unfolding rhs
  rhs-over j i p t (inl e) = subst (Over P.n) (sym e) (lower p, (upper p, tt))
  rhs-over j i p t (inr o) = tails j i p t (occurs-tail_of P j i t o).1

  pub reduct_over : (x w : Word) → Reduct P x w → Over P.n w → Over P.n x
  reduct_over x w s o =
      let r = s.inversion in
      let k = over-place P.n r.before (r.j ∷ r.i ∷ []) r.after (subst (Over P.n) r.split o) in
      let h = rhs-over r.j r.i (inversion-pair P w o r) s.part s.occurs in
      subst (Over P.n) (sym s.made) (over-place_join P.n r.before s.part r.after k.0 h k.2)

  pub below-over : {x w : Word} → Below P x w → Over P.n w → Over P.n x
  below-over {x} {w} (below_one s) o = reduct_over x w s o
  below-over {w = w} (below_more {y = y} b s) o = below-over b (reduct_over y w s o)
