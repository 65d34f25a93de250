-- The overlaps: their values, and that their normal form is that of the non-degeneracy condition.
use mathlib.Core.Path.{◌≡◌, refl, sym, ap, ap₂, ◌∙◌}
use mathlib.Core.List.{[], ◌∷◌, ◌++◌}
use mathlib.Core.WellFounded.{WellFounded}
use Prim.Native.Nat.{ℕ}
use native.Mathlib.Omega.{arith}
use Rattle.theory.specs.Ring.{CommutativeRing}
use Rattle.theory.specs.FreeSum.{Word, place, FreeSum, ◌≈◌, negate, around}
use Rattle.theory.specs.Words.{Standard}
use Rattle.theory.specs.Relations.{Relations, Pair, Triple, rhs, overlap, nondegeneracy}
use Rattle.theory.specs.Rewriting.{Below}
use Rattle.theory.specs.NormalForm.{NF}
use Rattle.theory.proofs.RingLaws as ring
use Rattle.theory.proofs.Eval.{eval, eval-append, eval-scale, eval-negate, eval-around}
use Rattle.theory.proofs.Relations.{rhs-pair, pair_ji, pair_kj, pair_ki}
use Rattle.theory.proofs.NormalForm.{value, value_first, NF_of_values}

-- the two ways of x_k x_j x_i to x_i x_j x_k meet, and what is left of their difference are the tails
module _ (R : CommutativeRing) where
  open R use {carrier, add, mul, neg}

  along : (a b c n d e : carrier) → mul a (add (mul b (add (mul c n) d)) e) ≡ add (mul a (mul b (mul c n))) (add (mul (mul b a) d) (mul a e))
  along a b c n d e = simp (ring.mul-add R, ring.add_assoc R, ring.mul_assoc R, ring.mul_left R)

  meet : (x p q r s t z : carrier) → add (add (add x (add p q)) r) (neg (add (add x (add s t)) z)) ≡ add p (add (neg z) (add q (add (neg t) (add r (neg s)))))
  meet x p q r s t z =
      ap (add (add (add x (add p q)) r)) (simp (ring.neg-add R))
      ∙ regroup x p q r (neg x) (neg s) (neg t) (neg z)
      ∙ ap (λ y. add y (add p (add (neg z) (add q (add (neg t) (add r (neg s))))))) (ring.add-neg R x)
      ∙ ring.zero-add R _
    where
      regroup : (x p q r y s t z : carrier) → add (add (add x (add p q)) r) (add (add y (add s t)) z) ≡ add (add x y) (add p (add z (add q (add t (add r s)))))
      regroup x p q r y s t z = simp (ring.add_assoc R, ring.add_left R, ring.add_comm R)

  turn : (a b c n : carrier) → mul c (mul b (mul a n)) ≡ mul a (mul b (mul c n))
  turn a b c n = simp (ring.mul_left R)

module _ {R : CommutativeRing} (P : Relations R) where
  pub eval-rhs : (j i : ℕ) → Pair P.n j i → (φ : Word → R.carrier) → eval (rhs P j i) φ ≡ R.add (R.mul (P.factor j i) (φ (i ∷ j ∷ []))) (eval (P.tail j i) φ)
  unfolding eval
  eval-rhs j i p φ = ap (λ f. eval f φ) (rhs-pair P j i p)

  pub eval-overlap : (i j k : ℕ) (φ : Word → R.carrier)
      → eval (overlap P i j k) φ ≡ R.add (eval (rhs P k j) (λ x. φ (place [] x (i ∷ [])))) (R.neg (eval (rhs P j i) (λ x. φ (place (k ∷ []) x []))))
  unfolding overlap
  eval-overlap i j k φ =
      let f = around [] (rhs P k j) (i ∷ []) in
      let g = around (k ∷ []) (rhs P j i) [] in
      eval-append f (negate g) φ ∙ ap₂ R.add (eval-around [] (rhs P k j) (i ∷ []) φ) (eval-negate g φ ∙ ap R.neg (eval-around (k ∷ []) (rhs P j i) [] φ))

  pub eval-nondegeneracy : (i j k : ℕ) (φ : Word → R.carrier) → eval (nondegeneracy P i j k) φ
      ≡ R.add (R.mul (R.mul (P.factor k i) (P.factor k j)) (eval (P.tail j i) (λ x. φ (place [] x (k ∷ [])))))
      (R.add (R.neg (eval (P.tail j i) (λ x. φ (place (k ∷ []) x []))))
      (R.add (R.mul (P.factor k j) (eval (P.tail k i) (λ x. φ (place (j ∷ []) x []))))
      (R.add (R.neg (R.mul (P.factor j i) (eval (P.tail k i) (λ x. φ (place [] x (j ∷ []))))))
      (R.add (eval (P.tail k j) (λ x. φ (place [] x (i ∷ []))))
      (R.neg (R.mul (R.mul (P.factor j i) (P.factor k i)) (eval (P.tail k j) (λ x. φ (place (i ∷ []) x [])))))))))
  unfolding nondegeneracy
  eval-nondegeneracy i j k φ = simp (eval-append, eval-scale, eval-negate, eval-around, ring.add_assoc R)

module _ {R : CommutativeRing} (P : Relations R) (ends : WellFounded (Below P)) (φ : Word → R.carrier) where
  abbrev N : Word → R.carrier
  N = value P ends φ

  pub value-leftmost : (u : Word) (j i : ℕ) (v : Word) → Pair P.n j i → Standard (u ++ (j ∷ []))
      → N (place u (j ∷ i ∷ []) v) ≡ R.add (R.mul (P.factor j i) (N (place u (i ∷ j ∷ []) v))) (eval (P.tail j i) (λ x. N (place u x v)))
  value-leftmost u j i v p s =
      value_first P ends φ (place u (j ∷ i ∷ []) v) (record { before = u; j = j; i = i; after = v; split = refl; falls = p.falls }) s ∙ eval-rhs P j i p (λ x. N (place u x v))

  module _ (i j k : ℕ) (t : Triple P.n i j k) where
    -- the value of a tail with a letter on its right or on its left
    right_of : FreeSum R → ℕ → R.carrier
    right_of f x = eval f (λ w. N (place [] w (x ∷ [])))

    left_of : ℕ → FreeSum R → R.carrier
    left_of x f = eval f (λ w. N (place (x ∷ []) w []))

    -- x_j x_k x_i, rewritten twice; and x_k x_i x_j
    first_way : N (j ∷ k ∷ i ∷ []) ≡ R.add (R.mul (P.factor k i) (R.add (R.mul (P.factor j i) (N (i ∷ j ∷ k ∷ []))) (right_of (P.tail j i) k))) (left_of j (P.tail k i))
    unfolding place right_of left_of
    first_way =
        value-leftmost (j ∷ []) k i [] (pair_ki t) (omega arith, tt)
        ∙ ap (λ y. R.add (R.mul (P.factor k i) y) (left_of j (P.tail k i))) (value-leftmost [] j i (k ∷ []) (pair_ji t) tt)

    second_way : N (k ∷ i ∷ j ∷ []) ≡ R.add (R.mul (P.factor k i) (R.add (R.mul (P.factor k j) (N (i ∷ j ∷ k ∷ []))) (left_of i (P.tail k j)))) (right_of (P.tail k i) j)
    unfolding place right_of left_of
    second_way =
        value-leftmost [] k i (j ∷ []) (pair_ki t) tt
        ∙ ap (λ y. R.add (R.mul (P.factor k i) y) (right_of (P.tail k i) j)) (value-leftmost (i ∷ []) k j [] (pair_kj t) (omega arith, tt))

    value-overlap : eval (overlap P i j k) N ≡ eval (nondegeneracy P i j k) N
    unfolding place right_of left_of
    value-overlap =
        let a = P.factor k j in
        let b = P.factor k i in
        let c = P.factor j i in
        let n = N (i ∷ j ∷ k ∷ []) in
        eval-overlap P i j k N
        ∙ ap₂ (λ x y. R.add x (R.neg y))
        (eval-rhs P k j (pair_kj t) (λ x. N (place [] x (i ∷ []))) ∙ ap (λ y. R.add (R.mul a y) (right_of (P.tail k j) i)) first_way)
        (eval-rhs P j i (pair_ji t) (λ x. N (place (k ∷ []) x [])) ∙ ap (λ y. R.add (R.mul c y) (left_of k (P.tail j i))) second_way)
        ∙ ap₂ (λ x y. R.add (R.add x (right_of (P.tail k j) i)) (R.neg (R.add y (left_of k (P.tail j i)))))
        (along R a b c n (right_of (P.tail j i) k) (left_of j (P.tail k i)))
        (along R c b a n (left_of i (P.tail k j)) (right_of (P.tail k i) j) ∙ ap₂ R.add (turn R a b c n) (ap (λ y. R.add (R.mul y (left_of i (P.tail k j))) (R.mul c (right_of (P.tail k i) j))) (ring.mul_comm R b c)))
        ∙ meet R _ _ _ _ _ _ _
        ∙ sym (eval-nondegeneracy P i j k N)

pub overlap-nondegeneracy : {R : CommutativeRing} (P : Relations R) (ends : WellFounded (Below P)) (i j k : ℕ) → Triple P.n i j k
    → NF P ends (overlap P i j k) ≈ NF P ends (nondegeneracy P i j k)
overlap-nondegeneracy P ends i j k t = NF_of_values P ends (overlap P i j k) (nondegeneracy P i j k) (λ φ. value-overlap P ends φ i j k t)
