-- The relations of sl2 with c in the third tail: the overlap comes to (c − 2) x3, so that they resolve for c = 2, and for c = 1 do not.
use mathlib.Core.Path.{◌≡◌, refl, sym, ap, ap₂, subst, ◌∙◌}
use mathlib.Core.Bool.{Bool, true, false, cond}
use mathlib.Core.List.{[], ◌∷◌}
use mathlib.Core.WellFounded.{WellFounded}
use Prim.Native.Nat.{ℕ, ◌≤◌}
use native.Mathlib.Omega.{arith}
use lib.Dec.{eqb}
use Rattle.theory.specs.Ring.{CommutativeRing}
use Rattle.theory.specs.FreeSum.{Word, place, Occurs, coeff, ◌≈◌, scale, negate}
use Rattle.theory.specs.Relations.{Pair, Triple, overlap, nondegeneracy}
use Rattle.theory.specs.Rewriting.{Below}
use Rattle.theory.specs.NormalForm.{NF, Resolves}
use Rattle.theory.specs.Examples.{generator, two, sl2, halved, Sl2Resolves, HalvedSl2}
use Rattle.theory.proofs.RingLaws as ring
use Rattle.theory.proofs.Eval.{eval, eval-nil, eval-single, eval-scale, eval-negate}
use Rattle.theory.proofs.Equality.{coeff-eval, indicator, indicator-same, ≈-of-eval}
use Rattle.theory.proofs.Occurs.{occurs-single, occurs-scale, occurs-negate}
use Rattle.theory.proofs.NormalForm.{value, value-standard, eval-NF}
use Rattle.theory.proofs.Relations.{pair_ji}
use Rattle.theory.proofs.Basis.{basis_of_resolves, resolves_of_basis}
use Rattle.theory.proofs.Overlaps.{value-leftmost, eval-nondegeneracy, overlap-nondegeneracy}
use Rattle.theory.proofs.Degree.{Short, short_ends, short-over}

module _ (R : CommutativeRing) where
  open R use {carrier, add, mul, neg, one}

  -- with x2 x1 = q − r, what is left of the condition is (c − t) r
  left_over : (c t p q r : carrier)
      → add (mul (mul one one) (neg p)) (add (neg (neg p)) (add (mul one (mul t (add q (neg r)))) (add (neg (mul one (mul t q))) (add (neg (mul c (add q (neg r)))) (neg (mul (mul one one) (neg (mul c q))))))))
      ≡ mul (add c (neg t)) r
  left_over c t p q r = expand ∙ collapse p (mul t q) (mul t r) (mul c q) (mul c r) ∙ ap (add (mul c r)) (sym (ring.neg-mul R t r)) ∙ sym (ring.add-mul R c (neg t) r)
    where
      expand : add (mul (mul one one) (neg p)) (add (neg (neg p)) (add (mul one (mul t (add q (neg r)))) (add (neg (mul one (mul t q))) (add (neg (mul c (add q (neg r)))) (neg (mul (mul one one) (neg (mul c q))))))))
          ≡ add (neg p) (add p (add (add (mul t q) (neg (mul t r))) (add (neg (mul t q)) (add (add (neg (mul c q)) (mul c r)) (mul c q)))))
      expand = simp (ring.one-mul R, ring.neg-neg R, ring.mul-add R, ring.mul-neg R, ring.neg-add R)

      sort : (p p' x x' y u u' v : carrier) → add p' (add p (add (add x y) (add x' (add (add u' v) u)))) ≡ add p (add p' (add x (add x' (add u (add u' (add v y))))))
      sort p p' x x' y u u' v = simp (ring.add_assoc R, ring.add_left R, ring.add_comm R)

      collapse : (p x y u v : carrier) → add (neg p) (add p (add (add x (neg y)) (add (neg x) (add (add (neg u) v) u)))) ≡ add v (neg y)
      collapse p x y u v = sort p (neg p) x (neg x) (neg y) u (neg u) v ∙ simp (ring.add-neg-left R)

module _ (R : CommutativeRing) (c : R.carrier) where
  open R use {carrier, add, mul, neg, zero, one}

  one_letter : (x : ℕ) → 1 ≤ x → x ≤ 3 → (t : Word) → t ≡ x ∷ [] → Short 3 t
  one_letter x l h t e = subst (Short 3) (sym e) (record { short = omega arith; over = (record { low = l; high = h }, tt) })

  sl2-short : (j i : ℕ) → Pair 3 j i → (t : Word) → Occurs t ((sl2 R c).tail j i) → Short 3 t
  sl2-short j i p t = go (eqb j 2) (eqb i 1)
    where
      go : (a b : Bool) → Occurs t (cond a (negate (generator {R = R} 3)) (cond b (scale (two R) (generator 1)) (negate (scale c (generator 2))))) → Short 3 t
      go true b o = one_letter 3 (omega arith) (omega arith) t (occurs-single R t (3 ∷ []) (occurs-negate (generator 3) t o))
      go false true o = one_letter 1 (omega arith) (omega arith) t (occurs-single R t (1 ∷ []) (occurs-scale (two R) (generator 1) t o))
      go false false o = one_letter 2 (omega arith) (omega arith) t (occurs-single R t (2 ∷ []) (occurs-scale c (generator 2) t (occurs-negate (scale c (generator 2)) t o)))

  sl2_ends : WellFounded (Below (sl2 R c))
  sl2_ends = short_ends (sl2 R c) sl2-short

  all_three : Triple 3 1 2 3
  all_three = record { low = omega arith; first = omega arith; second = omega arith; high = omega arith }

  module _ (φ : Word → carrier) where
    abbrev N : Word → carrier
    N = value (sl2 R c) sl2_ends φ

    -- the tails' values
    minus-three : (ψ : Word → carrier) → eval (negate (generator {R = R} 3)) ψ ≡ neg (ψ (3 ∷ []))
    minus-three ψ = eval-negate (generator 3) ψ ∙ ap neg (eval-single R (3 ∷ []) ψ)

    twice_one : (ψ : Word → carrier) → eval (scale (two R) (generator {R = R} 1)) ψ ≡ mul (two R) (ψ (1 ∷ []))
    twice_one ψ = eval-scale (two R) (generator 1) ψ ∙ ap (mul (two R)) (eval-single R (1 ∷ []) ψ)

    minus-c-two : (ψ : Word → carrier) → eval (negate (scale c (generator {R = R} 2))) ψ ≡ neg (mul c (ψ (2 ∷ [])))
    minus-c-two ψ = eval-negate (scale c (generator 2)) ψ ∙ ap neg (eval-scale c (generator 2) ψ ∙ ap (mul c) (eval-single R (2 ∷ []) ψ))

    value_21 : N (2 ∷ 1 ∷ []) ≡ add (N (1 ∷ 2 ∷ [])) (neg (N (3 ∷ [])))
    unfolding place
    value_21 =
        value-leftmost (sl2 R c) sl2_ends φ [] 2 1 [] (pair_ji all_three) tt
        ∙ ap₂ add (ring.one-mul R (N (1 ∷ 2 ∷ []))) (minus-three (λ x. N (place [] x [])))

    sl2_condition : eval (nondegeneracy (sl2 R c) 1 2 3) N ≡ mul (add c (neg (two R))) (N (3 ∷ []))
    unfolding place
    sl2_condition =
        eval-nondegeneracy (sl2 R c) 1 2 3 N
        ∙ (λ z. add (mul (mul one one) (minus-three (λ x. N (place [] x (3 ∷ []))) z))
        (add (neg (minus-three (λ x. N (place (3 ∷ []) x [])) z))
        (add (mul one (twice_one (λ x. N (place (2 ∷ []) x [])) z))
        (add (neg (mul one (twice_one (λ x. N (place [] x (2 ∷ []))) z)))
        (add (minus-c-two (λ x. N (place [] x (1 ∷ []))) z)
        (neg (mul (mul one one) (minus-c-two (λ x. N (place (1 ∷ []) x [])) z))))))))
        ∙ (λ z. add (mul (mul one one) (neg (N (3 ∷ 3 ∷ []))))
        (add (neg (neg (N (3 ∷ 3 ∷ []))))
        (add (mul one (mul (two R) (value_21 z)))
        (add (neg (mul one (mul (two R) (N (1 ∷ 2 ∷ [])))))
        (add (neg (mul c (value_21 z)))
        (neg (mul (mul one one) (neg (mul c (N (1 ∷ 2 ∷ [])))))))))))
        ∙ left_over R c (two R) (N (3 ∷ 3 ∷ [])) (N (1 ∷ 2 ∷ [])) (N (3 ∷ []))

  -- the overlap comes to (c − 2) x3
  sl2_overlap : NF (sl2 R c) sl2_ends (overlap (sl2 R c) 1 2 3) ≈ scale (add c (neg (two R))) (generator 3)
  sl2_overlap w =
      overlap-nondegeneracy (sl2 R c) sl2_ends 1 2 3 all_three w
      ∙ ≈-of-eval (NF (sl2 R c) sl2_ends (nondegeneracy (sl2 R c) 1 2 3)) (scale (add c (neg (two R))) (generator 3))
      (λ φ. eval-NF (sl2 R c) sl2_ends (nondegeneracy (sl2 R c) 1 2 3) φ ∙ sl2_condition φ
      ∙ ap (mul (add c (neg (two R)))) (value-standard (sl2 R c) sl2_ends φ (3 ∷ []) tt ∙ sym (eval-single R (3 ∷ []) φ))
      ∙ sym (eval-scale (add c (neg (two R))) (generator 3) φ)) w

module _ (R : CommutativeRing) where
  open R use {carrier, add, mul, neg, zero, one}

  nothing : scale (add (two R) (neg (two R))) (generator {R = R} 3) ≈ []
  nothing =
      ≈-of-eval (scale (add (two R) (neg (two R))) (generator 3)) []
      (λ φ. eval-scale (add (two R) (neg (two R))) (generator 3) φ ∙ ap (λ x. mul x (eval (generator {R = R} 3) φ)) (ring.add-neg R (two R)) ∙ ring.zero-mul R _ ∙ sym (eval-nil R φ))

  -- the one triple
  sl2-overlaps : Resolves (sl2 R (two R)) (sl2_ends R (two R))
  sl2-overlaps i j k t w =
      let a : i ≡ 1 = omega arith in
      let b : j ≡ 2 = omega arith in
      let c : k ≡ 3 = omega arith in
      (λ z. coeff (NF (sl2 R (two R)) (sl2_ends R (two R)) (overlap (sl2 R (two R)) (a z) (b z) (c z))) w) ∙ sl2_overlap R (two R) w ∙ nothing w

  pub sl2-resolves : Sl2Resolves R
  sl2-resolves = record {
    ends = sl2_ends R (two R);
    resolves = sl2-overlaps;
    basis = basis_of_resolves (sl2 R (two R)) (sl2_ends R (two R)) (short-over (sl2 R (two R)) (sl2-short R (two R))) sl2-overlaps;
  }

  halved_overlap : NF (halved R) (sl2_ends R one) (overlap (halved R) 1 2 3) ≈ negate (generator 3)
  halved_overlap w =
      sl2_overlap R one w
      ∙ ≈-of-eval (scale (add one (neg (two R))) (generator 3)) (negate (generator 3))
      (λ φ. eval-scale (add one (neg (two R))) (generator 3) φ
      ∙ ap (λ x. mul x (eval (generator {R = R} 3) φ)) (ap (add one) (ring.neg-add R one one) ∙ ring.add-neg-left R one (neg one))
      ∙ ring.neg-one-mul R _ ∙ sym (eval-negate (generator 3) φ)) w

  -- − 1 is not 0
  halved_not_zero : ¬ (negate (generator {R = R} 3) ≈ [])
  halved_not_zero h =
      let e : neg one ≡ zero =
      sym (coeff-eval (negate (generator 3)) (3 ∷ []) ∙ eval-negate (generator 3) (indicator R (3 ∷ []))
      ∙ ap neg (eval-single R (3 ∷ []) (indicator R (3 ∷ [])) ∙ indicator-same R (3 ∷ []) (3 ∷ []) refl))
      ∙ h (3 ∷ []) ∙ coeff-eval {R = R} [] (3 ∷ []) ∙ eval-nil R (indicator R (3 ∷ [])) in
      R.one≢zero (sym (ring.neg-neg R one) ∙ ap neg e ∙ ring.neg-zero R)

  halved-not_resolves : ¬ Resolves (halved R) (sl2_ends R one)
  halved-not_resolves res = halved_not_zero (λ w. sym (halved_overlap w) ∙ res 1 2 3 (all_three R one) w)

  pub halved-sl2 : HalvedSl2 R
  halved-sl2 = record {
    ends = sl2_ends R one;
    overlap_is = halved_overlap;
    not_resolves = halved-not_resolves;
    not_basis = λ b. halved-not_resolves (resolves_of_basis (halved R) (sl2_ends R one) (short-over (halved R) (sl2-short R one)) b);
  }
