-- Congruence is an equivalence and is kept by sums, negatives and scaling; a word is congruent to what it comes to when it is rewritten.
use mathlib.Core.Path.{◌≡◌, refl, sym, ap, ap₂, subst, ◌∙◌}
use mathlib.Core.Logic.{inl, inr}
use mathlib.Core.List.{List, [], ◌∷◌, ◌++◌, append_assoc}
use Prim.Native.Nat.{ℕ}
use Rattle.theory.specs.Ring.{CommutativeRing}
use Rattle.theory.specs.FreeSum.{Word, place, Term, FreeSum, Occurs, ◌≈◌, single, scale, negate, around, bind}
use Rattle.theory.specs.Words.{Over, Inversion}
use Rattle.theory.specs.Relations.{Relations, Pair, rhs, relator}
use Rattle.theory.specs.Congruence.{Multiple, multiple, combination, Congruent}
use Rattle.theory.specs.Rewriting.{replaced}
use Rattle.theory.proofs.RingLaws as ring
use Rattle.theory.proofs.Eval.{eval, eval-nil, eval-append, eval-single, eval-scale, eval-negate, eval-around}
use Rattle.theory.proofs.Equality.{eval_≈, ≈-of-eval}
use Rattle.theory.proofs.Words.{over-place}
use Rattle.theory.proofs.Relations.{inversion-pair}

module _ {R : CommutativeRing} (P : Relations R) where
  -- the value of a multiple of a relator, and of a sum of multiples
  pub eval-multiple : (m : Multiple P) (φ : Word → R.carrier)
      → eval (multiple P m) φ ≡ R.mul m.by (R.add (φ (place m.before (m.j ∷ m.i ∷ []) m.after)) (R.neg (eval (rhs P m.j m.i) (λ x. φ (place m.before x m.after)))))
  unfolding multiple relator
  eval-multiple m φ =
      let ψ : Word → R.carrier = λ x. φ (place m.before x m.after) in
      eval-scale m.by (around m.before (relator P m.j m.i) m.after) φ
      ∙ ap (R.mul m.by)
      (eval-around m.before (relator P m.j m.i) m.after φ
      ∙ eval-append (single (m.j ∷ m.i ∷ [])) (negate (rhs P m.j m.i)) ψ
      ∙ ap₂ R.add (eval-single R (m.j ∷ m.i ∷ []) ψ) (eval-negate (rhs P m.j m.i) ψ))

  combination-append : (l k : List (Multiple P)) → combination P (l ++ k) ≡ combination P l ++ combination P k
  unfolding combination
  combination-append [] k = refl
  combination-append (m ∷ l) k = ap (λ f. multiple P m ++ f) (combination-append l k) ∙ sym (append_assoc (multiple P m) (combination P l) (combination P k))

  eval-combination-append : (l k : List (Multiple P)) (φ : Word → R.carrier) → eval (combination P (l ++ k)) φ ≡ R.add (eval (combination P l) φ) (eval (combination P k) φ)
  eval-combination-append l k φ = ap (λ s. eval s φ) (combination-append l k) ∙ eval-append (combination P l) (combination P k) φ

  -- each multiple, r times
  times_multiple : R.carrier → Multiple P → Multiple P
  times_multiple r m =
      record { by = R.mul r m.by; before = m.before; j = m.j; i = m.i; after = m.after; pair = m.pair; over_before = m.over_before; over_after = m.over_after }

  times-all : R.carrier → List (Multiple P) → List (Multiple P)
  times-all r [] = []
  times-all r (m ∷ l) = times_multiple r m ∷ times-all r l

  combination-times : (r : R.carrier) (l : List (Multiple P)) (φ : Word → R.carrier) → eval (combination P (times-all r l)) φ ≡ R.mul r (eval (combination P l) φ)
  unfolding combination times-all times_multiple
  combination-times r [] φ = eval-nil R φ ∙ sym (ap (R.mul r) (eval-nil R φ) ∙ ring.mul-zero R r)
  combination-times r (m ∷ l) φ =
      eval-append (multiple P (times_multiple r m)) (combination P (times-all r l)) φ
      ∙ ap₂ R.add (eval-multiple (times_multiple r m) φ ∙ ring.mul_assoc R _ _ _ ∙ ap (R.mul r) (sym (eval-multiple m φ))) (combination-times r l φ)
      ∙ sym (ap (R.mul r) (eval-append (multiple P m) (combination P l) φ) ∙ ring.mul-add R _ _ _)

  -- congruence, by values
  pub congruent-eval : (f g : FreeSum R) (c : Congruent P f g) (φ : Word → R.carrier) → eval f φ ≡ R.add (eval g φ) (eval (combination P c.by) φ)
  congruent-eval f g c φ = eval_≈ f (g ++ combination P c.by) c.differ φ ∙ eval-append g (combination P c.by) φ

  pub congruent_of_eval : (f g : FreeSum R) (l : List (Multiple P)) → ((φ : Word → R.carrier) → eval f φ ≡ R.add (eval g φ) (eval (combination P l) φ)) → Congruent P f g
  congruent_of_eval f g l h = record { by = l; differ = ≈-of-eval f (g ++ combination P l) (λ φ. h φ ∙ sym (eval-append g (combination P l) φ)) }

  pub congruent_equal : (f g : FreeSum R) → ((φ : Word → R.carrier) → eval f φ ≡ eval g φ) → Congruent P f g
  unfolding combination
  congruent_equal f g h = congruent_of_eval f g [] (λ φ. h φ ∙ sym (ap (R.add (eval g φ)) (eval-nil R φ) ∙ ring.add-zero R (eval g φ)))

  pub congruent_≈ : (f g : FreeSum R) → f ≈ g → Congruent P f g
  congruent_≈ f g h = congruent_equal f g (eval_≈ f g h)

  pub congruent_trans : (f g k : FreeSum R) → Congruent P f g → Congruent P g k → Congruent P f k
  congruent_trans f g k c d =
      congruent_of_eval f k (d.by ++ c.by)
      (λ φ. congruent-eval f g c φ ∙ ap (λ x. R.add x (eval (combination P c.by) φ)) (congruent-eval g k d φ) ∙ ring.add_assoc R _ _ _
      ∙ ap (R.add (eval k φ)) (sym (eval-combination-append d.by c.by φ)))

  pub congruent-append : (f g f' g' : FreeSum R) → Congruent P f g → Congruent P f' g' → Congruent P (f ++ f') (g ++ g')
  congruent-append f g f' g' c d =
      congruent_of_eval (f ++ f') (g ++ g') (c.by ++ d.by)
      (λ φ. eval-append f f' φ ∙ ap₂ R.add (congruent-eval f g c φ) (congruent-eval f' g' d φ) ∙ ring.add_swap R _ _ _ _
      ∙ ap₂ R.add (sym (eval-append g g' φ)) (sym (eval-combination-append c.by d.by φ)))

  pub congruent-scale : (r : R.carrier) (f g : FreeSum R) → Congruent P f g → Congruent P (scale r f) (scale r g)
  congruent-scale r f g c =
      congruent_of_eval (scale r f) (scale r g) (times-all r c.by)
      (λ φ. eval-scale r f φ ∙ ap (R.mul r) (congruent-eval f g c φ) ∙ ring.mul-add R _ _ _ ∙ ap₂ R.add (sym (eval-scale r g φ)) (sym (combination-times r c.by φ)))

  -- f = g + c, so g = f + (−1) c
  pub congruent-sym : (f g : FreeSum R) → Congruent P f g → Congruent P g f
  congruent-sym f g c = congruent_of_eval g f (times-all (R.neg R.one) c.by) (λ φ. sym (same-value φ))
    where
      same-value : (φ : Word → R.carrier) → R.add (eval f φ) (eval (combination P (times-all (R.neg R.one) c.by)) φ) ≡ eval g φ
      same-value φ =
          ap₂ R.add (congruent-eval f g c φ) (combination-times (R.neg R.one) c.by φ ∙ ring.neg-one-mul R _)
          ∙ ring.cancel R (eval g φ) (eval (combination P c.by) φ)

  pub congruent-negate : (f g : FreeSum R) → Congruent P f g → Congruent P (negate f) (negate g)
  congruent-negate f g c =
      congruent_of_eval (negate f) (negate g) (times-all (R.neg R.one) c.by)
      (λ φ. eval-negate f φ ∙ ap R.neg (congruent-eval f g c φ) ∙ ring.neg-add R _ _
      ∙ ap₂ R.add (sym (eval-negate g φ)) (sym (combination-times (R.neg R.one) c.by φ ∙ ring.neg-one-mul R _)))

  -- f = g + c, so f − g = c
  pub congruent-difference : (f g : FreeSum R) → Congruent P f g → Congruent P (f ++ negate g) []
  congruent-difference f g c =
      congruent_of_eval (f ++ negate g) [] c.by
      (λ φ. eval-append f (negate g) φ ∙ ap₂ R.add (congruent-eval f g c φ) (eval-negate g φ)
      ∙ ap (λ x. R.add x (R.neg (eval g φ))) (ring.add_comm R _ _) ∙ ring.cancel R _ _ ∙ sym (ap (λ x. R.add x (eval (combination P c.by) φ)) (eval-nil R φ) ∙ ring.zero-add R _))

  -- a word is congruent to what it comes to when it is rewritten
  pub congruent-relator : (u : Word) (j i : ℕ) (v : Word) → Pair P.n j i → Over P.n u → Over P.n v
      → Congruent P (single (place u (j ∷ i ∷ []) v)) (around u (rhs P j i) v)
  unfolding combination
  congruent-relator u j i v h ou ov = congruent_of_eval (single (place u (j ∷ i ∷ []) v)) (around u (rhs P j i) v) (m ∷ []) same-value
    where
      m : Multiple P
      m = record { by = R.one; before = u; j = j; i = i; after = v; pair = h; over_before = ou; over_after = ov }

      same-value : (φ : Word → R.carrier) → eval (single {R = R} (place u (j ∷ i ∷ []) v)) φ ≡ R.add (eval (around u (rhs P j i) v) φ) (eval (multiple P m ++ []) φ)
      same-value φ =
          let a = φ (place u (j ∷ i ∷ []) v) in
          let b = eval (rhs P j i) (λ x. φ (place u x v)) in
          eval-single R (place u (j ∷ i ∷ []) v) φ
          ∙ sym (ap₂ R.add (eval-around u (rhs P j i) v φ) (eval-append (multiple P m) [] φ ∙ ap₂ R.add (eval-multiple m φ ∙ ring.one-mul R _) (eval-nil R φ) ∙ ring.add-zero R _)
          ∙ ring.add_left R b a (R.neg b) ∙ ap (R.add a) (ring.add-neg R b) ∙ ring.add-zero R a)

  pub congruent-replaced : (w : Word) → Over P.n w → (r : Inversion w) → Congruent P (single w) (replaced P r)
  congruent-replaced w over r =
      let k = over-place P.n r.before (r.j ∷ r.i ∷ []) r.after (subst (Over P.n) r.split over) in
      subst (λ x. Congruent P (single x) (replaced P r)) (sym r.split) (congruent-relator r.before r.j r.i r.after (inversion-pair P w over r) k.0 k.2)

  -- what holds of each word holds of a sum
  cons-single : (e : Term R) (f : FreeSum R) (φ : Word → R.carrier) → eval (e ∷ f) φ ≡ eval (scale e.coef (single e.word) ++ f) φ
  unfolding eval
  cons-single e f φ =
      sym (eval-append (scale e.coef (single e.word)) f φ ∙ ap (λ x. R.add x (eval f φ))
      (eval-scale e.coef (single e.word) φ ∙ ap (R.mul e.coef) (eval-single R e.word φ)))

  pub congruent-bind : (f : FreeSum R) (k : Word → FreeSum R) → ((t : Word) → Occurs t f → Congruent P (single t) (k t)) → Congruent P f (bind f k)
  unfolding bind
  congruent-bind [] k h = congruent_equal [] [] (λ φ. refl)
  congruent-bind (e ∷ f) k h =
      congruent_trans (e ∷ f) (scale e.coef (single e.word) ++ f) (scale e.coef (k e.word) ++ bind f k)
      (congruent_equal (e ∷ f) (scale e.coef (single e.word) ++ f) (cons-single e f))
      (congruent-append (scale e.coef (single e.word)) (scale e.coef (k e.word)) f (bind f k)
      (congruent-scale e.coef (single e.word) (k e.word) (h e.word (inl refl))) (congruent-bind f k (λ t o. h t (inr o))))
