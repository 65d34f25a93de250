-- Each sum is congruent to its normal form; and the standard words are a basis exactly where the overlaps resolve.
use mathlib.Core.Path.{◌≡◌, refl, sym, ap, ap₂, subst, ◌∙◌}
use mathlib.Core.Logic.{◌⊎◌, inl, inr}
use mathlib.Core.List.{List, [], ◌∷◌}
use mathlib.Core.WellFounded.{WellFounded, recursion}
use Prim.Native.Nat.{ℕ}
use Rattle.theory.specs.Ring.{CommutativeRing}
use Rattle.theory.specs.FreeSum.{Word, place, FreeSum, Occurs, ◌≈◌, single, negate, around}
use Rattle.theory.specs.Words.{Standard, Over, Inversion, Leftmost, leftmost, OverSum}
use Rattle.theory.specs.Relations.{Relations, Pair, TailsOver, rhs, overlap}
use Rattle.theory.specs.Congruence.{Multiple, multiple, combination, Congruent}
use Rattle.theory.specs.Basis.{StandardForm, Basis}
use Rattle.theory.specs.Rewriting.{replaced, Below, below_one}
use Rattle.theory.specs.NormalForm.{nf, NF, Resolves}
use Rattle.theory.proofs.RingLaws as ring
use Rattle.theory.proofs.Eval.{eval, eval-single, eval-nil, eval-append}
use Rattle.theory.proofs.Occurs.{occurs-append, occurs-negate, occurs-around, occurs-bind}
use Rattle.theory.proofs.Words.{over-place_join}
use Rattle.theory.proofs.Relations.{upper, lower, pair_ji, pair_kj, rhs-over, reduct_over}
use Rattle.theory.proofs.NormalForm.{value, value-standard, value_first, eval-nf, eval-NF, nf-words, NF_of_values, NF-standard, NF_of_standard, eval-replaced, occurs-replaced}
use Rattle.theory.proofs.Congruence.{eval-multiple, congruent-eval, congruent_equal, congruent-sym, congruent_trans, congruent-difference, congruent-relator, congruent-replaced, congruent-bind}
use Rattle.theory.proofs.Diamond.{value_at, diamond}

module _ {R : CommutativeRing} (P : Relations R) (ends : WellFounded (Below P)) (tails : TailsOver P) where
  -- a word in the letters 1 to n, and a sum of such words, is congruent to its normal form
  congruent-nf : (w : Word) → Over P.n w → Congruent P (single w) (nf P ends w)
  unfolding NF
  congruent-nf w = recursion ends {C = λ w. Over P.n w → Congruent P (single w) (nf P ends w)} w (λ w ih o. go w ih o (leftmost w))
    where
      go : (w : Word) → ((y : Word) → Below P y w → Over P.n y → Congruent P (single y) (nf P ends y)) → Over P.n w → Standard w ⊎ Leftmost w
          → Congruent P (single w) (nf P ends w)
      go w ih o (inl s) = congruent_equal P (single w) (nf P ends w) (λ φ. eval-single R w φ ∙ sym (eval-nf P ends w φ ∙ value-standard P ends φ w s))
      go w ih o (inr l) =
          congruent_trans P (single w) step (nf P ends w) (congruent-replaced P w o l.inversion)
          (congruent_trans P step (NF P ends step) (nf P ends w) (congruent-bind P step (nf P ends) smaller) (congruent_equal P (NF P ends step) (nf P ends w) same-value))
        where
          step : FreeSum R
          step = replaced P l.inversion

          smaller : (t : Word) → Occurs t step → Congruent P (single t) (nf P ends t)
          smaller t h =
              let s = occurs-replaced P l.inversion t h in
              ih t (below_one s) (reduct_over P tails t w s o)

          same-value : (φ : Word → R.carrier) → eval (NF P ends step) φ ≡ eval (nf P ends w) φ
          same-value φ =
              eval-NF P ends step φ ∙ eval-replaced P l.inversion (value P ends φ)
              ∙ sym (eval-nf P ends w φ ∙ value_first P ends φ w l.inversion l.first)

  pub congruent-NF : (f : FreeSum R) → OverSum P.n f → Congruent P f (NF P ends f)
  unfolding NF
  congruent-NF f o = congruent-bind P f (nf P ends) (λ t h. congruent-nf t (o t h))

  pub NF-over : (f : FreeSum R) → OverSum P.n f → OverSum P.n (NF P ends f)
  unfolding NF
  NF-over f over t o = let h = occurs-bind f (nf P ends) t o in (nf-words P ends (Over P.n) (reduct_over P tails) h.0 (over h.0 h.1) t h.2).1

  pub NF-form : (f : FreeSum R) → OverSum P.n f → StandardForm P f (NF P ends f)
  NF-form f o = record { standard = NF-standard P ends f; over = NF-over f o; congruent = congruent-NF f o }

  -- where the overlaps resolve, congruent sums have one normal form
  module _ (res : Resolves P ends) where
    combination-zero : (l : List (Multiple P)) (φ : Word → R.carrier) → eval (combination P l) (value P ends φ) ≡ R.zero
    unfolding combination value_at
    combination-zero [] φ = eval-nil R (value P ends φ)
    combination-zero (m ∷ l) φ =
        eval-append (multiple P m) (combination P l) (value P ends φ)
        ∙ ap₂ R.add (eval-multiple P m (value P ends φ) ∙ ap (λ x. R.mul m.by (R.add x (R.neg b))) (diamond P ends tails res φ w over r)
        ∙ ap (R.mul m.by) (ring.add-neg R b) ∙ ring.mul-zero R m.by) (combination-zero l φ)
        ∙ ring.add-zero R R.zero
      where
        w : Word
        w = place m.before (m.j ∷ m.i ∷ []) m.after

        b : R.carrier
        b = eval (rhs P m.j m.i) (λ x. value P ends φ (place m.before x m.after))

        r : Inversion w
        r = record { before = m.before; j = m.j; i = m.i; after = m.after; split = refl; falls = m.pair.falls }

        over : Over P.n w
        over = over-place_join P.n m.before (m.j ∷ m.i ∷ []) m.after m.over_before (upper m.pair, (lower m.pair, tt)) m.over_after

    pub NF-congruent : (f g : FreeSum R) → Congruent P f g → NF P ends f ≈ NF P ends g
    NF-congruent f g c =
        NF_of_values P ends f g
        (λ φ. congruent-eval P f g c (value P ends φ) ∙ ap (R.add (eval g (value P ends φ))) (combination-zero c.by φ) ∙ ring.add-zero R _)

    pub basis_of_resolves : Basis P
    basis_of_resolves f o = record {
      form = NF P ends f;
      is_form = NF-form f o;
      only = λ t h w. sym (NF_of_standard P ends t h.standard w) ∙ sym (NF-congruent f t h.congruent w);
    }

  -- and the other way round: an overlap is a sum in the letters 1 to n that is congruent to 0
  around-over : (u : Word) (j i : ℕ) (v : Word) → Over P.n u → Pair P.n j i → Over P.n v → OverSum P.n (around u (rhs P j i) v)
  around-over u j i v ou h ov t o =
      let x = occurs-around u (rhs P j i) v t o in
      subst (Over P.n) (sym x.2) (over-place_join P.n u x.0 v ou (rhs-over P tails j i h x.0 x.1) ov)

  overlap-over : (i j k : ℕ) → Pair P.n j i → Pair P.n k j → OverSum P.n (overlap P i j k)
  unfolding overlap
  overlap-over i j k h l t o = go (occurs-append (around [] (rhs P k j) (i ∷ [])) (negate (around (k ∷ []) (rhs P j i) [])) t o)
    where
      go : Occurs t (around [] (rhs P k j) (i ∷ [])) ⊎ Occurs t (negate (around (k ∷ []) (rhs P j i) [])) → Over P.n t
      go (inl a) = around-over [] k j (i ∷ []) tt l (lower h, tt) t a
      go (inr b) = around-over (k ∷ []) j i [] (upper l, tt) h tt t (occurs-negate (around (k ∷ []) (rhs P j i) []) t b)

  congruent-overlap : (i j k : ℕ) → Pair P.n j i → Pair P.n k j → Congruent P (overlap P i j k) []
  unfolding overlap place
  congruent-overlap i j k h l =
      let f = around [] (rhs P k j) (i ∷ []) in
      let g = around (k ∷ []) (rhs P j i) [] in
      let w = single (k ∷ j ∷ i ∷ []) in
      let c = congruent-relator P [] k j (i ∷ []) l tt (lower h, tt) in
      let d = congruent-relator P (k ∷ []) j i [] h (upper l, tt) tt in
      congruent-difference P f g (congruent_trans P f w g (congruent-sym P w f c) d)

  pub resolves_of_basis : Basis P → Resolves P ends
  resolves_of_basis b i j k t =
      let u = b (overlap P i j k) (overlap-over i j k (pair_ji t) (pair_kj t)) in
      let e = u.only (NF P ends (overlap P i j k)) (NF-form (overlap P i j k) (overlap-over i j k (pair_ji t) (pair_kj t))) in
      let z = u.only [] (record { standard = λ t o. absurd o; over = λ t o. absurd o; congruent = congruent-overlap i j k (pair_ji t) (pair_kj t) }) in
      λ w. e w ∙ sym (z w)
