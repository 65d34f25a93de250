-- The diamond lemma: where the overlaps resolve, the normal form of a word can be had by rewriting the word at any inversion.
use mathlib.Core.Path.{◌≡◌, refl, sym, ap, subst, fun_ext, ◌∙◌}
use mathlib.Core.Logic.{◌⊎◌, inl, inr}
use mathlib.Core.List.{[], ◌∷◌, ◌++◌}
use mathlib.Core.WellFounded.{WellFounded, recursion}
use Prim.Native.Nat.{ℕ, ◌<◌}
use Rattle.theory.specs.Ring.{CommutativeRing}
use Rattle.theory.specs.FreeSum.{Word, place, Occurs, ◌≈◌, single}
use Rattle.theory.specs.Words.{Standard, Over, Inversion, Leftmost, leftmost}
use Rattle.theory.specs.Relations.{Relations, TailsOver, rhs, overlap}
use Rattle.theory.specs.Rewriting.{replaced, Reduct, Below, below_one}
use Rattle.theory.specs.NormalForm.{NF, Resolves}
use Rattle.theory.proofs.RingLaws as ring
use Rattle.theory.proofs.Eval.{eval, eval-single, eval_cong, eval-exchange, eval-nil}
use Rattle.theory.proofs.Equality.{eval_≈}
use Rattle.theory.proofs.Words.{place-place, place_after, place-next, place_last, place_shift, within, standard-no_inversion, Right, shared, apart, Lie, same, right, left, places_lie}
use Rattle.theory.proofs.Relations.{inversion-pair, reduct_over, reduct_below, below-over}
use Rattle.theory.proofs.NormalForm.{value, value-standard, value_first, eval-replaced, eval-NF, NF_of_values}
use Rattle.theory.proofs.Overlaps.{eval-overlap}

module _ {R : CommutativeRing} (P : Relations R) (ends : WellFounded (Below P)) (φ : Word → R.carrier) where
  -- the value of u x_j x_i v rewritten at j i
  unfoldable pub value_at : Word → ℕ → ℕ → Word → R.carrier
  value_at u j i v = eval (rhs P j i) (λ x. value P ends φ (place u x v))

  abbrev pub value_on : {w : Word} → Inversion w → R.carrier
  value_on r = value_at r.before r.j r.i r.after

  -- the value of w can be had by rewriting it at any inversion
  abbrev pub Agrees : Word → Type 0
  Agrees w = Over P.n w → (r : Inversion w) → value P ends φ w ≡ value_on r

module _ {R : CommutativeRing} (P : Relations R) (ends : WellFounded (Below P)) (tails : TailsOver P) (φ : Word → R.carrier) (w : Word) (smaller : (y : Word) → Below P y w → Agrees P ends φ y) (over : Over P.n w) where
  -- the words that w comes to at r
  reduct : (r : Inversion w) (x : Word) → Occurs x (rhs P r.j r.i) → Reduct P (place r.before x r.after) w
  reduct r x o = record { inversion = r; part = x; occurs = o; made = refl }

  -- they agree with what they come to at s
  reduct_agrees : (r : Inversion w) (x : Word) → Occurs x (rhs P r.j r.i) → (s : Inversion (place r.before x r.after))
      → value P ends φ (place r.before x r.after) ≡ value_on P ends φ s
  reduct_agrees r x o s = smaller (place r.before x r.after) (below_one (reduct r x o)) (reduct_over P tails (place r.before x r.after) w (reduct r x o) over) s

  -- two inversions apart from each other
  apart_agree : (u : Word) (j i : ℕ) (m : Word) (b a : ℕ) (v : Word) → w ≡ place u (j ∷ i ∷ []) (place m (b ∷ a ∷ []) v) → i < j → a < b
      → value_at P ends φ u j i (place m (b ∷ a ∷ []) v) ≡ value_at P ends φ (place u (j ∷ i ∷ []) m) b a v
  unfolding value_at
  apart_agree u j i m b a v e h k =
      eval_cong (rhs P j i) (λ x. N (place u x (place m (b ∷ a ∷ []) v))) (λ x. eval (rhs P b a) (λ y. N (place (place u x m) y v))) forth
      ∙ eval-exchange (rhs P j i) (rhs P b a) (λ x y. N (place (place u x m) y v))
      ∙ sym (eval_cong (rhs P b a) (λ y. N (place (place u (j ∷ i ∷ []) m) y v)) (λ y. eval (rhs P j i) (λ x. N (place (place u x m) y v))) back)
    where
      N : Word → R.carrier
      N = value P ends φ

      first : Inversion w
      first = record { before = u; j = j; i = i; after = place m (b ∷ a ∷ []) v; split = e; falls = h }

      second : Inversion w
      second = record { before = place u (j ∷ i ∷ []) m; j = b; i = a; after = v; split = e ∙ place_after u (j ∷ i ∷ []) m (b ∷ a ∷ []) v; falls = k }

      forth : (x : Word) → Occurs x (rhs P j i) → N (place u x (place m (b ∷ a ∷ []) v)) ≡ eval (rhs P b a) (λ y. N (place (place u x m) y v))
      forth x o = reduct_agrees first x o (record { before = place u x m; j = b; i = a; after = v; split = place_after u x m (b ∷ a ∷ []) v; falls = k })

      back : (y : Word) → Occurs y (rhs P b a) → N (place (place u (j ∷ i ∷ []) m) y v) ≡ eval (rhs P j i) (λ x. N (place (place u x m) y v))
      back y o =
          reduct_agrees second y o (record { before = u; j = j; i = i; after = place m y v; split = sym (place_after u (j ∷ i ∷ []) m y v); falls = h })
          ∙ ap (eval (rhs P j i)) (fun_ext (λ x. ap N (place_after u x m y v)))

  -- a word z between u and v, small enough: its normal form may be taken first
  inside : (u v z : Word) → Below P (place u z v) w → value P ends φ (place u z v) ≡ value P ends (λ s. value P ends φ (place u s v)) z
  unfolding value_at within
  inside u v z =
      recursion ends {C = λ z. Below P (place u z v) w → value P ends φ (place u z v) ≡ value P ends (λ s. value P ends φ (place u s v)) z} z
      (λ z ih b. go z ih b (leftmost z))
    where
      ψ : Word → R.carrier
      ψ s = value P ends φ (place u s v)

      go : (z : Word) → ((y : Word) → Below P y z → Below P (place u y v) w → ψ y ≡ value P ends ψ y) → Below P (place u z v) w → Standard z ⊎ Leftmost z
          → ψ z ≡ value P ends ψ z
      go z ih b (inl s) = sym (value-standard P ends ψ z s)
      go z ih b (inr l) =
          smaller (place u z v) b (below-over P tails b over) (within u z v r)
          ∙ eval_cong (rhs P r.j r.i) (λ x. value P ends φ (place (u ++ r.before) x (r.after ++ v))) (λ x. value P ends ψ (place r.before x r.after)) part
          ∙ sym (value_first P ends ψ z r l.first)
        where
          r : Inversion z
          r = l.inversion

          part : (x : Word) → Occurs x (rhs P r.j r.i) → value P ends φ (place (u ++ r.before) x (r.after ++ v)) ≡ value P ends ψ (place r.before x r.after)
          part x o =
              ap (value P ends φ) (sym (place-place u r.before x r.after v))
              ∙ ih (place r.before x r.after) (below_one (record { inversion = r; part = x; occurs = o; made = refl }))
              (reduct_below P (record { inversion = within u z v r; part = x; occurs = o; made = place-place u r.before x r.after v }) b)

  -- two inversions that share a letter, in u x_k x_j x_i v
  shared_agree : Resolves P ends → (u : Word) (k j i : ℕ) (v : Word) → w ≡ place u (k ∷ j ∷ []) (i ∷ v) → i < j → j < k
      → value_at P ends φ u k j (i ∷ v) ≡ value_at P ends φ (u ++ (k ∷ [])) j i v
  unfolding value_at
  shared_agree res u k j i v e h l =
      eval_cong (rhs P k j) (λ x. value P ends φ (place u x (i ∷ v))) (λ x. value P ends ψ (place [] x (i ∷ []))) at_first
      ∙ ring.eq_of_sub R left-sum right-sum resolved
      ∙ sym (eval_cong (rhs P j i) (λ x. value P ends φ (place (u ++ (k ∷ [])) x v)) (λ x. value P ends ψ (place (k ∷ []) x [])) at_second)
    where
      ψ : Word → R.carrier
      ψ s = value P ends φ (place u s v)

      left-sum : R.carrier
      left-sum = eval (rhs P k j) (λ x. value P ends ψ (place [] x (i ∷ [])))

      right-sum : R.carrier
      right-sum = eval (rhs P j i) (λ x. value P ends ψ (place (k ∷ []) x []))

      first : Inversion w
      first = record { before = u; j = k; i = j; after = i ∷ v; split = e; falls = l }

      second : Inversion w
      second = record { before = u ++ (k ∷ []); j = j; i = i; after = v; split = e ∙ place_shift u k j i v; falls = h }

      at_first : (x : Word) → Occurs x (rhs P k j) → value P ends φ (place u x (i ∷ v)) ≡ value P ends ψ (place [] x (i ∷ []))
      at_first x o =
          ap (value P ends φ) (sym (place-next u x i v))
          ∙ inside u v (place [] x (i ∷ [])) (subst (λ t. Below P t w) (sym (place-next u x i v)) (below_one (reduct first x o)))

      at_second : (x : Word) → Occurs x (rhs P j i) → value P ends φ (place (u ++ (k ∷ [])) x v) ≡ value P ends ψ (place (k ∷ []) x [])
      at_second x o =
          ap (value P ends φ) (sym (place_last u k x v))
          ∙ inside u v (place (k ∷ []) x []) (subst (λ t. Below P t w) (sym (place_last u k x v)) (below_one (reduct second x o)))

      resolved : R.add left-sum (R.neg right-sum) ≡ R.zero
      resolved =
          sym (eval-NF P ends (overlap P i j k) ψ ∙ eval-overlap P i j k (value P ends ψ))
          ∙ eval_≈ (NF P ends (overlap P i j k)) [] (res i j k (record { low = (inversion-pair P w over second).low; first = h; second = l; high = (inversion-pair P w over first).high })) ψ
          ∙ eval-nil R ψ

  -- any two inversions of w
  right_agree : Resolves P ends → (r s : Inversion w) → Right r.before r.j r.i r.after s.before s.j s.i s.after
      → value_on P ends φ r ≡ value_on P ends φ s
  right_agree res r s (shared p q t) =
      ap (value_at P ends φ r.before r.j r.i) t
      ∙ shared_agree res r.before r.j r.i s.i s.after (r.split ∙ ap (place r.before (r.j ∷ r.i ∷ [])) t) (subst (λ x. s.i < x) q s.falls) r.falls
      ∙ (λ m. value_at P ends φ (sym p m) (sym q m) s.i s.after)
  right_agree res r s (apart m p q) =
      ap (value_at P ends φ r.before r.j r.i) q
      ∙ apart_agree r.before r.j r.i m s.j s.i s.after (r.split ∙ ap (place r.before (r.j ∷ r.i ∷ [])) q) r.falls s.falls
      ∙ (λ m. value_at P ends φ (sym p m) s.j s.i s.after)

  agree : Resolves P ends → (r s : Inversion w) → value_on P ends φ r ≡ value_on P ends φ s
  agree res r s = go (places_lie r.before r.j r.i r.after s.before s.j s.i s.after (sym r.split ∙ s.split))
    where
      go : Lie r.before r.j r.i r.after s.before s.j s.i s.after
          → value_on P ends φ r ≡ value_on P ends φ s
      go (same a b c d) = λ m. value_at P ends φ (a m) (b m) (c m) (d m)
      go (right h) = right_agree res r s h
      go (left h) = sym (right_agree res s r h)

module _ {R : CommutativeRing} (P : Relations R) (ends : WellFounded (Below P)) (tails : TailsOver P) (res : Resolves P ends) where
  pub diamond : (φ : Word → R.carrier) (w : Word) → Agrees P ends φ w
  unfolding value_at
  diamond φ w = recursion ends {C = Agrees P ends φ} w (λ w smaller over r. go w smaller over r (leftmost w))
    where
      go : (w : Word) → ((y : Word) → Below P y w → Agrees P ends φ y) → (over : Over P.n w) (r : Inversion w) → Standard w ⊎ Leftmost w
          → value P ends φ w ≡ value_on P ends φ r
      go w smaller over r (inl s) = absurd (standard-no_inversion w s r)
      go w smaller over r (inr l) = value_first P ends φ w l.inversion l.first ∙ agree P ends tails φ w smaller over res l.inversion r

  pub NF_any : (w : Word) → Over P.n w → (r : Inversion w) → NF P ends (single w) ≈ NF P ends (replaced P r)
  unfolding value_at
  NF_any w over r =
      NF_of_values P ends (single w) (replaced P r) (λ φ. eval-single R w (value P ends φ) ∙ diamond φ w over r ∙ sym (eval-replaced P r (value P ends φ)))
