-- Rewriting of words ends: a tail word lowers the key, and an exchange keeps the key and lowers the number of inversions.
use mathlib.Core.Path.{◌≡◌, refl, sym, ap, ap₂, subst, ◌∙◌}
use mathlib.Core.Logic.{◌⊎◌, inl, inr}
use mathlib.Core.List.{List, [], ◌∷◌, ◌++◌}
use mathlib.Core.WellFounded.Acc
use mathlib.Core.WellFounded.{Acc, WellFounded}
use Prim.Native.Nat.{ℕ, zero, suc, ◌+◌, ◌<◌}
use native.Mathlib.Decide.{dec_lt}
use native.Mathlib.Nat.{not-suc-le-zero, lt-suc_self}
use native.Mathlib.Omega.{arith}
use lib.ListN.{length}
use Rattle.theory.specs.Ring.{CommutativeRing}
use Rattle.theory.specs.FreeSum.{Word, place, Occurs}
use Rattle.theory.specs.Words.{Inversion}
use Rattle.theory.specs.Relations.{Relations, tail_of, rhs}
use Rattle.theory.specs.Rewriting.{Reduct, Below, below_one, below_more}
use Rattle.theory.specs.Keys.{plus, Before, Keys, TailsFall}
use Rattle.theory.proofs.Relations.{occurs-tail_of}

-- the letters of a word that are less than x; the inversions of a word, of any two places
one_if : {A : Type 0} → Dec A → ℕ
one_if (yes _) = 1
one_if (no _) = 0

less : ℕ → Word → ℕ
less x [] = 0
less x (y ∷ w) = one_if (dec_lt y x) + less x w

inversions : Word → ℕ
inversions [] = 0
inversions (x ∷ w) = less x w + inversions w

one_if_yes : {A : Type 0} (d : Dec A) → A → one_if d ≡ 1
unfolding one_if
one_if_yes (yes _) a = refl
one_if_yes (no n) a = absurd (n a)

one_if_no : {A : Type 0} (d : Dec A) → ¬ A → one_if d ≡ 0
unfolding one_if
one_if_no (yes a) n = absurd (n a)
one_if_no (no _) n = refl

less_swap : (x : ℕ) (u : Word) (j i : ℕ) (v : Word) → less x (place u (i ∷ j ∷ []) v) ≡ less x (place u (j ∷ i ∷ []) v)
unfolding less place
less_swap x [] j i v = omega arith
less_swap x (y ∷ u) j i v = ap (λ n. one_if (dec_lt y x) + n) (less_swap x u j i v)

-- an exchange of neighbours j > i takes one inversion away
inversions_swap : (u : Word) (j i : ℕ) (v : Word) → i < j → inversions (place u (j ∷ i ∷ []) v) ≡ suc (inversions (place u (i ∷ j ∷ []) v))
unfolding inversions less place
inversions_swap [] j i v h =
    let a = one_if_no (dec_lt j i) (λ k. omega arith) in
    let b = one_if_yes (dec_lt i j) h in
    omega arith
inversions_swap (x ∷ u) j i v h =
    let a = less_swap x u j i v in
    let b = inversions_swap u j i v h in
    omega arith

-- rows of numbers: what is added to both does not change which comes before
plus_comm : (a b : List ℕ) → plus a b ≡ plus b a
plus_comm [] [] = refl
plus_comm [] (y ∷ b) = refl
plus_comm (x ∷ a) [] = refl
plus_comm (x ∷ a) (y ∷ b) = let e : x + y ≡ y + x = omega arith in ap₂ (λ z c. z ∷ c) e (plus_comm a b)

before-plus : (c a b : List ℕ) → length c ≡ length a → Before a b → Before (plus c a) (plus c b)
before-plus c [] b e h = absurd h
before-plus c (x ∷ a) [] e h = absurd h
before-plus [] (x ∷ a) (y ∷ b) e h = absurd (omega arith)
before-plus (z ∷ c) (x ∷ a) (y ∷ b) e (inl h) = inl (omega arith)
before-plus (z ∷ c) (x ∷ a) (y ∷ b) e (inr h) = inr (ap (λ n. z + n) h.0, before-plus c a b (omega arith) h.1)

-- rows of one length cannot come before one another for ever
abbrev Under : ℕ → List ℕ → List ℕ → Type 0
Under m a b = (length a ≡ m) × Before a b

under_cons : (m x : ℕ) → ((y : ℕ) → y < x → (b : List ℕ) → length b ≡ m → Acc (Under (suc m)) (y ∷ b)) → {a : List ℕ} → Acc (Under m) a → Acc (Under (suc m)) (x ∷ a)
under_cons m x lower (Acc.intro a h) = Acc.intro (x ∷ a) (λ b u. go (λ b u. under_cons m x lower (h b u)) b u.0 u.1)
  where
    go : ((b : List ℕ) → Under m b a → Acc (Under (suc m)) (x ∷ b)) → (b : List ℕ) → length b ≡ suc m → Before b (x ∷ a) → Acc (Under (suc m)) b
    go rest [] e h = absurd h
    go rest (y ∷ b) e (inl h) = lower y h b (omega arith)
    go rest (y ∷ b) e (inr h) = subst (λ z. Acc (Under (suc m)) (z ∷ b)) (sym h.0) (rest b (omega arith, h.1))

under_head : (m : ℕ) → ((a : List ℕ) → length a ≡ m → Acc (Under m) a) → (n x : ℕ) → x < n → (a : List ℕ) → length a ≡ m → Acc (Under (suc m)) (x ∷ a)
under_head m rows zero x h a e = absurd (not-suc-le-zero h)
under_head m rows (suc n) x h a e = under_cons m x (λ y l b e. under_head m rows n y (omega arith) b e) (rows a e)

under_ends : (m : ℕ) (a : List ℕ) → length a ≡ m → Acc (Under m) a
under_ends zero [] e = Acc.intro [] (λ b u. nothing b u.1)
  where
    nothing : (b : List ℕ) → Before b [] → Acc (Under 0) b
    nothing [] h = absurd h
    nothing (y ∷ b) h = absurd h
under_ends zero (x ∷ a) e = absurd (omega arith)
under_ends (suc m) [] e = absurd (omega arith)
under_ends (suc m) (x ∷ a) e = under_head m (under_ends m) (suc x) x (lt-suc_self x) a (omega arith)

module _ (K : Keys) where
  key-place : (u x v : Word) → K.key (place u x v) ≡ plus (K.key u) (plus (K.key v) (K.key x))
  unfolding place
  key-place u x v = K.key_join u (x ++ v) ∙ ap (plus (K.key u)) (K.key_join x v ∙ plus_comm (K.key x) (K.key v))

  key_swap : (i j : ℕ) → K.key (i ∷ j ∷ []) ≡ K.key (j ∷ i ∷ [])
  key_swap i j = K.key_join (i ∷ []) (j ∷ []) ∙ plus_comm (K.key (i ∷ [])) (K.key (j ∷ [])) ∙ sym (K.key_join (j ∷ []) (i ∷ []))

  key-place_swap : (u : Word) (i j : ℕ) (v : Word) → K.key (place u (i ∷ j ∷ []) v) ≡ K.key (place u (j ∷ i ∷ []) v)
  key-place_swap u i j v = key-place u (i ∷ j ∷ []) v ∙ ap (λ k. plus (K.key u) (plus (K.key v) k)) (key_swap i j) ∙ sym (key-place u (j ∷ i ∷ []) v)

  same_length : (x y : Word) → length (K.key x) ≡ length (K.key y)
  same_length x y = K.key_length x ∙ sym (K.key_length y)

  key-place-before : (u x y v : Word) → Before (K.key x) (K.key y) → Before (K.key (place u x v)) (K.key (place u y v))
  key-place-before u x y v h =
      subst (λ k. Before k (K.key (place u y v))) (sym (key-place u x v))
      (subst (Before (plus (K.key u) (plus (K.key v) (K.key x)))) (sym (key-place u y v))
      (before-plus (K.key u) (plus (K.key v) (K.key x)) (plus (K.key v) (K.key y))
      (same_length u (v ++ x) ∙ ap length (K.key_join v x))
      (before-plus (K.key v) (K.key x) (K.key y) (same_length v x) h)))

-- the transitive closure ends where the steps do
module _ {R : CommutativeRing} (P : Relations R) where
  below_acc : {w : Word} → Acc (Reduct P) w → Acc (Below P) w
  below_acc (Acc.intro w h) = Acc.intro w (λ y b. go b (λ m s. below_acc (h m s)))
    where
      go : {y w : Word} → Below P y w → ((m : Word) → Reduct P m w → Acc (Below P) m) → Acc (Below P) y
      go {y} (below_one s) f = f y s
      go (below_more {y = m} b s) f = Acc.inv (f m s) b

module _ {R : CommutativeRing} (P : Relations R) (K : Keys) (fall : TailsFall P K) where
  -- a step lowers the key, or keeps it and lowers the inversions
  data Lowers (y w : Word) : Type 0 where
    exchange : K.key y ≡ K.key w → inversions w ≡ suc (inversions y) → Lowers y w
    by_tail : Under K.width (K.key y) (K.key w) → Lowers y w

  reduct_lowers : (y w : Word) → Reduct P y w → Lowers y w
  unfolding rhs
  reduct_lowers y w s = go s.part s.occurs s.made
    where
      r : Inversion w
      r = s.inversion

      go : (x : Word) → (x ≡ r.i ∷ r.j ∷ []) ⊎ Occurs x (tail_of P r.j r.i) → y ≡ place r.before x r.after → Lowers y w
      go x (inl p) e =
          let q : y ≡ place r.before (r.i ∷ r.j ∷ []) r.after = e ∙ ap (λ t. place r.before t r.after) p in
          exchange (ap K.key q ∙ key-place_swap K r.before r.i r.j r.after ∙ ap K.key (sym r.split))
          (ap inversions r.split ∙ inversions_swap r.before r.j r.i r.after r.falls ∙ ap (λ t. suc (inversions t)) (sym q))
      go x (inr o) e =
          let t = occurs-tail_of P r.j r.i x o in
          by_tail (
            K.key_length y,
            subst (λ t. Before (K.key t) (K.key w)) (sym e)
                (subst (λ t. Before (K.key (place r.before x r.after)) (K.key t)) (sym r.split)
                (key-place-before K r.before x (r.j ∷ r.i ∷ []) r.after (subst (Before (K.key x)) (key_swap K r.i r.j) (fall r.j r.i t.0 x t.1)))),
          )

  by_inversions : (k : List ℕ) → ((y : Word) → Under K.width (K.key y) k → Acc (Reduct P) y) → (n : ℕ) (w : Word) → K.key w ≡ k → inversions w < n → Acc (Reduct P) w
  by_inversions k lower zero w e h = absurd (not-suc-le-zero h)
  by_inversions k lower (suc n) w e h = Acc.intro w (λ y s. go (by_inversions k lower n) y (reduct_lowers y w s))
    where
      go : ((y : Word) → K.key y ≡ k → inversions y < n → Acc (Reduct P) y) → (y : Word) → Lowers y w → Acc (Reduct P) y
      go rest y (exchange p q) = rest y (p ∙ e) (omega arith)
      go rest y (by_tail u) = lower y (subst (Under K.width (K.key y)) e u)

  by_key : {k : List ℕ} → Acc (Under K.width) k → (w : Word) → K.key w ≡ k → Acc (Reduct P) w
  by_key (Acc.intro k h) w e = by_inversions k (λ y u. by_key (h (K.key y) u) y refl) (suc (inversions w)) w e (lt-suc_self (inversions w))

  pub ends_by_keys : WellFounded (Below P)
  ends_by_keys = record { apply = λ w. below_acc P (by_key (under_ends K.width (K.key w) (K.key_length w)) w refl) }
