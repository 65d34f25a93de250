-- Words: parts of parts, letters, and how two inversions of one word can lie.
use mathlib.Core.Path.{◌≡◌, refl, sym, ap, subst, ◌∙◌}
use mathlib.Core.List.{[], ◌∷◌, ◌++◌, append_assoc, append-nil, head-eq_of_cons-eq, tail-eq_of_cons-eq}
use Prim.Native.Nat.{ℕ, ◌≤◌, ◌<◌}
use native.Mathlib.Omega.{arith}
use Rattle.theory.specs.FreeSum.{Word, place}
use Rattle.theory.specs.Words.{Rising, Standard, Over, Inversion, First}

-- a place inside a part
pub place-place : (u p x q v : Word) → place u (place p x q) v ≡ place (u ++ p) x (q ++ v)
unfolding place
place-place u p x q v = simp append_assoc

-- two parts, one after the other
pub place_after : (u x m y v : Word) → place u x (place m y v) ≡ place (place u x m) y v
unfolding place
place_after u x m y v = simp append_assoc

-- a part and the next letter; the letter before, and a part
pub place-next : (u x : Word) (i : ℕ) (v : Word) → place u (place [] x (i ∷ [])) v ≡ place u x (i ∷ v)
unfolding place
place-next u x i v = simp append_assoc

pub place_last : (u : Word) (k : ℕ) (y v : Word) → place u (place (k ∷ []) y []) v ≡ place (u ++ (k ∷ [])) y v
unfolding place
place_last u k y v = simp (append_assoc, append-nil)

pub place_shift : (u : Word) (k j i : ℕ) (v : Word) → place u (k ∷ j ∷ []) (i ∷ v) ≡ place (u ++ (k ∷ [])) (j ∷ i ∷ []) v
unfolding place
place_shift u k j i v = simp append_assoc

-- an inversion of z is one of u z v
unfoldable pub within : (u z v : Word) → Inversion z → Inversion (place u z v)
within u z v r = record {
  before = u ++ r.before;
  j = r.j;
  i = r.i;
  after = r.after ++ v;
  split = ap (λ t. place u t v) r.split ∙ place-place u r.before (r.j ∷ r.i ∷ []) r.after v;
  falls = r.falls;
}

-- letters
pub over-append : (n : ℕ) (u v : Word) → Over n (u ++ v) → Over n u × Over n v
over-append n [] v o = (tt, o)
over-append n (x ∷ u) v o = let h = over-append n u v o.1 in ((o.0, h.0), h.1)

pub over_join : (n : ℕ) (u v : Word) → Over n u → Over n v → Over n (u ++ v)
over_join n [] v o k = k
over_join n (x ∷ u) v o k = (o.0, over_join n u v o.1 k)

pub over-place : (n : ℕ) (u x v : Word) → Over n (place u x v) → Over n u × Over n x × Over n v
unfolding place
over-place n u x v o =
    let h = over-append n u (x ++ v) o in
    let k = over-append n x v h.1 in
    (h.0, k.0, k.1)

pub over-place_join : (n : ℕ) (u x v : Word) → Over n u → Over n x → Over n v → Over n (place u x v)
unfolding place
over-place_join n u x v a b c = over_join n u (x ++ v) a (over_join n x v b c)

-- a standard word has no inversion
rest-standard : (x : ℕ) (w : Word) → Rising x w → Standard w
rest-standard x [] s = tt
rest-standard x (y ∷ w) s = s.1

standard-place : (u : Word) (j i : ℕ) (v : Word) → Standard (place u (j ∷ i ∷ []) v) → j ≤ i
unfolding place
standard-place [] j i v s = s.0
standard-place (x ∷ u) j i v s = standard-place u j i v (rest-standard x (u ++ (j ∷ i ∷ v)) s)

pub standard-no_inversion : (w : Word) → Standard w → Inversion w → ⊥
standard-no_inversion w s r =
    let h : r.j ≤ r.i = standard-place r.before r.j r.i r.after (subst Standard r.split s) in
    let k : r.i < r.j = r.falls in
    omega arith

-- the place b a, of u' b a v', lies to the right of the place j i, of u j i v: next to it, with the letter i = b shared, or apart from it
pub data Right (u : Word) (j i : ℕ) (v u' : Word) (b a : ℕ) (v' : Word) : Type 0 where
  shared : u' ≡ u ++ (j ∷ []) → b ≡ i → v ≡ a ∷ v' → Right u j i v u' b a v'
  apart : (m : Word) → u' ≡ place u (j ∷ i ∷ []) m → v ≡ place m (b ∷ a ∷ []) v' → Right u j i v u' b a v'

pub data Lie (u : Word) (j i : ℕ) (v u' : Word) (b a : ℕ) (v' : Word) : Type 0 where
  same : u ≡ u' → j ≡ b → i ≡ a → v ≡ v' → Lie u j i v u' b a v'
  right : Right u j i v u' b a v' → Lie u j i v u' b a v'
  left : Right u' b a v' u j i v → Lie u j i v u' b a v'

right-cons : {u : Word} {j i : ℕ} {v u' : Word} {b a : ℕ} {v' : Word} (x y : ℕ) → x ≡ y → Right u j i v u' b a v' → Right (x ∷ u) j i v (y ∷ u') b a v'
unfolding place
right-cons x y e (shared p q r) = shared (λ k. sym e k ∷ p k) q r
right-cons x y e (apart m p q) = apart m (λ k. sym e k ∷ p k) q

lie_cons : {u : Word} {j i : ℕ} {v u' : Word} {b a : ℕ} {v' : Word} (x y : ℕ) → x ≡ y → Lie u j i v u' b a v' → Lie (x ∷ u) j i v (y ∷ u') b a v'
lie_cons x y e (same p q r s) = same (λ k. e k ∷ p k) q r s
lie_cons x y e (right h) = right (right-cons x y e h)
lie_cons x y e (left h) = left (right-cons y x (sym e) h)

-- two places of one word
pub places_lie : (u : Word) (j i : ℕ) (v u' : Word) (b a : ℕ) (v' : Word) → place u (j ∷ i ∷ []) v ≡ place u' (b ∷ a ∷ []) v' → Lie u j i v u' b a v'
unfolding place
places_lie [] j i v [] b a v' e =
    let t = tail-eq_of_cons-eq e in same refl (head-eq_of_cons-eq e) (head-eq_of_cons-eq t) (tail-eq_of_cons-eq t)
places_lie [] j i v (x ∷ []) b a v' e =
    let t = tail-eq_of_cons-eq e in right (shared (λ k. sym (head-eq_of_cons-eq e) k ∷ []) (sym (head-eq_of_cons-eq t)) (tail-eq_of_cons-eq t))
places_lie [] j i v (x ∷ y ∷ m) b a v' e =
    let t = tail-eq_of_cons-eq e in right (apart m (λ k. sym (head-eq_of_cons-eq e) k ∷ sym (head-eq_of_cons-eq t) k ∷ m) (tail-eq_of_cons-eq t))
places_lie (x ∷ []) j i v [] b a v' e =
    let t = tail-eq_of_cons-eq e in left (shared (λ k. head-eq_of_cons-eq e k ∷ []) (head-eq_of_cons-eq t) (sym (tail-eq_of_cons-eq t)))
places_lie (x ∷ y ∷ m) j i v [] b a v' e =
    let t = tail-eq_of_cons-eq e in left (apart m (λ k. head-eq_of_cons-eq e k ∷ head-eq_of_cons-eq t k ∷ m) (sym (tail-eq_of_cons-eq t)))
places_lie (x ∷ u) j i v (y ∷ u') b a v' e = lie_cons x y (head-eq_of_cons-eq e) (places_lie u j i v u' b a v' (tail-eq_of_cons-eq e))

-- to the right of an inversion is no leftmost one
right_not_first : (u : Word) (j i : ℕ) (v u' : Word) (b a : ℕ) (v' : Word) → i < j → Right u j i v u' b a v' → Standard (u' ++ (b ∷ [])) → ⊥
unfolding place
right_not_first u j i v u' b a v' h (shared p q _) s =
    let k : j ≤ i = standard-place u j i [] (subst Standard (ap (λ x. x ++ (b ∷ [])) p ∙ ap (λ y. u ++ (j ∷ []) ++ (y ∷ [])) q ∙ append_assoc u (j ∷ []) (i ∷ [])) s) in
    omega arith
right_not_first u j i v u' b a v' h (apart m p _) s =
    let k : j ≤ i = standard-place u j i (m ++ (b ∷ [])) (subst Standard (ap (λ x. x ++ (b ∷ [])) p ∙ append_assoc u (j ∷ i ∷ m) (b ∷ [])) s) in
    omega arith

-- so two leftmost inversions are one
pub leftmost-same : (w : Word) (k l : Inversion w) → First w k → First w l → (k.before ≡ l.before) × (k.j ≡ l.j) × (k.i ≡ l.i) × (k.after ≡ l.after)
leftmost-same w k l fk fl = go (places_lie k.before k.j k.i k.after l.before l.j l.i l.after (sym k.split ∙ l.split))
  where
    go : Lie k.before k.j k.i k.after l.before l.j l.i l.after → (k.before ≡ l.before) × (k.j ≡ l.j) × (k.i ≡ l.i) × (k.after ≡ l.after)
    go (same a b c d) = (a, b, c, d)
    go (right h) = absurd (right_not_first k.before k.j k.i k.after l.before l.j l.i l.after k.falls h fl)
    go (left h) = absurd (right_not_first l.before l.j l.i l.after k.before k.j k.i k.after l.falls h fk)
