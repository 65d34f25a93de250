-- The triples that the decision runs through are those that rise.
use Rattle.std.proofs.Common.{◌≡◌, ℕ, zero, suc, ◌+◌, ◌<◌, ◌≤◌, Bool, true, false, cond, ◌&&◌, ltb, ◌⊎◌, List, [], ◌∷◌, ◌++◌, sym, refl, subst, inl, inr, ⊎_elim, arith}
use native.Mathlib.Decide.{ℕ_discrete}
use Rattle.std.proofs.lemmas.Bool.{and_parts, ltb-true, lt-ltb}
use Rattle.std.specs.List.{range_with_len}
use Rattle.theory.specs.Relations as theory
use Rattle.algebra.specs.Decide.{Triple, each, triples}
use Rattle.normal_forms.specs.Terms.{Among}

-- 1 ≤ i < j < k ≤ n
abbrev pub Rises : ℕ → Triple → Type 0
Rises n t = theory.Triple n t.i t.j t.k

each_among : {A B : Type 0} (f : A → List B) (x : B) (y : A) (ys : List A) → Among y ys → Among x (f y) → Among x (each f ys)
each_among f x y [] a b = absurd a
each_among f x y (z ∷ ys) (inl e) b = left (f z) (each f ys) (subst (λ w. Among x (f w)) e b)
  where
    left : (xs zs : List _) → Among x xs → Among x (xs ++ zs)
    left [] zs a = absurd a
    left (w ∷ xs) zs (inl e) = inl e
    left (w ∷ xs) zs (inr a) = inr (left xs zs a)
each_among f x y (z ∷ ys) (inr a) b = right (f z) (each f ys) (each_among f x y ys a b)
  where
    right : (xs zs : List _) → Among x zs → Among x (xs ++ zs)
    right [] zs a = a
    right (w ∷ xs) zs a = inr (right xs zs a)

among_append : {A : Type 0} (z : A) (xs ys : List A) → Among z (xs ++ ys) → Among z xs ⊎ Among z ys
among_append z [] ys a = inr a
among_append z (x ∷ xs) ys (inl e) = inl (inl e)
among_append z (x ∷ xs) ys (inr a) = ⊎_elim (λ b. inl (inr b)) (λ b. inr b) (among_append z xs ys a)

among_each : {A B : Type 0} (f : A → List B) (x : B) (ys : List A) → Among x (each f ys) → (y : A) × Among y ys × Among x (f y)
among_each f x [] a = absurd a
among_each f x (y ∷ ys) a =
    ⊎_elim (λ b. (y, inl refl, b)) (λ b. let h = among_each f x ys b in (h.0, inr h.1, h.2)) (among_append x (f y) (each f ys) a)

counted : (a n k : ℕ) → a ≤ k → k < a + n → Among k (range_with_len a n)
counted a zero k l h = absurd (omega arith)
counted a (suc n) k l h = at (counted (a + 1) n k) (ℕ_discrete k a)
  where
    at : (a + 1 ≤ k → k < a + 1 + n → Among k (range_with_len (a + 1) n)) → Dec (k ≡ a) → Among k (a ∷ range_with_len (a + 1) n)
    at rest (yes e) = inl e
    at rest (no e) = inr (rest (omega arith) (omega arith))

counting_range : (a n k : ℕ) → Among k (range_with_len a n) → (a ≤ k) × (k < a + n)
counting_range a zero k m = absurd m
counting_range a (suc n) k (inl e) = (omega arith, omega arith)
counting_range a (suc n) k (inr m) = let h = counting_range (a + 1) n k m in (omega arith, omega arith)

pub triples_all : (n : ℕ) (t : Triple) → Rises n t → Among t (triples n)
unfolding triples
triples_all n t r =
    each_among (λ i. each (λ j. each (λ k. cond (ltb i j && ltb j k) (record { i = i; j = j; k = k } ∷ []) []) (range_with_len 1 n)) (range_with_len 1 n)) t t.i (range_with_len 1 n)
    (counted 1 n t.i (omega arith) (omega arith))
    (each_among (λ j. each (λ k. cond (ltb t.i j && ltb j k) (record { i = t.i; j = j; k = k } ∷ []) []) (range_with_len 1 n)) t t.j (range_with_len 1 n)
    (counted 1 n t.j (omega arith) (omega arith))
    (each_among (λ k. cond (ltb t.i t.j && ltb t.j k) (record { i = t.i; j = t.j; k = k } ∷ []) []) t t.k (range_with_len 1 n)
    (counted 1 n t.k (omega arith) (omega arith))
    (rw (lt-ltb t.i t.j r.first, lt-ltb t.j t.k r.second) (inl refl))))

found-rises : (n i j k : ℕ) (t : Triple) → Among i (range_with_len 1 n) → Among k (range_with_len 1 n) → Among t (cond (ltb i j && ltb j k) (record { i = i; j = j; k = k } ∷ []) []) → Rises n t
found-rises n i j k t a c m = at (ltb i j && ltb j k) refl m
  where
    at : (b : Bool) → (ltb i j && ltb j k) ≡ b → Among t (cond b (record { i = i; j = j; k = k } ∷ []) []) → Rises n t
    at true e (inl s) =
        let p = counting_range 1 n i a in
        let q = counting_range 1 n k c in
        let x = and_parts (ltb i j) (ltb j k) e in
        let r : Rises n (record { i = i; j = j; k = k }) = record { low = p.0; first = ltb-true i j x.0; second = ltb-true j k x.1; high = omega arith } in
        subst (Rises n) (sym s) r
    at true e (inr x) = absurd x
    at false e x = absurd x

pub triples_rise : (n : ℕ) (t : Triple) → Among t (triples n) → Rises n t
unfolding triples
triples_rise n t m =
    let x = among_each (λ i. each (λ j. each (λ k. cond (ltb i j && ltb j k) (record { i = i; j = j; k = k } ∷ []) []) (range_with_len 1 n)) (range_with_len 1 n)) t (range_with_len 1 n) m in
    let y = among_each (λ j. each (λ k. cond (ltb x.0 j && ltb j k) (record { i = x.0; j = j; k = k } ∷ []) []) (range_with_len 1 n)) t (range_with_len 1 n) x.2 in
    let z = among_each (λ k. cond (ltb x.0 y.0 && ltb y.0 k) (record { i = x.0; j = y.0; k = k } ∷ []) []) t (range_with_len 1 n) y.2 in
    found-rises n x.0 y.0 z.0 t x.1 z.1 z.2
