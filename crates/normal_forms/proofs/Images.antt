-- Images add up where words are joined; so what a rewriting brings comes after the word that is rewritten.
use Rattle.std.proofs.Common.{◌≡◌, ℕ, zero, suc, ◌+◌, ◌<◌, cond, ltb, ◌⊎◌, List, [], ◌∷◌, ◌++◌, length, Less, Equal, Greater, sym, refl, ap, ◌∙◌, ap₂, inl, inr, arith}
use Rattle.theory.specs.FreeSum.{place}
use Rattle.theory.specs.Keys as keys
use Rattle.theory.specs.Keys.{Keys}
use Rattle.orders.specs.Letters.{count, counts_from, letter_count, image, length-image}
use Rattle.orders.specs.Orders.{first_difference, then_by, plus, reversed}
use Rattle.orders.specs.Models.{OrderModel, compare_images}
use Rattle.orders.proofs.Comparing.{numbers_less, numbers-above}
use Rattle.orders.proofs.Ending.{images_ordered}
use Rattle.words.specs.Inversions.{below, inversions}
use Rattle.words.specs.Compare.{compare_words, compare_ties}
use Rattle.words.proofs.Rising.{below_one, below_none}

-- IMAGES

count-append : (k : ℕ) (u v : List ℕ) → count k (u ++ v) ≡ count k u + count k v
count-append k [] v = omega arith
count-append k (x ∷ u) v = let h = count-append k u v in omega arith

counts-append : (k n : ℕ) (u v : List ℕ) → counts_from k n (u ++ v) ≡ plus (counts_from k n u) (counts_from k n v)
counts-append k zero u v = refl
counts-append k (suc n) u v = ap₂ (λ x xs. x ∷ xs) (count-append k u v) (counts-append (suc k) n u v)

pub image-append : (u v : List ℕ) → image (u ++ v) ≡ plus (image u) (image v)
unfolding image
image-append u v = counts-append 1 letter_count u v

count-place : (k : ℕ) (u x v : List ℕ) → count k (place u x v) ≡ count k (u ++ v) + count k x
unfolding place
count-place k u x v =
    let a = count-append k u (x ++ v) in
    let b = count-append k x v in
    let c = count-append k u v in
    omega arith

counts-place : (k n : ℕ) (u x v : List ℕ) → counts_from k n (place u x v) ≡ plus (counts_from k n (u ++ v)) (counts_from k n x)
counts-place k zero u x v = refl
counts-place k (suc n) u x v = ap₂ (λ y ys. y ∷ ys) (count-place k u x v) (counts-place (suc k) n u x v)

image-place : (u x v : List ℕ) → image (place u x v) ≡ plus (image (u ++ v)) (image x)
unfolding image
image-place u x v = counts-place 1 letter_count u x v

count_swap : (k i j : ℕ) → count k (i ∷ j ∷ []) ≡ count k (j ∷ i ∷ [])
count_swap k i j = omega arith

counts_swap : (k n i j : ℕ) → counts_from k n (i ∷ j ∷ []) ≡ counts_from k n (j ∷ i ∷ [])
counts_swap k zero i j = refl
counts_swap k (suc n) i j = ap₂ (λ y ys. y ∷ ys) (count_swap k i j) (counts_swap (suc k) n i j)

image_swap : (i j : ℕ) → image (i ∷ j ∷ []) ≡ image (j ∷ i ∷ [])
unfolding image
image_swap i j = counts_swap 1 letter_count i j

-- KEYS

plus-plus : (a b : List ℕ) → plus a b ≡ keys.plus a b
plus-plus [] b = refl
plus-plus (x ∷ a) [] = refl
plus-plus (x ∷ a) (y ∷ b) = ap (λ l. (x + y) ∷ l) (plus-plus a b)

-- the keys of the images of words
pub keys_of : OrderModel → Keys
keys_of o = record {
  width = o.width;
  key = λ w. o.key (image w);
  key_length = λ w. o.key_length (image w) (length-image w);
  key_join = λ u v.
      ap o.key (image-append u v) ∙ o.key_additive (image u) (image v) (length-image u) (length-image v) ∙ plus-plus (o.key (image u)) (o.key (image v));
}

before_of_less : (a b : List ℕ) → length a ≡ length b → first_difference a b ≡ Less → keys.Before a b
before_of_less [] [] e h = let z : ◌≡◌ {A = ℕ} 0 1 = cc in absurd (omega arith)
before_of_less [] (y ∷ b) e h = absurd (omega arith)
before_of_less (x ∷ a) [] e h = absurd (omega arith)
before_of_less (x ∷ a) (y ∷ b) e h = at (before_of_less a b (omega arith)) (numbers_less x y (first_difference a b) h)
  where
    at : (first_difference a b ≡ Less → keys.Before a b) → (x < y) ⊎ ((x ≡ y) × (first_difference a b ≡ Less)) → keys.Before (x ∷ a) (y ∷ b)
    at rest (inl l) = inl l
    at rest (inr l) = inr (l.0, rest l.1)

-- a word whose image is before that of another has a key before its key
pub key-before : (o : OrderModel) (t s : List ℕ) → compare_images o (image t) (image s) ≡ Less → keys.Before ((keys_of o).key t) ((keys_of o).key s)
unfolding keys_of
key-before o t s h = before_of_less (o.key (image t)) (o.key (image s)) (o.key_length (image t) (length-image t) ∙ sym (o.key_length (image s) (length-image s))) h

-- WORDS

below_swap : (x : ℕ) (u : List ℕ) (j i : ℕ) (v : List ℕ) → below x (place u (i ∷ j ∷ []) v) ≡ below x (place u (j ∷ i ∷ []) v)
unfolding place
below_swap x [] j i v = omega arith
below_swap x (y ∷ u) j i v = ap (λ n. cond (ltb y x) 1 0 + n) (below_swap x u j i v)

inversions_swap : (u : List ℕ) (j i : ℕ) (v : List ℕ) → i < j → inversions (place u (i ∷ j ∷ []) v) < inversions (place u (j ∷ i ∷ []) v)
unfolding place
inversions_swap [] j i v h =
    let a = below_none i j v (omega arith) in
    let b = below_one j i v h in
    omega arith
inversions_swap (x ∷ u) j i v h =
    let a = below_swap x u j i v in
    let b = inversions_swap u j i v h in
    omega arith

module _ (o : OrderModel) where
  -- the same letters around both change nothing
  compare_place : (u x y v : List ℕ) → compare_images o (image (place u x v)) (image (place u y v)) ≡ compare_images o (image x) (image y)
  compare_place u x y v =
      ap₂ (compare_images o) (image-place u x v) (image-place u y v)
      ∙ (images_ordered o).adds_up (image (u ++ v)) (image x) (image y) (length-image (u ++ v)) (length-image x) (length-image y)

  -- what a rewriting of u x_j x_i v brings comes after it: the exchange, and each word of the tail
  pub exchange-after : (u : List ℕ) (j i : ℕ) (v : List ℕ) → i < j → compare_words o (place u (j ∷ i ∷ []) v) (place u (i ∷ j ∷ []) v) ≡ Greater
  exchange-after u j i v h =
      let w = place u (j ∷ i ∷ []) v in
      let x = place u (i ∷ j ∷ []) v in
      let e : compare_images o (image w) (image x) ≡ Equal =
      compare_place u (j ∷ i ∷ []) (i ∷ j ∷ []) v ∙ ap (compare_images o (image (j ∷ i ∷ []))) (image_swap i j) ∙ (images_ordered o).total.reflexive (image (j ∷ i ∷ [])) (length-image (j ∷ i ∷ []))
      in
      ap (λ r. then_by r (compare_ties w x)) e ∙ ap (λ r. then_by r (first_difference w x)) (numbers-above (inversions w) (inversions x) Equal (inversions_swap u j i v h))

  pub tail-after : (u : List ℕ) (j i : ℕ) (v t : List ℕ) → compare_images o (image t) (image (i ∷ j ∷ [])) ≡ Less → compare_words o (place u (j ∷ i ∷ []) v) (place u t v) ≡ Greater
  tail-after u j i v t h =
      let w = place u (j ∷ i ∷ []) v in
      let x = place u t v in
      let e : compare_images o (image w) (image x) ≡ Greater =
      compare_place u (j ∷ i ∷ []) t v
      ∙ ap (λ a. compare_images o a (image t)) (sym (image_swap i j))
      ∙ (images_ordered o).total.converse (image t) (image (i ∷ j ∷ [])) (length-image t) (length-image (i ∷ j ∷ []))
      ∙ ap reversed h
      in
      ap (λ r. then_by r (compare_ties w x)) e
