-- The letters of a row, one step along it.
use Rattle.std.proofs.Common.{◌≡◌, ℕ, zero, suc, ◌+◌, ◌<◌, ◌≤◌, true, false, ltb, leb, List, [], ◌∷◌, length, get_or, take, drop, refl, ap, ◌∙◌, ⊎_elim, arith}
use Rattle.std.specs.List.{prefix_len}
use Rattle.std.proofs.lemmas.List.{drop_more, drop_all}
use Rattle.std.proofs.lemmas.Bool.{cases_Bool, and_parts, ltb-true, leb-true}
use Rattle.orders.specs.Letters.{letters, is_letter}

pub letters_stop : (xs : List ℕ) (i : ℕ) → i < length xs → is_letter (get_or xs i 0) ≡ false → letters (drop i xs) ≡ []
letters_stop xs i h e = rw (drop_more xs i 0 h) (rw e)

pub letters-go : (xs : List ℕ) (i : ℕ) → i < length xs → is_letter (get_or xs i 0) ≡ true → letters (drop i xs) ≡ get_or xs i 0 ∷ letters (drop (i + 1) xs)
letters-go xs i h e = rw (drop_more xs i 0 h) (rw e)

pub letters-end : (xs : List ℕ) (i : ℕ) → length xs ≤ i → letters (drop i xs) ≡ []
letters-end xs i h = rw (drop_all i xs h)

pub letter_bounds : (x : ℕ) → is_letter x ≡ true → (0 < x) × (x ≤ 8)
letter_bounds x e = let p = and_parts (ltb 0 x) (leb x 8) e in (ltb-true 0 x p.0, leb-true x 8 p.1)

pub one_more : (n : ℕ) → 1 + n ≡ suc n
one_more n = omega arith

pub take_one : (n x : ℕ) (xs : List ℕ) → take (1 + n) (x ∷ xs) ≡ x ∷ take n xs
take_one n x xs = ap (λ k. take k (x ∷ xs)) (one_more n)

pub drop_one : (n x : ℕ) (xs : List ℕ) → drop (1 + n) (x ∷ xs) ≡ drop n xs
drop_one n x xs = ap (λ k. drop k (x ∷ xs)) (one_more n)

-- the letters of a row are those that come before the first entry that is none
pub letters_taken : (xs : List ℕ) → take (prefix_len is_letter xs) xs ≡ letters xs
letters_taken [] = refl
letters_taken (x ∷ xs) =
    ⊎_elim (λ e. rw e (take_one (prefix_len is_letter xs) x xs ∙ ap (λ w. x ∷ w) (letters_taken xs))) (λ e. rw e) (cases_Bool (is_letter x))

-- a letter of the word is the number at its place of the row
pub letters_at : (xs : List ℕ) (k : ℕ) → k < length (letters xs) → (get_or (letters xs) k 0 ≡ get_or xs k 0) × (is_letter (get_or xs k 0) ≡ true)
letters_at [] k h = absurd (omega arith)
letters_at (x ∷ xs) zero h = ⊎_elim (λ e. (rw e, e)) (λ e. absurd (omega (arith, rw e at h))) (cases_Bool (is_letter x))
letters_at (x ∷ xs) (suc k) h =
    ⊎_elim
    (λ e. let i = letters_at xs k (omega (arith, rw e at h)) in (rw e i.0, i.1))
    (λ e. absurd (omega (arith, rw e at h)))
    (cases_Bool (is_letter x))
