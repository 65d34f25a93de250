-- Rows that hold a word: one step along them, one letter more, and the row of a word.
use Rattle.std.proofs.Common.{◌≡◌, ℕ, suc, ◌+◌, ◌-◌, ◌<◌, true, false, cond, ◌&&◌, eqb, List, [], ◌∷◌, ◌++◌, length, get_or, drop, set, replicate, sym, refl, ap, ◌∙◌, ⊎_elim, arith}
use Rattle.std.proofs.lemmas.Bool.{cases_Bool, and_parts, eqb-true, ne_eqb, eq-eqb}
use Rattle.std.proofs.lemmas.List.{drop_more}
use Rattle.orders.specs.Letters.{letters, is_letter}
use Rattle.orders.proofs.Steps.{letter_bounds}
use Rattle.words.specs.Rows.{is_row, all_zero, row_of}

pub row_more : (xs : List ℕ) (i : ℕ) → i < length xs → is_row (drop i xs) ≡ cond (is_letter (get_or xs i 0)) (is_row (drop (i + 1) xs)) (eqb (get_or xs i 0) 0 && all_zero (drop (i + 1) xs))
row_more xs i h = rw (drop_more xs i 0 h)

pub zero_more : (xs : List ℕ) (i : ℕ) → i < length xs → all_zero (drop i xs) ≡ (eqb (get_or xs i 0) 0 && all_zero (drop (i + 1) xs))
zero_more xs i h = rw (drop_more xs i 0 h)

zero-letters : (xs : List ℕ) → all_zero xs ≡ true → letters xs ≡ []
zero-letters [] h = refl
zero-letters (x ∷ xs) h =
    let e : x ≡ 0 = eqb-true x 0 (and_parts (eqb x 0) (all_zero xs) h).0 in
    ap (λ y. cond (is_letter y) (y ∷ letters xs) []) e

zero_row : (xs : List ℕ) → all_zero xs ≡ true → is_row xs ≡ true
zero_row [] h = refl
zero_row (x ∷ xs) h =
    let e : x ≡ 0 = eqb-true x 0 (and_parts (eqb x 0) (all_zero xs) h).0 in
    ap (λ y. cond (is_letter y) (is_row xs) (eqb y 0 && all_zero xs)) e ∙ (and_parts (eqb x 0) (all_zero xs) h).1

letters_pushed : (xs : List ℕ) (x : ℕ) → is_row xs ≡ true → length (letters xs) < length xs → is_letter x ≡ true → letters (set xs (length (letters xs)) x) ≡ letters xs ++ x ∷ []
letters_pushed [] x h l n = absurd (omega arith)
letters_pushed (y ∷ ys) x h l n =
    ⊎_elim
    (λ e.
    let r : is_row ys ≡ true = rw e at h in
    let k : length (letters ys) < length ys = omega (arith, rw e at l) in
    rw e (rw e (ap (λ w. y ∷ w) (letters_pushed ys x r k n))))
    (λ e.
    let z : (eqb y 0 && all_zero ys) ≡ true = rw e at h in
    rw e (rw n (ap (λ w. x ∷ w) (zero-letters ys (and_parts (eqb y 0) (all_zero ys) z).1))))
    (cases_Bool (is_letter y))

row_pushed : (xs : List ℕ) (x : ℕ) → is_row xs ≡ true → length (letters xs) < length xs → is_letter x ≡ true → is_row (set xs (length (letters xs)) x) ≡ true
row_pushed [] x h l n = absurd (omega arith)
row_pushed (y ∷ ys) x h l n =
    ⊎_elim
    (λ e.
    let r : is_row ys ≡ true = rw e at h in
    let k : length (letters ys) < length ys = omega (arith, rw e at l) in
    rw e (rw e (row_pushed ys x r k n)))
    (λ e.
    let z : (eqb y 0 && all_zero ys) ≡ true = rw e at h in
    rw e (rw n (zero_row ys (and_parts (eqb y 0) (all_zero ys) z).1)))
    (cases_Bool (is_letter y))

zeros : (xs : List ℕ) → all_zero xs ≡ true → xs ≡ replicate (length xs) 0
zeros [] h = refl
zeros (x ∷ xs) h =
    let p = and_parts (eqb x 0) (all_zero xs) h in
    ap (λ y. y ∷ xs) (eqb-true x 0 p.0) ∙ ap (λ ys. 0 ∷ ys) (zeros xs p.1)

filled : (xs : List ℕ) → is_row xs ≡ true → xs ≡ letters xs ++ replicate (length xs - length (letters xs)) 0
filled [] h = refl
filled (x ∷ xs) h =
    ⊎_elim
    (λ e.
    let r : is_row xs ≡ true = rw e at h in
    let k : suc (length xs) - suc (length (letters xs)) ≡ length xs - length (letters xs) = omega arith in
    rw e (ap (λ ys. x ∷ ys) (filled xs r ∙ ap (λ n. letters xs ++ replicate n 0) (sym k))))
    (λ e.
    let z : all_zero (x ∷ xs) ≡ true = rw e at h in
    let k : suc (length xs) - 0 ≡ suc (length xs) = omega arith in
    rw e (zeros (x ∷ xs) z ∙ ap (λ n. replicate n 0) (sym k)))
    (cases_Bool (is_letter x))

-- a row that holds a word is the row of its letters
pub row_of_letters : (xs : List ℕ) → length xs ≡ 32 → is_row xs ≡ true → xs ≡ row_of (letters xs)
row_of_letters xs l h = filled xs h ∙ ap (λ n. letters xs ++ replicate (n - length (letters xs)) 0) l

-- what stands at a place of a row: its letter, or 0
letter_at : (y z : ℕ) (w : List ℕ) → z ≡ cond (is_letter y) y 0 → cond (is_letter y) (y ∷ w) [] ≡ cond (eqb z 0) [] (z ∷ w)
letter_at y z w e =
    ⊎_elim
    (λ t.
    let f : z ≡ y = e ∙ rw t in
    let b = letter_bounds y t in
    let n : eqb z 0 ≡ false = ne_eqb z 0 (λ q. omega arith) in
    rw (t, n) (ap (λ v. v ∷ w) (sym f)))
    (λ t.
    let f : z ≡ 0 = e ∙ rw t in
    let n : eqb z 0 ≡ true = eq-eqb z 0 f in
    ap (λ b. cond b (y ∷ w) []) t ∙ sym (ap (λ b. cond b [] (z ∷ w)) n))
    (cases_Bool (is_letter y))

pub place-more : (xs : List ℕ) (i z : ℕ) → i < length xs → z ≡ cond (is_letter (get_or xs i 0)) (get_or xs i 0) 0 → letters (drop i xs) ≡ cond (eqb z 0) [] (z ∷ letters (drop (i + 1) xs))
place-more xs i z h e = ap letters (drop_more xs i 0 h) ∙ letter_at (get_or xs i 0) z (letters (drop (i + 1) xs)) e

-- a letter at the place n, the first that is free
pub row_push : (xs : List ℕ) (n x : ℕ) → n ≡ length (letters xs) → is_row xs ≡ true → n < length xs → is_letter x ≡ true → is_row (set xs n x) ≡ true
row_push xs n x e r h t = ap (λ k. is_row (set xs k x)) e ∙ row_pushed xs x r (omega arith) t

pub letters_push : (xs : List ℕ) (n x : ℕ) → n ≡ length (letters xs) → is_row xs ≡ true → n < length xs → is_letter x ≡ true → letters (set xs n x) ≡ letters xs ++ x ∷ []
letters_push xs n x e r h t = ap (λ k. letters (set xs k x)) e ∙ letters_pushed xs x r (omega arith) t
