-- Rows that are written in parts.
use Rattle.std.proofs.Common.{◌≡◌, ℕ, zero, suc, ◌+◌, ◌-◌, ◌<◌, ◌≤◌, List, [], ◌∷◌, ◌++◌, length, take, drop, set, replicate, Some, None, sym, refl, ap, ◌∙◌, ⊎_elim, append_assoc, zero-add, arith}
use native.Mathlib.Nat.{sub-zero}
use lib.Seq.{paste}
use Rattle.std.proofs.lemmas.List.{take-take, drop-replicate, length-append, length-take-le, length-drop}
use Rattle.std.proofs.lemmas.List.Edits.{paste-paste, paste_all}
use Rattle.std.proofs.lemmas.Slice.{between_is}
use Rattle.std.proofs.lemmas.Bool.{cases_Bool, le-leb, lt-leb}
use Rattle.orders.specs.Letters.{letters, is_letter}
use Rattle.words.specs.Rows.{row_of}
use Rattle.run.specs.Pieces.{around, rowed, zeros}

pub letters-take : (xs : List ℕ) → take (length (letters xs)) xs ≡ letters xs
letters-take [] = refl
letters-take (x ∷ xs) = ⊎_elim (λ e. rw e (ap (λ l. x ∷ l) (letters-take xs))) (λ e. rw e) (cases_Bool (is_letter x))

pub front_part : (xs : List ℕ) (k n : ℕ) → n ≡ length (letters xs) → k ≤ n → take k xs ≡ take k (letters xs)
front_part xs k n e h = sym (take-take k n xs h) ∙ ap (take k) (ap (λ i. take i xs) e ∙ letters-take xs)

pub back-part : (xs : List ℕ) (k n : ℕ) → n ≡ length (letters xs) → take (n - k) (drop k xs) ≡ drop k (letters xs)
back-part xs k n e = between_is xs k n ∙ ap (drop k) (ap (λ i. take i xs) e ∙ letters-take xs)

pub whole_part : (xs : List ℕ) (n : ℕ) → n ≡ length (letters xs) → take (n - 0) xs ≡ letters xs
whole_part xs n e = ap (λ i. take i xs) (sub-zero n ∙ e) ∙ letters-take xs

-- one part
pub splice_one : (a r0 r1 : List ℕ) → r0 ≡ zeros → r1 ≡ paste r0 0 a (length a) → r1 ≡ row_of a
unfolding zeros
splice_one a r0 r1 e0 e1 =
    e1
    ∙ paste_all r0 0 a (length a) refl
    ∙ ap (λ r. a ++ drop (0 + length a) r) e0
    ∙ ap (λ l. a ++ l) (drop-replicate (0 + length a) 32 0 ∙ ap (λ i. replicate (32 - i) 0) (zero-add (length a)))

-- two parts, the second from k on, are one
pub splice_two : (a b r0 r1 r2 : List ℕ) (k : ℕ) → r0 ≡ zeros → r1 ≡ paste r0 0 a (length a) → r2 ≡ paste r1 k b (length b) → length a ≡ k
    → r2 ≡ paste r0 0 (a ++ b) (length (a ++ b))
splice_two a b r0 r1 r2 k e0 e1 e2 la =
    let la0 : 0 + length a ≡ k = omega arith in
    e2
    ∙ ap (λ r. paste r k b (length b)) e1
    ∙ ap (λ i. paste (paste r0 0 a (length a)) i b (length b)) (sym la0)
    ∙ paste-paste r0 0 a b (length a) (length b) refl refl (omega arith)
    ∙ ap (paste r0 0 (a ++ b)) (sym (length-append a b))

pub splice_three : (a b c r0 r1 r2 r3 : List ℕ) (k n : ℕ) → r0 ≡ zeros → r1 ≡ paste r0 0 a (length a) → r2 ≡ paste r1 k b (length b) → r3 ≡ paste r2 n c (length c)
    → length a ≡ k → k + length b ≡ n → r3 ≡ row_of (a ++ (b ++ c))
splice_three a b c r0 r1 r2 r3 k n e0 e1 e2 e3 la lb =
    let l : length (a ++ b) ≡ n = length-append a b ∙ omega arith in
    splice_one ((a ++ b) ++ c) r0 r3 e0 (splice_two (a ++ b) c r0 r2 r3 n e0 (splice_two a b r0 r1 r2 k e0 e1 e2 la) e3 l) ∙ ap row_of (append_assoc a b c)

pub around-length : (w v : List ℕ) (k : ℕ) → k + 2 ≤ length w → length (around w k v) ≡ length w - 2 + length v
unfolding around
around-length w v k h =
    length-append (take k w) (v ++ drop (k + 2) w) ∙ simp (length-append, length-drop) (omega (arith, length-take-le k w (omega arith)))

pub rowed-fits : (w : List ℕ) → length w ≤ 32 → Some (row_of w) ≡ rowed w
rowed-fits w h = rw (le-leb (length w) 32 h)

pub rowed_long : (w : List ℕ) → 32 < length w → None ≡ rowed w
rowed_long w h = rw (lt-leb (length w) 32 h)

parts : {a a' b b' c c' : List ℕ} → a ≡ a' → b ≡ b' → c ≡ c' → a ++ (b ++ c) ≡ a' ++ (b' ++ c')
parts p q r = cc

pub cleaned : (row r0 r1 : List ℕ) (n : ℕ) → n ≡ length (letters row) → n ≤ 32 → r0 ≡ zeros → r1 ≡ paste r0 0 (take (n - 0) row) (length (take (n - 0) row))
    → Some r1 ≡ rowed (letters row)
cleaned row r0 r1 n en l e0 e1 =
    ap Some (splice_one (take (n - 0) row) r0 r1 e0 e1 ∙ ap row_of (whole_part row n en)) ∙ rowed-fits (letters row) (omega arith)

pub joined : (a b r0 r1 r2 : List ℕ) (n m : ℕ) → n ≡ length (letters a) → m ≡ length (letters b) → n + m ≤ 32 → r0 ≡ zeros
    → r1 ≡ paste r0 0 (take (n - 0) a) (length (take (n - 0) a))
    → r2 ≡ paste r1 n (take (m - 0) b) (length (take (m - 0) b))
    → Some r2 ≡ rowed (letters a ++ letters b)
joined a b r0 r1 r2 n m en em l e0 e1 e2 =
    let p = whole_part a n en in
    let q = whole_part b m em in
    let la : length (take (n - 0) a) ≡ n = ap length p ∙ sym en in
    let s : take (n - 0) a ++ take (m - 0) b ≡ letters a ++ letters b = cc in
    ap Some (splice_one (take (n - 0) a ++ take (m - 0) b) r0 r2 e0 (splice_two (take (n - 0) a) (take (m - 0) b) r0 r1 r2 n e0 e1 e2 la) ∙ ap row_of s)
    ∙ rowed-fits (letters a ++ letters b) (omega (arith, length-append (letters a) (letters b)))

pub substituted : (row mid r0 r1 r2 r3 : List ℕ) (k n m : ℕ) → n ≡ length (letters row) → m ≡ length (letters mid) → k + 2 ≤ n → n - 2 + m ≤ 32 → r0 ≡ zeros
    → r1 ≡ paste r0 0 (take (k - 0) row) (length (take (k - 0) row))
    → r2 ≡ paste r1 k (take (m - 0) mid) (length (take (m - 0) mid))
    → r3 ≡ paste r2 (k + m) (take (n - (k + 2)) (drop (k + 2) row)) (length (take (n - (k + 2)) (drop (k + 2) row)))
    → Some r3 ≡ rowed (around (letters row) k (letters mid))
unfolding around
substituted row mid r0 r1 r2 r3 k n m en em h l e0 e1 e2 e3 =
    let a : take (k - 0) row ≡ take k (letters row) = ap (λ i. take i row) (sub-zero k) ∙ front_part row k n en (omega arith) in
    let b : take (m - 0) mid ≡ letters mid = whole_part mid m em in
    let c : take (n - (k + 2)) (drop (k + 2) row) ≡ drop (k + 2) (letters row) = back-part row (k + 2) n en in
    let la : length (take (k - 0) row) ≡ k = ap length a ∙ length-take-le k (letters row) (omega arith) in
    let lb : k + length (take (m - 0) mid) ≡ k + m = ap (λ i. k + i) (ap length b ∙ sym em) in
    ap Some (splice_three (take (k - 0) row) (take (m - 0) mid) (take (n - (k + 2)) (drop (k + 2) row)) r0 r1 r2 r3 k (k + m) e0 e1 e2 e3 la lb ∙ ap row_of (parts a b c))
    ∙ rowed-fits (around (letters row) k (letters mid)) (omega (arith, around-length (letters row) (letters mid) k (omega arith)))

-- two letters written over a word, before the numbers z
two-set : (w z : List ℕ) (k x y : ℕ) → suc k < length w → set (set (w ++ z) k y) (suc k) x ≡ (take k w ++ (y ∷ x ∷ drop (suc (suc k)) w)) ++ z
two-set [] z k x y h = absurd (omega arith)
two-set (a ∷ []) z zero x y h = absurd (omega arith)
two-set (a ∷ b ∷ w) z zero x y h = refl
two-set (a ∷ w) z (suc k) x y h = ap (λ l. a ∷ l) (two-set w z k x y (omega arith))

pub exchanged : (row r : List ℕ) (k i j : ℕ) → Some r ≡ rowed (letters row) → k + 2 ≤ length (letters row) → length (letters row) ≤ 32
    → Some (set (set r k i) (k + 1) j) ≡ rowed (around (letters row) k (i ∷ j ∷ []))
unfolding around
exchanged row r k i j e h l =
    let w = letters row in
    let f : Some r ≡ Some (row_of w) = e ∙ sym (rowed-fits w l) in
    let q : r ≡ row_of w = cc in
    let a1 : k + 1 ≡ suc k = omega arith in
    let a2 : suc (suc k) ≡ k + 2 = omega arith in
    let n : length (around w k (i ∷ j ∷ [])) ≡ length w = around-length w (i ∷ j ∷ []) k h ∙ omega arith in
    ap Some
    (ap (λ r. set (set r k i) (k + 1) j) q
    ∙ ap (λ d. set (set (row_of w) k i) d j) a1
    ∙ two-set w (replicate (32 - length w) 0) k j i (omega arith)
    ∙ ap (λ d. (take k w ++ (i ∷ j ∷ drop d w)) ++ replicate (32 - length w) 0) a2
    ∙ ap (λ d. (take k w ++ (i ∷ j ∷ drop (k + 2) w)) ++ replicate (32 - d) 0) (sym n))
    ∙ rowed-fits (around w k (i ∷ j ∷ [])) (omega arith)
