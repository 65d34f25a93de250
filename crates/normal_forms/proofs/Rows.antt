-- The row of a word in the letters 1 to n holds that word.
use Rattle.std.proofs.Common.{◌≡◌, ℕ, zero, suc, ◌-◌, ◌≤◌, true, cond, ltb, leb, List, [], ◌∷◌, ◌++◌, length, replicate, sym, refl, ap, ◌∙◌, subst, arith, length-append}
use lib.ListN.{length-replicate}
use Rattle.std.proofs.lemmas.Bool.{and_from, lt-ltb, le-leb}
use Rattle.theory.specs.Words.{Letter, Over}
use Rattle.orders.specs.Letters.{letters, is_letter, letter_count, row_places}
use Rattle.words.specs.Rows.{row_of, is_row, all_zero}
use Rattle.normal_forms.specs.Terms.{HoldsWord}

letter_is_letter : (n x : ℕ) → n ≤ letter_count → Letter n x → is_letter x ≡ true
letter_is_letter n x h l =
    let a = l.low in
    let b = l.high in
    and_from (ltb 0 x) (leb x letter_count) (lt-ltb 0 x (omega arith)) (le-leb x letter_count (omega arith))

letters-zeros : (k : ℕ) → letters (replicate k 0) ≡ []
letters-zeros zero = refl
letters-zeros (suc k) = refl

zeros-zero : (k : ℕ) → all_zero (replicate k 0) ≡ true
zeros-zero zero = refl
zeros-zero (suc k) = zeros-zero k

zeros_row : (k : ℕ) → is_row (replicate k 0) ≡ true
zeros_row zero = refl
zeros_row (suc k) = zeros-zero k

module _ (n : ℕ) (few : n ≤ letter_count) where
  letters-append : (k : ℕ) (w : List ℕ) → Over n w → letters (w ++ replicate k 0) ≡ w
  letters-append k [] h = letters-zeros k
  letters-append k (x ∷ w) h =
      ap (λ b. cond b (x ∷ letters (w ++ replicate k 0)) []) (letter_is_letter n x few h.0) ∙ ap (λ v. x ∷ v) (letters-append k w h.1)

  row_append : (k : ℕ) (w : List ℕ) → Over n w → is_row (w ++ replicate k 0) ≡ true
  row_append k [] h = zeros_row k
  row_append k (x ∷ w) h =
      ap (λ b. cond b (is_row (w ++ replicate k 0)) (all_zero (x ∷ (w ++ replicate k 0)))) (letter_is_letter n x few h.0) ∙ row_append k w h.1

  pub letters_row : (w : List ℕ) → Over n w → letters (row_of w) ≡ w
  letters_row w h = letters-append (row_places - length w) w h

  pub row_holds : (w : List ℕ) → Over n w → length w ≤ row_places → HoldsWord n (row_of w)
  row_holds w h l =
      let k = row_places - length w in
      let a = length-append w (replicate k 0) in
      let b : length (replicate {A = ℕ} k 0) ≡ k = length-replicate k 0 in
      record { full = omega arith; clean = row_append k w h; over = subst (Over n) (sym (letters_row w h)) h }
