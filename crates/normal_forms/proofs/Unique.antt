-- Kept lists that make equal free sums are equal, term by term.
use Rattle.std.proofs.Common.{◌≡◌, ℕ, List, [], ◌∷◌, Ordering, Less, Equal, Greater, sym, refl, ap, ◌∙◌, subst}
use Rattle.theory.specs.Ring.{CommutativeRing}
use Rattle.theory.specs.FreeSum.{word_eq, when, coeff, ◌≈◌}
use Rattle.theory.proofs.RingLaws as ring
use Rattle.coefficients.specs.Coding.{Coding}
use Rattle.orders.specs.Letters.{letters}
use Rattle.orders.specs.Models.{OrderModel}
use Rattle.words.specs.Rows.{row_of}
use Rattle.words.specs.declared.term.Term.{Term}
use Rattle.words.proofs.Filling.{row_of_letters}
use Rattle.kept.specs.Kept.{compare_terms}
use Rattle.kept.specs.Falling.{Above, Falls}
use Rattle.kept.proofs.Ordered.{greater_of_less}
use Rattle.normal_forms.specs.Terms.{sum_of, HoldsWord, IsTerm, KeptTerms}
use Rattle.normal_forms.proofs.Order.{equal-terms, greater_other, above-rest}

when_yes : (R : CommutativeRing) {A : Type 0} (d : Dec A) (a : R.carrier) → A → when R d a ≡ a
when_yes R (yes _) a p = refl
when_yes R (no n) a p = absurd (n p)

when_no : (R : CommutativeRing) {A : Type 0} (d : Dec A) (a : R.carrier) → ¬ A → when R d a ≡ R.zero
when_no R (yes p) a n = absurd (n p)
when_no R (no _) a n = refl

-- a word has one row
same_row : (n : ℕ) (r s : List ℕ) → HoldsWord n r → HoldsWord n s → letters r ≡ letters s → r ≡ s
same_row n r s g h e = row_of_letters r g.full g.clean ∙ ap row_of e ∙ sym (row_of_letters s h.full h.clean)

module _ (m : Coding) (o : OrderModel) (n : ℕ) where
  abbrev R : CommutativeRing
  R = m.ring

  -- a word that is greater than those of a falling list has the coefficient zero there
  coeff-above : (z : Term) (xs : List Term) → Above o z xs → Falls o xs → coeff (sum_of m xs) (letters z.row) ≡ R.zero
  unfolding sum_of coeff
  coeff-above z [] a f = refl
  coeff-above z (x ∷ xs) a f =
      ap (λ y. R.add y (coeff (sum_of m xs) (letters z.row))) (when_no R (word_eq (letters x.row) (letters z.row)) (m.means x.code) (greater_other o z x a))
      ∙ ring.zero-add R (coeff (sum_of m xs) (letters z.row))
      ∙ coeff-above z xs (above-rest o z x xs a f.0) f.1

  -- the first word's coefficient is what its code means
  coeff_first : (x : Term) (xs : List Term) → Falls o (x ∷ xs) → coeff (sum_of m (x ∷ xs)) (letters x.row) ≡ m.means x.code
  unfolding sum_of coeff
  coeff_first x xs f =
      ap (λ y. R.add y (coeff (sum_of m xs) (letters x.row))) (when_yes R (word_eq (letters x.row) (letters x.row)) (m.means x.code) refl)
      ∙ ap (R.add (m.means x.code)) (coeff-above x xs f.0 f.1)
      ∙ ring.add-zero R (m.means x.code)

  -- only the code 0 means zero
  not_zero : (x : Term) → IsTerm m n x → ¬ (x.code ≡ 0) → ¬ (m.means x.code ≡ R.zero)
  not_zero x g nz e = nz (m.distinct x.code 0 g.in_use m.zero_code.in_use (e ∙ sym m.zero_code.is))

  rest-equal : (x : Term) (xs ys : List Term) → sum_of m (x ∷ xs) ≈ sum_of m (x ∷ ys) → sum_of m xs ≈ sum_of m ys
  unfolding sum_of coeff
  rest-equal x xs ys h w =
      let a = when R (word_eq (letters x.row) w) (m.means x.code) in
      ring.add_cancel R (coeff (sum_of m xs) w) (coeff (sum_of m ys) w) a (ring.add_comm R (coeff (sum_of m xs) w) a ∙ h w ∙ ring.add_comm R a (coeff (sum_of m ys) w))

  same-term : (x y : Term) → IsTerm m n x → IsTerm m n y → letters x.row ≡ letters y.row → m.means x.code ≡ m.means y.code → x ≡ y
  same-term x y g h e k =
      let p = same_row n x.row y.row g.word h.word e in
      let q = m.distinct x.code y.code g.in_use h.in_use k in
      λ i. record { row = p i; code = q i }

  pub without_first : (x : Term) (xs : List Term) → KeptTerms m o n (x ∷ xs) → KeptTerms m o n xs
  without_first x xs k = record { terms = k.terms.1; kept = record { falls = k.kept.falls.1; none_zero = k.kept.none_zero.1 } }

  pub kept-equal : (xs ys : List Term) → KeptTerms m o n xs → KeptTerms m o n ys → sum_of m xs ≈ sum_of m ys → xs ≡ ys
  unfolding sum_of coeff
  kept-equal [] [] a b h = refl
  kept-equal [] (y ∷ ys) a b h = absurd (not_zero y b.terms.0 b.kept.none_zero.0 (sym (coeff_first y ys b.kept.falls) ∙ sym (h (letters y.row))))
  kept-equal (x ∷ xs) [] a b h = absurd (not_zero x a.terms.0 a.kept.none_zero.0 (sym (coeff_first x xs a.kept.falls) ∙ h (letters x.row)))
  kept-equal (x ∷ xs) (y ∷ ys) a b h = at (kept-equal xs ys) (compare_terms o x y) refl
    where
      at : (KeptTerms m o n xs → KeptTerms m o n ys → sum_of m xs ≈ sum_of m ys → xs ≡ ys) → (r : Ordering) → compare_terms o x y ≡ r → x ∷ xs ≡ y ∷ ys
      at go Less e =
          absurd (not_zero y b.terms.0 b.kept.none_zero.0
          (sym (coeff_first y ys b.kept.falls) ∙ sym (h (letters y.row)) ∙ coeff-above y (x ∷ xs) (greater_of_less o x y e) a.kept.falls))
      at go Greater e =
          absurd (not_zero x a.terms.0 a.kept.none_zero.0
          (sym (coeff_first x xs a.kept.falls) ∙ h (letters x.row) ∙ coeff-above x (y ∷ ys) e b.kept.falls))
      at go Equal e =
          let w = equal-terms o x y e in
          let k = sym (coeff_first x xs a.kept.falls) ∙ h (letters x.row) ∙ ap (coeff (sum_of m (y ∷ ys))) w ∙ coeff_first y ys b.kept.falls in
          let s = same-term x y a.terms.0 b.terms.0 w k in
          let t = go (without_first x xs a) (without_first y ys b) (rest-equal x xs ys (subst (λ z. sum_of m (x ∷ xs) ≈ sum_of m (z ∷ ys)) (sym s) h)) in
          λ i. s i ∷ t i

  pub none_kept : KeptTerms m o n []
  none_kept = record { terms = tt; kept = record { falls = tt; none_zero = tt } }

  pub kept-empty : (xs : List Term) → KeptTerms m o n xs → sum_of m xs ≈ [] → xs ≡ []
  unfolding sum_of
  kept-empty xs k h = kept-equal xs [] k none_kept h
