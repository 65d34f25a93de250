-- The laws of comparing terms, and places in a list whose words fall.
use Rattle.std.proofs.Common.{◌≡◌, ℕ, zero, suc, ◌-◌, ◌<◌, ◌≤◌, true, false, ◌⊎◌, List, [], ◌∷◌, length, get_or, Less, Equal, Greater, sym, refl, ap, ◌∙◌, subst, inl, inr, arith}
use Rattle.orders.specs.Letters.{letters}
use Rattle.orders.specs.Models.{OrderModel}
use Rattle.orders.specs.Orders.{reversed}
use Rattle.words.specs.Compare.{compare_words}
use Rattle.words.specs.declared.term.Term.{Term}
use Rattle.words.proofs.Ranking.{words_ordered}
use Rattle.kept.specs.Kept.{compare_terms, by_order, place, present}
use Rattle.kept.specs.Falling.{Falls}

module _ (o : OrderModel) where
  pub turned : (x y : Term) → compare_terms o y x ≡ reversed (compare_terms o x y)
  unfolding compare_terms
  turned x y = (words_ordered o).converse (letters x.row) (letters y.row) tt tt

  pub greater_of_less : (x y : Term) → compare_terms o x y ≡ Less → compare_terms o y x ≡ Greater
  greater_of_less x y h = turned x y ∙ ap reversed h

  pub less_of_greater : (x y : Term) → compare_terms o x y ≡ Greater → compare_terms o y x ≡ Less
  less_of_greater x y h = turned x y ∙ ap reversed h

  pub equal_turned : (x y : Term) → compare_terms o x y ≡ Equal → compare_terms o y x ≡ Equal
  equal_turned x y h = turned x y ∙ ap reversed h

  pub greater_trans : (x y z : Term) → compare_terms o x y ≡ Greater → compare_terms o y z ≡ Greater → compare_terms o x z ≡ Greater
  unfolding compare_terms
  greater_trans x y z h k =
      greater_of_less z x ((words_ordered o).transitive (letters z.row) (letters y.row) (letters x.row) tt tt tt (less_of_greater y z k) (less_of_greater x y h))

  -- what is greater than a word is greater than the same word
  pub greater_equal : (x y z : Term) → compare_terms o x y ≡ Greater → compare_terms o y z ≡ Equal → compare_terms o x z ≡ Greater
  unfolding compare_terms
  greater_equal x y z h k =
      ap (compare_words o (letters x.row)) (sym ((words_ordered o).antisymmetric (letters y.row) (letters z.row) tt tt k)) ∙ h

  -- a term is greater than all that stand behind it
  pub falls-all : (x : Term) (xs : List Term) → Falls o (x ∷ xs) → (j : ℕ) (d : Term) → j < length xs → compare_terms o x (get_or xs j d) ≡ Greater
  falls-all x [] f j d h = absurd (omega arith)
  falls-all x (y ∷ xs) f zero d h = f.0
  falls-all x (y ∷ xs) f (suc j) d h = greater_trans x y (get_or xs j d) f.0 (falls-all y xs f.1 j d (omega arith))

  -- the place and the presence of t in a list whose first term is greater
  behind : (t x : Term) (xs : List Term) → compare_terms o x t ≡ Greater → (place o t (x ∷ xs) ≡ suc (place o t xs)) × (present o t (x ∷ xs) ≡ present o t xs)
  behind t x xs h = (ap (λ r. by_order r 0 0 (suc (place o t xs))) h, ap (λ r. by_order r false true (present o t xs)) h)

  -- t's word stands at k
  pub found_at : (t : Term) (xs : List Term) (k : ℕ) (d : Term) → Falls o xs → k < length xs → compare_terms o (get_or xs k d) t ≡ Equal → (place o t xs ≡ k) × (present o t xs ≡ true)
  found_at t [] k d f h e = absurd (omega arith)
  found_at t (x ∷ xs) zero d f h e = (ap (λ r. by_order r 0 0 (suc (place o t xs))) e, ap (λ r. by_order r false true (present o t xs)) e)
  found_at t (x ∷ xs) (suc k) d f h e =
      let g = greater_equal x (get_or xs k d) t (falls-all x xs f k d (omega arith)) e in
      let b = behind t x xs g in
      let r = found_at t xs k d f.1 (omega arith) e in
      (b.0 ∙ ap suc r.0, b.1 ∙ r.1)

  -- t belongs before the place k
  pub belongs_at : (t : Term) (xs : List Term) (k : ℕ) (d : Term) → Falls o xs → k ≤ length xs
      → (k ≡ 0) ⊎ ((0 < k) × (compare_terms o (get_or xs (k - 1) d) t ≡ Greater)) → (k ≡ length xs) ⊎ (compare_terms o (get_or xs k d) t ≡ Less)
      → (place o t xs ≡ k) × (present o t xs ≡ false)
  belongs_at t [] k d f h low high = (omega arith, refl)
  belongs_at t (x ∷ xs) zero d f h low (inl e) = absurd (omega arith)
  belongs_at t (x ∷ xs) zero d f h low (inr e) = (ap (λ r. by_order r 0 0 (suc (place o t xs))) e, ap (λ r. by_order r false true (present o t xs)) e)
  belongs_at t (x ∷ xs) (suc k) d f h (inl e) high = absurd (omega arith)
  belongs_at t (x ∷ xs) (suc k) d f h (inr l) high =
      let b = behind t x xs (first k (omega arith) l.1) in
      let r = belongs_at t xs k d f.1 (omega arith) (lower k (omega arith) l.1) (upper high) in
      (b.0 ∙ ap suc r.0, b.1 ∙ r.1)
    where
      first : (k : ℕ) → k ≤ length xs → compare_terms o (get_or (x ∷ xs) (suc k - 1) d) t ≡ Greater → compare_terms o x t ≡ Greater
      first zero h e = e
      first (suc k) h e = greater_trans x (get_or xs k d) t (falls-all x xs f k d (omega arith)) (subst (λ i. compare_terms o (get_or (x ∷ xs) i d) t ≡ Greater) (back k) e)
        where
          back : (k : ℕ) → suc (suc k) - 1 ≡ suc k
          back k = omega arith

      lower : (k : ℕ) → k ≤ length xs → compare_terms o (get_or (x ∷ xs) (suc k - 1) d) t ≡ Greater → (k ≡ 0) ⊎ ((0 < k) × (compare_terms o (get_or xs (k - 1) d) t ≡ Greater))
      lower zero h e = inl refl
      lower (suc k) h e = inr (omega arith, subst (λ i. compare_terms o (get_or (x ∷ xs) i d) t ≡ Greater) (back k) e)
        where
          back : (k : ℕ) → suc (suc k) - 1 ≡ suc (suc k - 1)
          back k = omega arith

      upper : (suc k ≡ length (x ∷ xs)) ⊎ (compare_terms o (get_or (x ∷ xs) (suc k) d) t ≡ Less) → (k ≡ length xs) ⊎ (compare_terms o (get_or xs k d) t ≡ Less)
      upper (inl e) = inl (omega arith)
      upper (inr e) = inr e
