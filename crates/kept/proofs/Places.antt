-- Where a term belongs, one place further on; and the insertion by that place.
use Rattle.std.proofs.Common.{◌≡◌, ℕ, suc, ◌+◌, ◌-◌, ◌≤◌, Bool, true, false, cond, eqb, List, [], ◌∷◌, ◌++◌, get_or, take, drop, set, Ok, Err, Result, Ordering, Less, Equal, Greater, sym, refl, ap, ◌∙◌, arith}
use Rattle.std.proofs.lemmas.List.{get_or-drop, drop-set-add, replicate_more, take-take, take-replicate}
use Rattle.orders.specs.Letters.{letters}
use Rattle.orders.specs.Models.{OrderModel}
use Rattle.words.specs.Compare.{compare_words}
use Rattle.words.specs.declared.term.Term.{Term}
use Rattle.kept.specs.Kept.{place, present, compare_terms, by_order, placed, fresh, merged, onto, insert}
use Rattle.kept.specs.Search.{found_place}
use Rattle.kept.specs.Terms.{blanks}
use Rattle.words.specs.Terms.{blank}
use Rattle.kept.specs.declared.fault.KeptFault.{KeptFault}
use Rattle.kept.specs.declared.fault.KeptFault.TheVariants.{Sum, Full}
use Rattle.std.specs.List.{insert as inserted, remove}
use Rattle.std.proofs.lemmas.Bool.{true≢false, false≢true, ne_eqb}
use Rattle.coefficients.specs.Coding.{Coding}
use Rattle.coefficients.specs.declared.fault.RingFault.{RingFault}

-- a term's place depends on its row alone
same_place : (o : OrderModel) (s t : Term) (xs : List Term) → s.row ≡ t.row → (place o s xs ≡ place o t xs) × (present o s xs ≡ present o t xs)
unfolding compare_terms
same_place o s t [] e = (refl, refl)
same_place o s t (x ∷ xs) e =
    let h = same_place o s t xs e in
    let c : compare_terms o x s ≡ compare_terms o x t = ap (λ r. compare_words o (letters x.row) (letters r)) e in (
      ap (λ r. by_order r 0 0 (suc (place o s xs))) c ∙ ap (λ n. by_order (compare_terms o x t) 0 0 (suc n)) h.0,
      ap (λ r. by_order r false true (present o s xs)) c ∙ ap (by_order (compare_terms o x t) false true) h.1,
    )

ok_cases : (b : Bool) (p q : ℕ) → ◌≡◌ {A = Result ℕ ℕ} (Ok p) (cond b (Ok q) (Err q)) → (p ≡ q) × (true ≡ b)
ok_cases true p q h = (cc, refl)
ok_cases false p q h = absurd (cc)

err_cases : (b : Bool) (p q : ℕ) → ◌≡◌ {A = Result ℕ ℕ} (Err p) (cond b (Ok q) (Err q)) → (p ≡ q) × (false ≡ b)
err_cases true p q h = absurd (cc)
err_cases false p q h = (cc, refl)

-- what a search for the row of t tells of t
module _ (o : OrderModel) (u t : Term) (xs : List Term) (s p : ℕ) (same : u.row ≡ t.row) where
  pub found_here : Ok p ≡ found_place o s u xs → (p ≡ s + place o t xs) × (true ≡ present o t xs)
  found_here h =
      let e = ok_cases (present o u xs) p (s + place o u xs) h in
      let k = same_place o u t xs same in
      (e.0 ∙ ap (λ n. s + n) k.0, e.1 ∙ k.1)

  pub found_absent : Err p ≡ found_place o s u xs → (p ≡ s + place o t xs) × (false ≡ present o t xs)
  found_absent h =
      let e = err_cases (present o u xs) p (s + place o u xs) h in
      let k = same_place o u t xs same in
      (e.0 ∙ ap (λ n. s + n) k.0, e.1 ∙ k.1)

onto-full : (x : Term) (l : List Term) (b : Bool) → onto x (cond b (Err Full) (Ok l)) ≡ cond b (Err Full) (Ok (x ∷ l))
onto-full x l true = refl
onto-full x l false = refl

-- the sum at place k, or no term there
abbrev pub summed : List Term → ℕ → Term → Result ℕ RingFault → Result (List Term) KeptFault
summed l k d (Ok c) = cond (eqb c 0) (Ok (remove l k)) (Ok (set l k (record { row = (get_or l k d).row; code = c })))
summed l k d (Err e) = Err (Sum e)

onto_either : (x : Term) (l r : List Term) (b : Bool) → onto x (cond b (Ok l) (Ok r)) ≡ cond b (Ok (x ∷ l)) (Ok (x ∷ r))
onto_either x l r true = refl
onto_either x l r false = refl

onto-summed : (x : Term) (l : List Term) (k : ℕ) (d : Term) (r : Result ℕ RingFault) → onto x (summed l k d r) ≡ summed (x ∷ l) (suc k) d r
onto-summed x l k d (Ok c) = onto_either x (remove l k) (set l k (record { row = (get_or l k d).row; code = c })) (eqb c 0)
onto-summed x l k d (Err e) = refl

merged-summed : (x : Term) (xs : List Term) (d : Term) (r : Result ℕ RingFault) → merged x xs r ≡ summed (x ∷ xs) 0 d r
merged-summed x xs d (Ok c) = refl
merged-summed x xs d (Err e) = refl

module _ (m : Coding) (o : OrderModel) (room : ℕ) (t : Term) where
  new_at : (x : Term) (xs : List Term)
      → (present o t xs ≡ false → placed m o room t xs ≡ cond (eqb room 0) (Err Full) (Ok (inserted xs (place o t xs) t)))
      → (r : Ordering) → by_order r false true (present o t xs) ≡ false
      → by_order r (fresh room t (x ∷ xs)) (merged x xs (m.sum x.code t.code)) (onto x (placed m o room t xs)) ≡ cond (eqb room 0) (Err Full) (Ok (inserted (x ∷ xs) (by_order r 0 0 (suc (place o t xs))) t))
  new_at x xs below Less h = refl
  new_at x xs below Equal h = absurd (true≢false h)
  new_at x xs below Greater h = ap (onto x) (below h) ∙ onto-full x (inserted xs (place o t xs) t) (eqb room 0)

  pub placed-new : (xs : List Term) → present o t xs ≡ false → placed m o room t xs ≡ cond (eqb room 0) (Err Full) (Ok (inserted xs (place o t xs) t))
  placed-new [] h = refl
  placed-new (x ∷ xs) h = new_at x xs (placed-new xs) (compare_terms o x t) h

  here_at : (d x : Term) (xs : List Term)
      → (present o t xs ≡ true → placed m o room t xs ≡ summed xs (place o t xs) d (m.sum (get_or xs (place o t xs) d).code t.code))
      → (r : Ordering) → by_order r false true (present o t xs) ≡ true
      → by_order r (fresh room t (x ∷ xs)) (merged x xs (m.sum x.code t.code)) (onto x (placed m o room t xs))
      ≡ summed (x ∷ xs) (by_order r 0 0 (suc (place o t xs))) d (m.sum (get_or (x ∷ xs) (by_order r 0 0 (suc (place o t xs))) d).code t.code)
  here_at d x xs below Less h = absurd (false≢true h)
  here_at d x xs below Equal h = merged-summed x xs d (m.sum x.code t.code)
  here_at d x xs below Greater h = ap (onto x) (below h) ∙ onto-summed x xs (place o t xs) d (m.sum (get_or xs (place o t xs) d).code t.code)

  pub placed_here : (d : Term) (xs : List Term) → present o t xs ≡ true → placed m o room t xs ≡ summed xs (place o t xs) d (m.sum (get_or xs (place o t xs) d).code t.code)
  placed_here d [] h = absurd (false≢true h)
  placed_here d (x ∷ xs) h = here_at d x xs (placed_here d xs) (compare_terms o x t) h

pub summed-zero : (l : List Term) (k : ℕ) (d : Term) (c : ℕ) → c ≡ 0 → summed l k d (Ok c) ≡ Ok (remove l k)
summed-zero l k d c e = rw e

pub summed-more : (l : List Term) (k : ℕ) (d : Term) (c : ℕ) → (c ≡ 0 → ⊥) → summed l k d (Ok c) ≡ Ok (set l k (record { row = (get_or l k d).row; code = c }))
summed-more l k d c n = rw (ne_eqb c 0 n)

-- the insertion at the place p of the memory xs, whose list starts at s
module _ (m : Coding) (o : OrderModel) (t : Term) (xs : List Term) (s p : ℕ) (some : t.code ≡ 0 → ⊥) (at : p ≡ s + place o t (drop s xs)) where
  offset : place o t (drop s xs) ≡ p - s
  offset = omega arith

  pub insert_here : (d : Term) (r : Result ℕ RingFault) → true ≡ present o t (drop s xs) → r ≡ m.sum (get_or xs p d).code t.code
      → insert m o s t (drop s xs) ≡ summed (drop s xs) (p - s) d r
  insert_here d r h e =
      let read : get_or (drop s xs) (place o t (drop s xs)) d ≡ get_or xs p d = get_or-drop s xs (place o t (drop s xs)) d ∙ ap (λ i. get_or xs i d) (sym at) in
      ap (λ b. cond b (Ok (drop s xs)) (placed m o s t (drop s xs))) (ne_eqb t.code 0 some)
      ∙ placed_here m o s t d (drop s xs) (sym h)
      ∙ ap (λ y. summed (drop s xs) (place o t (drop s xs)) d (m.sum y.code t.code)) read
      ∙ ap (summed (drop s xs) (place o t (drop s xs)) d) (sym e)
      ∙ ap (λ k. summed (drop s xs) k d r) offset

  pub insert-new : false ≡ present o t (drop s xs) → insert m o s t (drop s xs) ≡ cond (eqb s 0) (Err Full) (Ok (inserted (drop s xs) (p - s) t))
  insert-new h =
      ap (λ b. cond b (Ok (drop s xs)) (placed m o s t (drop s xs))) (ne_eqb t.code 0 some)
      ∙ placed-new m o s t (drop s xs) (sym h)
      ∙ ap (λ k. cond (eqb s 0) (Err Full) (Ok (inserted (drop s xs) k t))) offset

  pub code-set : (d : Term) (c : ℕ) → drop s (set xs p (record { row = (get_or xs p d).row; code = c })) ≡ set (drop s xs) (p - s) (record { row = (get_or (drop s xs) (p - s) d).row; code = c })
  code-set d c =
      let e : p ≡ s + (p - s) = omega arith in
      ap (λ i. drop s (set xs i (record { row = (get_or xs i d).row; code = c }))) e
      ∙ drop-set-add s xs (p - s) (record { row = (get_or xs (s + (p - s)) d).row; code = c })
      ∙ ap (λ y. set (drop s xs) (p - s) (record { row = y.row; code = c })) (sym (get_or-drop s xs (p - s) d))

pub blanks-more : (xs ys : List Term) (s : ℕ) → take (s + 1) ys ≡ take s xs ++ blank ∷ [] → take s xs ≡ blanks s → take (s + 1) ys ≡ blanks (s + 1)
blanks-more xs ys s e h = e ∙ ap (λ l. l ++ blank ∷ []) h ∙ replicate_more s blank

pub blanks_less : (xs ys : List Term) (s q : ℕ) → q ≤ s → take q ys ≡ take q xs → take s xs ≡ blanks s → take q ys ≡ blanks q
blanks_less xs ys s q l e h = e ∙ sym (take-take q s xs l) ∙ ap (take q) h ∙ take-replicate q s blank l
