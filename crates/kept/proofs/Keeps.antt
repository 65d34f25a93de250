-- An insertion keeps a kept list kept.
use Rattle.std.proofs.Common.{◌≡◌, ℕ, Bool, true, false, cond, eqb, List, [], ◌∷◌, Ok, Err, Result, Ordering, Less, Equal, Greater, sym, refl, subst, arith}
use Rattle.std.proofs.lemmas.Bool.{eqb-true, eqb-false}
use Rattle.coefficients.specs.Coding.{Coding}
use Rattle.coefficients.specs.declared.fault.RingFault.{RingFault}
use Rattle.orders.specs.Models.{OrderModel}
use Rattle.words.specs.declared.term.Term.{Term}
use Rattle.kept.specs.declared.fault.KeptFault.{KeptFault}
use Rattle.kept.specs.declared.fault.KeptFault.TheVariants.{Full}
use Rattle.kept.specs.Kept.{compare_terms, by_order, fresh, merged, onto, placed, insert}
use Rattle.kept.specs.Falling.{Above, Falls}
use Rattle.kept.proofs.Ordered.{greater_of_less, greater_trans}

pub full : (room : ℕ) (t : Term) (xs ys : List Term) → fresh room t xs ≡ Ok ys → ys ≡ t ∷ xs
full room t xs ys h = at (eqb room 0) h
  where
    at : (b : Bool) → cond b (Err Full) (Ok (t ∷ xs)) ≡ Ok ys → ys ≡ t ∷ xs
    at true h = let z : ◌≡◌ {A = ℕ} 0 1 = cc in absurd (omega arith)
    at false h = cc

pub onto-ok : (x : Term) (r : Result (List Term) KeptFault) (ys : List Term) → onto x r ≡ Ok ys → (zs : List Term) × (r ≡ Ok zs) × (ys ≡ x ∷ zs)
onto-ok x (Ok zs) ys h = (zs, refl, cc)
onto-ok x (Err e) ys h = let z : ◌≡◌ {A = ℕ} 0 1 = cc in absurd (omega arith)

data Merge (x : Term) (xs ys : List Term) : Type 0 where
  gone : ys ≡ xs → Merge x xs ys
  stays : (c : ℕ) → ys ≡ record { row = x.row; code = c } ∷ xs → Merge x xs ys

merge_ok : (x : Term) (xs ys : List Term) (r : Result ℕ RingFault) → merged x xs r ≡ Ok ys → Merge x xs ys
merge_ok x xs ys (Ok c) h = at (eqb c 0) h
  where
    at : (b : Bool) → ◌≡◌ {A = Result (List Term) KeptFault} (cond b (Ok xs) (Ok (record { row = x.row; code = c } ∷ xs))) (Ok ys) → Merge x xs ys
    at true h = gone cc
    at false h = stays c cc
merge_ok x xs ys (Err e) h = let z : ◌≡◌ {A = ℕ} 0 1 = cc in absurd (omega arith)

module _ (m : Coding) (o : OrderModel) (room : ℕ) (t : Term) where
  -- the list falls, and what was above the list and t is above it
  abbrev pub Good : List Term → List Term → Type 0
  Good xs ys = Falls o ys × ((z : Term) → Above o z xs → compare_terms o z t ≡ Greater → Above o z ys)

  above-tail : (z x : Term) (xs : List Term) → compare_terms o z x ≡ Greater → Above o x xs → Above o z xs
  above-tail z x [] h a = tt
  above-tail z x (y ∷ ys) h a = greater_trans o z x y h a

  -- a term's place depends on its row alone
  same_row : (x : Term) (c : ℕ) (xs : List Term) → Above o x xs → Above o (record { row = x.row; code = c }) xs
  unfolding compare_terms
  same_row x c [] a = tt
  same_row x c (y ∷ ys) a = a

  same_row_below : (z x : Term) (c : ℕ) → compare_terms o z x ≡ Greater → compare_terms o z (record { row = x.row; code = c }) ≡ Greater
  unfolding compare_terms
  same_row_below z x c h = h

  after_merge : (x : Term) (xs ys : List Term) → Falls o (x ∷ xs) → Merge x xs ys → Good (x ∷ xs) ys
  after_merge x xs ys f (gone e) = subst (λ l. Good (x ∷ xs) l) (sym e) (f.1, λ z a _. above-tail z x xs a f.0)
  after_merge x xs ys f (stays c e) = subst (λ l. Good (x ∷ xs) l) (sym e) ((same_row x c xs f.0, f.1), λ z a _. same_row_below z x c a)

  by : (x : Term) (xs ys : List Term) → Falls o (x ∷ xs)
      → ((zs : List Term) → placed m o room t xs ≡ Ok zs → Good xs zs)
      → (r : Ordering) → compare_terms o x t ≡ r
      → by_order r (fresh room t (x ∷ xs)) (merged x xs (m.sum x.code t.code)) (onto x (placed m o room t xs)) ≡ Ok ys → Good (x ∷ xs) ys
  by x xs ys f below Less e h = subst (λ l. Good (x ∷ xs) l) (sym (full room t (x ∷ xs) ys h)) ((greater_of_less o x t e, f), λ z _ g. g)
  by x xs ys f below Equal e h = after_merge x xs ys f (merge_ok x xs ys (m.sum x.code t.code) h)
  by x xs ys f below Greater e h =
      let q = onto-ok x (placed m o room t xs) ys h in
      let b = below q.0 q.1 in
      subst (λ l. Good (x ∷ xs) l) (sym q.2) ((b.1 x f.0 e, b.0), λ z a _. a)

  pub placed-falls : (xs ys : List Term) → Falls o xs → placed m o room t xs ≡ Ok ys → Good xs ys
  placed-falls [] ys f h = subst (λ l. Good [] l) (sym (full room t [] ys h)) ((tt, tt), λ z _ g. g)
  placed-falls (x ∷ xs) ys f h = by x xs ys f (λ zs q. placed-falls xs zs f.1 q) (compare_terms o x t) refl h

  -- a term that is zero changes nothing
  inserted_cases : (xs ys : List Term) (P : List Term → Type 0) → (t.code ≡ 0 → P xs) → ((t.code ≡ 0 → ⊥) → placed m o room t xs ≡ Ok ys → P ys) → insert m o room t xs ≡ Ok ys → P ys
  inserted_cases xs ys P same new h = at (eqb t.code 0) refl h
    where
      at : (b : Bool) → eqb t.code 0 ≡ b → cond b (Ok xs) (placed m o room t xs) ≡ Ok ys → P ys
      at true e h = let q : xs ≡ ys = cc in subst P q (same (eqb-true t.code 0 e))
      at false e h = new (eqb-false t.code 0 e) h

  pub insert-falls : (xs ys : List Term) → Falls o xs → insert m o room t xs ≡ Ok ys → Falls o ys
  insert-falls xs ys f = inserted_cases xs ys (Falls o) (λ _. f) (λ _ h. (placed-falls xs ys f h).0)
