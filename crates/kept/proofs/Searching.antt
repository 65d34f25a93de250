-- What one comparison tells of a search, and where the search ends.
use Rattle.std.proofs.Common.{◌≡◌, ℕ, ◌+◌, ◌-◌, ◌<◌, ◌≤◌, true, false, ◌⊎◌, List, length, get_or, drop, Ok, Err, Result, Less, Equal, Greater, sym, ap, ◌∙◌, subst, inl, inr, arith}
use Rattle.std.proofs.lemmas.List.{get_or-drop, length-drop}
use Rattle.orders.specs.Letters.{letters}
use Rattle.orders.specs.Models.{OrderModel}
use Rattle.words.specs.Compare.{compare_words}
use Rattle.words.specs.declared.measured.Measured.{Measured}
use Rattle.words.specs.declared.term.Term.{Term}
use Rattle.kept.specs.Falling.{Falls}
use Rattle.kept.specs.Kept.{compare_terms, place, present}
use Rattle.kept.specs.Search.{Found, Passed, Ahead, Settled, found_place, measured_term}
use Rattle.kept.specs.Terms.{nil_term}
use Rattle.kept.proofs.Ordered.{equal_turned, greater_of_less, less_of_greater, found_at, belongs_at}

module _ (o : OrderModel) (work : List Term) (start : ℕ) where
  module _ (t : Measured) (p : ℕ) where
    pub passed-next : start ≤ p → Less ≡ compare_words o (letters t.row) (letters (get_or work p nil_term).row) → Passed o work start (measured_term t) (p + 1)
    unfolding compare_terms
    passed-next h e = inr (omega arith, subst (λ i. compare_terms o (get_or work i nil_term) (measured_term t) ≡ Greater) back (greater_of_less o (measured_term t) (get_or work p nil_term) (sym e)))
      where
        back : p ≡ p + 1 - 1
        back = omega arith

    pub ahead_here : Greater ≡ compare_words o (letters t.row) (letters (get_or work p nil_term).row) → Ahead o work (measured_term t) p
    unfolding compare_terms
    ahead_here e = inr (less_of_greater o (measured_term t) (get_or work p nil_term) (sym e))

    pub found_here : start ≤ p → p < length work → Equal ≡ compare_words o (letters t.row) (letters (get_or work p nil_term).row) → Found o work start (measured_term t) p
    unfolding compare_terms
    found_here h l e = (h, l, equal_turned o (measured_term t) (get_or work p nil_term) (sym e))

  module _ (falls : Falls o (drop start work)) (t : Term) where
    -- the place p of the memory is the place p - start of the list
    at : (p : ℕ) → start ≤ p → get_or (drop start work) (p - start) nil_term ≡ get_or work p nil_term
    at p h = get_or-drop start work (p - start) nil_term ∙ ap (λ i. get_or work i nil_term) here
      where
        here : start + (p - start) ≡ p
        here = omega arith

    found-place : (p : ℕ) → Found o work start t p → (p ≡ start + place o t (drop start work)) × (true ≡ present o t (drop start work))
    found-place p f =
        let h : start ≤ p = f.0 in
        let l : p < length work = f.1 in
        let r = found_at o t (drop start work) (p - start) nil_term falls (simp length-drop (omega arith)) (ap (λ x. compare_terms o x t) (at p h) ∙ f.2) in
        (omega (arith, r.0), sym r.1)

    between_place : (p : ℕ) → start ≤ p → p ≤ length work → Passed o work start t p → Ahead o work t p → (p ≡ start + place o t (drop start work)) × (false ≡ present o t (drop start work))
    between_place p h l low high =
        let r = belongs_at o t (drop start work) (p - start) nil_term falls (simp length-drop (omega arith)) (lower low) (upper high) in
        (omega (arith, r.0), sym r.1)
      where
        lower : Passed o work start t p → (p - start ≡ 0) ⊎ ((0 < p - start) × (compare_terms o (get_or (drop start work) (p - start - 1) nil_term) t ≡ Greater))
        lower (inl e) = inl (omega arith)
        lower (inr e) =
            let s : start < p = e.0 in
            let i : p - start - 1 ≡ p - 1 - start = omega arith in
            inr (omega arith, ap (λ k. compare_terms o (get_or (drop start work) k nil_term) t) i ∙ ap (λ x. compare_terms o x t) (at (p - 1) (omega arith)) ∙ e.1)

        upper : Ahead o work t p → (p - start ≡ length (drop start work)) ⊎ (compare_terms o (get_or (drop start work) (p - start) nil_term) t ≡ Less)
        upper (inl e) = inl (simp length-drop (omega arith))
        upper (inr e) = inr (ap (λ x. compare_terms o x t) (at p h) ∙ e)

    -- where a search ends is the place of t
    pub settled : (r : Result ℕ ℕ) → Settled o work start t r → r ≡ found_place o start t (drop start work)
    settled (Ok p) h = let e = found-place p h in rw (← e.1) (ap Ok e.0)
    settled (Err p) h = let e = between_place p h.0 h.1 h.2 h.3 in rw (← e.1) (ap Err e.0)
