-- The pieces of a tail taken one by one, and the terms that they make.
use Rattle.std.proofs.Common.{◌≡◌, ℕ, ◌+◌, ◌<◌, ◌≤◌, List, [], ◌∷◌, ◌++◌, map, length, get_or, drop, Ok, Err, Result, Vec, sym, refl, ap, ◌∙◌, subst, append_assoc}
use Rattle.std.proofs.lemmas.List.{at_drop_more, at_drop_all}
use Rattle.std.specs.declared.alloc.Global.{Global}
use Rattle.coefficients.specs.Coding.{Coding}
use Rattle.words.specs.declared.term.Term.{Term}
use Rattle.words.specs.Growth.{grown}
use Rattle.grammar.specs.declared.piece.Piece.{Piece}
use Rattle.grammar.specs.Forms.{TermForm, term_pieces}
use Rattle.grammar.specs.Pieces.{Shown, a_generator, a_coefficient, shown}
use Rattle.answers.specs.declared.fault.ScriptFault.{ScriptFault}
use Rattle.answers.specs.declared.failure.Failure.{Failure}
use Rattle.answers.specs.declared.failure.Failure.TheVariants.{Refused, Memory}
use Rattle.evaluation.specs.Coefficients.{and_then, by_ring}
use Rattle.evaluation.specs.Working.{by_word, term_of}
use Rattle.evaluation.specs.Tails.{grown_by, made_term, made_terms, Draft, all_terms, taken, all_taken, tail_of, Made, Grown}
use Rattle.evaluation.proofs.Answering.{then_assoc, then_same, then_ok}

module _ (m : Coding) where
  -- the next term begun
  pub begun : (d : Draft) (a : List ℕ) (c : ℕ) (done : List Term) (w : List ℕ) → Ok c ≡ m.read a → done ≡ all_terms d → w ≡ [] → taken m d (a_coefficient a) ≡ Ok (record { done = done; code = c; word = w })
  begun d a c done w read same none =
      ap (λ r. and_then (by_ring r) (λ k. Ok (record { done = all_terms d; code = k; word = [] }))) (sym read)
      ∙ ap (λ l. Ok (record { done = l; code = c; word = [] })) (sym same) ∙ ap (λ l. Ok (record { done = done; code = c; word = l })) (sym none)

  -- what is left to take
  abbrev pub rest_taken : Draft → List Piece → Result (List Term) ScriptFault
  rest_taken d ps = all_taken m d (map shown ps)

  pub take_all : (d : Draft) (ps : List Piece) (i : ℕ) → length ps ≤ i → rest_taken d (drop i ps) ≡ Ok (all_terms d)
  unfolding all_taken
  take_all d ps i h = at_drop_all (rest_taken d) ps i h

  take_more : (d : Draft) (ps : List Piece) (i : ℕ) (p : Piece) → i < length ps → rest_taken d (drop i ps) ≡ and_then (taken m d (shown (get_or ps i p))) (λ e. rest_taken e (drop (i + 1) ps))
  unfolding all_taken
  take_more d ps i p h = at_drop_more (rest_taken d) ps i p h

  pub take_on : (d e : Draft) (ps : List Piece) (i : ℕ) (p : Piece) → i < length ps → taken m d (shown (get_or ps i p)) ≡ Ok e → rest_taken e (drop (i + 1) ps) ≡ rest_taken d (drop i ps)
  take_on d e ps i p h done = sym (take_more d ps i p h ∙ ap (λ r. and_then r (λ f. rest_taken f (drop (i + 1) ps))) done)

  pub take_stop : (d e : Draft) (ps : List Piece) (i : ℕ) (p : Piece) (x : Failure) → i < length ps → Grown (taken m d (shown (get_or ps i p))) e (Err x) → Made (rest_taken d (drop i ps)) (Err x)
  take_stop d e ps i p (Refused f) h refused = take_more d ps i p h ∙ ap (λ r. and_then r (λ g. rest_taken g (drop (i + 1) ps))) refused
  take_stop d e ps i p (Memory a) h refused = tt

  -- the generators of a term, then more pieces
  letters-taken : (done : List Term) (c : ℕ) (w xs : List ℕ) (ps : List Shown)
      → all_taken m (record { done = done; code = c; word = w }) (map a_generator xs ++ ps) ≡ and_then (grown_by w xs) (λ v. all_taken m (record { done = done; code = c; word = v }) ps)
  unfolding all_taken
  letters-taken done c w [] ps = refl
  letters-taken done c w (x ∷ xs) ps =
      then_assoc (by_word (grown w x)) (λ v. Ok (record { done = done; code = c; word = v })) (λ e. all_taken m e (map a_generator xs ++ ps))
      ∙ then_same (by_word (grown w x)) (λ v. all_taken m (record { done = done; code = c; word = v }) (map a_generator xs ++ ps)) (λ v. and_then (grown_by v xs) (λ u. all_taken m (record { done = done; code = c; word = u }) ps))
      (λ v. letters-taken done c v xs ps)
      ∙ sym (then_assoc (by_word (grown w x)) (λ v. grown_by v xs) (λ u. all_taken m (record { done = done; code = c; word = u }) ps))

  -- a term made, then the others, then f of them all
  one_by_one : (t : TermForm) (ts : List TermForm) (f : List Term → Result (List Term) ScriptFault)
      → and_then (by_ring (m.read t.coefficient)) (λ c. and_then (grown_by [] t.generators) (λ w. and_then (made_terms m ts) (λ us. f (term_of w c ∷ us)))) ≡ and_then (made_terms m (t ∷ ts)) f
  one_by_one t ts f = sym (
      then_assoc (made_term m t) (λ x. and_then (made_terms m ts) (λ us. Ok (x ∷ us))) f
      ∙ then_same (made_term m t) (λ x. and_then (and_then (made_terms m ts) (λ us. Ok (x ∷ us))) f) (λ x. and_then (made_terms m ts) (λ us. f (x ∷ us))) (λ x. then_assoc (made_terms m ts) (λ us. Ok (x ∷ us)) f)
      ∙ then_assoc (by_ring (m.read t.coefficient)) (λ c. and_then (grown_by [] t.generators) (λ w. Ok (term_of w c))) (λ x. and_then (made_terms m ts) (λ us. f (x ∷ us)))
      ∙ then_same (by_ring (m.read t.coefficient)) (λ c. and_then (and_then (grown_by [] t.generators) (λ w. Ok (term_of w c))) (λ x. and_then (made_terms m ts) (λ us. f (x ∷ us))))
      (λ c. and_then (grown_by [] t.generators) (λ w. and_then (made_terms m ts) (λ us. f (term_of w c ∷ us))))
      (λ c. then_assoc (grown_by [] t.generators) (λ w. Ok (term_of w c)) (λ x. and_then (made_terms m ts) (λ us. f (x ∷ us)))))

  -- the pieces of the terms behind a draft
  terms-taken : (ts : List TermForm) (done : List Term) (c : ℕ) (w : List ℕ)
      → all_taken m (record { done = done; code = c; word = w }) (term_pieces ts) ≡ and_then (made_terms m ts) (λ us. Ok (done ++ (term_of w c ∷ us)))
  unfolding all_taken
  terms-taken [] done c w = refl
  terms-taken (t ∷ ts) done c w =
      let all = done ++ term_of w c ∷ [] in
      let more = map a_generator t.generators ++ term_pieces ts in
      then_assoc (by_ring (m.read t.coefficient)) (λ k. Ok (record { done = all; code = k; word = [] })) (λ e. all_taken m e more)
      ∙ then_same (by_ring (m.read t.coefficient)) (λ k. all_taken m (record { done = all; code = k; word = [] }) more)
      (λ k. and_then (grown_by [] t.generators) (λ v. and_then (made_terms m ts) (λ us. Ok (done ++ (term_of w c ∷ (term_of v k ∷ us))))))
      (λ k. letters-taken all k [] t.generators (term_pieces ts)
      ∙ then_same (grown_by [] t.generators) (λ v. all_taken m (record { done = all; code = k; word = v }) (term_pieces ts))
      (λ v. and_then (made_terms m ts) (λ us. Ok (done ++ (term_of w c ∷ (term_of v k ∷ us)))))
      (λ v. terms-taken ts all k v ∙ then_same (made_terms m ts) (λ us. Ok (all ++ (term_of v k ∷ us))) (λ us. Ok (done ++ (term_of w c ∷ (term_of v k ∷ us))))
      (λ us. ap Ok (append_assoc done (term_of w c ∷ []) (term_of v k ∷ us)))))
      ∙ one_by_one t ts (λ us. Ok (done ++ (term_of w c ∷ us)))

  -- the pieces of terms make these terms
  pub tail_made : (ts : List TermForm) → tail_of m (term_pieces ts) ≡ made_terms m ts
  tail_made [] = refl
  tail_made (t ∷ ts) =
      then_same (by_ring (m.read t.coefficient)) (λ c. all_taken m (record { done = []; code = c; word = [] }) (map a_generator t.generators ++ term_pieces ts))
      (λ c. and_then (grown_by [] t.generators) (λ v. and_then (made_terms m ts) (λ us. Ok (term_of v c ∷ us))))
      (λ c. letters-taken [] c [] t.generators (term_pieces ts)
      ∙ then_same (grown_by [] t.generators) (λ v. all_taken m (record { done = []; code = c; word = v }) (term_pieces ts)) (λ v. and_then (made_terms m ts) (λ us. Ok (term_of v c ∷ us))) (λ v. terms-taken ts [] c v))
      ∙ one_by_one t ts (λ us. Ok us) ∙ then_ok (made_terms m (t ∷ ts))

pub made_at : {want want' : Result (List Term) ScriptFault} (r : Result (Vec Term Global) Failure) → want ≡ want' → Made want r → Made want' r
made_at r e h = subst (λ w. Made w r) e h
