-- Lists of terms are read back from their bytes: a part ends at the next space or bracket.
use Rattle.std.proofs.Common.{◌≡◌, ℕ, ◌+◌, ◌≤◌, Bool, true, false, cond, ltb, leb, ◌≢◌, ◌⊎◌, List, [], ◌∷◌, ◌++◌, drop, Ok, sym, refl, ap, ◌∙◌, ap₂, inl, inr, append_assoc, arith}
use Rattle.std.proofs.lemmas.Bool.{and_parts, leb-true}
use Rattle.std.proofs.lemmas.Fmt.{decimal_digit}
use Rattle.coefficients.specs.Coding.{Coding, Answer}
use Rattle.choices.specs.Writings.{Plain, WritesPlainly}
use Rattle.orders.specs.Letters.{is_letter, letters, letter_count}
use Rattle.words.specs.Rows.{row_of}
use Rattle.words.specs.declared.term.Term.{Term}
use Rattle.words.proofs.Filling.{row_of_letters}
use Rattle.normal_forms.specs.Terms.{IsTerm, AreTerms}
use Rattle.answers.specs.Text.{letters_bytes, term_bytes, terms_bytes, list_bytes}
use Rattle.answers.specs.Laws.{ToldApart}

-- it begins with a space or a closing bracket
abbrev Broken : List ℕ → Type 0
Broken [] = ⊥
Broken (b ∷ bs) = (b ≡ 32) ⊎ (b ≡ 41)

plain_head : (y b : ℕ) → (y ≢ 32) → (y ≢ 41) → (b ≡ 32) ⊎ (b ≡ 41) → b ≡ y → ⊥
plain_head y b p q (inl e) h = p (sym h ∙ e)
plain_head y b p q (inr e) h = q (sym h ∙ e)

-- a plain part ends at the next break
same-part : (a b c d : List ℕ) → Plain a → Plain b → Broken c → Broken d → a ++ c ≡ b ++ d → (a ≡ b) × (c ≡ d)
same-part [] [] c d p q g h e = (refl, e)
same-part [] (y ∷ b) [] d p q g h e = absurd g
same-part [] (y ∷ b) (z ∷ c) d p q g h e = let k : z ≡ y = cc in absurd (plain_head y z q.0 q.2 g k)
same-part (x ∷ a) [] c [] p q g h e = absurd h
same-part (x ∷ a) [] c (z ∷ d) p q g h e = let k : z ≡ x = cc in absurd (plain_head x z p.0 p.2 h k)
same-part (x ∷ a) (y ∷ b) c d p q g h e =
    let k : x ≡ y = cc in
    let l : a ++ c ≡ b ++ d = cc in
    let r = same-part a b c d p.3 q.3 g h l in
    (ap₂ (λ (z : ℕ) (zs : List ℕ). z ∷ zs) k r.0, r.1)

-- numbers that are written with one digit
abbrev Letters : List ℕ → Type 0
Letters [] = Unit {0}
Letters (x ∷ xs) = (x ≤ letter_count) × Letters xs

letters_are : (row : List ℕ) → Letters (letters row)
letters_are [] = tt
letters_are (x ∷ row) = go (is_letter x) refl (letters_are row)
  where
    go : (t : Bool) → is_letter x ≡ t → Letters (letters row) → Letters (cond t (x ∷ letters row) [])
    go true p l = (leb-true x letter_count (and_parts (ltb 0 x) (leb x letter_count) p).1, l)
    go false p l = tt

letters_broken : (xs r : List ℕ) → Broken (letters_bytes xs ++ (41 ∷ r))
letters_broken [] r = inr refl
letters_broken (x ∷ xs) r = inl refl

-- the letters of a term, up to its closing bracket
same-letters : (xs ys r s : List ℕ) → Letters xs → Letters ys → letters_bytes xs ++ (41 ∷ r) ≡ letters_bytes ys ++ (41 ∷ s) → (xs ≡ ys) × (r ≡ s)
same-letters [] [] r s g h e = (refl, ap (drop 1) e)
same-letters [] (y ∷ ys) r s g h e = let z : ◌≡◌ {A = ℕ} 41 32 = cc in absurd (omega arith)
same-letters (x ∷ xs) [] r s g h e = let z : ◌≡◌ {A = ℕ} 41 32 = cc in absurd (omega arith)
same-letters (x ∷ xs) (y ∷ ys) r s g h e =
    let f : (48 + x) ∷ (letters_bytes xs ++ (41 ∷ r)) ≡ (48 + y) ∷ (letters_bytes ys ++ (41 ∷ s)) =
    sym (ap (λ ds. (ds ++ letters_bytes xs) ++ (41 ∷ r)) (decimal_digit x (omega arith))) ∙ ap (drop 2) e ∙ ap (λ ds. (ds ++ letters_bytes ys) ++ (41 ∷ s)) (decimal_digit y (omega arith)) in
    let k : 48 + x ≡ 48 + y = cc in
    let l : letters_bytes xs ++ (41 ∷ r) ≡ letters_bytes ys ++ (41 ∷ s) = cc in
    let t = same-letters xs ys r s g.1 h.1 l in
    (ap₂ (λ (z : ℕ) (zs : List ℕ). z ∷ zs) (omega arith) t.0, t.1)

module _ (m : Coding) (plain : WritesPlainly m) (n : ℕ) where
  same_code : (a b : ℕ) → m.used a ≡ true → m.used b ≡ true → m.writing a ≡ m.writing b → a ≡ b
  same_code a b p q e =
      let f : ◌≡◌ {A = Answer} (Ok a) (Ok b) = sym (m.read_writing a p) ∙ ap m.read e ∙ m.read_writing b q in
      cc

  -- a term and what follows it
  opened : (t : Term) (r : List ℕ) → m.used t.code ≡ true → term_bytes m t ++ r ≡ 40 ∷ (m.writing t.code ++ (letters_bytes (letters t.row) ++ (41 ∷ r)))
  opened t r h =
      ap (λ b. (40 ∷ (cond b (m.writing t.code) [] ++ (letters_bytes (letters t.row) ++ (41 ∷ [])))) ++ r) h
      ∙ ap (λ bs. 40 ∷ bs) (append_assoc (m.writing t.code) (letters_bytes (letters t.row) ++ (41 ∷ [])) r ∙ ap (λ bs. m.writing t.code ++ bs) (append_assoc (letters_bytes (letters t.row)) (41 ∷ []) r))

  same-term : (t u : Term) (r s : List ℕ) → IsTerm m n t → IsTerm m n u → term_bytes m t ++ r ≡ term_bytes m u ++ s → (t ≡ u) × (r ≡ s)
  same-term t u r s g h e =
      let f = ap (drop 1) (sym (opened t r g.in_use) ∙ e ∙ opened u s h.in_use) in
      let p = same-part (m.writing t.code) (m.writing u.code) (letters_bytes (letters t.row) ++ (41 ∷ r)) (letters_bytes (letters u.row) ++ (41 ∷ s))
      (plain t.code g.in_use) (plain u.code h.in_use) (letters_broken (letters t.row) r) (letters_broken (letters u.row) s) f in
      let q = same-letters (letters t.row) (letters u.row) r s (letters_are t.row) (letters_are u.row) p.1 in
      let c = same_code t.code u.code g.in_use h.in_use p.0 in
      let w = row_of_letters t.row g.word.full g.word.clean ∙ ap row_of q.0 ∙ sym (row_of_letters u.row h.word.full h.word.clean) in
      (λ i. record { row = w i; code = c i }, q.1)

  same-terms : (ts us : List Term) → AreTerms m n ts → AreTerms m n us → terms_bytes m ts ++ (41 ∷ []) ≡ terms_bytes m us ++ (41 ∷ []) → ts ≡ us
  same-terms [] [] g h e = refl
  same-terms [] (u ∷ us) g h e = let z : ◌≡◌ {A = ℕ} 41 32 = cc in absurd (omega arith)
  same-terms (t ∷ ts) [] g h e = let z : ◌≡◌ {A = ℕ} 41 32 = cc in absurd (omega arith)
  same-terms (t ∷ ts) (u ∷ us) g h e =
      let f = sym (append_assoc (term_bytes m t) (terms_bytes m ts) (41 ∷ [])) ∙ ap (drop 1) e ∙ append_assoc (term_bytes m u) (terms_bytes m us) (41 ∷ []) in
      let p = same-term t u (terms_bytes m ts ++ (41 ∷ [])) (terms_bytes m us ++ (41 ∷ [])) g.0 h.0 f in
      ap₂ (λ (x : Term) (xs : List Term). x ∷ xs) p.0 (same-terms ts us g.1 h.1 p.1)

pub told_apart : (m : Coding) → WritesPlainly m → ToldApart m
told_apart m plain n ts us g h = (λ e. same-terms m plain n ts us g h (ap (drop 5) e), λ e. ap (list_bytes m) e)
