-- Whole forms: exactly what is written is read.
use Rattle.std.proofs.Common.{◌≡◌, ℕ, ◌≤◌, ◌⊎◌, List, [], ◌∷◌, ◌++◌, map, length, Ok, Err, codes, decimal, sym, refl, ap, ◌∙◌, subst, inl, inr, ⊎_elim, append_assoc, arith}
use Rattle.grammar.specs.declared.fault.ReadFault.TheVariants.{DeepBracket}
use Rattle.grammar.specs.declared.forms.RingForm.{RingForm}
use Rattle.grammar.specs.Reading.{Reads, and_then, expect, read_number, read_spaced_number, read_coefficient}
use Rattle.grammar.specs.Expressions.{Expr, write}
use Rattle.grammar.specs.ExpressionReader.{read_expr}
use Rattle.grammar.specs.FormReader.{read_ring, read_order, read_algebra, read_term, read_terms, read_rel, read_calc, read_decide, read_any}
use Rattle.grammar.specs.Forms.{OrderChoice, TermForm, Form, algebra, rel, decide, calc}
use Rattle.grammar.specs.Grammar.{spaced_parts, write_ring, write_order, write_term, write_form, Number, Coefficient, All, Fine, FineRing, FineOrder, FineTerm, FineForm, depth}
use Rattle.grammar.proofs.Chains.{linked, expect-written}
use Rattle.grammar.proofs.Leaves.{Shallow, ok-shallow, then-shallow, number_exact, coefficient_exact}
use Rattle.grammar.proofs.Writings.{moved, or_ways, expect-shallow, parts_end, all-complete, parts_sound, parts_shallow, ring_exact, order_exact, term_exact}
use Rattle.grammar.proofs.Trees.{whole_or_deep, expr_sound}
use Rattle.grammar.proofs.Deep.{then_deep}

-- a number and a space
spaced-complete : (n : ℕ) (rest : List ℕ) → Number n → read_spaced_number (decimal n ++ (32 ∷ rest)) ≡ Ok (n, rest)
spaced-complete n rest h = ap (λ r. and_then r (λ p. and_then (expect (32 ∷ []) p.1) (λ q. Ok (p.0, q)))) (number_exact.complete n (32 ∷ rest) h refl)

abbrev write_spaced : ℕ → List ℕ
write_spaced n = decimal n ++ (32 ∷ [])

spaced-sound : (bs : List ℕ) (n : ℕ) (rest : List ℕ) → read_spaced_number bs ≡ Ok (n, rest) → (bs ≡ write_spaced n ++ rest) × Number n
spaced-sound bs n rest h =
    let a = linked (read_number bs) (λ p. and_then (expect (32 ∷ []) p.1) (λ q. Ok (p.0, q))) (n, rest) h in
    let b = linked (expect (32 ∷ []) a.0.1) (λ q. Ok (a.0.0, q)) (n, rest) a.2 in
    let s = number_exact.sound bs a.0.0 a.0.1 a.1 in
    moved write_spaced Number bs a.0.0 n b.0 rest b.2
    (s.0 ∙ ap (λ l. decimal a.0.0 ++ l) (expect-written (32 ∷ []) a.0.1 b.0 b.1) ∙ sym (append_assoc (decimal a.0.0) (32 ∷ []) b.0), s.1)

spaced-shallow : (bs : List ℕ) → Shallow (read_spaced_number bs)
spaced-shallow bs =
    then-shallow (read_number bs) (λ p. and_then (expect (32 ∷ []) p.1) (λ q. Ok (p.0, q))) (number_exact.shallow bs)
    (λ p. then-shallow (expect (32 ∷ []) p.1) (λ q. Ok (p.0, q)) (expect-shallow (32 ∷ []) p.1) (λ q. ok-shallow (p.0, q)))

-- how a form is written, part by part
algebra_shape : (n : ℕ) (r : RingForm) (o : OrderChoice) (rest : List ℕ) → write_form (algebra n r o) ++ rest ≡ codes "(algebra " ++ (decimal n ++ (32 ∷ (write_ring r ++ (32 ∷ (write_order o ++ (41 ∷ rest))))))
unfolding write_form
algebra_shape n r o rest = go (write_ring r) (write_order o)
  where
    go : (x y : List ℕ) → (codes "(algebra " ++ ((decimal n ++ (32 ∷ (x ++ (32 ∷ (y ++ []))))) ++ (41 ∷ []))) ++ rest ≡ codes "(algebra " ++ (decimal n ++ (32 ∷ (x ++ (32 ∷ (y ++ (41 ∷ rest))))))
    go x y = simp append_assoc

rel_shape : (j i : ℕ) (c : List ℕ) (ts : List TermForm) (rest : List ℕ) → write_form (rel j i c ts) ++ rest ≡ codes "(rel " ++ (decimal j ++ (32 ∷ (decimal i ++ (32 ∷ (c ++ (spaced_parts (map write_term ts) ++ (41 ∷ rest)))))))
unfolding write_form
rel_shape j i c ts rest = go (spaced_parts (map write_term ts))
  where
    go : (x : List ℕ) → (codes "(rel " ++ ((decimal j ++ (32 ∷ (decimal i ++ (32 ∷ (c ++ x))))) ++ (41 ∷ []))) ++ rest ≡ codes "(rel " ++ (decimal j ++ (32 ∷ (decimal i ++ (32 ∷ (c ++ (x ++ (41 ∷ rest)))))))
    go x = simp append_assoc

decide_shape : (rest : List ℕ) → write_form decide ++ rest ≡ codes "(decide)" ++ rest
unfolding write_form
decide_shape rest = refl

pub calc_shape : (e : Expr) (rest : List ℕ) → write_form (calc e) ++ rest ≡ codes "(calc " ++ (write e ++ (41 ∷ rest))
unfolding write_form
calc_shape e rest = simp append_assoc

module _ (n : ℕ) (r : RingForm) (o : OrderChoice) where
  algebra-complete : (rest : List ℕ) → Number n → FineRing r → FineOrder o → read_algebra (decimal n ++ (32 ∷ (write_ring r ++ (32 ∷ (write_order o ++ (41 ∷ rest)))))) ≡ Ok (algebra n r o, rest)
  algebra-complete rest h k l =
      rw (spaced-complete n (write_ring r ++ (32 ∷ (write_order o ++ (41 ∷ rest)))) h, ring_exact.complete r (32 ∷ (write_order o ++ (41 ∷ rest))) k refl, order_exact.complete o (41 ∷ rest) l refl)

  algebra_built : (bs b c d e rest : List ℕ) → read_spaced_number bs ≡ Ok (n, b) → read_ring b ≡ Ok (r, c) → expect (codes " ") c ≡ Ok d → read_order d ≡ Ok (o, e) → expect (codes ")") e ≡ Ok rest → (codes "(algebra " ++ bs ≡ write_form (algebra n r o) ++ rest) × FineForm (algebra n r o)
  algebra_built bs b c d e rest h i j k l =
      let x = spaced-sound bs n b h in
      let y = ring_exact.sound b r c i in
      let z = order_exact.sound d o e k in (
        ap (λ l. codes "(algebra " ++ l)
            (x.0 ∙ append_assoc (decimal n) (32 ∷ []) b
            ∙ ap (λ l. decimal n ++ (32 ∷ l)) (y.0 ∙ ap (λ l. write_ring r ++ l) (expect-written (codes " ") c d j ∙ ap (λ l. 32 ∷ l) (z.0 ∙ ap (λ l. write_order o ++ l) (expect-written (codes ")") e rest l)))))
            ∙ sym (algebra_shape n r o rest),
        ((x.1, y.1, z.1), omega arith),
      )

algebra-sound : (bs : List ℕ) (f : Form) (rest : List ℕ) → read_algebra bs ≡ Ok (f, rest) → (codes "(algebra " ++ bs ≡ write_form f ++ rest) × FineForm f
algebra-sound bs f rest h =
    let a = linked (read_spaced_number bs) _ (f, rest) h in
    let b = linked (read_ring a.0.1) _ (f, rest) a.2 in
    let c = linked (expect (codes " ") b.0.1) _ (f, rest) b.2 in
    let d = linked (read_order c.0) _ (f, rest) c.2 in
    let e = linked (expect (codes ")") d.0.1) (λ q. Ok (algebra a.0.0 b.0.0 d.0.0, q)) (f, rest) d.2 in
    moved write_form FineForm (codes "(algebra " ++ bs) (algebra a.0.0 b.0.0 d.0.0) f e.0 rest e.2
    (algebra_built a.0.0 b.0.0 d.0.0 bs a.0.1 b.0.1 c.0 d.0.1 e.0 a.1 b.1 c.1 d.1 e.1)

algebra-shallow : (bs : List ℕ) → Shallow (read_algebra bs)
algebra-shallow bs =
    then-shallow (read_spaced_number bs) _ (spaced-shallow bs)
    (λ n. then-shallow (read_ring n.1) _ (ring_exact.shallow n.1)
    (λ r. then-shallow (expect (codes " ") r.1) _ (expect-shallow (codes " ") r.1)
    (λ b. then-shallow (read_order b) _ (order_exact.shallow b) (λ o. then-shallow (expect (codes ")") o.1) _ (expect-shallow (codes ")") o.1) (λ q. ok-shallow _)))))

module _ (j i : ℕ) (c : List ℕ) (ts : List TermForm) where
  rel-complete : (rest : List ℕ) → Number j → Number i → Coefficient c → All FineTerm ts → read_rel (decimal j ++ (32 ∷ (decimal i ++ (32 ∷ (c ++ (spaced_parts (map write_term ts) ++ (41 ∷ rest))))))) ≡ Ok (rel j i c ts, rest)
  rel-complete rest h k l m =
      let b = spaced_parts (map write_term ts) ++ (41 ∷ rest) in
      ap (λ r. and_then r (λ j. and_then (read_spaced_number j.1) (λ i. and_then (read_coefficient i.1) (λ c. and_then (read_terms c.1) (λ t. Ok (rel j.0 i.0 c.0 t.0, t.1)))))) (spaced-complete j (decimal i ++ (32 ∷ (c ++ b))) h)
      ∙ ap (λ r. and_then r (λ i. and_then (read_coefficient i.1) (λ c. and_then (read_terms c.1) (λ t. Ok (rel j i.0 c.0 t.0, t.1))))) (spaced-complete i (c ++ b) k)
      ∙ ap (λ r. and_then r (λ c. and_then (read_terms c.1) (λ t. Ok (rel j i c.0 t.0, t.1)))) (coefficient_exact.complete c b l (parts_end read_term write_term FineTerm term_exact ts rest))
      ∙ ap (λ r. and_then r (λ t. Ok (rel j i c t.0, t.1))) (all-complete read_term write_term FineTerm term_exact ts rest m)

  rel_built : (bs b d e rest : List ℕ) → read_spaced_number bs ≡ Ok (j, b) → read_spaced_number b ≡ Ok (i, d) → read_coefficient d ≡ Ok (c, e) → read_terms e ≡ Ok (ts, rest) → (codes "(rel " ++ bs ≡ write_form (rel j i c ts) ++ rest) × FineForm (rel j i c ts)
  rel_built bs b d e rest h k l m =
      let x = spaced-sound bs j b h in
      let y = spaced-sound b i d k in
      let z = coefficient_exact.sound d c e l in
      let t = parts_sound read_term write_term FineTerm term_exact (length e) [] e ts rest m in
      let w : (e ≡ spaced_parts (map write_term ts) ++ (41 ∷ rest)) × All FineTerm ts = subst (λ us. (e ≡ spaced_parts (map write_term us) ++ (41 ∷ rest)) × All FineTerm us) (sym t.1) (t.2, t.3) in (
        ap (λ l. codes "(rel " ++ l)
            (x.0 ∙ append_assoc (decimal j) (32 ∷ []) b
            ∙ ap (λ l. decimal j ++ (32 ∷ l)) (y.0 ∙ append_assoc (decimal i) (32 ∷ []) d ∙ ap (λ l. decimal i ++ (32 ∷ l)) (z.0 ∙ ap (λ l. c ++ l) w.0)))
            ∙ sym (rel_shape j i c ts rest),
        ((x.1, y.1, z.1, w.1), omega arith),
      )

rel-sound : (bs : List ℕ) (f : Form) (rest : List ℕ) → read_rel bs ≡ Ok (f, rest) → (codes "(rel " ++ bs ≡ write_form f ++ rest) × FineForm f
rel-sound bs f rest h =
    let a = linked (read_spaced_number bs) _ (f, rest) h in
    let b = linked (read_spaced_number a.0.1) _ (f, rest) a.2 in
    let c = linked (read_coefficient b.0.1) _ (f, rest) b.2 in
    let d = linked (read_terms c.0.1) (λ t. Ok (rel a.0.0 b.0.0 c.0.0 t.0, t.1)) (f, rest) c.2 in
    moved write_form FineForm (codes "(rel " ++ bs) (rel a.0.0 b.0.0 c.0.0 d.0.0) f d.0.1 rest d.2
    (rel_built a.0.0 b.0.0 c.0.0 d.0.0 bs a.0.1 b.0.1 c.0.1 d.0.1 a.1 b.1 c.1 d.1)

rel-shallow : (bs : List ℕ) → Shallow (read_rel bs)
rel-shallow bs =
    then-shallow (read_spaced_number bs) _ (spaced-shallow bs)
    (λ j. then-shallow (read_spaced_number j.1) _ (spaced-shallow j.1)
    (λ i. then-shallow (read_coefficient i.1) _ (coefficient_exact.shallow i.1)
    (λ c. then-shallow (read_terms c.1) (λ t. Ok (rel j.0 i.0 c.0 t.0, t.1)) (parts_shallow read_term write_term FineTerm term_exact (length c.1) [] c.1) (λ t. ok-shallow _))))

calc-complete : (e : Expr) (rest : List ℕ) → Fine e → depth e ≤ 15 → read_calc (write e ++ (41 ∷ rest)) ≡ Ok (calc e, rest)
calc-complete e rest f k =
    ⊎_elim (λ w. ap (λ r. and_then r (λ e. and_then (expect (codes ")") e.1) (λ q. Ok (calc e.0, q)))) w.1) (λ w. absurd (omega (arith, w.0))) (whole_or_deep e 15 (41 ∷ rest) f refl)

calc-sound : (bs : List ℕ) (f : Form) (rest : List ℕ) → read_calc bs ≡ Ok (f, rest) → (codes "(calc " ++ bs ≡ write_form f ++ rest) × FineForm f
calc-sound bs f rest h =
    let a = linked (read_expr 15 bs) _ (f, rest) h in
    let b = linked (expect (codes ")") a.0.1) (λ q. Ok (calc a.0.0, q)) (f, rest) a.2 in
    let s = expr_sound 15 bs a.0.0 a.0.1 a.1 in
    moved write_form FineForm (codes "(calc " ++ bs) (calc a.0.0) f b.0 rest b.2
    (ap (λ l. codes "(calc " ++ l) (s.0 ∙ ap (λ l. write a.0.0 ++ l) (expect-written (codes ")") a.0.1 b.0 b.1)) ∙ sym (calc_shape a.0.0 b.0), s.1)

pub any_complete : (f : Form) (rest : List ℕ) → FineForm f → read_any (write_form f ++ rest) ≡ Ok (f, rest)
any_complete (algebra n r o) rest h = ap read_any (algebra_shape n r o rest) ∙ algebra-complete n r o rest h.0.0 h.0.1 h.0.2
any_complete (rel j i c ts) rest h = ap read_any (rel_shape j i c ts rest) ∙ rel-complete j i c ts rest h.0.0 h.0.1 h.0.2 h.0.3
any_complete decide rest h = ap read_any (decide_shape rest)
any_complete (calc e) rest h = ap read_any (calc_shape e rest) ∙ calc-complete e rest h.0 h.1

decide-sound : (bs : List ℕ) (f : Form) (rest : List ℕ) → read_decide bs ≡ Ok (f, rest) → (bs ≡ write_form f ++ rest) × FineForm f
decide-sound bs f rest h =
    let a = linked (expect (codes "(decide)") bs) (λ q. Ok (decide, q)) (f, rest) h in
    moved write_form FineForm bs decide f a.0 rest a.2 (expect-written (codes "(decide)") bs a.0 a.1 ∙ sym (decide_shape a.0), (tt, omega arith))

abbrev Begins : List ℕ → List ℕ → (List ℕ → Reads Form) → Reads Form → Type 0
Begins w bs R s = (q : List ℕ) × (bs ≡ w ++ q) × (R q ≡ s)

-- which form a line begins
pub any_ways : (bs : List ℕ) (s : Reads Form) → read_any bs ≡ s → Begins (codes "(algebra ") bs read_algebra s ⊎ (Begins (codes "(rel ") bs read_rel s ⊎ (Begins (codes "(calc ") bs read_calc s ⊎ (read_decide bs ≡ s)))
any_ways bs s h =
    ⊎_elim (λ w. inl (w.0, expect-written (codes "(algebra ") bs w.0 w.1, w.2))
    (λ h. inr (⊎_elim (λ w. inl (w.0, expect-written (codes "(rel ") bs w.0 w.1, w.2))
    (λ h. inr (⊎_elim (λ w. inl (w.0, expect-written (codes "(calc ") bs w.0 w.1, w.2)) (λ h. inr h)
    (or_ways (expect (codes "(calc ") bs) read_calc _ s h)))
    (or_ways (expect (codes "(rel ") bs) read_rel _ s h)))
    (or_ways (expect (codes "(algebra ") bs) read_algebra _ s h)

pub any_sound : (bs : List ℕ) (f : Form) (rest : List ℕ) → read_any bs ≡ Ok (f, rest) → (bs ≡ write_form f ++ rest) × FineForm f
any_sound bs f rest h =
    ⊎_elim (λ w. from (codes "(algebra ") w.0 w.1 (algebra-sound w.0 f rest w.2))
    (⊎_elim (λ w. from (codes "(rel ") w.0 w.1 (rel-sound w.0 f rest w.2))
    (⊎_elim (λ w. from (codes "(calc ") w.0 w.1 (calc-sound w.0 f rest w.2)) (decide-sound bs f rest)))
    (any_ways bs (Ok (f, rest)) h)
  where
    from : (w q : List ℕ) → bs ≡ w ++ q → (w ++ q ≡ write_form f ++ rest) × FineForm f → (bs ≡ write_form f ++ rest) × FineForm f
    from w q e s = (e ∙ s.0, s.1)

-- only an expression is too deep
pub any_deep : (bs : List ℕ) → read_any bs ≡ Err DeepBracket → (q : List ℕ) × (bs ≡ codes "(calc " ++ q) × (read_expr 15 q ≡ Err DeepBracket)
any_deep bs h =
    ⊎_elim (λ w. absurd (algebra-shallow w.0 w.2))
    (⊎_elim (λ w. absurd (rel-shallow w.0 w.2))
    (⊎_elim (λ w. (w.0, w.1, in_calc w.0 w.2))
    (λ k. absurd (then-shallow (expect (codes "(decide)") bs) (λ q. Ok (decide, q)) (expect-shallow (codes "(decide)") bs) (λ q. ok-shallow (decide, q)) k))))
    (any_ways bs (Err DeepBracket) h)
  where
    in_calc : (q : List ℕ) → read_calc q ≡ Err DeepBracket → read_expr 15 q ≡ Err DeepBracket
    in_calc q h =
        ⊎_elim (λ z. z) (λ w. absurd (then-shallow (expect (codes ")") w.0.1) (λ q. Ok (calc w.0.0, q)) (expect-shallow (codes ")") w.0.1) (λ q. ok-shallow (calc w.0.0, q)) w.2))
        (then_deep (read_expr 15 q) _ h)
