-- The law of the reader.
use Rattle.std.proofs.Common.{◌≡◌, ℕ, ◌<◌, ◌≤◌, ◌⊎◌, List, [], ◌∷◌, ◌++◌, length, Ok, Err, codes, Result, sym, refl, ap, ◌∙◌, subst, inl, inr, ⊎_elim, append_assoc, append-nil, arith}
use Rattle.std.proofs.lemmas.Bool.Decides.{leb_tells}
use Rattle.grammar.specs.declared.fault.FormFault.{FormFault}
use Rattle.grammar.specs.declared.fault.FormFault.TheVariants.{TooLong, Unreadable, TooDeep}
use Rattle.grammar.specs.declared.fault.ReadFault.TheVariants.{Misfit, DeepBracket}
use Rattle.grammar.specs.Reading.{Reads, and_then, expect}
use Rattle.grammar.specs.Expressions.{Expr, write}
use Rattle.grammar.specs.FormReader.{read_any, read_form, whole}
use Rattle.grammar.specs.Forms.{Form, algebra, rel, decide, calc}
use Rattle.grammar.specs.Grammar.{write_form, Fine, FineAnyhow, FineForm}
use Rattle.grammar.specs.Laws.{count_of, open_brackets, IsTooDeep, FormsRead, LongRefused, DeepRefused, OthersRefused}
use Rattle.grammar.proofs.Lengths.{long, short}
use Rattle.grammar.proofs.Levels.{count-append, split, behind, none_in}
use Rattle.grammar.proofs.Deep.{Deeply, deep_here, deep_found}
use Rattle.grammar.proofs.Lines.{calc_shape, any_complete, any_sound, any_deep}
use Rattle.grammar.proofs.Shut.{algebra_shut, rel_shut, decide_shut}

-- a line is too long or not
ways : (bs : List ℕ) → ((length bs ≤ 1000) × (read_form bs ≡ whole (read_any bs))) ⊎ ((1000 < length bs) × (read_form bs ≡ Err TooLong))
ways bs = ⊎_elim (λ w. inl (w.1, short bs w.1)) (λ w. inr (w.1, long bs w.1)) (leb_tells (length bs) 1000)

whole_ok : (r : Reads Form) (f : Form) → whole r ≡ Ok f → r ≡ Ok (f, [])
whole_ok (Ok (g, [])) f h = cc
whole_ok (Ok (g, b ∷ bs)) f h = absurd (cc)
whole_ok (Err e) f h = absurd (cc)

whole_deep : (r : Reads Form) → whole r ≡ Err TooDeep → r ≡ Err DeepBracket
whole_deep (Ok (g, [])) h = absurd (cc)
whole_deep (Ok (g, b ∷ bs)) h = absurd (cc)
whole_deep (Err Misfit) h = absurd (cc)
whole_deep (Err DeepBracket) h = refl

whole_long : (r : Reads Form) → whole r ≡ Err TooLong → ⊥
whole_long (Ok (g, [])) h = absurd (cc)
whole_long (Ok (g, b ∷ bs)) h = absurd (cc)
whole_long (Err Misfit) h = absurd (cc)
whole_long (Err DeepBracket) h = absurd (cc)

form-written : (bs : List ℕ) (f : Form) → read_form bs ≡ Ok f → (length bs ≤ 1000) × FineForm f × (write_form f ≡ bs)
form-written bs f h =
    ⊎_elim
    (λ w. let s = any_sound bs f [] (whole_ok (read_any bs) f (sym w.1 ∙ h)) in
    (w.0, s.1, sym (s.0 ∙ append-nil (write_form f))))
    (λ w. let z : Ok f ≡ Err TooLong = sym h ∙ w.1 in absurd (cc)) (ways bs)

form-read : (bs : List ℕ) (f : Form) → length bs ≤ 1000 → FineForm f → write_form f ≡ bs → read_form bs ≡ Ok f
form-read bs f l k e = short bs l ∙ ap (λ b. whole (read_any b)) (sym e ∙ sym (append-nil (write_form f))) ∙ ap whole (any_complete f [] k)

pub forms_read : FormsRead
forms_read bs f = (form-written bs f, λ h. form-read bs f h.0 h.1 h.2)

pub long_refused : LongRefused
long_refused bs = (λ h. ⊎_elim (λ w. absurd (whole_long (read_any bs) (sym w.1 ∙ h))) (λ w. w.0) (ways bs), long bs)

-- behind "(calc "
calc_deep : (e : Expr) (p q rest : List ℕ) → Fine e → codes "(calc " ++ (write e ++ (41 ∷ [])) ≡ p ++ (40 ∷ q) → open_brackets p ≡ 16 → read_any (p ++ (40 ∷ rest)) ≡ Err DeepBracket
calc_deep e p q rest f h o =
    ⊎_elim (λ w. let c : 1 ≡ count_of 40 (p ++ (40 ∷ w.0)) = ap (count_of 40) w.1 in absurd (omega (arith, c, count-append 40 p (40 ∷ w.0))))
    (λ w. ⊎_elim
    (λ v. subst (λ l. read_any (l ++ (40 ∷ rest)) ≡ Err DeepBracket) (sym w.1)
    (ap (λ r. and_then r (λ e. and_then (expect (codes ")") e.1) (λ q. Ok (calc e.0, q)))) (deep_here e 15 w.0 v.0 rest f v.1 (omega (arith, o, ap (count_of 40) w.1, ap (count_of 41) w.1)))))
    (λ v. let b = behind 41 [] v.0 q (λ z. omega arith) v.2 in absurd (none_in [] b.0 q refl b.2)) (split (write e) (41 ∷ []) w.0 q w.2))
    (split (codes "(calc ") (write e ++ (41 ∷ [])) p q h)

form_deep : (f : Form) (p q rest : List ℕ) → FineAnyhow f → write_form f ≡ p ++ (40 ∷ q) → open_brackets p ≡ 16 → read_any (p ++ (40 ∷ rest)) ≡ Err DeepBracket
form_deep (algebra n r o) p q rest f h k = absurd (omega (arith, k, (algebra_shut n r o f).low p q h))
form_deep (rel j i c ts) p q rest f h k = absurd (omega (arith, k, (rel_shut j i c ts f).low p q h))
form_deep decide p q rest f h k = absurd (omega (arith, k, decide_shut.low p q h))
form_deep (calc e) p q rest f h k = calc_deep e p q rest f (sym (calc_shape e []) ∙ append-nil (write_form (calc e)) ∙ h) k

deep_read : (bs : List ℕ) → length bs ≤ 1000 → IsTooDeep bs → read_form bs ≡ Err TooDeep
deep_read bs l t = short bs l ∙ ap (λ b. whole (read_any b)) t.begins ∙ ap whole (form_deep t.form t.before t.inside t.behind t.fine t.written t.opened)

deep_written : (bs q : List ℕ) → bs ≡ codes "(calc " ++ q → Deeply 15 q → IsTooDeep bs
deep_written bs q e g = record {
  form = calc g.e;
  before = codes "(calc " ++ g.p;
  inside = g.q ++ (41 ∷ []);
  behind = g.rest;
  fine = g.fine;
  written = sym (append-nil (write_form (calc g.e))) ∙ calc_shape g.e [] ∙ ap (λ l. codes "(calc " ++ l) (ap (λ l. l ++ (41 ∷ [])) g.written ∙ append_assoc g.p (40 ∷ g.q) (41 ∷ []));
  begins = e ∙ ap (λ l. codes "(calc " ++ l) g.begins;
  opened = omega (arith, g.at);
}

pub deep_refused : DeepRefused
deep_refused bs = (
  λ h. ⊎_elim (λ w. let a = any_deep bs (whole_deep (read_any bs) (sym w.1 ∙ h)) in (w.0, deep_written bs a.0 a.1 (deep_found 15 a.0 a.2)))
      (λ w. let z : Err TooDeep ≡ Err TooLong = sym h ∙ w.1 in absurd (cc)) (ways bs),
  λ h. deep_read bs h.0 h.1,
)

abbrev Other : List ℕ → Type 0
Other bs = (length bs ≤ 1000) × ((f : Form) → FineForm f → write_form f ≡ bs → ⊥) × (IsTooDeep bs → ⊥)

refused_other : (bs : List ℕ) → read_form bs ≡ Err Unreadable → Other bs
refused_other bs h =
    ⊎_elim
    (λ w. (
      w.0,
      (λ f k e. let z : Err Unreadable ≡ Ok f = sym h ∙ form-read bs f w.0 k e in absurd (cc)),
      (λ t. let z : Err Unreadable ≡ Err TooDeep = sym h ∙ deep_read bs w.0 t in absurd (cc)),
    ))
    (λ w. let z : Err Unreadable ≡ Err TooLong = sym h ∙ w.1 in absurd (cc)) (ways bs)

other_refused : (bs : List ℕ) → Other bs → read_form bs ≡ Err Unreadable
other_refused bs (l, nf, nd) = go (read_form bs) refl
  where
    go : (r : Result Form FormFault) → read_form bs ≡ r → r ≡ Err Unreadable
    go (Ok f) h = let w = form-written bs f h in absurd (nf f w.1 w.2)
    go (Err TooLong) h = absurd (omega (arith, (long_refused bs).0 h))
    go (Err Unreadable) h = refl
    go (Err TooDeep) h = absurd (nd ((deep_refused bs).0 h).1)

pub others-refused : OthersRefused
others-refused bs = (refused_other bs, other_refused bs)
