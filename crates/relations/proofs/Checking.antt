-- Tests of comparisons, and the checks of a declaration one after another.
use Rattle.std.proofs.Common.{◌≡◌, IsTrue, Bor, ℕ, ◌+◌, ◌-◌, ◌<◌, ◌≤◌, Bool, true, false, cond, not, ◌&&◌, eqb, ltb, leb, List, [], ◌∷◌, length, get_or, drop, Some, None, Ok, Err, Option, Result, sym, refl, ap, ◌∙◌, arith, length-take}
use Rattle.std.specs.Option.{MatchOption, option_map}
use Rattle.std.proofs.lemmas.Option.{MatchOption-at_some}
use Rattle.std.specs.Result.{MatchResult, IsErrAnd}
use Rattle.std.specs.Ordering.{is_lt}
use Rattle.kept.specs.Kept.{compare_terms}
use Rattle.std.proofs.lemmas.List.{drop_more, drop_all}
use Rattle.std.proofs.lemmas.Bool.{ne_eqb, le-leb}
use Rattle.coefficients.specs.Coding.{Coding}
use Rattle.coefficients.specs.declared.fault.RingFault.TheVariants.{NotInUse}
use Rattle.orders.specs.Letters.{letters}
use Rattle.orders.specs.Models.{OrderModel}
use Rattle.words.specs.Inversions.{standard}
use Rattle.words.specs.declared.term.Term.{Term}
use Rattle.kept.specs.Terms.{nil_term}
use Rattle.run.specs.Entries.{then_do}
use Rattle.run.specs.declared.relation.Relation.{Relation}
use Rattle.run.specs.Relations.{pair_place, tail_of}
use Rattle.relations.specs.declared.fault.DeclareCause.{DeclareCause}
use Rattle.relations.specs.declared.fault.DeclareCause.TheVariants.{Generator, NotRising, AlreadyDeclared, Coefficient, FactorZero, TailSize, TailNotKept, TailNotBefore}
use Rattle.relations.specs.declared.fault.DeclareFault.{DeclareFault}
use Rattle.relations.specs.Declare.{passed, at_term, check, is_word, below_last, image_before, last_at, check_term, check_tail, is_generator, check_pair, check_factor, check_relation, declare_answer}

-- what is answered of the term before, if there is one
pub below-last : (o : OrderModel) (t : Term) (last : Option (Bor Term)) (r : Bool) {Q : Bor Term → Type 0} → MatchOption last (IsTrue r) Q
    → ((s : Bor Term) → Q s → r ≡ is_lt (compare_terms o t s.now)) → r ≡ below_last o (option_map (λ s. s.now) last) t
below-last o t None r h f = h
below-last o t (Some s) r h f = f s h

-- a fault that is placed at a term
placed-at : (p : ℕ) (r : Result (Unit {0}) DeclareCause) (s : Result (Unit {0}) DeclareFault) {Q : DeclareCause → DeclareFault → Type 0}
    → MatchResult r (λ x. s ≡ Ok x) (λ e. IsErrAnd s (Q e)) → ((e : DeclareCause) (f : DeclareFault) → Q e f → f ≡ record { cause = e; term = p }) → at_term p r ≡ s
placed-at p (Ok x) s h q = sym h
placed-at p (Err e) (Ok x) h q = absurd h
placed-at p (Err e) (Err f) h q = ap Err (sym (q e f h))

-- the checks of a term come first, then the rest
term_through : {A : Type 0} (m : Coding) (o : OrderModel) (n j i : ℕ) (last : Option Term) (p : ℕ) (t : Term) (r : Result A DeclareFault)
    → check_term m o n j i last p t r ≡ then_do (check_term m o n j i last p t passed) (λ _. r)
term_through m o n j i last p t r =
    at (is_word n t.row) (leb (length (letters t.row)) 8) (m.used t.code) (not (eqb t.code 0) && (standard (letters t.row) && below_last o last t)) (image_before o (letters t.row) (i ∷ j ∷ []))
  where
    at : (a b c d e : Bool)
        → check a Generator p (check b TailSize p (check c (Coefficient NotInUse) p (check d TailNotKept p (check e TailNotBefore p r))))
        ≡ then_do (check a Generator p (check b TailSize p (check c (Coefficient NotInUse) p (check d TailNotKept p (check e TailNotBefore p passed))))) (λ _. r)
    at false b c d e = refl
    at true false c d e = refl
    at true true false d e = refl
    at true true true false e = refl
    at true true true true false = refl
    at true true true true true = refl

-- the term before the next place
pub last-more : (ts : List Term) (p : ℕ) → Some (get_or ts p nil_term) ≡ last_at ts (p + 1)
last-more ts p = sym (ap (λ b. cond b None (Some (get_or ts (p + 1 - 1) nil_term))) (ne_eqb (p + 1) 0 (λ e. omega arith)) ∙ ap (λ k. Some (get_or ts k nil_term)) back)
  where
    back : p + 1 - 1 ≡ p
    back = omega arith

-- the checks of a tail from place p on
module _ (m : Coding) (o : OrderModel) (n j i : ℕ) (ts : List Term) where
  abbrev pub tail_from : ℕ → Result (Unit {0}) DeclareFault
  tail_from p = check_tail m o n j i (last_at ts p) (p + 1) (drop p ts) passed

  -- one term more: where s is the answer r of its checks, at its place, the rest follows
  pub tail-more : (p : ℕ) (last : Option Term) (r : Result (Unit {0}) DeclareCause) (s : Result (Unit {0}) DeclareFault) {Q : DeclareCause → DeclareFault → Type 0}
      → p < length ts → last ≡ last_at ts p
      → ((q : ℕ) → at_term q r ≡ check_term m o n j i last q (get_or ts p nil_term) passed)
      → MatchResult r (λ x. s ≡ Ok x) (λ e. IsErrAnd s (Q e)) → ((e : DeclareCause) (f : DeclareFault) → Q e f → f ≡ record { cause = e; term = p + 1 })
      → then_do s (λ _. tail_from (p + 1)) ≡ tail_from p
  tail-more p last r s h l a cases q =
      let t = get_or ts p nil_term in
      ap (λ x. then_do x (λ _. tail_from (p + 1))) (sym (placed-at (p + 1) r s cases q) ∙ a (p + 1) ∙ ap (λ x. check_term m o n j i x (p + 1) t passed) l)
      ∙ ap (λ x. then_do (check_term m o n j i (last_at ts p) (p + 1) t passed) (λ _. check_tail m o n j i x (p + 1 + 1) (drop (p + 1) ts) passed)) (sym (last-more ts p))
      ∙ sym (term_through m o n j i (last_at ts p) (p + 1) t (check_tail m o n j i (Some t) (p + 1 + 1) (drop (p + 1) ts) passed))
      ∙ sym (ap (λ l. check_tail m o n j i (last_at ts p) (p + 1) l passed) (drop_more ts p nil_term h))

  pub tail-all : (p : ℕ) → length ts ≤ p → passed ≡ tail_from p
  tail-all p h = sym (ap (λ l. check_tail m o n j i (last_at ts p) (p + 1) l passed) (drop_all p ts h))

-- the checks of a pair come first, then those of the relation
pub pair-first : (m : Coding) (o : OrderModel) (n : ℕ) (d : List Bool) (j i c : ℕ) (tail : List Term)
    → declare_answer m o n d j i c tail ≡ then_do (check_pair n d j i passed) (λ _. check_relation m o n j i c tail)
unfolding declare_answer
pair-first m o n d j i c tail = at (is_generator n j) (is_generator n i) (ltb i j) (not (get_or d (pair_place j i) false))
  where
    rest : Result (Unit {0}) DeclareFault
    rest = check_relation m o n j i c tail

    at : (a b c e : Bool)
        → check a Generator 0 (check b Generator 0 (check c NotRising 0 (check e AlreadyDeclared 0 rest)))
        ≡ then_do (check a Generator 0 (check b Generator 0 (check c NotRising 0 (check e AlreadyDeclared 0 passed)))) (λ _. rest)
    at false b c e = refl
    at true false c e = refl
    at true true false e = refl
    at true true true false = refl
    at true true true true = refl

-- so where they pass for the letters j and i the others decide
pub pair-passes : (m : Coding) (o : OrderModel) (n : ℕ) (d : List Bool) (j i c : ℕ) (tail : List Term) (j' i' : ℕ) → check_pair n d j i passed ≡ passed → (j' ≡ j) × (i' ≡ i)
    → check_relation m o n j' i' c tail ≡ declare_answer m o n d j i c tail
pair-passes m o n d j i c tail j' i' h e =
    ap (λ k. check_relation m o n k i' c tail) e.0 ∙ ap (λ k. check_relation m o n j k c tail) e.1
    ∙ sym (pair-first m o n d j i c tail ∙ ap (λ r. then_do r (λ _. check_relation m o n j i c tail)) h)

-- the checks of a factor come first, then the size of the tail, then its terms
factor-first : {A : Type 0} (m : Coding) (c : ℕ) (r : Result A DeclareFault) → check_factor m c r ≡ then_do (check_factor m c passed) (λ _. r)
factor-first m c r = at (m.used c) (not (eqb c 0))
  where
    at : (a b : Bool) → check a (Coefficient NotInUse) 0 (check b FactorZero 0 r) ≡ then_do (check a (Coefficient NotInUse) 0 (check b FactorZero 0 passed)) (λ _. r)
    at false b = refl
    at true false = refl
    at true true = refl

tail-last : (m : Coding) (o : OrderModel) (n j i c : ℕ) (tail : List Term) → passed ≡ check_factor m c passed → length tail ≤ 8
    → check_tail m o n j i None 1 tail passed ≡ check_relation m o n j i c tail
tail-last m o n j i c tail h k =
    let rest = check_tail m o n j i None 1 tail passed in
    sym
    (factor-first m c (check (leb (length tail) 8) TailSize 0 rest)
    ∙ ap (λ r. then_do r (λ _. check (leb (length tail) 8) TailSize 0 rest)) (sym h)
    ∙ ap (λ b. check b TailSize 0 rest) (le-leb (length tail) 8 k))

-- a relation that was made has a tail of at most eight terms, so where the factor passes its terms decide
pub terms-decide : (m : Coding) (o : OrderModel) (n j i c : ℕ) (tail : List Term) (made : Option Relation) (r : Relation)
    → MatchOption made (8 < length tail) (λ x. (x.factor ≡ c) × (tail_of x ≡ tail)) → made ≡ Some r → passed ≡ check_factor m c passed
    → check_tail m o n j i None 1 tail passed ≡ check_relation m o n j i c tail
unfolding tail_of
terms-decide m o n j i c tail made r says is f =
    let is_made = MatchOption-at_some (8 < length tail) (λ (x : Relation). (x.factor ≡ c) × (tail_of x ≡ tail)) r is says in
    let few = r.few in
    let size = simp length-take at (ap length is_made.1) in
    tail-last m o n j i c tail f (omega arith)
