-- Laws of the search among triples.
use Rattle.std.proofs.Common.{◌≡◌, ℕ, zero, suc, ◌+◌, ◌-◌, ◌<◌, ◌≤◌, Bool, true, false, cond, ◌&&◌, eqb, ltb, List, [], ◌∷◌, ◌++◌, length, take, Ok, Err, Result, sym, refl, ap, ◌∙◌, arith, append_assoc, ⊎_elim}
use Rattle.std.proofs.lemmas.Bool.{lt-ltb, le-leb, ne_eqb, cases_Bool}
use Rattle.std.specs.List.{range_with_len}
use Rattle.coefficients.specs.Coding.{Coding}
use Rattle.orders.specs.Models.{OrderModel}
use Rattle.words.specs.declared.term.Term.{Term}
use Rattle.run.specs.declared.fault.RunFault.{RunFault}
use Rattle.run.specs.declared.relation.Relation.{Relation}
use Rattle.run.specs.Step.{Outcome}
use Rattle.run.specs.Calls.{Memory}
use Rattle.algebra.specs.declared.fault.AlgebraFault.TheVariants.{Run}
use Rattle.algebra.specs.declared.fault.DecideFault.{DecideFault}
use Rattle.algebra.specs.declared.triple.Triple.{Triple as Letters}
use Rattle.algebra.specs.declared.verdict.Verdict.{Verdict}
use Rattle.algebra.specs.declared.verdict.Verdict.TheVariants.{Undecided, Sound, Degenerate}
use Rattle.relations.specs.Declare.{is_generator}
use Rattle.algebra.specs.declared.fault.CallCause.TheVariants.{Generator, NotRising}
use Rattle.algebra.specs.declared.fault.AlgebraFault.{AlgebraFault}
use Rattle.algebra.specs.Overlaps.{passed, check, check_triple, overlap_run}
use Rattle.algebra.specs.Decide.{Triple, each, triples, after_terms, after_overlap, decide_over, unless_decided, decide}
use Rattle.algebra.specs.Searching.{no_terms, vanishing}

-- the triples that begin with i and j and have k or a greater letter, then those of the greater letters
abbrev triples_at : ℕ → ℕ → ℕ → List Triple
triples_at i j k = cond (ltb i j && ltb j k) (record { i = i; j = j; k = k } ∷ []) []

abbrev of_two : ℕ → ℕ → ℕ → List Triple
of_two n i j = each (triples_at i j) (range_with_len 1 n)

abbrev of_one : ℕ → ℕ → List Triple
of_one n i = each (of_two n i) (range_with_len 1 n)

abbrev pub from_first : ℕ → ℕ → List Triple
from_first n i = each (of_one n) (range_with_len i (n + 1 - i))

abbrev pub from_second : ℕ → ℕ → ℕ → List Triple
from_second n i j = each (of_two n i) (range_with_len j (n + 1 - j)) ++ from_first n (i + 1)

abbrev pub from_third : ℕ → ℕ → ℕ → ℕ → List Triple
from_third n i j k = each (triples_at i j) (range_with_len k (n + 1 - k)) ++ from_second n i (j + 1)

whole : (n : ℕ) → range_with_len 1 n ≡ range_with_len 1 (n + 1 - 1)
whole n = ap (range_with_len 1) (omega arith)

one_more : (F : ℕ → List Triple) (n p : ℕ) → p < n + 1 → each F (range_with_len p (n + 1 - p)) ≡ F p ++ each F (range_with_len (p + 1) (n + 1 - (p + 1)))
one_more F n p h = ap (λ k. each F (range_with_len p k)) (next n p h)
  where
    next : (n p : ℕ) → p < n + 1 → n + 1 - p ≡ suc (n + 1 - (p + 1))
    next n p h = omega arith

no_more : (F : ℕ → List Triple) (n p : ℕ) → n + 1 ≤ p → each F (range_with_len p (n + 1 - p)) ≡ []
no_more F n p h = ap (λ k. each F (range_with_len p k)) (none n p h)
  where
    none : (n p : ℕ) → n + 1 ≤ p → n + 1 - p ≡ 0
    none n p h = omega arith

pub first-starts : (n : ℕ) → from_first n 1 ≡ triples n
unfolding triples
first-starts n = ap (each (of_one n)) (sym (whole n))

pub second-starts : (n i : ℕ) → i < n + 1 → from_second n i 1 ≡ from_first n i
second-starts n i h = ap (λ r. each (of_two n i) r ++ from_first n (i + 1)) (sym (whole n)) ∙ sym (one_more (of_one n) n i h)

pub third-starts : (n i j : ℕ) → j < n + 1 → from_third n i j 1 ≡ from_second n i j
third-starts n i j h =
    ap (λ r. each (triples_at i j) r ++ from_second n i (j + 1)) (sym (whole n))
    ∙ sym (append_assoc (of_two n i j) (each (of_two n i) (range_with_len (j + 1) (n + 1 - (j + 1)))) (from_first n (i + 1)))
    ∙ ap (λ r. r ++ from_first n (i + 1)) (sym (one_more (of_two n i) n j h))

pub third-goes_on : (n i j k : ℕ) → k < n + 1 → triples_at i j k ++ from_third n i j (k + 1) ≡ from_third n i j k
third-goes_on n i j k h =
    sym (append_assoc (triples_at i j k) (each (triples_at i j) (range_with_len (k + 1) (n + 1 - (k + 1)))) (from_second n i (j + 1)))
    ∙ ap (λ r. r ++ from_second n i (j + 1)) (sym (one_more (triples_at i j) n k h))

pub third-ends : (n i j k : ℕ) → n + 1 ≤ k → from_second n i (j + 1) ≡ from_third n i j k
third-ends n i j k h = ap (λ r. r ++ from_second n i (j + 1)) (sym (no_more (triples_at i j) n k h))

pub second-ends : (n i j : ℕ) → n + 1 ≤ j → from_first n (i + 1) ≡ from_second n i j
second-ends n i j h = ap (λ r. r ++ from_first n (i + 1)) (sym (no_more (of_two n i) n j h))

pub first-ends : (n i : ℕ) → n + 1 ≤ i → [] ≡ from_first n i
first-ends n i h = sym (no_more (of_one n) n i h)

-- a triple that rises is the next, and one that does not is passed over
pub next-rises : (n i j k : ℕ) → k < n + 1 → i < j → j < k → record { i = i; j = j; k = k } ∷ from_third n i j (k + 1) ≡ from_third n i j k
next-rises n i j k h a b =
    ap (λ x. cond x (record { i = i; j = j; k = k } ∷ []) [] ++ from_third n i j (k + 1)) (sym both) ∙ third-goes_on n i j k h
  where
    both : (ltb i j && ltb j k) ≡ true
    both = rw (lt-ltb i j a, lt-ltb j k b)

pub next-passes : (n i j k : ℕ) → k < n + 1 → (ltb i j && ltb j k) ≡ false → from_third n i j (k + 1) ≡ from_third n i j k
next-passes n i j k h e = ap (λ x. cond x (record { i = i; j = j; k = k } ∷ []) [] ++ from_third n i j (k + 1)) (sym e) ∙ third-goes_on n i j k h

-- an overlap that vanishes is passed over, one that does not decides, and a refusal is the decision's
module _ (t : Triple) (rest : Result Verdict DecideFault) where
  pub vanishing-on : (w : Result Outcome RunFault) → vanishing t w ≡ Ok true → rest ≡ after_overlap t w rest
  vanishing-on (Ok r) h = terms r.terms h
    where
      terms : (xs : List Term) → ◌≡◌ {A = Result Bool DecideFault} (Ok (no_terms xs)) (Ok true) → rest ≡ after_terms t xs rest
      terms [] h = refl
      terms (x ∷ xs) h = cc
  vanishing-on (Err f) h = cc

  pub vanishing-not : (w : Result Outcome RunFault) → vanishing t w ≡ Ok false → Ok (Degenerate t.i t.j t.k) ≡ after_overlap t w rest
  vanishing-not (Ok r) h = terms r.terms h
    where
      terms : (xs : List Term) → ◌≡◌ {A = Result Bool DecideFault} (Ok (no_terms xs)) (Ok false) → Ok (Degenerate t.i t.j t.k) ≡ after_terms t xs rest
      terms [] h = cc
      terms (x ∷ xs) h = refl
  vanishing-not (Err f) h = cc

  pub vanishing-refused : (w : Result Outcome RunFault) (f : DecideFault) → vanishing t w ≡ Err f → Err f ≡ after_overlap t w rest
  vanishing-refused (Ok r) f h = cc
  vanishing-refused (Err e) f h = let same : record { overlap = Run e; i = t.i; j = t.j; k = t.k } ≡ f = cc in ap Err (sym same)

-- where w tells whether the overlap of the next triple vanishes: it is passed over, it decides, or its refusal is the decision's
module _ (m : Coding) (o : OrderModel) (work result : ℕ) (table : List Relation) (n i j k : ℕ) (below : k < n + 1)
    (t : Letters) (same : (t.i.number ≡ i) × (t.j.number ≡ j) × (t.k.number ≡ k)) (work' result' : ℕ) (wide : work' ≡ work) (long : result' ≡ result)
    (w : Result Bool DecideFault)
    (told : w ≡ vanishing (record { i = t.i.number; j = t.j.number; k = t.k.number }) (overlap_run m o (record { work = work'; result = result' }) table t.i.number t.j.number t.k.number))
  where
    abbrev over : List Triple → Result Verdict DecideFault
    over = decide_over m o (record { work = work; result = result }) table

    abbrev rest : Result Verdict DecideFault
    rest = over (from_third n i j (k + 1))

    abbrev x : Triple
    x = record { i = i; j = j; k = k }

    abbrev run : Result Outcome RunFault
    run = overlap_run m o (record { work = work; result = result }) table i j k

    next : after_overlap x run rest ≡ over (from_third n i j k)
    next = ap over (next-rises n i j k below (omega arith) (omega arith))

    is : vanishing x run ≡ w
    is =
        let v = λ (a b i j k : ℕ). vanishing (record { i = i; j = j; k = k }) (overlap_run m o (record { work = a; result = b }) table i j k) in
        let y = t.j.number in
        let z = t.k.number in
        sym (told ∙ ap (λ a. v a result' t.i.number y z) wide ∙ ap (λ b. v work b t.i.number y z) long ∙ ap (λ i. v work result i y z) same.0 ∙ ap (λ j. v work result i j z) same.1 ∙ ap (v work result i j) same.2)

    pub step-on : w ≡ Ok true → rest ≡ over (from_third n i j k)
    step-on h = vanishing-on x rest run (is ∙ h) ∙ next

    pub step-found : w ≡ Ok false → Ok (Degenerate i j k) ≡ over (from_third n i j k)
    step-found h = vanishing-not x rest run (is ∙ h) ∙ next

    pub step-refused : (f : DecideFault) → w ≡ Err f → Err f ≡ over (from_third n i j k)
    step-refused f h = vanishing-refused x rest run f (is ∙ h) ∙ next

-- three generators that are refused do not rise
pub not_rising : (n i j k : ℕ) (f : AlgebraFault) → (1 ≤ i) × (i < n + 1) → (1 ≤ j) × (j < n + 1) → (1 ≤ k) × (k < n + 1) → check_triple n i j k passed ≡ Err f
    → (ltb i j && ltb j k) ≡ false
not_rising n i j k f a b c h =
    ⊎_elim
    (λ e.
    let g : passed ≡ Err f = sym (passes (is_generator n i) (is_generator n j) (is_generator n k) (ltb i j && ltb j k) (generator i a.0 a.1) (generator j b.0 b.1) (generator k c.0 c.1) e) ∙ h in
    cc)
    (λ e. e)
    (cases_Bool (ltb i j && ltb j k))
  where
    generator : (x : ℕ) → 1 ≤ x → x < n + 1 → is_generator n x ≡ true
    generator x l h = rw (le-leb 1 x l, le-leb x n (omega arith))

    passes : (a b c d : Bool) → a ≡ true → b ≡ true → c ≡ true → d ≡ true
        → check a Generator 0 0 (check b Generator 0 0 (check c Generator 0 0 (check d NotRising 0 0 passed))) ≡ passed
    passes a b c d e f g h = rw (e, f, g, h)

-- an answer without terms
pub counted-none : (out : List Term) (n : ℕ) → n ≤ length out → eqb n 0 ≡ no_terms (take n out)
counted-none out zero l = refl
counted-none [] (suc n) l = absurd (omega arith)
counted-none (y ∷ ys) (suc n) l = ne_eqb (suc n) 0 (λ e. omega arith)

-- what is known already decides
module _ (m : Coding) (o : OrderModel) (mem : Memory) (n : ℕ) (table : List Relation) (v : Verdict) where
  pub open_yet : v ≡ Undecided → decide_over m o mem table (triples n) ≡ decide m o mem n table v
  unfolding decide
  open_yet e = ap (λ w. unless_decided w (decide_over m o mem table (triples n))) (sym e)

  pub known_already : (v ≡ Undecided → ⊥) → Ok v ≡ decide m o mem n table v
  unfolding decide
  known_already h = at v h
    where
      at : (w : Verdict) → (w ≡ Undecided → ⊥) → Ok w ≡ unless_decided w (decide_over m o mem table (triples n))
      at Undecided h = absurd (h refl)
      at Sound h = refl
      at (Degenerate i j k) h = refl
