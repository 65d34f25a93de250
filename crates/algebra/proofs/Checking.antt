-- Checks one after another, and what a call answers after them.
use Rattle.std.proofs.Common.{◌≡◌, ℕ, ◌+◌, ◌<◌, ◌≤◌, Bool, true, false, cond, ◌&&◌, ltb, List, [], ◌∷◌, length, get_or, drop, Ok, Err, Result, sym, refl, ap, ◌∙◌}
use Rattle.std.specs.Result.{MatchResult, IsErrAnd, IfOk, IfErr, OnOk}
use Rattle.run.specs.declared.calls.Calculation.{Calculation}
use Rattle.algebra.specs.declared.triple.Triple.{Triple}
use Rattle.std.proofs.lemmas.List.{drop_more, drop_all}
use Rattle.coefficients.specs.Coding.{Coding}
use Rattle.coefficients.specs.declared.fault.RingFault.TheVariants.{NotInUse}
use Rattle.words.specs.declared.term.Term.{Term}
use Rattle.kept.specs.Terms.{nil_term}
use Rattle.run.specs.Entries.{then_do}
use Rattle.relations.specs.Declare.{is_word, is_generator}
use Rattle.algebra.specs.declared.fault.CallCause.{CallCause}
use Rattle.algebra.specs.declared.fault.CallCause.TheVariants.{Generator, NotRising, Coefficient}
use Rattle.algebra.specs.declared.fault.AlgebraFault.{AlgebraFault}
use Rattle.algebra.specs.declared.verdict.Verdict.{Verdict}
use Rattle.algebra.specs.declared.verdict.Verdict.TheVariants.{Undecided, Sound, Degenerate}
use Rattle.algebra.specs.Overlaps.{unplaced, passed, check, check_triple}
use Rattle.algebra.specs.Calls.{in_first, in_second, check_term, scan, when_sound, scan_first, scan_second, first_list, second_list, checks}
use Rattle.algebra.specs.Scans.{placed}

term_through : {A : Type 0} (f : CallCause → AlgebraFault) (m : Coding) (n : ℕ) (t : Term) (r : Result A AlgebraFault)
    → check_term f m n t r ≡ then_do (check_term f m n t passed) (λ _. r)
term_through f m n t r = at (is_word n t.row) (m.used t.code)
  where
    at : (x y : Bool) → cond x (cond y r (Err (f (Coefficient NotInUse)))) (Err (f Generator)) ≡ then_do (cond x (cond y passed (Err (f (Coefficient NotInUse)))) (Err (f Generator))) (λ _. r)
    at false y = refl
    at true false = refl
    at true true = refl

then-then : {A B : Type 0} (x : Result (Unit {0}) AlgebraFault) (y : Result A AlgebraFault) (r : Result B AlgebraFault) → then_do x (λ _. then_do y (λ _. r)) ≡ then_do (then_do x (λ _. y)) (λ _. r)
then-then (Ok u) y r = refl
then-then (Err e) y r = refl

-- a scan comes first, then the rest
scan_through : {A : Type 0} (at : ℕ → CallCause → AlgebraFault) (m : Coding) (n p : ℕ) (ts : List Term) (r : Result A AlgebraFault)
    → scan at m n p ts r ≡ then_do (scan at m n p ts passed) (λ _. r)
scan_through at m n p [] r = refl
scan_through at m n p (t ∷ ts) r =
    let f = at p in
    term_through f m n t (scan at m n (p + 1) ts r)
    ∙ ap (λ q. then_do (check_term f m n t passed) (λ _. q)) (scan_through at m n (p + 1) ts r)
    ∙ then-then (check_term f m n t passed) (scan at m n (p + 1) ts passed) r
    ∙ ap (λ q. then_do q (λ _. r)) (sym (term_through f m n t (scan at m n (p + 1) ts passed)))

pub sound_through : {A : Type 0} (v : Verdict) (r : Result A AlgebraFault) → when_sound v r ≡ then_do (when_sound v passed) (λ _. r)
sound_through Sound r = refl
sound_through Undecided r = refl
sound_through (Degenerate i j k) r = refl

-- the checks of a calculation one after another
module _ (m : Coding) (n : ℕ) (v : Verdict) (c : Calculation) where
  abbrev sound : Result (Unit {0}) AlgebraFault
  sound = when_sound v passed

  abbrev first : Result (Unit {0}) AlgebraFault
  first = scan_first m n 1 (first_list c) passed

  abbrev second : Result (Unit {0}) AlgebraFault
  second = scan_second m n 1 (second_list c) passed

  checks_through : {A : Type 0} (r : Result A AlgebraFault) → checks m n v c r ≡ then_do sound (λ _. then_do first (λ _. then_do second (λ _. r)))
  checks_through r =
      ap (λ q. when_sound v (scan_first m n 1 (first_list c) q)) (scan_through in_second m n 1 (second_list c) r)
      ∙ ap (when_sound v) (scan_through in_first m n 1 (first_list c) (then_do second (λ _. r)))
      ∙ sound_through v (then_do first (λ _. then_do second (λ _. r)))

  pub first_refuses : {A : Type 0} (r : Result A AlgebraFault) (f : AlgebraFault) → passed ≡ sound → Err f ≡ first → Err f ≡ checks m n v c r
  first_refuses r f h k =
      ap (λ q. then_do q (λ _. then_do second (λ _. r))) k ∙ ap (λ q. then_do q (λ _. then_do first (λ _. then_do second (λ _. r)))) h ∙ sym (checks_through r)

  pub second_refuses : {A : Type 0} (r : Result A AlgebraFault) (f : AlgebraFault) → passed ≡ sound → passed ≡ first → Err f ≡ second → Err f ≡ checks m n v c r
  second_refuses r f h k l =
      ap (λ q. then_do q (λ _. r)) l ∙ ap (λ q. then_do q (λ _. then_do second (λ _. r))) k ∙ ap (λ q. then_do q (λ _. then_do first (λ _. then_do second (λ _. r)))) h
      ∙ sym (checks_through r)

  pub checks_pass : {A : Type 0} (r : Result A AlgebraFault) → passed ≡ sound → passed ≡ first → passed ≡ second → r ≡ checks m n v c r
  checks_pass r h k l =
      ap (λ q. then_do q (λ _. r)) l ∙ ap (λ q. then_do q (λ _. then_do second (λ _. r))) k ∙ ap (λ q. then_do q (λ _. then_do first (λ _. then_do second (λ _. r)))) h
      ∙ sym (checks_through r)

  -- what is done after them
  pub checks_then : {A B : Type 0} (x : A) (k : A → Result B AlgebraFault) → then_do (checks m n v c (Ok x)) k ≡ checks m n v c (k x)
  checks_then x k = ap (λ q. then_do q k) (checks_through (Ok x)) ∙ at sound first second ∙ sym (checks_through (k x))
    where
      at : (a b d : Result (Unit {0}) AlgebraFault) → then_do (then_do a (λ _. then_do b (λ _. then_do d (λ _. Ok x)))) k ≡ then_do a (λ _. then_do b (λ _. then_do d (λ _. k x)))
      at (Err f) b d = refl
      at (Ok u) (Err f) d = refl
      at (Ok u) (Ok w) (Err f) = refl
      at (Ok u) (Ok w) (Ok z) = refl

-- a fault that is placed in a list
placed-at : (g : CallCause → AlgebraFault) (r : Result (Unit {0}) CallCause) (s : Result (Unit {0}) AlgebraFault) {Q : CallCause → AlgebraFault → Type 0}
    → MatchResult r (λ x. s ≡ Ok x) (λ e. IsErrAnd s (Q e)) → ((e : CallCause) (f : AlgebraFault) → Q e f → f ≡ g e) → placed g r ≡ s
placed-at g (Ok x) s h q = sym h
placed-at g (Err e) (Ok x) h q = absurd h
placed-at g (Err e) (Err f) h q = ap Err (sym (q e f h))

-- the scan of a list from place p on
module _ (at : ℕ → CallCause → AlgebraFault) (m : Coding) (n : ℕ) (ts : List Term) where
  abbrev pub scan_from : ℕ → Result (Unit {0}) AlgebraFault
  scan_from p = scan at m n (p + 1) (drop p ts) passed

  -- one term more: where s is the answer r of its checks, in its list, the rest follows
  pub scan-more : (p : ℕ) (r : Result (Unit {0}) CallCause) (s : Result (Unit {0}) AlgebraFault) {Q : CallCause → AlgebraFault → Type 0} → p < length ts
      → placed (at (p + 1)) r ≡ check_term (at (p + 1)) m n (get_or ts p nil_term) passed
      → MatchResult r (λ x. s ≡ Ok x) (λ e. IsErrAnd s (Q e)) → ((e : CallCause) (f : AlgebraFault) → Q e f → f ≡ at (p + 1) e)
      → then_do s (λ _. scan_from (p + 1)) ≡ scan_from p
  scan-more p r s h e cases q =
      ap (λ x. then_do x (λ _. scan_from (p + 1))) (sym (placed-at (at (p + 1)) r s cases q) ∙ e)
      ∙ sym (term_through (at (p + 1)) m n (get_or ts p nil_term) (scan_from (p + 1)))
      ∙ sym (ap (λ l. scan at m n (p + 1) l passed) (drop_more ts p nil_term h))

  pub scan-all : (p : ℕ) → length ts ≤ p → passed ≡ scan_from p
  scan-all p h = sym (ap (λ l. scan at m n (p + 1) l passed) (drop_all p ts h))

-- the checks of three generators come first, then the rest
triple_through : {A : Type 0} (n i j k : ℕ) (r : Result A AlgebraFault) → check_triple n i j k r ≡ then_do (check_triple n i j k passed) (λ _. r)
triple_through n i j k r = at (is_generator n i) (is_generator n j) (is_generator n k) (ltb i j && ltb j k)
  where
    at : (a b c d : Bool)
        → check a Generator 0 0 (check b Generator 0 0 (check c Generator 0 0 (check d NotRising 0 0 r)))
        ≡ then_do (check a Generator 0 0 (check b Generator 0 0 (check c Generator 0 0 (check d NotRising 0 0 passed)))) (λ _. r)
    at false b c d = refl
    at true false c d = refl
    at true true false d = refl
    at true true true false = refl
    at true true true true = refl

-- what is done with three generators that rise
pub triple_then : {A : Type 0} (n i j k : ℕ) (f : ℕ → ℕ → ℕ → Result A AlgebraFault) (r : Result Triple CallCause) (s : Result Triple AlgebraFault) {Q : CallCause → AlgebraFault → Type 0}
    → IfOk r (λ t. (t.i.number ≡ i) × (t.j.number ≡ j) × (t.k.number ≡ k)) → OnOk r (check_triple n i j k passed ≡ passed)
    → IfErr r (λ e. check_triple n i j k passed ≡ Err (unplaced e))
    → MatchResult r (λ t. s ≡ Ok t) (λ e. IsErrAnd s (Q e)) → ((e : CallCause) (x : AlgebraFault) → Q e x → x ≡ unplaced e)
    → then_do s (λ t. f t.i.number t.j.number t.k.number) ≡ check_triple n i j k (f i j k)
triple_then n i j k f (Ok t) s same passes refuses h q =
    ap (λ s. then_do s (λ t. f t.i.number t.j.number t.k.number)) h
    ∙ ap (λ x. f x t.j.number t.k.number) same.0 ∙ ap (λ x. f i x t.k.number) same.1 ∙ ap (f i j) same.2
    ∙ sym (triple_through n i j k (f i j k) ∙ ap (λ q. then_do q (λ _. f i j k)) passes)
triple_then n i j k f (Err e) (Ok t) same passes refuses h q = absurd h
triple_then n i j k f (Err e) (Err x) same passes refuses h q =
    ap Err (q e x h) ∙ sym (triple_through n i j k (f i j k) ∙ ap (λ q. then_do q (λ _. f i j k)) refuses)
