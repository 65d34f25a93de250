-- What a call has checked that was answered.
use Rattle.std.proofs.Common.{◌≡◌, ℕ, ◌+◌, Bool, true, false, cond, List, [], ◌∷◌, Ok, Err, Result, refl, ap}
use Rattle.std.proofs.lemmas.Bool.{and_parts}
use Rattle.theory.specs.Words.{Over}
use Rattle.coefficients.specs.Coding.{Coding}
use Rattle.coefficients.specs.declared.fault.RingFault.TheVariants.{NotInUse}
use Rattle.orders.specs.Letters.{letters}
use Rattle.words.specs.Rows.{is_row}
use Rattle.words.specs.declared.term.Term.{Term}
use Rattle.run.specs.declared.fault.RunFault.{RunFault}
use Rattle.relations.specs.Declare.{letters_to, is_word}
use Rattle.relations.proofs.Validity.{over-letters}
use Rattle.algebra.specs.declared.fault.CallCause.{CallCause}
use Rattle.algebra.specs.declared.fault.CallCause.TheVariants as cause
use Rattle.algebra.specs.declared.fault.AlgebraFault.{AlgebraFault}
use Rattle.algebra.specs.declared.fault.AlgebraFault.TheVariants.{Call, Run}
use Rattle.algebra.specs.declared.verdict.Verdict.{Verdict}
use Rattle.algebra.specs.declared.verdict.Verdict.TheVariants.{Undecided, Sound, Degenerate}
use Rattle.algebra.specs.Overlaps.{by_run}
use Rattle.algebra.specs.Calls.{when_sound, scan}
use Rattle.normal_forms.proofs.Loads.{ok_injective}
use Rattle.algebra.specs.Verdicts.{IsSound}

pub err_not_ok : {A E : Type 0} (e : E) (y : A) → ◌≡◌ {A = Result A E} (Err e) (Ok y) → ⊥
err_not_ok e y h = cc

-- a word in the letters 1 to n, with a code in use
pub record Loadable (m : Coding) (n : ℕ) (t : Term) : Type 0 where
  pub over : Over n (letters t.row)
  pub in_use : m.used t.code ≡ true

abbrev pub AllLoadable : Coding → ℕ → List Term → Type 0
AllLoadable m n [] = Unit {0}
AllLoadable m n (t ∷ ts) = Loadable m n t × AllLoadable m n ts

test-ok : {A E : Type 0} (b : Bool) (r : Result A E) (e : E) (x : A) → cond b r (Err e) ≡ Ok x → (b ≡ true) × (r ≡ Ok x)
test-ok true r e x h = (refl, h)
test-ok false r e x h = absurd (err_not_ok e x h)

loadable : (m : Coding) (n : ℕ) (t : Term) → is_word n t.row ≡ true → m.used t.code ≡ true → Loadable m n t
loadable m n t w u = record { over = over-letters n t.row (and_parts (is_row t.row) (letters_to n (letters t.row)) w).1; in_use = u }

pub scan-ok : {A : Type 0} (at : ℕ → CallCause → AlgebraFault) (m : Coding) (n p : ℕ) (ts : List Term) (r : Result A AlgebraFault) (x : A)
    → scan at m n p ts r ≡ Ok x → AllLoadable m n ts × (r ≡ Ok x)
scan-ok at m n p [] r x h = (tt, h)
scan-ok at m n p (t ∷ ts) r x h =
    let rest = scan at m n (p + 1) ts r in
    let a = test-ok (is_word n t.row) (cond (m.used t.code) rest (Err (at p (cause.Coefficient NotInUse)))) (at p cause.Generator) x h in
    let b = test-ok (m.used t.code) rest (at p (cause.Coefficient NotInUse)) x a.1 in
    let c = scan-ok at m n (p + 1) ts r x b.1 in
    ((loadable m n t a.0 b.0, c.0), c.1)

pub when_sound-ok : {A : Type 0} (v : Verdict) (r : Result A AlgebraFault) (x : A) → when_sound v r ≡ Ok x → IsSound v × (r ≡ Ok x)
when_sound-ok Undecided r x h = absurd (err_not_ok (Call (record { cause = cause.Undecided; a = 0; b = 0 })) x h)
when_sound-ok Sound r x h = (tt, h)
when_sound-ok (Degenerate i j k) r x h = absurd (err_not_ok (Call (record { cause = cause.Degenerate; a = 0; b = 0 })) x h)

pub by_run-ok : {A : Type 0} (r : Result A RunFault) (x : A) → by_run r ≡ Ok x → r ≡ Ok x
by_run-ok (Ok y) x h = ap Ok (ok_injective y x h)
by_run-ok (Err f) x h = absurd (err_not_ok (Run f) x h)
