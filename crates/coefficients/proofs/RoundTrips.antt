-- What was written is read back.
use Rattle.std.proofs.Common.{◌≡◌, ℕ, ◌-◌, Bool, true, false, cond, List, length, take, replicate, Ok, Err, refl, ap, ◌∙◌, ap₂, arith}
use Rattle.std.proofs.lemmas.List.{take_at}
use Rattle.coefficients.specs.declared.fault.RingFault.TheVariants.{NotInUse}
use Rattle.coefficients.specs.Coding.{Coding, Answer, write_answer, filled}
use Rattle.coefficients.specs.Numbering.{when_in_use}

pub read_back : (m : Coding) (a n : ℕ) (out old : List ℕ) → ◌≡◌ {A = Answer} (Ok n) (write_answer m a) → out ≡ cond (m.used a) (filled (m.writing a)) old
    → m.read (take (n - 0) out) ≡ when_in_use (m.used a) (Ok a)
read_back m a n out old e b = go (m.used a) refl e b
  where
    go : (t : Bool) → m.used a ≡ t → ◌≡◌ {A = Answer} (Ok n) (cond t (Ok (length (m.writing a))) (Err NotInUse)) → out ≡ cond t (filled (m.writing a)) old → m.read (take (n - 0) out) ≡ when_in_use t (Ok a)
    go true u e b =
        let l : n ≡ length (m.writing a) = cc in
        let k : n - 0 ≡ length (m.writing a) = omega arith in
        ap m.read (ap₂ take k b ∙ take_at (m.writing a) (replicate (80 - length (m.writing a)) 0) (length (m.writing a)) refl) ∙ m.read_writing a u
    go false u e b = let z : ◌≡◌ {A = ℕ} 0 1 = cc in absurd (omega arith)
