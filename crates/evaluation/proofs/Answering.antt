-- Answers one after another.
use Rattle.std.proofs.Common.{◌≡◌, Ok, Err, Result, refl}
use Rattle.answers.specs.declared.fault.ScriptFault.{ScriptFault}
use Rattle.evaluation.specs.Coefficients.{and_then}

pub then_assoc : {A B C : Type 0} (r : Result A ScriptFault) (f : A → Result B ScriptFault) (g : B → Result C ScriptFault)
    → and_then (and_then r f) g ≡ and_then r (λ x. and_then (f x) g)
then_assoc (Ok x) f g = refl
then_assoc (Err e) f g = refl

pub then_same : {A B : Type 0} (r : Result A ScriptFault) (f g : A → Result B ScriptFault) → ((x : A) → f x ≡ g x) → and_then r f ≡ and_then r g
then_same (Ok x) f g h = h x
then_same (Err e) f g h = refl

pub then_ok : {A : Type 0} (r : Result A ScriptFault) → and_then r (λ x. Ok x) ≡ r
then_ok (Ok x) = refl
then_ok (Err e) = refl
