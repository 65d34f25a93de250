-- The refusal of a run: number and layer by its cause, and its places.
use Rattle.std.specs.Prelude.{ℕ}
use Rattle.refusals.specs.declared.Refusal.{Refusal}
use Rattle.refusals.specs.Refusals.{plain}
use Rattle.coefficients.specs.Faults.{ring_refusal}
use Rattle.kept.specs.declared.fault.KeptFault.{KeptFault}
use Rattle.kept.specs.declared.fault.KeptFault.TheVariants.{Sum, Full}
use Rattle.run.specs.declared.fault.Cause.{Cause}
use Rattle.run.specs.declared.fault.Cause.TheVariants.{Coefficient, WordTooLong, WorkFull, ResultFull, StepLimit}
use Rattle.run.specs.declared.fault.Place.{Place}
use Rattle.run.specs.declared.fault.RunFault.{RunFault}

abbrev pub cause_of_kept : KeptFault → Cause
cause_of_kept (Sum f) = Coefficient f
cause_of_kept Full = WorkFull

abbrev pub number_and_layer : Cause → ℕ × ℕ
number_and_layer (Coefficient f) = ((ring_refusal f).number, (ring_refusal f).layer)
number_and_layer WordTooLong = (11, 2)
number_and_layer WorkFull = (23, 2)
number_and_layer ResultFull = (24, 2)
number_and_layer StepLimit = (25, 2)

abbrev pub run_refusal : RunFault → Refusal
run_refusal f = record {
  number = (number_and_layer f.cause).0;
  layer = (number_and_layer f.cause).1;
  step = f.place.step;
  a = f.place.a;
  b = f.place.b;
  e = f.place.e;
}

-- the refusal of a cause, which has no place
abbrev pub cause_refusal : Cause → Refusal
cause_refusal c = plain (number_and_layer c).0 (number_and_layer c).1

-- a place in loading, by the places in the first and the second list
abbrev pub loading : ℕ → ℕ → Place
loading a b = record { step = 0; a = a; b = b; e = 0 }

-- a place in a step, by the letters exchanged and the tail term
abbrev pub stepping : ℕ → ℕ → ℕ → ℕ → Place
stepping n j i e = record { step = n; a = j; b = i; e = e }

-- a step as a whole
abbrev pub at_step : ℕ → Place
at_step n = stepping n 0 0 0
