-- What is left of the triples in the course of a search, and whether an overlap vanishes.
use Rattle.std.specs.Prelude.{Bool, true, false, List, [], ◌∷◌, Ok, Err, Result}
use Rattle.words.specs.declared.term.Term.{Term}
use Rattle.run.specs.declared.fault.RunFault.{RunFault}
use Rattle.run.specs.Step.{Outcome}
use Rattle.algebra.specs.declared.fault.AlgebraFault.TheVariants.{Run}
use Rattle.algebra.specs.declared.fault.DecideFault.{DecideFault}
use Rattle.algebra.specs.Decide.{Triple}

abbrev pub no_terms : List Term → Bool
no_terms [] = true
no_terms (x ∷ xs) = false

-- whether the run of a triple's overlap was answered without terms
abbrev pub vanishing : Triple → Result Outcome RunFault → Result Bool DecideFault
vanishing t (Ok r) = Ok (no_terms r.terms)
vanishing t (Err f) = Err (record { overlap = Run f; i = t.i; j = t.j; k = t.k })
