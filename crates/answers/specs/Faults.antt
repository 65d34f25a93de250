-- The refusal of each fault of a script: number, layer and places as the layer that it comes from gives them, and the triple of a decision.
use Rattle.std.specs.Prelude.{ℕ}
use Rattle.refusals.specs.declared.Refusal.{Refusal}
use Rattle.refusals.specs.Refusals.{plain}
use Rattle.coefficients.specs.Faults.{ring_refusal}
use Rattle.grammar.specs.Faults.{form_refusal}
use Rattle.words.specs.Faults as words
use Rattle.relations.specs.Counts.{count_refusal}
use Rattle.relations.specs.Faults.{declare_refusal}
use Rattle.residues.specs.Modulus.{modulus_refusal}
use Rattle.orders.specs.Weights as weights
use Rattle.algebra.specs.Faults.{algebra_refusal}
use Rattle.answers.specs.declared.fault.ScriptFault.{ScriptFault}
use Rattle.answers.specs.declared.fault.ScriptFault.TheVariants.{Form, OutOfTurn, Coefficient, Word, Count, Modulus, Weight, Declare, Algebra, Decide}

abbrev pub script_refusal : ScriptFault → Refusal
script_refusal (Form f) = form_refusal f
script_refusal OutOfTurn = plain 26 4
script_refusal (Coefficient f) = ring_refusal f
script_refusal (Word f) = words.refusal_of f
script_refusal (Count f) = count_refusal f
script_refusal (Modulus f) = modulus_refusal f
script_refusal (Weight f) = weights.refusal_of f
script_refusal (Declare f) = declare_refusal f
script_refusal (Algebra f) = algebra_refusal f
script_refusal (Decide f) = algebra_refusal f.overlap

abbrev pub script_triple : ScriptFault → ℕ × ℕ × ℕ
script_triple (Form f) = (0, 0, 0)
script_triple OutOfTurn = (0, 0, 0)
script_triple (Coefficient f) = (0, 0, 0)
script_triple (Word f) = (0, 0, 0)
script_triple (Count f) = (0, 0, 0)
script_triple (Modulus f) = (0, 0, 0)
script_triple (Weight f) = (0, 0, 0)
script_triple (Declare f) = (0, 0, 0)
script_triple (Algebra f) = (0, 0, 0)
script_triple (Decide f) = (f.i, f.j, f.k)
