-- What a line of a script is answered with, and the bytes of an answer.
use Rattle.std.specs.Prelude.{ℕ, List}
use Rattle.words.specs.declared.term.Term.{Term}
use Rattle.algebra.specs.declared.verdict.Verdict.{Verdict}
use Rattle.choices.specs.Rings.{ring_model}
use Rattle.choices.specs.declared.ring.AnyRing.{AnyRing}
use Rattle.answers.specs.Text.{opened_bytes, declared_bytes, verdict_bytes, list_bytes, refused_bytes}
use Rattle.answers.specs.declared.fault.ScriptFault.{ScriptFault}

pub data Answer : Type 0 where
  opened : Answer
  declared : Answer
  decided : Verdict → Answer
  -- terms with coefficients in a ring
  list : AnyRing → List Term → Answer
  refused : ScriptFault → Answer

-- the bytes of the answer to the line of this number
abbrev pub answer_bytes : ℕ → Answer → List ℕ
answer_bytes line opened = opened_bytes
answer_bytes line declared = declared_bytes
answer_bytes line (decided v) = verdict_bytes v
answer_bytes line (list k ts) = list_bytes (ring_model k) ts
answer_bytes line (refused f) = refused_bytes line f
