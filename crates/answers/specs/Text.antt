-- The bytes of the answers of each kind.
use Rattle.std.specs.Prelude.{ℕ, cond, List, [], ◌∷◌, ◌++◌, codes, decimal}
use Rattle.coefficients.specs.Coding.{Coding}
use Rattle.orders.specs.Letters.{letters}
use Rattle.words.specs.declared.term.Term.{Term}
use Rattle.refusals.specs.declared.Refusal.{Refusal}
use Rattle.algebra.specs.declared.verdict.Verdict.{Verdict}
use Rattle.algebra.specs.declared.verdict.Verdict.TheVariants.{Undecided, Sound, Degenerate}
use Rattle.answers.specs.Faults.{script_refusal, script_triple}
use Rattle.answers.specs.declared.fault.ScriptFault.{ScriptFault}
use Rattle.answers.specs.declared.text.Report.{Report}
use Rattle.answers.specs.declared.text.Report.TheVariants.{Opened, Declared, Decided}

abbrev pub opened_bytes : List ℕ
opened_bytes = codes "(opened)"

abbrev pub declared_bytes : List ℕ
declared_bytes = codes "(declared)"

-- each number in decimal, behind a space
abbrev pub numbers_bytes : List ℕ → List ℕ
numbers_bytes [] = []
numbers_bytes (n ∷ ns) = (codes " " ++ decimal n) ++ numbers_bytes ns

-- an algebra that is not decided is no answer
abbrev pub verdict_bytes : Verdict → List ℕ
verdict_bytes Undecided = []
verdict_bytes Sound = codes "(sound)"
verdict_bytes (Degenerate i j k) = codes "(degenerate" ++ (numbers_bytes (i ∷ j ∷ k ∷ []) ++ codes ")")

abbrev pub report_bytes : Report → List ℕ
report_bytes Opened = opened_bytes
report_bytes Declared = declared_bytes
report_bytes (Decided v) = verdict_bytes v

-- number and layer, the line, the places, the triple
abbrev pub refusal_numbers : ℕ → Refusal → ℕ × ℕ × ℕ → List ℕ
refusal_numbers line r t = r.number ∷ r.layer ∷ line ∷ r.step ∷ r.a ∷ r.b ∷ r.e ∷ t.0 ∷ t.1 ∷ t.2 ∷ []

abbrev pub refused_bytes : ℕ → ScriptFault → List ℕ
refused_bytes line f = codes "(refused" ++ (numbers_bytes (refusal_numbers line (script_refusal f) (script_triple f)) ++ codes ")")

-- each letter as x and its number, behind a space
abbrev pub letters_bytes : List ℕ → List ℕ
letters_bytes [] = []
letters_bytes (x ∷ xs) = (codes " x" ++ decimal x) ++ letters_bytes xs

-- the writing of a code; one that is not in use has none
abbrev pub written : Coding → ℕ → List ℕ
written m c = cond (m.used c) (m.writing c) []

abbrev pub term_bytes : Coding → Term → List ℕ
term_bytes m t = codes "(" ++ (written m t.code ++ (letters_bytes (letters t.row) ++ codes ")"))

-- each term behind a space
abbrev pub terms_bytes : Coding → List Term → List ℕ
terms_bytes m [] = []
terms_bytes m (t ∷ ts) = (codes " " ++ term_bytes m t) ++ terms_bytes m ts

abbrev pub list_bytes : Coding → List Term → List ℕ
list_bytes m ts = codes "(list" ++ (terms_bytes m ts ++ codes ")")
