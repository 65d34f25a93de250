-- The state of an algebra, and what it means.
use Rattle.std.specs.Prelude.{ℕ, Bool, List}
use Rattle.theory.specs.Relations.{Relations}
use Rattle.coefficients.specs.Coding.{Coding}
use Rattle.run.specs.declared.relation.Relation.{Relation}
use Rattle.algebra.specs.declared.verdict.Verdict.{Verdict}
use Rattle.algebra.specs.declared.verdict.Verdict.TheVariants.{Undecided}
use Rattle.normal_forms.specs.Relations.{relations_of}

-- open: how many generators, the relation of each pair, which pairs were declared; closed: the verdict in the place of the last
pub data State : Type 0 where
  opened : ℕ → List Relation → List Bool → State
  closed : ℕ → List Relation → Verdict → State

abbrev pub count : State → ℕ
count (opened n table declared) = n
count (closed n table v) = n

abbrev pub table_of : State → List Relation
table_of (opened n table declared) = table
table_of (closed n table v) = table

-- an open algebra is undecided
abbrev pub verdict : State → Verdict
verdict (opened n table declared) = Undecided
verdict (closed n table v) = v

-- the relations of an algebra
abbrev pub relations : (m : Coding) → State → Relations m.ring
relations m s = relations_of m (count s) (table_of s)
