-- How a relation is kept, and where the relation of a pair of letters stands in the table.
use Rattle.std.specs.Prelude.{ℕ, ◌+◌, ◌-◌, ◌*◌, min, List, [], ◌++◌, length, take, slice_index_or}
use Rattle.std.proofs.Common.{lit≤}
use Rattle.std.proofs.Math.Nat.{min-le_left}
use Rattle.orders.specs.Letters.{letter_count}
use Rattle.words.specs.declared.term.Term.{Term}
use Rattle.kept.specs.Terms.{blanks}
use Rattle.run.specs.declared.relation.Relation.{Relation}

abbrev pub pair_place : ℕ → ℕ → ℕ
pair_place j i = letter_count * (j - 1) + (i - 1)

-- what a read past the end gives
abbrev pub null : Relation
null = record { factor = 0; count = 0; tail = []; few = lit≤ tt }

-- the relation of x_j x_i
unfoldable pub relation_of : List Relation → ℕ → ℕ → Relation
relation_of table j i = slice_index_or table (pair_place j i) null

unfoldable pub tail_of : Relation → List Term
tail_of r = take r.count r.tail

-- the relation of factor c and the tail ts, cut to eight terms; blank terms behind it
unfoldable pub made_relation : ℕ → List Term → Relation
made_relation c ts = record { factor = c; count = min 8 (length ts); tail = take 8 (ts ++ blanks 8); few = min-le_left 8 (length ts) }
