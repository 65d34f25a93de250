-- The first Weyl algebra as a table, over any ring: x2 x1 = x1 x2 + 1.
use Rattle.std.specs.Prelude.{◌≡◌, ◌*◌, List, [], ◌∷◌, replicate, slice_set}
use Rattle.std.proofs.Common.{lit≤}
use Rattle.theory.specs.Examples.{weyl}
use Rattle.coefficients.specs.Coding.{Coding}
use Rattle.orders.specs.Letters.{letter_count}
use Rattle.orders.specs.Models.{OrderModel}
use Rattle.words.specs.Rows.{row_of}
use Rattle.kept.specs.Terms.{blanks}
use Rattle.run.specs.declared.relation.Relation.{Relation}
use Rattle.run.specs.Relations.{pair_place, null}
use Rattle.normal_forms.specs.Relations.{relations_of, Valid}

abbrev pub weyl_relation : Coding → Relation
weyl_relation m = record { factor = m.one; count = 1; tail = record { row = row_of []; code = m.one } ∷ blanks 7; few = lit≤ tt }

unfoldable pub weyl_table : Coding → List Relation
weyl_table m = slice_set (replicate (letter_count * letter_count) null) (pair_place 2 1) (weyl_relation m)

-- the table is valid under every order, and means the relation of the algebra
pub record WeylTable (m : Coding) (o : OrderModel) : Type 0 where
  pub valid : Valid m o 2 (weyl_table m)
  pub factor : (relations_of m 2 (weyl_table m)).factor 2 1 ≡ (weyl m.ring 1).factor 2 1
  pub tail : (relations_of m 2 (weyl_table m)).tail 2 1 ≡ (weyl m.ring 1).tail 2 1
