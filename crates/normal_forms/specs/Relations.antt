-- The relations that a table means, and which tables are valid.
use Rattle.std.specs.Prelude.{◌≡◌, ℕ, ◌*◌, ◌≤◌, true, List, [], ◌∷◌, length}
use Rattle.std.specs.declared.cmp.Ordering.TheVariants.{Less}
use mathlib.Core.WellFounded.{WellFounded}
use Rattle.std.specs.Coded.{×_prop, Unit-prop}
use Rattle.std.proofs.Props.{props}
use Rattle.theory.specs.Words.{Letter, Over}
use Rattle.theory.specs.Relations.{Relations, Pair}
use Rattle.theory.specs.Rewriting.{Below}
use Rattle.coefficients.specs.Coding.{Coding}
use Rattle.orders.specs.Letters.{letters, letter_count, image}
use Rattle.orders.specs.Models.{OrderModel, compare_images}
use Rattle.words.specs.declared.term.Term.{Term}
use Rattle.run.specs.declared.relation.Relation.{Relation}
use Rattle.run.specs.Relations.{relation_of, tail_of}
use Rattle.normal_forms.specs.Terms.{Among, sum_of, IsTerm}

-- the relations that a table means for n generators
unfoldable pub relations_of : (m : Coding) → ℕ → List Relation → Relations m.ring
relations_of m n table = record {
  n = n;
  factor = λ j i. m.means (relation_of table j i).factor;
  tail = λ j i. sum_of m (tail_of (relation_of table j i));
}

-- rewriting of words by these relations ends
abbrev pub Ends : Coding → ℕ → List Relation → Type 0
Ends m n table = WellFounded (Below (relations_of m n table))

-- a term that the tail of x_j x_i may have: the image of its word is before that of x_i x_j
pub record TailTerm (m : Coding) (o : OrderModel) (n j i : ℕ) (t : Term) : Type 0 where
  pub term : IsTerm m n t
  pub before : compare_images o (image (letters t.row)) (image (i ∷ j ∷ [])) ≡ Less

pub record ValidRelation (m : Coding) (o : OrderModel) (n j i : ℕ) (r : Relation) : Type 0 where
  pub factor : m.used r.factor ≡ true
  pub tail : (t : Term) → Among t (tail_of r) → TailTerm m o n j i t

-- what a table satisfies that relations in n generators were declared in
pub record Valid (m : Coding) (o : OrderModel) (n : ℕ) (table : List Relation) : Type 0 where
  pub few : n ≤ letter_count
  pub size : length table ≡ letter_count * letter_count
  pub pairs : (j i : ℕ) → Pair n j i → ValidRelation m o n j i (relation_of table j i)

-- in one way at most is a word in the letters 1 to n, and a table valid
pub Over-prop : (n : ℕ) (w : List ℕ) → IsProp (Over n w)
Over-prop n [] = Unit-prop
Over-prop n (x ∷ w) = ×_prop (letter n x) (Over-prop n w)
  where
    letter : (n k : ℕ) → IsProp (Letter n k)
    letter n k = hlevel props

pub Valid-prop : (m : Coding) (o : OrderModel) (n : ℕ) (table : List Relation) → IsProp (Valid m o n table)
Valid-prop m o n table = hlevel (Over-prop, props)
