-- The law of every history: what verdicts and answered calculations mean, and which relations they speak of.
use Rattle.std.specs.Prelude.{◌≡◌, ℕ, Bool, true, ◌⊎◌, ◌↔◌, List, [], ◌∷◌, Ok}
use Rattle.theory.specs.Ring.{CommutativeRing}
use Rattle.theory.specs.FreeSum.{FreeSum, ◌≈◌}
use Rattle.theory.specs.Relations.{Relations, Pair}
use Rattle.theory.specs.Congruence.{Congruent}
use Rattle.theory.specs.Rewriting.{Ended, Rewriting, AllWhole}
use Rattle.coefficients.specs.Coding.{Coding}
use Rattle.orders.specs.Models.{OrderModel}
use Rattle.words.specs.declared.term.Term.{Term}
use Rattle.run.specs.declared.relation.Relation.{Relation}
use Rattle.relations.specs.Counts.{is_count}
use Rattle.relations.specs.Declare.{declare_answer}
use Rattle.relations.specs.Presentations.{Opened, Declares}
use Rattle.normal_forms.specs.Terms.{Among, sum_of}
use Rattle.normal_forms.specs.Relations.{relations_of}
use Rattle.algebra.specs.Verdicts.{IsSound}
use Rattle.algebra.specs.Meaning.{TellsTruth}
use Rattle.histories.specs.State.{State, opened, count, table_of, verdict, relations}
use Rattle.histories.specs.History.{Calculation, History, Declaration, declarations}

-- THE LAW

-- a rewriting of f, by whole steps, that has ended at g
pub record Arrives {R : CommutativeRing} (P : Relations R) (f g : FreeSum R) : Type 0 where
  pub rewriting : Rewriting P f g
  pub whole : AllWhole P rewriting
  pub ended : Ended g

pub record Faithful (m : Coding) (s : State) (cs : List (Calculation m)) : Type 0 where
  -- (a) once decided, an algebra is sound exactly where its standard words are a basis, and degenerate exactly where they are not
  pub verdict_true : TellsTruth m (count s) (table_of s) (verdict s)
  -- (b) in a sound algebra two calculations have equal terms exactly where their free sums are congruent
  pub equal_is_congruent : IsSound (verdict s) → (c d : Calculation m) → Among c cs → Among d cs
      → (c.terms ≡ d.terms) ↔ Congruent (relations m s) c.free_sum d.free_sum
  -- (c) and every rewriting of a calculation's free sum that has ended has ended at its terms, and there is one
  pub every_rewriting : IsSound (verdict s) → (c : Calculation m) → Among c cs
      → (g : FreeSum m.ring) → Rewriting (relations m s) c.free_sum g → Ended g → g ≈ sum_of m c.terms
  pub some_rewriting : IsSound (verdict s) → (c : Calculation m) → Among c cs → Arrives (relations m s) c.free_sum (sum_of m c.terms)

abbrev pub HistoriesFaithful : Coding → OrderModel → Type 0
HistoriesFaithful m o = (s : State) (cs : List (Calculation m)) → History m o s cs → Faithful m s cs

-- THE RELATIONS

-- each pair has the factor one and no tail
pub record Plain (m : Coding) (n : ℕ) (table : List Relation) : Type 0 where
  pub factors : (j i : ℕ) → Pair n j i → (relations_of m n table).factor j i ≡ m.ring.one
  pub tails : (j i : ℕ) → Pair n j i → (relations_of m n table).tail j i ≡ []

-- the pair j, i has this factor and this tail, and every other pair what it had
pub record Gives (m : Coding) (n : ℕ) (table table' : List Relation) (j i c : ℕ) (tail : List Term) : Type 0 where
  pub pair : Pair n j i
  pub factor_is : (relations_of m n table').factor j i ≡ m.means c
  pub tail_is : (relations_of m n table').tail j i ≡ sum_of m tail
  pub other_factors : (j' i' : ℕ) → Pair n j' i' → ¬ ((j' ≡ j) × (i' ≡ i)) → (relations_of m n table').factor j' i' ≡ (relations_of m n table).factor j' i'
  pub other_tails : (j' i' : ℕ) → Pair n j' i' → ¬ ((j' ≡ j) × (i' ≡ i)) → (relations_of m n table').tail j' i' ≡ (relations_of m n table).tail j' i'

-- one of the declarations is of the pair j, i
abbrev pub Names : ℕ → ℕ → List Declaration → Type 0
Names j i [] = ⊥
Names j i (d ∷ ds) = ((d.j ≡ j) × (d.i ≡ i)) ⊎ Names j i ds

-- no two are of one pair
abbrev pub AllApart : List Declaration → Type 0
AllApart [] = Unit {0}
AllApart (d ∷ ds) = (¬ Names d.j d.i ds) × AllApart ds

-- the relations are as these declarations say: a pair that none of them is of has the factor one and no tail
pub record Presents (m : Coding) (n : ℕ) (table : List Relation) (ds : List Declaration) : Type 0 where
  pub apart : AllApart ds
  pub pairs : (d : Declaration) → Among d ds → Pair n d.j d.i
  pub factors : (d : Declaration) → Among d ds → (relations_of m n table).factor d.j d.i ≡ m.means d.c
  pub tails : (d : Declaration) → Among d ds → (relations_of m n table).tail d.j d.i ≡ sum_of m d.tail
  pub other_factors : (j i : ℕ) → Pair n j i → ¬ Names j i ds → (relations_of m n table).factor j i ≡ m.ring.one
  pub other_tails : (j i : ℕ) → Pair n j i → ¬ Names j i ds → (relations_of m n table).tail j i ≡ []

-- the relations are those that were declared: at first none is, then as each answered declare gives; so after every history the one answered
-- declare of a pair gives its relation
pub record RelationsDeclared (m : Coding) (o : OrderModel) : Type 0 where
  pub at_first : (n : ℕ) (table : List Relation) (declared : List Bool) → is_count n ≡ true → Opened m table declared → Plain m n table
  pub then_declared : (n : ℕ) (table table' : List Relation) (declared declared' : List Bool) (cs : List (Calculation m)) (j i c : ℕ) (tail : List Term)
      → History m o (opened n table declared) cs → declare_answer m o n declared j i c tail ≡ Ok tt → Declares j i c tail table declared table' declared'
      → Gives m n table table' j i c tail
  pub after_all : (s : State) (cs : List (Calculation m)) (h : History m o s cs) → Presents m (count s) (table_of s) (declarations h)
