-- What opening an algebra and declaring a relation leave of its presentation.
use Rattle.std.specs.Prelude.{◌≡◌, ℕ, ◌<◌, Bool, true, false, List, [], replicate, slice_set}
use Rattle.coefficients.specs.Coding.{Coding}
use Rattle.orders.specs.Models.{OrderModel}
use Rattle.words.specs.declared.term.Term.{Term}
use Rattle.run.specs.declared.relation.Relation.{Relation}
use Rattle.run.specs.Relations.{pair_place, tail_of, made_relation}
use Rattle.relations.specs.Declare.{passed, declare_answer, AllFull}

-- x_j x_i = c x_i x_j + tail
pub record Says (r : Relation) (c : ℕ) (ts : List Term) : Type 0 where
  pub factor : r.factor ≡ c
  pub tail : tail_of r ≡ ts

-- every relation has the factor c and no tail
pub record Plain (c : ℕ) (table : List Relation) : Type 0 where
  pub relation : Relation
  pub says : Says relation c []
  pub table_is : table ≡ replicate 64 relation

-- every pair has the factor one and no tail
abbrev pub opened_table : Coding → List Relation
opened_table m = replicate 64 (made_relation m.one [])

-- no pair counts as declared
abbrev pub no_pairs : List Bool
no_pairs = replicate 64 false

-- x_j x_i = c x_i x_j + tail now, and all else is as it was
abbrev pub declared_table : List Relation → ℕ → ℕ → ℕ → List Term → List Relation
declared_table table j i c tail = slice_set table (pair_place j i) (made_relation c tail)

-- the pair j, i counts as declared
abbrev pub with_pair : List Bool → ℕ → ℕ → List Bool
with_pair declared j i = slice_set declared (pair_place j i) true

-- no pair is declared: each has the factor one and no tail
pub record Opened (m : Coding) (table : List Relation) (declared : List Bool) : Type 0 where
  pub plain : Plain m.one table
  pub none_declared : declared ≡ replicate 64 false

-- a declaration passed every check: its relation may be written at this place
pub record Accepted (m : Coding) (o : OrderModel) (n : ℕ) (declared : List Bool) (j i c : ℕ) (tail : List Term) (p : ℕ) (r : Relation) : Type 0 where
  pub answer : declare_answer m o n declared j i c tail ≡ passed
  pub place : p ≡ pair_place j i
  pub within : p < 64
  pub says : Says r c tail
  pub full : AllFull tail

-- the pair j, i has this relation now and counts as declared; all else is as it was; the rows of the tail have all their places
pub record Declares (j i c : ℕ) (tail : List Term) (table : List Relation) (declared : List Bool) (table' : List Relation) (declared' : List Bool) : Type 0 where
  pub relation : Relation
  pub says : Says relation c tail
  pub table_is : table' ≡ slice_set table (pair_place j i) relation
  pub declared_is : declared' ≡ slice_set declared (pair_place j i) true
  pub full : AllFull tail
