-- The relations of a table that was just opened, and of one in which a relation was declared.
use Rattle.std.proofs.Common.{◌≡◌, ℕ, ◌<◌, ◌≤◌, Bool, true, leb, List, get_or, sym, ap, ◌∙◌, subst, arith}
use Rattle.std.proofs.lemmas.List.{get_or-replicate, get_or-set_same, get_or-set_other}
use Rattle.std.proofs.lemmas.Bool.{and_parts, leb-true}
use Rattle.theory.specs.Relations.{Pair}
use Rattle.coefficients.specs.Coding.{Coding}
use Rattle.orders.specs.Letters.{letter_count}
use Rattle.orders.specs.Models.{OrderModel}
use Rattle.words.specs.declared.term.Term.{Term}
use Rattle.run.specs.declared.relation.Relation.{Relation}
use Rattle.run.specs.Relations.{pair_place, null, relation_of}
use Rattle.relations.specs.Counts.{is_count}
use Rattle.relations.specs.Presentations.{Opened, Declares}
use Rattle.normal_forms.specs.Relations.{Valid}

-- PLACES IN THE TABLE

pub pair-low : (n j i : ℕ) → n ≤ letter_count → Pair n j i → pair_place j i < 64
pair-low n j i few p =
    let a = p.low in
    let b = p.falls in
    let c = p.high in
    omega arith

-- different pairs have different places
pair-apart : (n j i j' i' : ℕ) → n ≤ letter_count → Pair n j i → Pair n j' i' → pair_place j i ≡ pair_place j' i' → (j ≡ j') × (i ≡ i')
pair-apart n j i j' i' few p q e =
    let a = p.low in
    let b = p.falls in
    let c = p.high in
    let d = q.low in
    let f = q.falls in
    let g = q.high in
    (omega arith, omega arith)

-- OPENING

pub opened-relation : (m : Coding) (n : ℕ) (table : List Relation) (declared : List Bool) (h : Opened m table declared) → n ≤ letter_count → (j i : ℕ) → Pair n j i → relation_of table j i ≡ h.plain.relation
unfolding relation_of
opened-relation m n table declared h few j i p =
    ap (λ l. get_or l (pair_place j i) null) h.plain.table_is ∙ get_or-replicate 64 (pair_place j i) h.plain.relation null (pair-low n j i few p)

pub count-few : (n : ℕ) → is_count n ≡ true → n ≤ letter_count
count-few n h = leb-true n letter_count (and_parts (leb 1 n) (leb n letter_count) h).1

-- DECLARING

module _ (m : Coding) (o : OrderModel) (n : ℕ) (table table' : List Relation) (declared declared' : List Bool) (j i c : ℕ) (tail : List Term) (valid : Valid m o n table) (h : Declares j i c tail table declared table' declared') (pair : Pair n j i) where
  -- the pair's relation, and another pair's
  pub relation-same : relation_of table' j i ≡ h.relation
  unfolding relation_of
  relation-same =
      ap (λ l. get_or l (pair_place j i) null) h.table_is
      ∙ get_or-set_same table (pair_place j i) h.relation null (subst (λ k. pair_place j i < k) (sym valid.size) (pair-low n j i valid.few pair))

  pub relation_other : (j' i' : ℕ) → Pair n j' i' → ¬ ((j' ≡ j) × (i' ≡ i)) → relation_of table' j' i' ≡ relation_of table j' i'
  unfolding relation_of
  relation_other j' i' p k =
      ap (λ l. get_or l (pair_place j' i') null) h.table_is
      ∙ get_or-set_other table (pair_place j i) (pair_place j' i') h.relation null (λ e. k (pair-apart n j' i' j i valid.few p pair e))
