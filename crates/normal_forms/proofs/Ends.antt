-- The relations of a valid table: their tails are in the letters 1 to n, and rewriting of words ends.
use Rattle.std.proofs.Common.{◌≡◌, ℕ, List, [], ◌∷◌, sym, refl, subst, inl, inr}
use Rattle.theory.specs.FreeSum.{Word, Occurs}
use Rattle.theory.specs.Words.{Over}
use Rattle.theory.specs.Relations.{TailsOver}
use Rattle.theory.specs.Keys.{Before, TailsFall}
use Rattle.theory.proofs.Ends.{ends_by_keys}
use Rattle.coefficients.specs.Coding.{Coding}
use Rattle.orders.specs.Letters.{letters}
use Rattle.orders.specs.Models.{OrderModel}
use Rattle.words.specs.declared.term.Term.{Term}
use Rattle.run.specs.declared.relation.Relation.{Relation}
use Rattle.run.specs.Relations.{relation_of, tail_of}
use Rattle.normal_forms.specs.Terms.{Among, sum_of}
use Rattle.normal_forms.specs.Relations.{relations_of, Ends, Valid}
use Rattle.normal_forms.proofs.Images.{keys_of, key-before}

pub occurs-sum_of : (m : Coding) (ts : List Term) (t : Word) → Occurs t (sum_of m ts) → (x : Term) × Among x ts × (t ≡ letters x.row)
unfolding sum_of
occurs-sum_of m [] t o = absurd o
occurs-sum_of m (x ∷ ts) t (inl e) = (x, inl refl, e)
occurs-sum_of m (x ∷ ts) t (inr o) = let h = occurs-sum_of m ts t o in (h.0, inr h.1, h.2)

module _ (m : Coding) (o : OrderModel) (n : ℕ) (table : List Relation) (valid : Valid m o n table) where
  -- a word of a tail is that of one of its terms
  tail-word : (j i : ℕ) (t : Word) → Occurs t ((relations_of m n table).tail j i) → (x : Term) × Among x (tail_of (relation_of table j i)) × (t ≡ letters x.row)
  unfolding relations_of
  tail-word j i t h = occurs-sum_of m (tail_of (relation_of table j i)) t h

  pub tails-over : TailsOver (relations_of m n table)
  unfolding relations_of
  tails-over j i p t h = let x = tail-word j i t h in subst (Over n) (sym x.2) ((valid.pairs j i p).tail x.0 x.1).term.word.over

  tails_fall : TailsFall (relations_of m n table) (keys_of o)
  unfolding relations_of
  tails_fall j i p t h =
      let x = tail-word j i t h in
      subst (λ w. Before ((keys_of o).key w) ((keys_of o).key (i ∷ j ∷ []))) (sym x.2) (key-before o (letters x.0.row) (i ∷ j ∷ []) ((valid.pairs j i p).tail x.0 x.1).before)

  pub rewriting_ends : Ends m n table
  rewriting_ends = ends_by_keys (relations_of m n table) (keys_of o) tails_fall
