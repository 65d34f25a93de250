-- The order of words and of terms: greater is transitive, terms that compare equal have the same word, and greater ones another.
use Rattle.std.proofs.Common.{◌≡◌, ℕ, List, [], ◌∷◌, Less, Equal, Greater, sym, ap, ◌∙◌, arith}
use Rattle.orders.specs.Letters.{letters}
use Rattle.orders.specs.Models.{OrderModel}
use Rattle.orders.specs.Orders.{reversed}
use Rattle.words.specs.Compare.{compare_words}
use Rattle.words.specs.declared.term.Term.{Term}
use Rattle.words.proofs.Ranking.{words_ordered}
use Rattle.kept.specs.Kept.{compare_terms}
use Rattle.kept.specs.Falling.{Above}
use Rattle.kept.proofs.Ordered.{greater_trans}

module _ (o : OrderModel) where
  flip_words : (u v : List ℕ) → compare_words o u v ≡ Less → compare_words o v u ≡ Greater
  flip_words u v h = (words_ordered o).converse u v tt tt ∙ ap reversed h

  flip_greater : (u v : List ℕ) → compare_words o u v ≡ Greater → compare_words o v u ≡ Less
  flip_greater u v h = (words_ordered o).converse u v tt tt ∙ ap reversed h

  pub trans_words : (u v w : List ℕ) → compare_words o u v ≡ Greater → compare_words o v w ≡ Greater → compare_words o u w ≡ Greater
  trans_words u v w h k = flip_words w u ((words_ordered o).transitive w v u tt tt tt (flip_greater v w k) (flip_greater u v h))

  pub greater_words : (x y : Term) → compare_terms o x y ≡ Greater → compare_words o (letters x.row) (letters y.row) ≡ Greater
  unfolding compare_terms
  greater_words x y h = h

  pub equal-terms : (x y : Term) → compare_terms o x y ≡ Equal → letters x.row ≡ letters y.row
  unfolding compare_terms
  equal-terms x y h = (words_ordered o).antisymmetric (letters x.row) (letters y.row) tt tt h

  pub greater_other : (z x : Term) → compare_terms o z x ≡ Greater → ¬ (letters x.row ≡ letters z.row)
  unfolding compare_terms
  greater_other z x h e =
      let w = letters z.row in
      let s : Greater ≡ Equal = sym h ∙ ap (compare_words o w) e ∙ (words_ordered o).reflexive w tt in
      let c : ◌≡◌ {A = ℕ} 0 1 = cc in
      omega arith

  pub above-rest : (z x : Term) (xs : List Term) → compare_terms o z x ≡ Greater → Above o x xs → Above o z xs
  above-rest z x [] h a = tt
  above-rest z x (y ∷ xs) h a = greater_trans o z x y h a
