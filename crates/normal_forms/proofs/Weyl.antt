-- The table of the first Weyl algebra is valid: the empty word comes before every other, whatever the order.
use Rattle.std.proofs.Common.{◌≡◌, ℕ, ◌+◌, ◌<◌, ◌⊎◌, List, [], ◌∷◌, length, Ordering, Less, Equal, Greater, sym, refl, ap, ◌∙◌, subst, inl, inr, arith}
use mathlib.Core.List.{head-eq_of_cons-eq, tail-eq_of_cons-eq}
use Rattle.theory.specs.FreeSum.{single}
use Rattle.coefficients.specs.Coding.{Coding}
use Rattle.orders.specs.Letters.{image, length-image}
use Rattle.orders.specs.Orders.{first_difference, plus, reversed}
use Rattle.orders.specs.Models.{OrderModel, compare_images}
use Rattle.orders.proofs.Comparing.{numbers_less}
use Rattle.orders.proofs.Ending.{images_ordered}
use Rattle.words.specs.Rows.{row_of}
use Rattle.words.specs.declared.term.Term.{Term}
use Rattle.run.specs.Relations.{relation_of, tail_of}
use Rattle.normal_forms.specs.Terms.{Among, sum_of}
use Rattle.normal_forms.specs.Relations.{relations_of, TailTerm, ValidRelation}
use Rattle.normal_forms.specs.Examples.{weyl_table, WeylTable}
use Rattle.normal_forms.proofs.Images.{image-append}
use Rattle.normal_forms.proofs.Rows.{row_holds}

-- a list of zeros has none before it
zeros_least : (a b : List ℕ) → length a ≡ length b → a ≡ plus a a → ¬ (first_difference b a ≡ Less)
zeros_least [] [] e z h = let c : ◌≡◌ {A = ℕ} 0 1 = cc in absurd (omega arith)
zeros_least [] (y ∷ b) e z h = absurd (omega arith)
zeros_least (x ∷ a) [] e z h = absurd (omega arith)
zeros_least (x ∷ a) (y ∷ b) e z h = at (zeros_least a b (omega arith) (tail-eq_of_cons-eq z)) (numbers_less y x (first_difference b a) h)
  where
    at : ¬ (first_difference b a ≡ Less) → (y < x) ⊎ ((y ≡ x) × (first_difference b a ≡ Less)) → ⊥
    at rest (inl l) = let k : x ≡ x + x = head-eq_of_cons-eq z in omega arith
    at rest (inr l) = rest l.1

module _ (o : OrderModel) where
  empty-key : o.key (image []) ≡ plus (o.key (image [])) (o.key (image []))
  empty-key = ap o.key (image-append [] []) ∙ o.key_additive (image []) (image []) (length-image []) (length-image [])

  empty-before : (w : List ℕ) → ¬ (image [] ≡ image w) → compare_images o (image []) (image w) ≡ Less
  empty-before w n = at (compare_images o (image []) (image w)) refl
    where
      at : (r : Ordering) → compare_images o (image []) (image w) ≡ r → compare_images o (image []) (image w) ≡ Less
      at Less e = e
      at Equal e = absurd (n ((images_ordered o).total.antisymmetric (image []) (image w) (length-image []) (length-image w) e))
      at Greater e =
          absurd (zeros_least (o.key (image [])) (o.key (image w)) (o.key_length (image []) (length-image []) ∙ sym (o.key_length (image w) (length-image w))) empty-key
          ((images_ordered o).total.converse (image []) (image w) (length-image []) (length-image w) ∙ ap reversed e))

empty_other : ¬ (image [] ≡ image (1 ∷ 2 ∷ []))
unfolding image
empty_other h = let k : ◌≡◌ {A = ℕ} 0 1 = head-eq_of_cons-eq h in omega arith

module _ (m : Coding) (o : OrderModel) where
  abbrev tail_term : Term
  tail_term = record { row = row_of []; code = m.one }

  tail_is : tail_of (relation_of (weyl_table m) 2 1) ≡ tail_term ∷ []
  unfolding tail_of relation_of weyl_table
  tail_is = refl

  one_is_tail_term : TailTerm m o 2 2 1 tail_term
  one_is_tail_term = record {
    term = record { word = row_holds 2 (omega arith) [] tt (omega arith); in_use = m.one_code.in_use };
    before = empty-before o (1 ∷ 2 ∷ []) empty_other;
  }

  relation-valid : ValidRelation m o 2 2 1 (relation_of (weyl_table m) 2 1)
  unfolding relation_of weyl_table
  relation-valid = record { factor = m.one_code.in_use; tail = λ t a. only t (subst (Among t) tail_is a) }
    where
      only : (t : Term) → Among t (tail_term ∷ []) → TailTerm m o 2 2 1 t
      only t (inl e) = subst (TailTerm m o 2 2 1) (sym e) one_is_tail_term
      only t (inr a) = absurd a

  -- two generators make one pair
  pub weyl-valid : WeylTable m o
  unfolding relations_of relation_of weyl_table sum_of tail_of single
  weyl-valid = record {
    valid = record {
      few = omega arith;
      size = refl;
      pairs = λ j i p.
          let a : 2 ≡ j = omega (arith, p.low, p.falls, p.high) in
          let b : 1 ≡ i = omega (arith, p.low, p.falls, p.high) in
          subst (λ k. ValidRelation m o 2 k i (relation_of (weyl_table m) k i)) a (subst (λ k. ValidRelation m o 2 2 k (relation_of (weyl_table m) 2 k)) b relation-valid);
    };
    factor = m.one_code.is;
    tail = ap (λ x. record { coef = x; word = [] } ∷ []) m.one_code.is;
  }
