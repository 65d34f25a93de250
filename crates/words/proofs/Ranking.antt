-- Comparing words is comparing lists: the key of the image, then the inversions, then the letters. So it is a strict total order.
use Rattle.std.proofs.Common.{◌≡◌, ℕ, List, ◌∷◌, ◌++◌, Ordering, Less, Equal, Greater, sym, ap, ◌∙◌, arith}
use Rattle.orders.specs.Letters.{image, length-image}
use Rattle.orders.specs.Orders.{first_difference, numbers, then_by, reversed}
use Rattle.orders.specs.Models.{OrderModel, compare_images}
use Rattle.orders.proofs.Comparing.{numbers-then, difference-append, difference-same, difference-equal, difference-reversed, difference_less}
use Rattle.words.specs.Inversions.{inversions}
use Rattle.words.specs.Compare.{compare_words, compare_ties}
use Rattle.words.specs.Laws.{WordsOrdered}

-- all that a word's place depends on, as one list
abbrev pub rank : OrderModel → List ℕ → List ℕ
rank o w = o.key (image w) ++ (inversions w ∷ w)

pub compare_rank : (o : OrderModel) (u v : List ℕ) → compare_words o u v ≡ first_difference (rank o u) (rank o v)
compare_rank o u v =
    ap (then_by (compare_images o (image u) (image v))) (sym (numbers-then (inversions u) (inversions v) Equal (first_difference u v)))
    ∙ sym (difference-append (o.key (image u)) (o.key (image v)) (inversions u ∷ u) (inversions v ∷ v) (o.key_length (image u) (length-image u) ∙ sym (o.key_length (image v) (length-image v))))

then_equal : (a b : Ordering) → then_by a b ≡ Equal → b ≡ Equal
then_equal Less b h = let z : ◌≡◌ {A = ℕ} 0 1 = cc in absurd (omega arith)
then_equal Equal b h = h
then_equal Greater b h = let z : ◌≡◌ {A = ℕ} 0 1 = cc in absurd (omega arith)

pub words_ordered : (o : OrderModel) → WordsOrdered o
words_ordered o = record {
  reflexive = λ u _. compare_rank o u u ∙ difference-same (rank o u);
  antisymmetric = λ u v _ _ h.
      difference-equal u v
      (then_equal (numbers (inversions u) (inversions v) Equal) (first_difference u v) (then_equal (compare_images o (image u) (image v)) (compare_ties u v) h));
  converse = λ u v _ _. compare_rank o v u ∙ difference-reversed (rank o u) (rank o v) ∙ ap reversed (sym (compare_rank o u v));
  transitive = λ u v w _ _ _ h k. compare_rank o u w ∙ difference_less (rank o u) (rank o v) (rank o w) (sym (compare_rank o u v) ∙ h) (sym (compare_rank o v w) ∙ k);
}

-- a word ties with itself
pub same_ties : (u v : List ℕ) → first_difference u v ≡ Equal → compare_ties u v ≡ Equal
same_ties u v h =
    ap (compare_ties u) (sym (difference-equal u v h))
    ∙ sym (numbers-then (inversions u) (inversions u) Equal (first_difference u u))
    ∙ difference-same (inversions u ∷ u)
