-- Lists of one length descend finitely, and so do images by their keys.
use Rattle.std.proofs.Common.{◌≡◌, ℕ, zero, suc, ◌<◌, ◌⊎◌, List, [], ◌∷◌, length, Less, sym, refl, ap, ◌∙◌, subst, ap₂, inl, inr, arith}
use mathlib.Core.WellFounded.{Acc}
use Rattle.orders.specs.Orders.{first_difference}
use Rattle.orders.specs.Models.{OrderModel}
use Rattle.orders.specs.Laws.{Before, ImagesOrdered}
use Rattle.orders.proofs.Comparing.{numbers_less, difference-same, difference-equal, difference-reversed, difference_less, difference-plus}

-- a list before another of the same length
abbrev Under : List ℕ → List ℕ → Type 0
Under xs ys = (length xs ≡ length ys) × (first_difference xs ys ≡ Less)

-- the head stays and the tail descends
by_tail : (n x : ℕ) → ((y : ℕ) (ys : List ℕ) → y < x → length ys ≡ n → Acc Under (y ∷ ys)) → {xs : List ℕ} → Acc Under xs → length xs ≡ n → Acc Under (x ∷ xs)
by_tail n x lower (Acc.intro xs tails) e = Acc.intro (x ∷ xs) (λ ys u. go (λ zs v. by_tail n x lower (tails zs v) (v.0 ∙ e)) ys u)
  where
    go : ((zs : List ℕ) → Under zs xs → Acc Under (x ∷ zs)) → (ys : List ℕ) → Under ys (x ∷ xs) → Acc Under ys
    go rest [] u = let h = u.0 in absurd (omega arith)
    go rest (y ∷ ys) u = at (numbers_less y x (first_difference ys xs) u.1)
      where
        same_length : length ys ≡ length xs
        same_length = let h = u.0 in omega arith

        at : (y < x) ⊎ ((y ≡ x) × (first_difference ys xs ≡ Less)) → Acc Under (y ∷ ys)
        at (inl l) = lower y ys l (same_length ∙ e)
        at (inr l) = subst (λ z. Acc Under (z ∷ ys)) (sym l.0) (rest ys (same_length, l.1))

by_head : (n : ℕ) → ((xs : List ℕ) → length xs ≡ n → Acc Under xs) → (b x : ℕ) (xs : List ℕ) → x < b → length xs ≡ n → Acc Under (x ∷ xs)
by_head n tails zero x xs l e = absurd (omega arith)
by_head n tails (suc b) x xs l e = by_tail n x (λ y ys h f. by_head n tails b y ys (omega arith) f) (tails xs e) e

lists_descend : (n : ℕ) (xs : List ℕ) → length xs ≡ n → Acc Under xs
lists_descend zero [] e = Acc.intro [] (λ ys u. none ys u)
  where
    none : (ys : List ℕ) → Under ys [] → Acc Under ys
    none [] u = let h = u.1 in let z : ◌≡◌ {A = ℕ} 0 1 = cc in absurd (omega arith)
    none (y ∷ ys) u = let h = u.0 in absurd (omega arith)
lists_descend zero (x ∷ xs) e = absurd (omega arith)
lists_descend (suc n) [] e = absurd (omega arith)
lists_descend (suc n) (x ∷ xs) e = by_head n (lists_descend n) (suc x) x xs (omega arith) (omega arith)

by_keys : (o : OrderModel) {k : List ℕ} → Acc Under k → (a : List ℕ) → o.key a ≡ k → Acc (Before o) a
by_keys o (Acc.intro k h) a e =
    Acc.intro a
    (λ b p. by_keys o (h (o.key b) (o.key_length b p.0 ∙ sym (o.key_length a p.1) ∙ ap length e, subst (λ l. first_difference (o.key b) l ≡ Less) e p.2)) b refl)

pub images_ordered : (o : OrderModel) → ImagesOrdered o
images_ordered o = record {
  total = record {
    reflexive = λ a p. difference-same (o.key a);
    antisymmetric = λ a b p q h. o.key_injective a b p q (difference-equal (o.key a) (o.key b) h);
    converse = λ a b p q. difference-reversed (o.key a) (o.key b);
    transitive = λ a b c p q r h k. difference_less (o.key a) (o.key b) (o.key c) h k;
  };
  adds_up = λ c a b p q r.
      ap₂ first_difference (o.key_additive c a p q) (o.key_additive c b p r)
      ∙ difference-plus (o.key c) (o.key a) (o.key b) (o.key_length c p ∙ sym (o.key_length a q)) (o.key_length c p ∙ sym (o.key_length b r));
  ends = record { apply = λ a. by_keys o (lists_descend (length (o.key a)) (o.key a) refl) a refl };
}
