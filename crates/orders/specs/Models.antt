-- What an order on images means: a key for every image. Images are compared by the first difference of their keys.
use Rattle.std.specs.Prelude.{◌≡◌, ℕ, suc, ◌+◌, List, [], ◌∷◌, length, drop, refl}
use Rattle.std.specs.declared.cmp.Ordering.{Ordering}
use Rattle.std.proofs.Common.{ap, sym, ◌∙◌, mul-add, arith}
use Rattle.orders.specs.Letters.{letter_count}
use Rattle.orders.specs.Orders.{first_difference, plus, dot}

-- a list of as many numbers as there are letters
abbrev pub IsImage : List ℕ → Type 0
IsImage a = length a ≡ letter_count

-- keys are of one length, different for different images, and add up as images do
pub record OrderModel : Type 0 where
  pub key : List ℕ → List ℕ
  pub width : ℕ
  pub key_length : (a : List ℕ) → IsImage a → length (key a) ≡ width
  pub key_injective : (a b : List ℕ) → IsImage a → IsImage b → key a ≡ key b → a ≡ b
  pub key_additive : (a b : List ℕ) → IsImage a → IsImage b → key (plus a b) ≡ plus (key a) (key b)

abbrev pub compare_images : OrderModel → List ℕ → List ℕ → Ordering
compare_images o a b = first_difference (o.key a) (o.key b)

-- by the count of x1, then by that of x2, and so on
abbrev pub lex_model : OrderModel
lex_model = record {
  key = λ a. a;
  width = letter_count;
  key_length = λ a h. h;
  key_injective = λ a b h k e. e;
  key_additive = λ a b h k. refl;
}

pub dot-plus : (ws a b : List ℕ) → length a ≡ length b → dot ws (plus a b) ≡ dot ws a + dot ws b
dot-plus [] a b e = refl
dot-plus (w ∷ ws) [] [] e = refl
dot-plus (w ∷ ws) [] (y ∷ b) e = absurd (omega arith)
dot-plus (w ∷ ws) (x ∷ a) [] e = absurd (omega arith)
dot-plus (w ∷ ws) (x ∷ a) (y ∷ b) e =
    let h = dot-plus ws a b (omega arith) in
    let k = mul-add w x y in
    omega arith

-- by the weighted count, then as lex_model does
abbrev pub degree_model : List ℕ → OrderModel
degree_model ws = record {
  key = λ a. dot ws a ∷ a;
  width = suc letter_count;
  key_length = λ a h. rw h;
  key_injective = λ a b h k e. ap (drop 1) e;
  key_additive = λ a b h k. ap (λ x. x ∷ plus a b) (dot-plus ws a b (h ∙ sym k));
}
