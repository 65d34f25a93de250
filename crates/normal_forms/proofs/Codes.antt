-- What an answered operation on codes means.
use Rattle.std.proofs.Common.{◌≡◌, ℕ, Bool, true, ◌&&◌, Ok, subst}
use Rattle.std.proofs.lemmas.Bool.{and_from}
use Rattle.coefficients.specs.Coding.{Coding, Answer, Means, Coded, Answers}

module _ (m : Coding) where
  -- the code c is in use, and means x
  abbrev pub CodeOf : ℕ → m.ring.carrier → Type 0
  CodeOf c x = Means m.ring m.used m.means c x

  of_answer : (ready : Bool) (x : m.ring.carrier) (r : Answer) (c : ℕ) → ready ≡ true → r ≡ Ok c → Answers m.ring m.used m.means ready x r → CodeOf c x
  of_answer ready x r c p h a = subst (Coded m.ring m.used m.means x) h (subst (λ b. Answers m.ring m.used m.means b x r) p a)

  pub sum-means : (a b c : ℕ) → m.used a ≡ true → m.used b ≡ true → m.sum a b ≡ Ok c → CodeOf c (m.ring.add (m.means a) (m.means b))
  sum-means a b c p q h =
      of_answer (m.used a && m.used b) (m.ring.add (m.means a) (m.means b)) (m.sum a b) c (and_from (m.used a) (m.used b) p q) h (m.sum_answers a b)

  pub product-means : (a b c : ℕ) → m.used a ≡ true → m.used b ≡ true → m.product a b ≡ Ok c → CodeOf c (m.ring.mul (m.means a) (m.means b))
  product-means a b c p q h =
      of_answer (m.used a && m.used b) (m.ring.mul (m.means a) (m.means b)) (m.product a b) c (and_from (m.used a) (m.used b) p q) h (m.product_answers a b)

  pub negative-means : (a c : ℕ) → m.used a ≡ true → m.negative a ≡ Ok c → CodeOf c (m.ring.neg (m.means a))
  negative-means a c p h = of_answer (m.used a) (m.ring.neg (m.means a)) (m.negative a) c p h (m.negative_answers a)
