-- How many brackets are open behind a part of a writing.
use Rattle.std.proofs.Common.{◌≡◌, ℕ, suc, ◌+◌, true, ◌⊎◌, List, [], ◌∷◌, ◌++◌, sym, refl, ap, inl, inr, ⊎_elim, arith}
use Rattle.std.proofs.lemmas.Bool.Decides.{nat_tests}
use Rattle.grammar.specs.declared.piece.Operator.{Operator}
use Rattle.grammar.specs.declared.piece.Operator.TheVariants.{Sum, Product, Difference}
use Rattle.grammar.specs.Expressions.{Expr, generator, coefficient, apply, Operands, first, next, sign, write, write_all}
use Rattle.grammar.specs.Grammar.{plain, Fine, FineAll}
use Rattle.grammar.specs.Laws.{count_of}
use Rattle.grammar.proofs.Leaves.{decimal_plain}

pub count-append : (b : ℕ) (xs ys : List ℕ) → count_of b (xs ++ ys) ≡ count_of b xs + count_of b ys
count-append b [] ys = omega arith
count-append b (x ∷ xs) ys = omega (arith, count-append b xs ys)

-- d brackets are open behind these bytes
abbrev pub At : ℕ → List ℕ → Type 0
At d p = count_of 40 p ≡ count_of 41 p + d

pub at_closed : (d : ℕ) (p q : List ℕ) → At 0 p → At d q → At d (p ++ q)
at_closed d p q h k = omega (arith, count-append 40 p q, count-append 41 p q)

pub at_opened : (d : ℕ) (p q : List ℕ) → At 1 p → At d q → At (suc d) (p ++ q)
at_opened d p q h k = omega (arith, count-append 40 p q, count-append 41 p q)

pub plain_none : (b : ℕ) (a : List ℕ) → (b ≡ 40) ⊎ (b ≡ 41) → plain a ≡ true → count_of b a ≡ 0
plain_none b [] e h = refl
plain_none b (c ∷ a) e h = ⊎_elim (λ i. let r = plain_none b a e in grind (arith, nat_tests)) (λ i. let r = plain_none b a e in grind (arith, nat_tests)) e

pub plain_level : (a : List ℕ) → plain a ≡ true → At 0 a
plain_level a h = omega (arith, plain_none 40 a (inl refl) h, plain_none 41 a (inr refl) h)

pub space_level : (p : List ℕ) (d : ℕ) → At d p → At d (32 ∷ p)
space_level p d h = omega arith

pub sign_level : (o : Operator) (p : List ℕ) (d : ℕ) → At d p → At (suc d) (40 ∷ (sign o ∷ (32 ∷ p)))
sign_level Sum p d h = omega arith
sign_level Product p d h = omega arith
sign_level Difference p d h = omega arith

pub sign_level_back : (o : Operator) (p : List ℕ) (d : ℕ) → At (suc d) (40 ∷ (sign o ∷ (32 ∷ p))) → At d p
sign_level_back Sum p d h = omega arith
sign_level_back Product p d h = omega arith
sign_level_back Difference p d h = omega arith

mutual
  unfolding write Fine

  -- a writing closes what it opens
  pub level : (e : Expr) → Fine e → At 0 (write e)
  level (generator n) f = plain_level (write (generator n)) (decimal_plain n f)
  level (coefficient a) f = plain_level a f.0
  level (apply os) f = omega (arith, level_all os f.0, count-append 40 (write_all os) (41 ∷ []), count-append 41 (write_all os) (41 ∷ []))

  pub level_all : (os : Operands) → FineAll os → At 1 (write_all os)
  level_all (first o e) f = sign_level o (write e) 0 (level e f)
  level_all (next os e) f = at_opened 0 (write_all os) (32 ∷ write e) (level_all os f.0) (space_level (write e) 0 (level e f.1))

-- a bracket stands in the first part or in the second
pub split : (xs ys p q : List ℕ) → xs ++ ys ≡ p ++ (40 ∷ q) → ((r : List ℕ) × (xs ≡ p ++ (40 ∷ r))) ⊎ ((r : List ℕ) × (p ≡ xs ++ r) × (ys ≡ r ++ (40 ∷ q)))
split [] ys p q h = inr (p, refl, h)
split (x ∷ xs) ys [] q h = let i : x ≡ 40 = cc in inl (xs, ap (λ b. b ∷ xs) i)
split (x ∷ xs) ys (b ∷ p) q h =
    let i : x ≡ b = cc in
    let j : xs ++ ys ≡ p ++ (40 ∷ q) = cc in
    ⊎_elim (λ w. inl (w.0, cc w.1)) (λ w. inr (w.0, cc w.1, w.2)) (split xs ys p q j)

-- it stands behind a byte that is none
pub behind : (c : ℕ) (xs p q : List ℕ) → (c ≡ 40 → ⊥) → c ∷ xs ≡ p ++ (40 ∷ q) → (r : List ℕ) × (p ≡ c ∷ r) × (xs ≡ r ++ (40 ∷ q))
behind c xs [] q n h = let i : c ≡ 40 = cc in absurd (n i)
behind c xs (b ∷ p) q n h = let i : c ≡ b = cc in let j : xs ≡ p ++ (40 ∷ q) = cc in (p, ap (λ x. x ∷ p) (sym i), j)

-- a plain part has none
pub none_in : (a p q : List ℕ) → plain a ≡ true → a ≡ p ++ (40 ∷ q) → ⊥
none_in a p q h e = omega (arith, plain_none 40 a (inl refl) h, ap (count_of 40) e, count-append 40 p (40 ∷ q))
