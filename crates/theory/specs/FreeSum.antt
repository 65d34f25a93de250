-- Free sums: finite sums of words, each word with a coefficient in the ring.
use Rattle.std.specs.Prelude.{◌≡◌, ◌⊎◌, ℕ}
use mathlib.Core.List.{List, [], ◌∷◌, ◌++◌, List-discrete}
use Rattle.std.proofs.Math.Decide.{ℕ_discrete}
use Rattle.theory.specs.Ring.{CommutativeRing}

-- a word: the product of its letters, from left to right
abbrev pub Word : Type 0
Word = List ℕ

pub word_eq : (x w : Word) → Dec (x ≡ w)
word_eq = List-discrete ℕ_discrete

-- the word x with u before it and v behind it
unfoldable pub place : Word → Word → Word → Word
place u x v = u ++ (x ++ v)

pub record Term (R : CommutativeRing) : Type 0 where
  pub coef : R.carrier
  pub word : Word

-- the sum of the terms of a list; the sum of two free sums is `◌++◌`
abbrev pub FreeSum : CommutativeRing → Type 0
FreeSum R = List (Term R)

-- t is the word of a term of f
abbrev pub Occurs : {R : CommutativeRing} → Word → FreeSum R → Type 0
Occurs t [] = ⊥
Occurs t (e ∷ f) = (t ≡ e.word) ⊎ Occurs t f

-- a where the test passed, else zero
abbrev pub when {ℓ} : (R : CommutativeRing) {A : Type ℓ} → Dec A → R.carrier → R.carrier
when R (yes p) a = a
when R (no n) a = R.zero

module _ {R : CommutativeRing} where
  -- the collected coefficient of w: those of the terms whose word is w, added up
  unfoldable pub coeff : FreeSum R → Word → R.carrier
  coeff [] w = R.zero
  coeff (e ∷ f) w = R.add (when R (word_eq e.word w) e.coef) (coeff f w)

  -- free sums are equal when their collected coefficients are
  infix 40 ◌≈◌
  abbrev pub ◌≈◌ : FreeSum R → FreeSum R → Type 0
  f ≈ g = (w : Word) → coeff f w ≡ coeff g w

  -- the word w with the coefficient 1
  unfoldable pub single : Word → FreeSum R
  single w = record { coef = R.one; word = w } ∷ []

  unfoldable pub scale : R.carrier → FreeSum R → FreeSum R
  scale r [] = []
  scale r (e ∷ f) = record { coef = R.mul r e.coef; word = e.word } ∷ scale r f

  unfoldable pub negate : FreeSum R → FreeSum R
  negate [] = []
  negate (e ∷ f) = record { coef = R.neg e.coef; word = e.word } ∷ negate f

  -- u f v: each word x of f becomes u x v
  unfoldable pub around : Word → FreeSum R → Word → FreeSum R
  around u [] v = []
  around u (e ∷ f) v = record { coef = e.coef; word = place u e.word v } ∷ around u f v

  -- each word x of f becomes the free sum k x: k, extended linearly
  unfoldable pub bind : FreeSum R → (Word → FreeSum R) → FreeSum R
  bind [] k = []
  bind (e ∷ f) k = scale e.coef (k e.word) ++ bind f k

  -- the product: words are joined, coefficients multiplied
  unfoldable pub times_term : Term R → FreeSum R → FreeSum R
  times_term e [] = []
  times_term e (d ∷ g) = record { coef = R.mul e.coef d.coef; word = e.word ++ d.word } ∷ times_term e g

  unfoldable pub times : FreeSum R → FreeSum R → FreeSum R
  times [] g = []
  times (e ∷ f) g = times_term e g ++ times f g

  -- the sum of a · φ(w) over the terms a · w of f: φ, extended linearly
  unfoldable pub eval : FreeSum R → (Word → R.carrier) → R.carrier
  eval [] φ = R.zero
  eval (e ∷ f) φ = R.add (R.mul e.coef (φ e.word)) (eval f φ)
