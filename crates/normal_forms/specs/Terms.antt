-- Lists of terms: the free sum that a list makes, and kept lists of words in the letters 1 to n.
use Rattle.std.specs.Prelude.{◌≡◌, ℕ, true, ◌⊎◌, List, [], ◌∷◌, length}
use Rattle.theory.specs.FreeSum.{FreeSum}
use Rattle.theory.specs.Words.{Over}
use Rattle.coefficients.specs.Coding.{Coding}
use Rattle.orders.specs.Letters.{letters, row_places}
use Rattle.orders.specs.Models.{OrderModel}
use Rattle.words.specs.Rows.{is_row}
use Rattle.words.specs.declared.term.Term.{Term}
use Rattle.kept.specs.Falling.{IsKept}

-- the free sum that a list makes: the word of each row with what its code means
unfoldable pub sum_of : (m : Coding) → List Term → FreeSum m.ring
sum_of m [] = []
sum_of m (t ∷ ts) = record { coef = m.means t.code; word = letters t.row } ∷ sum_of m ts

-- x is an element of the list
abbrev pub Among : {A : Type 0} → A → List A → Type 0
Among x [] = ⊥
Among x (y ∷ ys) = (x ≡ y) ⊎ Among x ys

-- the row holds a word in the letters 1 to n, then zeros
pub record HoldsWord (n : ℕ) (row : List ℕ) : Type 0 where
  pub full : length row ≡ row_places
  pub clean : is_row row ≡ true
  pub over : Over n (letters row)

-- a term whose row holds a word in the letters 1 to n, and whose code is in use
pub record IsTerm (m : Coding) (n : ℕ) (t : Term) : Type 0 where
  pub word : HoldsWord n t.row
  pub in_use : m.used t.code ≡ true

abbrev pub AreTerms : Coding → ℕ → List Term → Type 0
AreTerms m n [] = Unit {0}
AreTerms m n (t ∷ ts) = IsTerm m n t × AreTerms m n ts

-- such terms, whose words strictly fall and whose coefficients are not zero
pub record KeptTerms (m : Coding) (o : OrderModel) (n : ℕ) (ts : List Term) : Type 0 where
  pub terms : AreTerms m n ts
  pub kept : IsKept o ts
