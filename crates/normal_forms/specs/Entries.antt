-- Entries that stand for a free sum, term by term.
use Rattle.std.specs.Prelude.{◌≡◌, ℕ, List, [], ◌∷◌, Ok}
use Rattle.theory.specs.FreeSum.{FreeSum, Term as FreeTerm}
use Rattle.theory.specs.Words.{Over}
use Rattle.coefficients.specs.Coding.{Coding, Means}
use Rattle.run.specs.Entries.{Entry}

-- the entry has the term's word, in the letters 1 to n, and a code, if it has one, that means the term's coefficient
pub record EntryMeans (m : Coding) (n : ℕ) (e : Entry) (x : FreeTerm m.ring) : Type 0 where
  pub word : e.word ≡ x.word
  pub over : Over n e.word
  pub code : (c : ℕ) → e.code ≡ Ok c → Means m.ring m.used m.means c x.coef

abbrev pub StandFor : (m : Coding) → ℕ → List Entry → FreeSum m.ring → Type 0
StandFor m n [] [] = Unit {0}
StandFor m n [] (x ∷ f) = ⊥
StandFor m n (e ∷ es) [] = ⊥
StandFor m n (e ∷ es) (x ∷ f) = EntryMeans m n e x × StandFor m n es f
