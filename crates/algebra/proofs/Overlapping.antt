-- The entries of the tail terms of an overlap, as the loop over a list gives them.
use Rattle.std.proofs.Common.{◌≡◌, ℕ, ◌+◌, List, [], ◌∷◌, refl, ap}
use Rattle.coefficients.specs.Coding.{Coding}
use Rattle.words.specs.declared.term.Term.{Term}
use Rattle.run.specs.Entries.{each_entry}
use Rattle.algebra.specs.Overlaps.{first_entry, second_entry, first_tail, second_tail}

pub first-each : (i e : ℕ) (ts : List Term) → each_entry (first_entry i) e ts ≡ first_tail i e ts
first-each i e [] = refl
first-each i e (t ∷ ts) = ap (λ es. first_entry i e t ∷ es) (first-each i (e + 1) ts)

pub second-each : (m : Coding) (k e : ℕ) (ts : List Term) → each_entry (second_entry m k) e ts ≡ second_tail m k e ts
second-each m k e [] = refl
second-each m k e (t ∷ ts) = ap (λ es. second_entry m k e t ∷ es) (second-each m k (e + 1) ts)
