-- The free sums that terms make, and that entries stand for, are in the letters 1 to n.
use Rattle.std.proofs.Common.{ℕ, List, [], ◌∷◌, sym, ◌∙◌, subst, inl, inr}
use Rattle.theory.specs.FreeSum.{FreeSum}
use Rattle.theory.specs.Words.{Over, OverSum}
use Rattle.coefficients.specs.Coding.{Coding}
use Rattle.words.specs.declared.term.Term.{Term}
use Rattle.run.specs.Entries.{Entry}
use Rattle.normal_forms.specs.Terms.{sum_of, AreTerms}
use Rattle.normal_forms.specs.Entries.{StandFor}

module _ (m : Coding) (n : ℕ) where
  pub terms-over : (ts : List Term) → AreTerms m n ts → OverSum n (sum_of m ts)
  unfolding sum_of
  terms-over [] a t h = absurd h
  terms-over (x ∷ ts) a t (inl e) = subst (Over n) (sym e) a.0.word.over
  terms-over (x ∷ ts) a t (inr h) = terms-over ts a.1 t h

  pub entries_over : (es : List Entry) (f : FreeSum m.ring) → StandFor m n es f → OverSum n f
  entries_over [] [] s t h = absurd h
  entries_over [] (x ∷ f) s t h = absurd s
  entries_over (e ∷ es) [] s t h = absurd h
  entries_over (e ∷ es) (x ∷ f) s t (inl q) = subst (Over n) (s.0.word ∙ sym q) s.0.over
  entries_over (e ∷ es) (x ∷ f) s t (inr h) = entries_over es f s.1 t h
