-- Lists that make normal forms: a result memory holds one, they tell normal forms apart, and are congruent to what they are normal forms of.
use Rattle.std.proofs.Common.{◌≡◌, ℕ, List, [], take, Ok, sym, ap, ◌∙◌}
use Rattle.theory.specs.FreeSum.{FreeSum, coeff, ◌≈◌}
use Rattle.theory.specs.Words.{OverSum}
use Rattle.theory.specs.Relations.{Relations}
use Rattle.theory.specs.Basis.{StandardForm}
use Rattle.theory.specs.NormalForm.{NF}
use Rattle.theory.proofs.Basis.{congruent-NF}
use Rattle.theory.proofs.Congruence.{congruent_≈, congruent_trans}
use Rattle.coefficients.specs.Coding.{Coding}
use Rattle.orders.specs.Models.{OrderModel}
use Rattle.words.specs.declared.term.Term.{Term}
use Rattle.run.specs.declared.relation.Relation.{Relation}
use Rattle.run.specs.Entries.{Entry}
use Rattle.run.specs.Calls.{Memory, calculate, Answered}
use Rattle.normal_forms.specs.Terms.{sum_of}
use Rattle.normal_forms.specs.Relations.{relations_of, Ends, Valid}
use Rattle.normal_forms.specs.Entries.{StandFor}
use Rattle.normal_forms.specs.Theorems.{IsNormalForm, TellApart}
use Rattle.normal_forms.proofs.Ends.{tails-over}
use Rattle.normal_forms.proofs.Letters.{terms-over}
use Rattle.normal_forms.proofs.Running.{calculates}
use Rattle.normal_forms.proofs.Unique.{kept-equal, kept-empty}

module _ (m : Coding) (o : OrderModel) (n : ℕ) (table : List Relation) (ends : Ends m n table) where
  abbrev P : Relations m.ring
  P = relations_of m n table

  same_forms : (f g : FreeSum m.ring) (ts us : List Term) → IsNormalForm m o n table ends f ts → IsNormalForm m o n table ends g us → ts ≡ us → NF P ends f ≈ NF P ends g
  same_forms f g ts us a b e w = sym (a.normal_form w) ∙ ap (λ l. coeff (sum_of m l) w) e ∙ b.normal_form w

  same-terms : (f g : FreeSum m.ring) (ts us : List Term) → IsNormalForm m o n table ends f ts → IsNormalForm m o n table ends g us → NF P ends f ≈ NF P ends g → ts ≡ us
  same-terms f g ts us a b h = kept-equal m o n ts us a.kept b.kept (λ w. a.normal_form w ∙ h w ∙ sym (b.normal_form w))

  zero-form : (f : FreeSum m.ring) (ts : List Term) → IsNormalForm m o n table ends f ts → ts ≡ [] → NF P ends f ≈ []
  unfolding sum_of
  zero-form f ts a e w = sym (a.normal_form w) ∙ ap (λ l. coeff (sum_of m l) w) e

  no_terms : (f : FreeSum m.ring) (ts : List Term) → IsNormalForm m o n table ends f ts → NF P ends f ≈ [] → ts ≡ []
  no_terms f ts a h = kept-empty m o n ts a.kept (λ w. a.normal_form w ∙ h w)

  pub tell_apart : TellApart m o n table ends
  tell_apart = record {
    equal = λ f g ts us a b. (same_forms f g ts us a b, same-terms f g ts us a b);
    empty = λ f ts a. (zero-form f ts a, no_terms f ts a);
  }

module _ (m : Coding) (o : OrderModel) (n : ℕ) (table : List Relation) (valid : Valid m o n table) (ends : Ends m n table) where
  pub memory-holds : (mem : Memory) (es : List Entry) (f : FreeSum m.ring) (work out : List Term) (p : ℕ × ℕ) → StandFor m n es f → Answered (calculate m o table mem es) work out (Ok p)
      → IsNormalForm m o n table ends f (take p.0 out)
  memory-holds mem es f work out p s a = calculates m o n table valid ends mem es f (record { terms = take p.0 out; steps = p.1 }) s (sym a.1)

  pub terms-congruent : (f : FreeSum m.ring) (ts : List Term) → OverSum n f → IsNormalForm m o n table ends f ts → StandardForm (relations_of m n table) f (sum_of m ts)
  unfolding relations_of
  terms-congruent f ts over a =
      let P = relations_of m n table in
      record {
        standard = a.standard;
        over = terms-over m n ts a.kept.terms;
        congruent = congruent_trans P f (NF P ends f) (sum_of m ts) (congruent-NF P ends (tails-over m o n table valid) f over) (congruent_≈ P (NF P ends f) (sum_of m ts) (λ w. sym (a.normal_form w)));
      }
