-- What verdicts and terms mean in an algebra whose table is valid.
use Rattle.std.proofs.Common.{◌≡◌, ℕ, ◌⊎◌, List, ◌++◌, take, Ok, Err, Result, sym, ◌∙◌, subst, inl, inr}
use Rattle.theory.specs.FreeSum.{FreeSum, negate, times}
use mathlib.Core.Logic.{∥∥₁_elim, ∥∥₁_prop}
use mathlib.Core.WellFounded.{WellFounded}
use Rattle.theory.specs.Ring.{is_set}
use Rattle.theory.specs.Relations.{Relations}
use Rattle.theory.specs.Rewriting.{Below}
use Rattle.theory.specs.NormalForm.{Resolves}
use Rattle.theory.specs.Basis.{Basis}
use Rattle.theory.proofs.Basis.{basis_of_resolves, resolves_of_basis}
use Rattle.coefficients.specs.Coding.{Coding}
use Rattle.orders.specs.Models.{OrderModel}
use Rattle.words.specs.declared.term.Term.{Term}
use Rattle.run.specs.declared.relation.Relation.{Relation}
use Rattle.run.specs.Entries.{Entry}
use Rattle.run.specs.Step.{Outcome}
use Rattle.run.specs.declared.calls.Calculation.{Calculation}
use Rattle.run.specs.declared.calls.Calculation.TheVariants.{Normalise, Sum, Difference, Product}
use Rattle.run.specs.Calls.{Memory, calculate}
use Rattle.normal_forms.specs.Terms.{sum_of}
use Rattle.normal_forms.specs.Relations.{relations_of, Valid}
use Rattle.normal_forms.specs.Entries.{StandFor}
use Rattle.normal_forms.proofs.Ends.{tails-over, rewriting_ends}
use Rattle.normal_forms.proofs.Letters.{entries_over}
use Rattle.normal_forms.proofs.Running.{calculates}
use Rattle.normal_forms.proofs.Consequences.{terms-congruent}
use Rattle.algebra.specs.declared.fault.AlgebraFault.{AlgebraFault}
use Rattle.algebra.specs.declared.fault.DecideFault.{DecideFault}
use Rattle.algebra.specs.declared.verdict.Verdict.{Verdict}
use Rattle.algebra.specs.declared.verdict.Verdict.TheVariants.{Undecided, Sound, Degenerate}
use Rattle.algebra.specs.Verdicts.{IsSound, IsDegenerate, IsDecided}
use Rattle.algebra.specs.Decide.{triples, decide}
use Rattle.algebra.specs.Calls.{Answered, normalise, sum, difference, product, calculation_answer}
use Rattle.algebra.specs.Meaning.{TellsTruth, Decided, TheForm, Formed, free_sum}
use Rattle.algebra.proofs.Calling.{normalise-ok, sum-ok, difference-ok, product_ok}
use Rattle.algebra.proofs.Deciding.{Decides, decided, verdict-decided}

sound_or_not : (v : Verdict) → IsDecided v → IsSound v ⊎ IsDegenerate v
sound_or_not Undecided d = absurd d
sound_or_not Sound d = inl tt
sound_or_not (Degenerate i j k) d = inr tt

-- a verdict from which the one or the other follows tells the truth
pub tells_truth : (m : Coding) (n : ℕ) (table : List Relation) (v : Verdict) → Decides m n table v → TellsTruth m n table v
tells_truth m n table v d = record {
  sound_is_basis = λ h. (d.sound, λ b. is_sound b (sound_or_not v h));
  degenerate_is_not = λ h. (d.degenerate, λ b. is_degenerate b (sound_or_not v h));
}
  where
    is_sound : Basis (relations_of m n table) → IsSound v ⊎ IsDegenerate v → IsSound v
    is_sound b (inl h) = h
    is_sound b (inr h) = absurd (d.degenerate h b)

    is_degenerate : ¬ Basis (relations_of m n table) → IsSound v ⊎ IsDegenerate v → IsDegenerate v
    is_degenerate b (inl h) = absurd (b (d.sound h))
    is_degenerate b (inr h) = h

-- nothing is told of an algebra that is not decided
pub undecided-true : (m : Coding) (n : ℕ) (table : List Relation) → TellsTruth m n table Undecided
undecided-true m n table = record { sound_is_basis = λ h. absurd h; degenerate_is_not = λ h. absurd h }

module _ (m : Coding) (o : OrderModel) (n : ℕ) (table : List Relation) (valid : Valid m o n table) where
  abbrev P : Relations m.ring
  P = relations_of m n table

  -- whether the standard words are a basis is a question of one answer, since it is whether the overlaps resolve
  basis-known : ∥ Basis P ∥₁ → Basis P
  unfolding relations_of
  basis-known b =
      let ends = rewriting_ends m o n table valid in
      let tails = tails-over m o n table valid in
      basis_of_resolves P ends tails (∥∥₁_elim b (resolves-prop P ends) (resolves_of_basis P ends tails))
    where
      resolves-prop : (P : Relations m.ring) (ends : WellFounded (Below P)) → IsProp (Resolves P ends)
      resolves-prop P ends = hlevel (is_set m.ring)

  -- so is whether a verdict tells the truth
  pub truth-known : (v : Verdict) → ∥ TellsTruth m n table v ∥₁ → TellsTruth m n table v
  truth-known Undecided t = undecided-true m n table
  truth-known Sound t = tells_truth m n table Sound (record { sound = λ _. basis-known (∥∥₁_elim t ∥∥₁_prop (λ u. ∣ (u.sound_is_basis tt).0 tt ∣₁)); degenerate = λ h. absurd h })
  truth-known (Degenerate i j k) t =
      tells_truth m n table (Degenerate i j k) (record { sound = λ h. absurd h; degenerate = λ _ b. ∥∥₁_elim t (λ x y. absurd x) (λ u. (u.degenerate_is_not tt).0 tt b) })

module _ (m : Coding) (o : OrderModel) (mem : Memory) (n : ℕ) (table : List Relation) (valid : Valid m o n table) where
  -- an answered decision tells the truth
  pub decision-true : (v : Verdict) → TellsTruth m n table v → (r : Result Verdict DecideFault) → r ≡ decide m o mem n table v → Decided m n table r
  unfolding decide
  decision-true v t (Err e) h = tt
  decision-true Sound t (Ok w) h = subst (Decided m n table) (sym h) (tt, t)
  decision-true (Degenerate i j k) t (Ok w) h = subst (Decided m n table) (sym h) (tt, t)
  decision-true Undecided t (Ok w) h = (verdict-decided m o mem table (triples n) w (sym h), tells_truth m n table w (decided m o n table valid mem w (sym h)))

  the_form : (es : List Entry) (f : FreeSum m.ring) (r : Outcome) → StandFor m n es f → calculate m o table mem es ≡ Ok r → TheForm m n table f r.terms
  unfolding relations_of
  the_form es f r st h =
      let ends = rewriting_ends m o n table valid in
      let over = entries_over m n es f st in
      let form = terms-congruent m o n table valid ends f r.terms over (calculates m o n table valid ends mem es f r st h) in
      record { form = form; only = λ b g s w. (b f over).only g s w ∙ sym ((b f over).only (sum_of m r.terms) form w) }

  -- the terms in the result memory are those that the call is to answer
  formed : (f : FreeSum m.ring) (want : Result Outcome AlgebraFault) (work out : List Term) (r : Result (ℕ × ℕ) AlgebraFault)
      → ((x : Outcome) → want ≡ Ok x → TheForm m n table f x.terms) → Answered want work out r → Formed m n table f out r
  formed f want work out (Ok p) h a = h (record { terms = take p.0 out; steps = p.1 }) (sym a.1)
  formed f want work out (Err e) h a = tt

  -- those of each calculation
  pub calculation-formed : (v : Verdict) (work out : List Term) (r : Result (ℕ × ℕ) AlgebraFault) (c : Calculation)
      → Answered (calculation_answer m o mem n table v c) work out r → Formed m n table (free_sum m c) out r
  unfolding calculation_answer normalise sum difference product
  calculation-formed v work out r (Normalise list) a =
      formed (sum_of m list.now) (normalise m o mem n table v list.now) work out r
      (λ x h. let k = normalise-ok m o mem n table v list.now x h in the_form k.entries (sum_of m list.now) x k.stand k.ran) a
  calculation-formed v work out r (Sum first second) a =
      formed (sum_of m first.now ++ sum_of m second.now) (sum m o mem n table v first.now second.now) work out r
      (λ x h. let k = sum-ok m o mem n table v first.now second.now x h in the_form k.entries (sum_of m first.now ++ sum_of m second.now) x k.stand k.ran) a
  calculation-formed v work out r (Difference first second) a =
      formed (sum_of m first.now ++ negate (sum_of m second.now)) (difference m o mem n table v first.now second.now) work out r
      (λ x h. let k = difference-ok m o mem n table v first.now second.now x h in the_form k.entries (sum_of m first.now ++ negate (sum_of m second.now)) x k.stand k.ran) a
  calculation-formed v work out r (Product first second) a =
      formed (times (sum_of m first.now) (sum_of m second.now)) (product m o mem n table v first.now second.now) work out r
      (λ x h. let k = product_ok m o mem n table v first.now second.now x h in the_form k.entries (times (sum_of m first.now) (sum_of m second.now)) x k.stand k.ran) a
