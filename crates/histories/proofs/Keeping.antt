-- What every history keeps: a valid table, a true verdict, and calculations whose terms are the normal form of their free sum.
use Rattle.std.proofs.Common.{◌≡◌, ℕ, List, ◌∷◌, ◌++◌, Ok, Err, Result, sym, refl, ◌∙◌, subst, inl, inr}
use Rattle.theory.specs.FreeSum.{FreeSum, negate, times}
use Rattle.theory.specs.Words.{OverSum}
use Rattle.theory.specs.Relations.{Relations, TailsOver}
use Rattle.theory.specs.Congruence.{Congruent}
use Rattle.theory.specs.Basis.{Basis}
use Rattle.theory.specs.NormalForm.{Resolves}
use Rattle.theory.proofs.Basis.{NF-congruent, resolves_of_basis}
use Rattle.theory.proofs.Congruence.{congruent_≈, congruent-append, congruent-negate}
use Rattle.theory.proofs.Products.{congruent-times}
use Rattle.theory.proofs.Letters.{append-over, negate-over, times-over}
use Rattle.coefficients.specs.Coding.{Coding}
use Rattle.orders.specs.Models.{OrderModel}
use Rattle.words.specs.declared.term.Term.{Term}
use Rattle.run.specs.declared.relation.Relation.{Relation}
use Rattle.run.specs.Entries.{Entry}
use Rattle.run.specs.Step.{Outcome}
use Rattle.run.specs.Calls.{Memory, calculate}
use Rattle.algebra.specs.declared.fault.DecideFault.{DecideFault}
use Rattle.algebra.specs.declared.verdict.Verdict.{Verdict}
use Rattle.algebra.specs.declared.verdict.Verdict.TheVariants.{Undecided, Sound, Degenerate}
use Rattle.algebra.specs.Decide.{triples, decide_over, unless_decided, decide, verdict_after}
use Rattle.algebra.specs.Calls.{normalise, sum, difference, product}
use Rattle.normal_forms.specs.Terms.{Among, sum_of}
use Rattle.normal_forms.specs.Relations.{relations_of, Ends, Valid}
use Rattle.normal_forms.specs.Entries.{StandFor}
use Rattle.normal_forms.specs.Theorems.{IsNormalForm}
use Rattle.normal_forms.proofs.Ends.{tails-over, rewriting_ends}
use Rattle.normal_forms.proofs.Running.{calculates}
use Rattle.normal_forms.proofs.Consequences.{terms-congruent}
use Rattle.algebra.specs.Verdicts.{IsSound, IsDegenerate}
use Rattle.histories.specs.State.{State, count, table_of, verdict}
use Rattle.histories.specs.History.{Calculation, Operand, list, earlier, History, opens, declares, declare_refused, closes, overlaps, overlap_refused, decides, normalises, normalise_refused, adds, sum_refused, subtracts, difference_refused, multiplies, product_refused}
use Rattle.algebra.proofs.Calling.{normalise-ok, sum-ok, difference-ok, product_ok}
use Rattle.relations.proofs.Validity.{opened-valid, declares-valid}
use Rattle.histories.proofs.Declaring.{count-few}
use Rattle.algebra.proofs.Deciding.{decided}

module _ (m : Coding) (o : OrderModel) (n : ℕ) (table : List Relation) where
  -- the terms of a calculation are the normal form of its free sum
  pub record Calculated (valid : Valid m o n table) (c : Calculation m) : Type 0 where
    pub over : OverSum n c.free_sum
    pub form : IsNormalForm m o n table (rewriting_ends m o n table valid) c.free_sum c.terms

  pub record Kept (v : Verdict) (cs : List (Calculation m)) : Type 0 where
    pub valid : Valid m o n table
    pub basis : IsSound v → Basis (relations_of m n table)
    pub not_basis : IsDegenerate v → ¬ Basis (relations_of m n table)
    pub only_sound : (c : Calculation m) → Among c cs → IsSound v
    pub each : (c : Calculation m) → Among c cs → Calculated valid c

module _ (m : Coding) (o : OrderModel) (n : ℕ) (table : List Relation) (v : Verdict) (cs : List (Calculation m)) (kept : Kept m o n table v cs) where
  abbrev P : Relations m.ring
  P = relations_of m n table

  pub ends : Ends m n table
  ends = rewriting_ends m o n table kept.valid

  pub tails : TailsOver P
  tails = tails-over m o n table kept.valid

  pub resolves : IsSound v → Resolves P (rewriting_ends m o n table kept.valid)
  resolves h = resolves_of_basis P (rewriting_ends m o n table kept.valid) tails (kept.basis h)

  -- a calculation's free sum is congruent to the one that its terms make
  pub calculated_congruent : (c : Calculation m) → Among c cs → Congruent P c.free_sum (sum_of m c.terms)
  calculated_congruent c a =
      let k = kept.each c a in
      (terms-congruent m o n table kept.valid (rewriting_ends m o n table kept.valid) c.free_sum c.terms k.over k.form).congruent

  -- a calculation more: its entries stand for g, and its free sum f is congruent to g
  calculation : (mem : Memory) (es : List Entry) (f g : FreeSum m.ring) (r : Outcome) → IsSound v → OverSum n f → Congruent P f g → StandFor m n es g → calculate m o table mem es ≡ Ok r
      → Kept m o n table v (record { free_sum = f; terms = r.terms } ∷ cs)
  calculation mem es f g r h over c st e = record {
    valid = kept.valid;
    basis = kept.basis;
    not_basis = kept.not_basis;
    only_sound = λ _ _. h;
    each = λ d a. one_more d a;
  }
    where
      new : Calculation m
      new = record { free_sum = f; terms = r.terms }

      is : Calculated m o n table kept.valid new
      is =
          let x = rewriting_ends m o n table kept.valid in
          let k = calculates m o n table kept.valid x mem es g r st e in
          record {
            over = over;
            form = record { kept = k.kept; standard = k.standard; normal_form = λ w. k.normal_form w ∙ sym (NF-congruent P x tails (resolves h) f g c w) };
          }

      one_more : (d : Calculation m) → Among d (new ∷ cs) → Calculated m o n table kept.valid d
      one_more d (inl p) = subst (Calculated m o n table kept.valid) (sym p) is
      one_more d (inr a) = kept.each d a

  -- an operand's free sum, and the one that its list makes
  record Taken (ts : List Term) (f : FreeSum m.ring) : Type 0 where
    pub over : OverSum n f
    pub congruent : Congruent P f (sum_of m ts)

  taken : {ts : List Term} {f : FreeSum m.ring} → Operand m cs ts f → OverSum n (sum_of m ts) → Taken ts f
  taken (list ts) over = record { over = over; congruent = congruent_≈ P (sum_of m ts) (sum_of m ts) (λ w. refl) }
  taken (earlier c a) over = record { over = (kept.each c a).over; congruent = calculated_congruent c a }

  keeps_normalise : {ts : List Term} {f : FreeSum m.ring} (mem : Memory) (r : Outcome) → Operand m cs ts f → normalise m o mem n table v ts ≡ Ok r
      → Kept m o n table v (record { free_sum = f; terms = r.terms } ∷ cs)
  keeps_normalise {ts} {f} mem r p h =
      let k = normalise-ok m o mem n table v ts r h in
      let a = taken p k.over_first in
      calculation mem k.entries f (sum_of m ts) r k.is_sound a.over a.congruent k.stand k.ran

  module _ {ts us : List Term} {f g : FreeSum m.ring} (mem : Memory) (r : Outcome) (p : Operand m cs ts f) (q : Operand m cs us g) where
    keeps_sum : sum m o mem n table v ts us ≡ Ok r → Kept m o n table v (record { free_sum = f ++ g; terms = r.terms } ∷ cs)
    keeps_sum h =
        let k = sum-ok m o mem n table v ts us r h in
        let a = taken p k.over_first in
        let b = taken q k.over_second in
        calculation mem k.entries (f ++ g) (sum_of m ts ++ sum_of m us) r k.is_sound (append-over n f g a.over b.over)
        (congruent-append P f (sum_of m ts) g (sum_of m us) a.congruent b.congruent) k.stand k.ran

    keeps_difference : difference m o mem n table v ts us ≡ Ok r → Kept m o n table v (record { free_sum = f ++ negate g; terms = r.terms } ∷ cs)
    keeps_difference h =
        let k = difference-ok m o mem n table v ts us r h in
        let a = taken p k.over_first in
        let b = taken q k.over_second in
        calculation mem k.entries (f ++ negate g) (sum_of m ts ++ negate (sum_of m us)) r k.is_sound (append-over n f (negate g) a.over (negate-over n g b.over))
        (congruent-append P f (sum_of m ts) (negate g) (negate (sum_of m us)) a.congruent (congruent-negate P g (sum_of m us) b.congruent)) k.stand k.ran

    keeps_product : product m o mem n table v ts us ≡ Ok r → Kept m o n table v (record { free_sum = times f g; terms = r.terms } ∷ cs)
    unfolding relations_of
    keeps_product h =
        let k = product_ok m o mem n table v ts us r h in
        let a = taken p k.over_first in
        let b = taken q k.over_second in
        calculation mem k.entries (times f g) (times (sum_of m ts) (sum_of m us)) r k.is_sound (times-over n f g a.over b.over)
        (congruent-times P f (sum_of m ts) g (sum_of m us) k.over_first b.over a.congruent b.congruent) k.stand k.ran

  keeps_decide : (mem : Memory) → Kept m o n table (verdict_after v (decide m o mem n table v)) cs
  unfolding decide
  keeps_decide mem = at v kept
    where
      over-all : Result Verdict DecideFault
      over-all = decide_over m o mem table (triples n)

      first : Kept m o n table Undecided cs → (r : Result Verdict DecideFault) → over-all ≡ r → Kept m o n table (verdict_after Undecided r) cs
      first k (Err f) e = k
      first k (Ok w) e =
          let d = decided m o n table k.valid mem w e in
          record {
            valid = k.valid;
            basis = d.sound;
            not_basis = d.degenerate;
            only_sound = λ c a. absurd (k.only_sound c a);
            each = k.each;
          }

      at : (w : Verdict) → Kept m o n table w cs → Kept m o n table (verdict_after w (unless_decided w over-all)) cs
      at Undecided k = first k over-all refl
      at Sound k = k
      at (Degenerate i j l) k = k

pub keeps : (m : Coding) (o : OrderModel) (s : State) (cs : List (Calculation m)) → History m o s cs → Kept m o (count s) (table_of s) (verdict s) cs
keeps m o s cs (opens n {table = table} {declared = declared} c h) = record {
  valid = opened-valid m o n table (count-few n c) h.plain;
  basis = λ x. absurd x;
  not_basis = λ x. absurd x;
  only_sound = λ c a. absurd a;
  each = λ c a. absurd a;
}
keeps m o s cs (declares {n = n} {table = table} {table' = table'} {declared = declared} {declared' = declared'} j i c tail h e d) =
    let k = keeps m o _ cs h in
    record {
      valid = declares-valid m o n j i c tail table declared table' declared' e d k.valid;
      basis = λ x. absurd x;
      not_basis = λ x. absurd x;
      only_sound = k.only_sound;
      each = λ c a. absurd (k.only_sound c a);
    }
keeps m o s cs (declare_refused j i c tail h e) = keeps m o s cs h
keeps m o s cs (closes h) = keeps m o _ cs h
keeps m o s cs (overlaps mem i j k h e) = keeps m o s cs h
keeps m o s cs (overlap_refused mem i j k h e) = keeps m o s cs h
keeps m o s cs (decides {n = n} {table = table} {v = v} mem h) = keeps_decide m o n table v cs (keeps m o _ cs h) mem
keeps m o s cs (normalises {n = n} {table = table} {v = v} {cs = cs₀} {r = r} mem h p e) = keeps_normalise m o n table v cs₀ (keeps m o s cs₀ h) mem r p e
keeps m o s cs (normalise_refused mem ts h e) = keeps m o s cs h
keeps m o s cs (adds {n = n} {table = table} {v = v} {cs = cs₀} {r = r} mem h p q e) = keeps_sum m o n table v cs₀ (keeps m o s cs₀ h) mem r p q e
keeps m o s cs (sum_refused mem ts us h e) = keeps m o s cs h
keeps m o s cs (subtracts {n = n} {table = table} {v = v} {cs = cs₀} {r = r} mem h p q e) = keeps_difference m o n table v cs₀ (keeps m o s cs₀ h) mem r p q e
keeps m o s cs (difference_refused mem ts us h e) = keeps m o s cs h
keeps m o s cs (multiplies {n = n} {table = table} {v = v} {cs = cs₀} {r = r} mem h p q e) = keeps_product m o n table v cs₀ (keeps m o s cs₀ h) mem r p q e
keeps m o s cs (product_refused mem ts us h e) = keeps m o s cs h
