-- The law, from what every history keeps.
use Rattle.std.proofs.Common.{◌≡◌, List, sym, ◌∙◌, subst}
use Rattle.theory.specs.Ring.{CommutativeRing}
use Rattle.theory.specs.FreeSum.{FreeSum, ◌≈◌}
use Rattle.theory.specs.Relations.{Relations}
use Rattle.theory.specs.Congruence.{Congruent}
use Rattle.theory.specs.Rewriting.{Ended, Rewriting, done, then, AllWhole}
use Rattle.theory.proofs.Basis.{NF-congruent}
use Rattle.theory.proofs.Congruence.{congruent-sym, congruent_trans}
use Rattle.theory.proofs.Rewriting as rewriting
use Rattle.theory.proofs.Standard.{standard-ended}
use Rattle.theory.proofs.Standardise.{standardise}
use Rattle.coefficients.specs.Coding.{Coding}
use Rattle.orders.specs.Models.{OrderModel}
use Rattle.normal_forms.specs.Terms.{Among, sum_of}
use Rattle.normal_forms.specs.Relations.{relations_of, Ends}
use Rattle.normal_forms.proofs.Ends.{rewriting_ends}
use Rattle.normal_forms.proofs.Consequences.{tell_apart}
use Rattle.algebra.specs.Verdicts.{IsSound}
use Rattle.algebra.proofs.Meaning.{tells_truth}
use Rattle.histories.specs.State.{State, count, table_of, verdict, relations}
use Rattle.histories.specs.History.{Calculation}
use Rattle.histories.specs.Law.{Arrives, Faithful, HistoriesFaithful}
use Rattle.histories.proofs.Keeping.{Kept, keeps, tails, resolves, calculated_congruent}

-- a rewriting that comes to g comes to what is equal to g
arrive : {R : CommutativeRing} (P : Relations R) (f g h : FreeSum R) → g ≈ h → (t : Rewriting P f g) → AllWhole P t → (u : Rewriting P f h) × AllWhole P u
arrive P f g h e (done k) w = (done (λ x. k x ∙ e x), tt)
arrive P f g h e (then {g = k} s t) w = let q = arrive P k g h e t w.1 in (then s q.0, (w.0, q.1))

module _ (m : Coding) (o : OrderModel) (s : State) (cs : List (Calculation m)) (kept : Kept m o (count s) (table_of s) (verdict s) cs) where
  abbrev P : Relations m.ring
  P = relations m s

  abbrev ends : Ends m (count s) (table_of s)
  ends = rewriting_ends m o (count s) (table_of s) kept.valid

  congruent : (c : Calculation m) → Among c cs → Congruent P c.free_sum (sum_of m c.terms)
  congruent c a = calculated_congruent m o (count s) (table_of s) (verdict s) cs kept c a

  equal-congruent : (c d : Calculation m) → Among c cs → Among d cs → c.terms ≡ d.terms → Congruent P c.free_sum d.free_sum
  equal-congruent c d a b e =
      congruent_trans P c.free_sum (sum_of m c.terms) d.free_sum (congruent c a)
      (congruent-sym P d.free_sum (sum_of m c.terms) (subst (λ ts. Congruent P d.free_sum (sum_of m ts)) (sym e) (congruent d b)))

  module _ (h : IsSound (verdict s)) where
    congruent_equal : (c d : Calculation m) → Among c cs → Among d cs → Congruent P c.free_sum d.free_sum → c.terms ≡ d.terms
    congruent_equal c d a b e =
        ((tell_apart m o (count s) (table_of s) ends).equal c.free_sum d.free_sum c.terms d.terms (kept.each c a).form (kept.each d b).form).1
        (NF-congruent P ends (tails m o (count s) (table_of s) (verdict s) cs kept) (resolves m o (count s) (table_of s) (verdict s) cs kept h) c.free_sum d.free_sum e)

    ended_at : (c : Calculation m) → Among c cs → (g : FreeSum m.ring) → Rewriting P c.free_sum g → Ended g → g ≈ sum_of m c.terms
    ended_at c a g t e w =
        rewriting.rewriting_ends P ends (tails m o (count s) (table_of s) (verdict s) cs kept) (resolves m o (count s) (table_of s) (verdict s) cs kept h) c.free_sum g t e w
        ∙ sym ((kept.each c a).form.normal_form w)

    arrives : (c : Calculation m) → Among c cs → Arrives P c.free_sum (sum_of m c.terms)
    unfolding relations_of
    arrives c a =
        let k = kept.each c a in
        let st = standardise P ends (tails m o (count s) (table_of s) (verdict s) cs kept) c.free_sum k.over in
        let q = arrive P c.free_sum st.sum (sum_of m c.terms) (ended_at c a st.sum st.rewriting (standard-ended st.sum st.standard)) st.rewriting st.whole in
        record { rewriting = q.0; whole = q.1; ended = standard-ended (sum_of m c.terms) k.form.standard }

  faithful : Faithful m s cs
  faithful = record {
    verdict_true = tells_truth m (count s) (table_of s) (verdict s) (record { sound = kept.basis; degenerate = kept.not_basis });
    equal_is_congruent = λ h c d a b. (equal-congruent c d a b, congruent_equal h c d a b);
    every_rewriting = ended_at;
    some_rewriting = arrives;
  }

pub histories_faithful : (m : Coding) (o : OrderModel) → HistoriesFaithful m o
histories_faithful m o s cs h = faithful m o s cs (keeps m o s cs h)
