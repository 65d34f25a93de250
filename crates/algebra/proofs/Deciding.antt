-- A decision that was answered says whether the overlaps vanish, and so whether the standard words are a basis.
use Rattle.std.proofs.Common.{◌≡◌, ℕ, List, [], ◌∷◌, Ok, Err, Result, sym, refl, subst, inl, inr}
use Rattle.theory.specs.FreeSum.{◌≈◌}
use Rattle.theory.specs.Relations.{Relations, overlap}
use Rattle.theory.specs.Basis.{Basis}
use Rattle.theory.specs.NormalForm.{NF}
use Rattle.theory.proofs.Basis.{basis_of_resolves, resolves_of_basis}
use Rattle.coefficients.specs.Coding.{Coding}
use Rattle.orders.specs.Models.{OrderModel}
use Rattle.words.specs.declared.term.Term.{Term}
use Rattle.run.specs.declared.fault.RunFault.{RunFault}
use Rattle.run.specs.declared.relation.Relation.{Relation}
use Rattle.run.specs.Step.{Outcome}
use Rattle.run.specs.Calls.{Memory}
use Rattle.algebra.specs.declared.fault.AlgebraFault.TheVariants.{Run}
use Rattle.algebra.specs.declared.verdict.Verdict.{Verdict}
use Rattle.algebra.specs.declared.verdict.Verdict.TheVariants.{Sound, Degenerate}
use Rattle.algebra.specs.Overlaps.{overlap_entries, overlap_run}
use Rattle.algebra.specs.Decide.{Triple, triples, after_terms, after_overlap, decide_over}
use Rattle.normal_forms.specs.Terms.{Among}
use Rattle.normal_forms.specs.Relations.{relations_of, Ends, Valid}
use Rattle.normal_forms.proofs.Ends.{tails-over, rewriting_ends}
use Rattle.normal_forms.proofs.Loads.{ok_injective}
use Rattle.normal_forms.proofs.Running.{calculates}
use Rattle.normal_forms.proofs.Consequences.{tell_apart}
use Rattle.algebra.specs.Verdicts.{IsSound, IsDegenerate, IsDecided}
use Rattle.algebra.proofs.Scanning.{err_not_ok}
use Rattle.algebra.proofs.Standing.{overlap-stand}
use Rattle.algebra.proofs.Triples.{Rises, triples_all, triples_rise}

pub record Decides (m : Coding) (n : ℕ) (table : List Relation) (v : Verdict) : Type 0 where
  pub sound : IsSound v → Basis (relations_of m n table)
  pub degenerate : IsDegenerate v → ¬ Basis (relations_of m n table)

module _ (m : Coding) (o : OrderModel) (n : ℕ) (table : List Relation) (valid : Valid m o n table) where
  abbrev P : Relations m.ring
  P = relations_of m n table

  abbrev ends : Ends m n table
  ends = rewriting_ends m o n table valid

  -- the normal form of the triple's overlap is zero
  abbrev Vanishes : Triple → Type 0
  Vanishes t = NF P ends (overlap P t.i t.j t.k) ≈ []

  -- an overlap is answered empty exactly where it vanishes
  overlap-empty : (t : Triple) → Rises n t → (mem : Memory) (r : Outcome) → overlap_run m o mem table t.i t.j t.k ≡ Ok r
      → (r.terms ≡ [] → Vanishes t) × (Vanishes t → r.terms ≡ [])
  unfolding overlap_run
  overlap-empty t rises mem r h =
      let f = overlap P t.i t.j t.k in
      (tell_apart m o n table ends).empty f r.terms
      (calculates m o n table valid ends mem (overlap_entries m table t.i t.j t.k) f r (overlap-stand m o n table valid t.i t.j t.k rises) h)

  record Said (ts : List Triple) (v : Verdict) : Type 0 where
    pub all : IsSound v → (t : Triple) → Among t ts → Vanishes t
    pub one : IsDegenerate v → (t : Triple) × Rises n t × ¬ Vanishes t

  said : (mem : Memory) (ts : List Triple) (v : Verdict) → ((t : Triple) → Among t ts → Rises n t) → decide_over m o mem table ts ≡ Ok v → Said ts v
  said mem [] v rise h = subst (Said []) (ok_injective Sound v h) (record { all = λ s t a. absurd a; one = λ d. absurd d })
  said mem (t ∷ ts) v rise h = at (said mem ts v (λ t a. rise t (inr a))) (overlap_run m o mem table t.i t.j t.k) refl h
    where
      rises : Rises n t
      rises = rise t (inl refl)

      by_terms : (decide_over m o mem table ts ≡ Ok v → Said ts v) → (xs : List Term) → (xs ≡ [] → Vanishes t) → (Vanishes t → xs ≡ [])
          → after_terms t xs (decide_over m o mem table ts) ≡ Ok v → Said (t ∷ ts) v
      by_terms rest [] a b h = let q = rest h in record { all = λ s u c. here (a refl) (q.all s) u c; one = q.one }
        where
          here : Vanishes t → ((u : Triple) → Among u ts → Vanishes u) → (u : Triple) → Among u (t ∷ ts) → Vanishes u
          here z r u (inl e) = subst Vanishes (sym e) z
          here z r u (inr c) = r u c
      by_terms rest (y ∷ ys) a b h =
          subst (Said (t ∷ ts)) (ok_injective (Degenerate t.i t.j t.k) v h)
          (record { all = λ s. absurd s; one = λ d. (t, rises, λ z. let e = b z in cc) })

      at : (decide_over m o mem table ts ≡ Ok v → Said ts v) → (c : Result Outcome RunFault) → overlap_run m o mem table t.i t.j t.k ≡ c
          → after_overlap t c (decide_over m o mem table ts) ≡ Ok v → Said (t ∷ ts) v
      at rest (Ok r) e h = let q = overlap-empty t rises mem r e in by_terms rest r.terms q.0 q.1 h
      at rest (Err f) e h = absurd (err_not_ok (record { overlap = Run f; i = t.i; j = t.j; k = t.k }) v h)

  pub decided : (mem : Memory) (v : Verdict) → decide_over m o mem table (triples n) ≡ Ok v → Decides m n table v
  unfolding relations_of
  decided mem v h =
      let q = said mem (triples n) v (triples_rise n) h in
      let tails = tails-over m o n table valid in
      record {
        sound = λ s. basis_of_resolves P ends tails (λ i j k t. q.all s (record { i = i; j = j; k = k }) (triples_all n (record { i = i; j = j; k = k }) t));
        degenerate = λ d b. let t = q.one d in t.2 (resolves_of_basis P ends tails b t.0.i t.0.j t.0.k t.1);
      }

-- the overlaps answer with a verdict that decides
pub verdict-decided : (m : Coding) (o : OrderModel) (mem : Memory) (table : List Relation) (ts : List Triple) (v : Verdict) → decide_over m o mem table ts ≡ Ok v → IsDecided v
verdict-decided m o mem table [] v h = subst IsDecided (ok_injective Sound v h) tt
verdict-decided m o mem table (t ∷ ts) v h = at (verdict-decided m o mem table ts v) (overlap_run m o mem table t.i t.j t.k) h
  where
    by_terms : (decide_over m o mem table ts ≡ Ok v → IsDecided v) → (xs : List Term) → after_terms t xs (decide_over m o mem table ts) ≡ Ok v → IsDecided v
    by_terms rest [] h = rest h
    by_terms rest (x ∷ xs) h = subst IsDecided (ok_injective (Degenerate t.i t.j t.k) v h) tt

    at : (decide_over m o mem table ts ≡ Ok v → IsDecided v) → (c : Result Outcome RunFault) → after_overlap t c (decide_over m o mem table ts) ≡ Ok v → IsDecided v
    at rest (Ok r) h = by_terms rest r.terms h
    at rest (Err f) h = absurd (err_not_ok (record { overlap = Run f; i = t.i; j = t.j; k = t.k }) v h)
