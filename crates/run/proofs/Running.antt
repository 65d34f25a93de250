-- Laws of the run.
use Rattle.std.proofs.Common.{◌≡◌, ℕ, suc, ◌+◌, List, ◌∷◌, Ok, Err, sym, ap, ◌∙◌}
use Rattle.coefficients.specs.Coding.{Coding}
use Rattle.orders.specs.Models.{OrderModel}
use Rattle.words.specs.declared.term.Term.{Term}
use Rattle.run.specs.declared.fault.RunFault.{RunFault}
use Rattle.run.specs.declared.relation.Relation.{Relation}
use Rattle.run.specs.Entries.{then_do}
use Rattle.run.specs.Step.{State, step_of, run_from}

-- at most f steps more, after n; the work list is ws
module _ (m : Coding) (o : OrderModel) (table : List Relation) (cap out f n : ℕ) (ws done : List Term) where
  module _ (x : Term) (xs : List Term) (some : ws ≡ x ∷ xs) where
    module _ (f' : ℕ) (e : f ≡ suc f') where
      next : run_from m o table cap out f n ws done ≡ then_do (step_of m o table cap out (n + 1) x xs done) (λ s. run_from m o table cap out f' (n + 1) s.work s.done)
      next = ap (λ l. run_from m o table cap out f n l done) some ∙ ap (λ f. run_from m o table cap out f n (x ∷ xs) done) e

      pub run-next : (s : State) → Ok s ≡ step_of m o table cap out (n + 1) x xs done → run_from m o table cap out f' (n + 1) s.work s.done ≡ run_from m o table cap out f n ws done
      run-next s r = sym (next ∙ ap (λ r. then_do r (λ s. run_from m o table cap out f' (n + 1) s.work s.done)) (sym r))

      pub run_fault : (y : RunFault) → step_of m o table cap out (n + 1) x xs done ≡ Err y → run_from m o table cap out f n ws done ≡ Err y
      run_fault y r = next ∙ ap (λ r. then_do r (λ s. run_from m o table cap out f' (n + 1) s.work s.done)) r
