-- One step, and the run.
use Rattle.std.specs.Prelude.{ℕ, zero, suc, ◌+◌, cond, List, [], ◌∷◌, ◌++◌, length, Some, None, Ok, Err, Option, Result, nat_lt, slice_index}
use Rattle.coefficients.specs.Coding.{Coding}
use Rattle.orders.specs.Letters.{letters}
use Rattle.orders.specs.Models.{OrderModel}
use Rattle.words.specs.Inversions.{leftmost_inversion}
use Rattle.words.specs.declared.term.Term.{Term}
use Rattle.run.specs.declared.fault.Cause.TheVariants.{ResultFull, StepLimit}
use Rattle.run.specs.declared.fault.RunFault.{RunFault}
use Rattle.run.specs.declared.relation.Relation.{Relation}
use Rattle.run.specs.Entries.{Entry, load, then_do}
use Rattle.run.specs.Faults.{stepping, at_step}
use Rattle.run.specs.Pieces.{around}
use Rattle.run.specs.Relations.{relation_of, tail_of}

-- what the term t, the tail term e, gives in step n for the letters j, i of w at k, the word w having the code a
abbrev pub tail_entry : Coding → ℕ → ℕ → ℕ → List ℕ → ℕ → ℕ → ℕ → Term → Entry
tail_entry m n j i w k a e t = record { word = around w k (letters t.row); code = m.product a t.code; place = stepping n j i e }

-- what the tail terms give in step n for the letters j, i of w at k, the word w having the code a; e counts the terms
abbrev pub tail_entries : Coding → ℕ → ℕ → ℕ → List ℕ → ℕ → ℕ → ℕ → List Term → List Entry
tail_entries m n j i w k a e [] = []
tail_entries m n j i w k a e (t ∷ ts) =
    record { word = around w k (letters t.row); code = m.product a t.code; place = stepping n j i e } ∷ tail_entries m n j i w k a (e + 1) ts

-- the exchange, then the tail terms
abbrev pub pair_entries : Coding → Relation → ℕ → ℕ → ℕ → List ℕ → ℕ → ℕ → List Entry
pair_entries m r n j i w k a =
    record { word = around w k (i ∷ j ∷ []); code = m.product a r.factor; place = stepping n j i 0 } ∷ tail_entries m n j i w k a 1 (tail_of r)

unfoldable pub entries_at : Coding → List Relation → ℕ → List ℕ → ℕ → ℕ → List Entry
entries_at m table n w k a = pair_entries m (relation_of table (slice_index w k) (slice_index w (k + 1))) n (slice_index w k) (slice_index w (k + 1)) w k a

pub record State : Type 0 where
  pub work : List Term
  pub done : List Term

abbrev pub finished : ℕ → ℕ → Term → List Term → List Term → Result State RunFault
finished out n x xs done = cond (nat_lt (length done) out) (Ok (record { work = xs; done = done ++ x ∷ [] })) (Err (record { cause = ResultFull; place = at_step n }))

abbrev pub worked : List Term → Result (List Term) RunFault → Result State RunFault
worked done (Ok ys) = Ok (record { work = ys; done = done })
worked done (Err f) = Err f

-- cap and out are the places of the work and the result memory
abbrev pub step_by : Coding → OrderModel → List Relation → ℕ → ℕ → ℕ → Term → List Term → List Term → Option ℕ → Result State RunFault
step_by m o table cap out n x xs done None = finished out n x xs done
step_by m o table cap out n x xs done (Some k) = worked done (load m o cap (entries_at m table n (letters x.row) k x.code) xs)

-- step n takes out the greatest term x: if its word is standard it goes to the result, else it is rewritten at its leftmost inversion
unfoldable pub step_of : Coding → OrderModel → List Relation → ℕ → ℕ → ℕ → Term → List Term → List Term → Result State RunFault
step_of m o table cap out n x xs done = step_by m o table cap out n x xs done (leftmost_inversion (letters x.row))

pub record Outcome : Type 0 where
  pub terms : List Term
  pub steps : ℕ

-- at most fuel steps more, after n
abbrev pub run_from : Coding → OrderModel → List Relation → ℕ → ℕ → ℕ → ℕ → List Term → List Term → Result Outcome RunFault
run_from m o table cap out fuel n [] done = Ok (record { terms = done; steps = n })
run_from m o table cap out zero n (x ∷ xs) done = Err (record { cause = StepLimit; place = at_step n })
run_from m o table cap out (suc fuel) n (x ∷ xs) done =
    then_do (step_of m o table cap out (n + 1) x xs done) (λ s. run_from m o table cap out fuel (n + 1) s.work s.done)
