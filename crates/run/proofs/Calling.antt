-- Laws of a whole calculation.
use Rattle.std.proofs.Common.{◌≡◌, ℕ, List, [], length, Ok, Err, Result, sym, refl, ap, ◌∙◌, arith}
use native.Mathlib.Nat.{sub-zero}
use Rattle.std.proofs.lemmas.List.{drop_all, take_all, length-drop}
use Rattle.coefficients.specs.Coding.{Coding}
use Rattle.orders.specs.Models.{OrderModel}
use Rattle.words.specs.declared.term.Term.{Term}
use Rattle.kept.specs.Lists.{items, places}
use Rattle.kept.specs.Terms.{blanks}
use Rattle.kept.specs.declared.list.KeptList.{KeptList}
use Rattle.run.specs.declared.done.Done.{Done}
use Rattle.run.specs.declared.engine.TheConstants.{STEP_LIMIT}
use Rattle.run.specs.declared.fault.RunFault.{RunFault}
use Rattle.run.specs.declared.relation.Relation.{Relation}
use Rattle.run.specs.Calls.{calculate, step_limit}
use Rattle.run.specs.Dones.{terms, room}
use Rattle.run.specs.Entries.{Entry, load, then_do}
use Rattle.run.specs.Post.{Left, Ran, Calculated}
use Rattle.run.specs.Step.{Outcome, run_from}

-- the constant of the code
pub limit : STEP_LIMIT ≡ step_limit
unfolding step_limit
limit = refl

-- an empty list l was made in the memory w, and no term is done in the memory out
module _ {O : Type 0} {k : _} (model : O → OrderModel) (m : Coding) (table : List Relation) (es : List Entry) (order : O) (w out : List Term) (l : KeptList O k)
    (eo : l.order.now ≡ order) (ew : l.memory.now ≡ w) (es' : l.start ≡ length w)
  where
    abbrev want : Result Outcome RunFault
    want = calculate m (model order) table (record { work = length w; result = length out }) es

    loaded : load m (model l.order.now) (places l) es (items l) ≡ load m (model order) (length w) es []
    loaded = rw (eo, ew, es') (ap (load m (model order) (length w) es) (drop_all (length w) w (omega arith)))

    pub stopped : (f : RunFault) → load m (model l.order.now) (places l) es (items l) ≡ Err f → want ≡ Err f
    unfolding calculate
    stopped f h = ap (λ q. then_do q (λ xs. run_from m (model order) table (length w) (length out) step_limit 0 xs [])) (sym loaded ∙ h)

    module _ (l1 : KeptList O k) (left : Left (load m (model l.order.now) (places l) es (items l)) l l1 (Ok tt)) (d : Done) (ed : d.memory.now ≡ out) (ec : d.count ≡ 0)
        (limit : ℕ) (el : limit ≡ step_limit)
      where
        run : run_from m (model l1.order.now) table (places l1) (room d) limit 0 (items l1) (terms d) ≡ want
        unfolding calculate
        run =
            let e1 = left.0.order ∙ eo in
            let e2 : places l1 ≡ length w = left.0.places ∙ ap length ew in
            rw (e1, e2, ed, ec, el) (ap (λ q. then_do q (λ xs. run_from m (model order) table (length w) (length out) step_limit 0 xs [])) (left.1 ∙ loaded))

        pub refused : (f : RunFault) → run_from m (model l1.order.now) table (places l1) (room d) limit 0 (items l1) (terms d) ≡ Err f → want ≡ Err f
        refused f h = sym run ∙ h

        pub ran : (l2 : KeptList O k) (d2 : Done) (n count : ℕ) (w2 out2 : List Term)
            → Ran (run_from m (model l1.order.now) table (places l1) (room d) limit 0 (items l1) (terms d)) l1 d l2 d2 (Ok n)
            → count ≡ d2.count → w2 ≡ l2.memory.now → out2 ≡ d2.memory.now → Calculated want w out w2 out2 (Ok (count, n))
        ran l2 d2 n count w2 out2 h e ew2 eo2 =
            let empty : length (items l2) ≡ 0 = ap length h.3 in
            let whole : l2.start ≡ length l2.memory.now = omega (arith, length-drop l2.start l2.memory.now, l2.within) in
            rw (ew2, eo2, e) (
              d2.within,
              h.2 ∙ run,
              λ b. sym (take_all l2.start l2.memory.now (omega arith)) ∙ h.4 (left.2 (rw (ew, es') (take_all (length w) w (omega arith) ∙ b))) ∙ ap blanks whole,
              λ b. h.5 (rw (ed, ec, sub-zero (length out)) b),
            )
