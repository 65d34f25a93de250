-- Lists that stand in a lent memory, from a place to its end.
use Rattle.std.proofs.Common.{◌≡◌, ℕ, ◌-◌, ◌≤◌, List, [], length, take, drop, Some, None, Ok, Err, Option, Result, sym, refl, ap, ◌∙◌, arith}
use native.Mathlib.Nat.{sub-zero}
use Rattle.std.proofs.lemmas.List.{length-drop, take_all}
use Rattle.coefficients.specs.Coding.{Coding, Answer}
use Rattle.orders.specs.Models.{OrderModel}
use Rattle.words.specs.declared.term.Term.{Term}
use Rattle.kept.specs.Falling.{Falls}
use Rattle.kept.specs.Kept.{Listed, insert}
use Rattle.kept.specs.Lists.{items, places}
use Rattle.kept.specs.Terms.{blanks}
use Rattle.kept.specs.declared.list.KeptList.{KeptList}
use Rattle.kept.proofs.Keeps.{insert-falls}
use Rattle.run.specs.declared.done.Done.{Done}
use Rattle.run.specs.declared.fault.RunFault.{RunFault}
use Rattle.run.specs.declared.relation.Relation.{Relation}
use Rattle.run.specs.Calls.{step_limit}
use Rattle.run.specs.Dones.{terms, room as result_room}
use Rattle.run.specs.Entries.{added, from_kept}
use Rattle.run.specs.Post.{Ran, Ended}
use Rattle.run.specs.Step.{Outcome, run_from}

-- how many places are free
pub room : (xs : List Term) (s : ℕ) → s ≤ length xs → length xs - length (drop s xs) ≡ s
room xs s h = simp length-drop (omega arith)

pub added_is : (m : Coding) (o : OrderModel) (cap s code : ℕ) (row : List ℕ) (r : Option (List ℕ)) (a : Answer) (xs : List Term)
    → r ≡ Some row → a ≡ Ok code → cap - length xs ≡ s → added m o cap r a xs ≡ from_kept (insert m o s (record { row = row; code = code }) xs)
added_is m o cap s code row r a xs er ea es =
    ap (λ r. added m o cap r a xs) er
    ∙ ap (λ a. added m o cap (Some row) a xs) ea
    ∙ ap (λ n. from_kept (insert m o n (record { row = row; code = code }) xs)) es

kept-ok : (r : Listed) (ys : List Term) → from_kept r ≡ Ok ys → r ≡ Ok ys
kept-ok (Ok xs) ys h = let e : xs ≡ ys = cc in ap Ok e
kept-ok (Err e) ys h = let z : ◌≡◌ {A = ℕ} 0 1 = cc in absurd (omega arith)

pub added-falls : (m : Coding) (o : OrderModel) (cap : ℕ) (row : Option (List ℕ)) (a : Answer) (xs ys : List Term) → Falls o xs → added m o cap row a xs ≡ Ok ys → Falls o ys
added-falls m o cap None a xs ys f h = let z : ◌≡◌ {A = ℕ} 0 1 = cc in absurd (omega arith)
added-falls m o cap (Some row) (Err e) xs ys f h = let z : ◌≡◌ {A = ℕ} 0 1 = cc in absurd (omega arith)
added-falls m o cap (Some row) (Ok c) xs ys f h =
    insert-falls m o (cap - length xs) (record { row = row; code = c }) xs ys f (kept-ok (insert m o (cap - length xs) (record { row = row; code = c }) xs) ys h)

-- the list l stands in the memory w from s on, and no term is done in the memory out
module _ {O : Type 0} {k : _} (model : O → OrderModel) (m : Coding) (table : List Relation) (order : O) (w out : List Term) (s : ℕ) (l : KeptList O k) (d : Done)
    (eo : l.order.now ≡ order) (ew : l.memory.now ≡ w) (es : l.start ≡ s) (ed : d.memory.now ≡ out) (ec : d.count ≡ 0) (limit : ℕ) (el : limit ≡ step_limit)
  where
    abbrev want : Result Outcome RunFault
    want = run_from m (model order) table (length w) (length out) step_limit 0 (drop s w) []

    run : run_from m (model l.order.now) table (places l) (result_room d) limit 0 (items l) (terms d) ≡ want
    run = rw (eo, ew, es, ed, ec, el) refl

    pub standing-refused : (f : RunFault) → run_from m (model l.order.now) table (places l) (result_room d) limit 0 (items l) (terms d) ≡ Err f → want ≡ Err f
    standing-refused f h = sym run ∙ h

    pub standing-ran : take s w ≡ blanks s → (l2 : KeptList O k) (d2 : Done) (n count : ℕ) (w2 out2 : List Term)
        → Ran (run_from m (model l.order.now) table (places l) (result_room d) limit 0 (items l) (terms d)) l d l2 d2 (Ok n)
        → count ≡ d2.count → w2 ≡ l2.memory.now → out2 ≡ d2.memory.now → Ended want out w2 out2 (Ok (count, n))
    standing-ran b l2 d2 n count w2 out2 h e ew2 eo2 =
        let empty : length (items l2) ≡ 0 = ap length h.3 in
        let whole : l2.start ≡ length l2.memory.now = omega (arith, length-drop l2.start l2.memory.now, l2.within) in
        rw (ew2, eo2, e) (
          d2.within,
          h.2 ∙ run,
          sym (take_all l2.start l2.memory.now (omega arith)) ∙ h.4 (rw (ew, es) b) ∙ ap blanks whole,
          λ q. h.5 (rw (ed, ec, sub-zero (length out)) q),
        )
