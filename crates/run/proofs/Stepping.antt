-- Laws of a step.
use Rattle.std.proofs.Common.{◌≡◌, ℕ, ◌+◌, ◌-◌, ◌<◌, ◌≤◌, List, [], ◌∷◌, ◌++◌, length, drop, IfSome, MatchResult, IsErrAnd, Some, None, Ok, Err, Option, Result, sym, refl, ap, ◌∙◌, arith}
use Rattle.std.proofs.lemmas.Bool.{lt-ltb, le-ltb}
use Rattle.std.proofs.lemmas.List.{drop-drop, drop-replicate, length-take-le}
use Rattle.coefficients.specs.Coding.{Coding}
use Rattle.orders.specs.Letters.{letters}
use Rattle.orders.specs.Models.{OrderModel}
use Rattle.words.specs.Inversions.{leftmost_inversion}
use Rattle.words.specs.Terms.{blank}
use Rattle.words.specs.declared.term.Term.{Term}
use Rattle.words.proofs.Rising.{standard-words}
use Rattle.kept.specs.Lists.{items, places}
use Rattle.kept.specs.Terms.{blanks}
use Rattle.kept.specs.declared.list.KeptList.{KeptList}
use Rattle.run.specs.declared.done.Done.{Done}
use Rattle.run.specs.declared.fault.Cause.{Cause}
use Rattle.run.specs.declared.fault.Cause.TheVariants.{ResultFull}
use Rattle.run.specs.declared.fault.Place.{Place}
use Rattle.run.specs.declared.fault.RunFault.{RunFault}
use Rattle.run.specs.declared.relation.Relation.{Relation}
use Rattle.run.specs.Dones.{terms, room, SameResult, Pushed}
use Rattle.run.specs.Entries.{at_place, load}
use Rattle.run.specs.Faults.{at_step}
use Rattle.run.specs.Post.{Left, Stepped}
use Rattle.run.specs.Step.{State, step_of, step_by, worked, entries_at}

-- an inversion stands inside its word
pub within : (w : List ℕ) (r : Option ℕ) → r ≡ leftmost_inversion w → IfSome r (λ k. k + 2 ≤ length w)
within w None h = tt
within w (Some k) h = let p = (standard-words.place w k (sym h)).0 in omega arith

module _ (m : Coding) (o : OrderModel) (table : List Relation) (cap out n : ℕ) (x : Term) (xs done : List Term) where
  step-full : None ≡ leftmost_inversion (letters x.row) → out ≤ length done → step_of m o table cap out n x xs done ≡ Err (record { cause = ResultFull; place = at_step n })
  unfolding step_of
  step-full h l = ap (step_by m o table cap out n x xs done) (sym h) ∙ rw (le-ltb (length done) out l)

  step-done : None ≡ leftmost_inversion (letters x.row) → length done < out → step_of m o table cap out n x xs done ≡ Ok (record { work = xs; done = done ++ x ∷ [] })
  unfolding step_of
  step-done h l = ap (step_by m o table cap out n x xs done) (sym h) ∙ rw (lt-ltb (length done) out l)

  step-worked : (k : ℕ) → Some k ≡ leftmost_inversion (letters x.row) → step_of m o table cap out n x xs done ≡ worked done (load m o cap (entries_at m table n (letters x.row) k x.code) xs)
  unfolding step_of
  step-worked k h = ap (step_by m o table cap out n x xs done) (sym h)

-- the places behind the result stay blank
pub blank-behind : (out out' : List Term) (n : ℕ) → length out ≡ length out' → drop (n + 1) out' ≡ drop (n + 1) out → drop n out ≡ blanks (length out - n)
    → drop (n + 1) out' ≡ blanks (length out' - (n + 1))
blank-behind out out' n l e h =
    e ∙ sym (drop-drop 1 n out) ∙ ap (drop 1) h ∙ drop-replicate 1 (length out - n) blank ∙ ap (λ i. blanks i) (omega arith)

pub same_done : {before mid after : Done} → SameResult before mid → SameResult mid after → SameResult before after
same_done s t = record { reference = t.reference ∙ s.reference; room = t.room ∙ s.room }

-- a fault at a place
pub placed : {P : Cause → RunFault → Type 0} (p : Place) (r : Result (Unit {0}) Cause) (q : Result (Unit {0}) RunFault)
    → ((e : Cause) (y : RunFault) → P e y → y ≡ record { cause = e; place = p }) → MatchResult r (λ x. q ≡ Ok x) (λ e. IsErrAnd q (P e)) → q ≡ at_place p r
placed p (Ok x) q h m = m
placed p (Err e) (Ok y) h m = absurd m
placed p (Err e) (Err y) h m = ap Err (h e y m)

-- what a step leaves
module _ {O : Type 0} {k : _} (model : O → OrderModel) (m : Coding) (table : List Relation) (n : ℕ) (t : Term) (l : KeptList O k) (d : Done) where
  abbrev pub step_at : Result State RunFault
  step_at = step_of m (model l.order.now) table (places l) (room d) n t (items l) (terms d)

  long : length (terms d) ≡ d.count
  long = length-take-le d.count d.memory.now d.within

  pub stepped_done : (d' : Done) (r : Result (Unit {0}) Cause) → None ≡ leftmost_inversion (letters t.row) → SameResult d d' → Pushed t d d' r → Stepped step_at l d l d' (at_place (at_step n) r)
  stepped_done d' (Ok u) e s h = (
    record { order = refl; reference = refl; places = refl },
    s,
    ap (λ ts. Ok (record { work = items l; done = ts })) h.1 ∙ sym (step-done m (model l.order.now) table (places l) (room d) n t (items l) (terms d) e (omega (arith, long, h.0))),
    λ b. b,
    h.2,
  )
  stepped_done d' (Err c) e s h = (
    record { order = refl; reference = refl; places = refl },
    s,
    step-full m (model l.order.now) table (places l) (room d) n t (items l) (terms d) e (omega (arith, long, h.1)) ∙ ap (λ c. Err (record { cause = c; place = at_step n })) (sym h.0),
  )

  pub stepped_on : (l' : KeptList O k) (r : Result (Unit {0}) RunFault) (i : ℕ) → Some i ≡ leftmost_inversion (letters t.row)
      → Left (load m (model l.order.now) (places l) (entries_at m table n (letters t.row) i t.code) (items l)) l l' r → Stepped step_at l d l' d r
  stepped_on l' (Ok u) i e h = (
    h.0,
    record { reference = refl; room = refl },
    ap (worked (terms d)) h.1 ∙ sym (step-worked m (model l.order.now) table (places l) (room d) n t (items l) (terms d) i e),
    h.2,
    λ b. b,
  )
  stepped_on l' (Err f) i e h = (
    h.0,
    record { reference = refl; room = refl },
    step-worked m (model l.order.now) table (places l) (room d) n t (items l) (terms d) i e ∙ ap (worked (terms d)) h.1,
  )
