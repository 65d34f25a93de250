-- Each answered step keeps the normal form of result and work together; so an answered run ends with the normal form of what was loaded.
use Rattle.std.proofs.Common.{◌≡◌, ℕ, zero, suc, ◌+◌, Bool, true, false, cond, ltb, ◌⊎◌, List, [], ◌∷◌, ◌++◌, length, get_or, take, drop, Some, None, Ok, Err, Option, Result, Greater, sym, refl, ap, ◌∙◌, subst, ap₂, inl, inr, ⊎_elim, arith}
use Rattle.theory.specs.Ring.{CommutativeRing}
use Rattle.theory.specs.FreeSum.{Word, place, FreeSum, Occurs, scale, around, eval}
use Rattle.theory.specs.Words.{Over, Standard}
use Rattle.theory.specs.Relations.{Relations, Pair, rhs}
use Rattle.theory.proofs.RingLaws as ring
use Rattle.theory.proofs.Eval.{eval-nil, eval-append, eval-scale, eval-around}
use Rattle.theory.proofs.NormalForm.{value, value_first, NF_of_values, NF_of_standard}
use Rattle.theory.proofs.Occurs.{occurs-append}
use Rattle.theory.proofs.Relations.{rhs-pair}
use Rattle.theory.proofs.Words.{over-place, over-place_join}
use Rattle.coefficients.specs.Coding.{Coding}
use Rattle.orders.specs.Letters.{letters}
use Rattle.orders.specs.Models.{OrderModel}
use Rattle.words.specs.Compare.{compare_words}
use Rattle.words.specs.Inversions.{leftmost_inversion}
use Rattle.words.specs.declared.term.Term.{Term}
use Rattle.kept.specs.Kept.{compare_terms}
use Rattle.kept.specs.Falling.{Above, Falls, NoneZero}
use Rattle.run.specs.declared.fault.Cause.TheVariants.{ResultFull}
use Rattle.run.specs.declared.fault.RunFault.{RunFault}
use Rattle.run.specs.declared.relation.Relation.{Relation}
use Rattle.run.specs.Entries.{Entry, load}
use Rattle.run.specs.Faults.{stepping, at_step}
use Rattle.run.specs.Pieces as pieces
use Rattle.run.specs.Relations.{relation_of, tail_of}
use Rattle.run.specs.Step.{tail_entries, entries_at, State, finished, worked, step_by, step_of, Outcome, run_from}
use Rattle.run.specs.Calls.{Memory, step_limit, calculate}
use Rattle.normal_forms.specs.Terms.{Among, sum_of, AreTerms}
use Rattle.normal_forms.specs.Relations.{relations_of, Ends, TailTerm, Valid}
use Rattle.normal_forms.specs.Entries.{EntryMeans, StandFor}
use Rattle.normal_forms.specs.Theorems.{Running, StepKeeps, IsNormalForm}
use Rattle.normal_forms.proofs.Codes.{product-means}
use Rattle.normal_forms.proofs.Order.{trans_words, greater_words, above-rest}
use Rattle.normal_forms.proofs.Images.{exchange-after, tail-after}
use Rattle.normal_forms.proofs.Inversions.{standard_of_none, FallsAt, falls_at, inversion_at}
use Rattle.normal_forms.proofs.Loads.{ok_injective, then_ok, GreaterThan, Loaded, load-adds}
use Rattle.normal_forms.proofs.Unique.{none_kept, without_first}

-- LISTS

pub sum_of_append : (m : Coding) (xs ys : List Term) → sum_of m (xs ++ ys) ≡ sum_of m xs ++ sum_of m ys
unfolding sum_of
sum_of_append m [] ys = refl
sum_of_append m (x ∷ xs) ys = ap (λ f. record { coef = m.means x.code; word = letters x.row } ∷ f) (sum_of_append m xs ys)

terms-append : (m : Coding) (n : ℕ) (xs ys : List Term) → AreTerms m n xs → AreTerms m n ys → AreTerms m n (xs ++ ys)
terms-append m n [] ys a b = b
terms-append m n (x ∷ xs) ys a b = (a.0, terms-append m n xs ys a.1 b)

none_zero-append : (xs ys : List Term) → NoneZero xs → NoneZero ys → NoneZero (xs ++ ys)
none_zero-append [] ys a b = b
none_zero-append (x ∷ xs) ys a b = (a.0, none_zero-append xs ys a.1 b)

pub among_append : {A : Type 0} (z : A) (xs ys : List A) → Among z (xs ++ ys) → Among z xs ⊎ Among z ys
among_append z [] ys a = inr a
among_append z (x ∷ xs) ys (inl e) = inl (inl e)
among_append z (x ∷ xs) ys (inr a) = ⊎_elim (λ b. inl (inr b)) (λ b. inr b) (among_append z xs ys a)

-- one term more at the end
above_push : (o : OrderModel) (d : Term) (ds : List Term) (x : Term) → Above o d ds → compare_terms o d x ≡ Greater → Above o d (ds ++ (x ∷ []))
above_push o d [] x a g = g
above_push o d (e ∷ ds) x a g = a

falls_push : (o : OrderModel) (ds : List Term) (x : Term) → Falls o ds → ((z : Term) → Among z ds → compare_terms o z x ≡ Greater) → Falls o (ds ++ (x ∷ []))
falls_push o [] x f g = (tt, tt)
falls_push o (d ∷ ds) x f g = (above_push o d ds x f.0 (g d (inl refl)), falls_push o ds x f.1 (λ z a. g z (inr a)))

greater_trans : (o : OrderModel) (z x : Term) (es : List Entry) → compare_words o (letters z.row) (letters x.row) ≡ Greater → GreaterThan o x es → GreaterThan o z es
greater_trans o z x [] h u = tt
greater_trans o z x (e ∷ es) h u = (trans_words o (letters z.row) (letters x.row) e.word h u.0, greater_trans o z x es h u.1)

finished-ok : (out k : ℕ) (x : Term) (xs done : List Term) (s : State) → finished out k x xs done ≡ Ok s → record { work = xs; done = done ++ (x ∷ []) } ≡ s
finished-ok out k x xs done s h = at (ltb (length done) out) h
  where
    at : (b : Bool) → cond {A = Result State RunFault} b (Ok (record { work = xs; done = done ++ (x ∷ []) })) (Err (record { cause = ResultFull; place = at_step k })) ≡ Ok s → record { work = xs; done = done ++ (x ∷ []) } ≡ s
    at true h = cc
    at false h = let z : ◌≡◌ {A = ℕ} 0 1 = cc in absurd (omega arith)

worked-ok : (done : List Term) (r : Result (List Term) RunFault) (s : State) → worked done r ≡ Ok s → (ys : List Term) × (r ≡ Ok ys) × (record { work = ys; done = done } ≡ s)
worked-ok done (Ok ys) s h = (ys, refl, cc)
worked-ok done (Err f) s h = let z : ◌≡◌ {A = ℕ} 0 1 = cc in absurd (omega arith)

module _ (m : Coding) (o : OrderModel) (n : ℕ) (table : List Relation) (valid : Valid m o n table) where
  abbrev R : CommutativeRing
  R = m.ring

  abbrev P : Relations R
  P = relations_of m n table

  pub rhs_is : (j i : ℕ) → Pair n j i → rhs P j i ≡ record { coef = m.means (relation_of table j i).factor; word = i ∷ j ∷ [] } ∷ sum_of m (tail_of (relation_of table j i))
  unfolding relations_of
  rhs_is j i p = rhs-pair (relations_of m n table) j i p

  -- WHAT A STEP INSERTS

  -- a word w whose leftmost inversion is at k, taken out with the code a in a step
  module _ (step a : ℕ) (used : m.used a ≡ true) (w : List ℕ) (over : Over n w) (k : ℕ) (d : FallsAt w k) where
    abbrev j : ℕ
    j = get_or w k 0

    abbrev i : ℕ
    i = get_or w (k + 1) 0

    abbrev u : List ℕ
    u = take k w

    abbrev v : List ℕ
    v = drop (k + 2) w

    abbrev rel : Relation
    rel = relation_of table j i

    parts : Over n u × Over n (j ∷ i ∷ []) × Over n v
    parts = over-place n u (j ∷ i ∷ []) v (subst (Over n) d.split over)

    pair : Pair n j i
    pair = record { low = parts.1.1.0.low; falls = d.falls; high = parts.1.0.high }

    tail-terms : (t : Term) → Among t (tail_of rel) → TailTerm m o n j i t
    tail-terms = (valid.pairs j i pair).tail

    tail-stands : (e : ℕ) (ts : List Term) → ((t : Term) → Among t ts → TailTerm m o n j i t)
        → StandFor m n (tail_entries m step j i w k a e ts) (scale (m.means a) (around u (sum_of m ts) v))
    unfolding scale around sum_of place pieces.around
    tail-stands e [] h = tt
    tail-stands e (t ∷ ts) h =
        let s = (h t (inl refl)).term in (
          record {
            word = refl;
            over = over-place_join n u (letters t.row) v parts.0 s.word.over parts.2;
            code = λ c q. product-means m a t.code c used s.in_use q;
          },
          tail-stands (e + 1) ts (λ t b. h t (inr b)),
        )

    exchange-stands : EntryMeans m n (record { word = pieces.around w k (i ∷ j ∷ []); code = m.product a rel.factor; place = stepping step j i 0 })
        (record { coef = R.mul (m.means a) (m.means rel.factor); word = place u (i ∷ j ∷ []) v })
    unfolding place pieces.around
    exchange-stands = record {
      word = refl;
      over = over-place_join n u (i ∷ j ∷ []) v parts.0 (parts.1.1.0, (parts.1.0, tt)) parts.2;
      code = λ c q. product-means m a rel.factor c used (valid.pairs j i pair).factor q;
    }

    -- the entries stand for a times what w comes to
    entries-stand : StandFor m n (entries_at m table step w k a) (scale (m.means a) (around u (rhs P j i) v))
    unfolding scale around entries_at
    entries-stand = subst (λ f. StandFor m n (entries_at m table step w k a) (scale (m.means a) (around u f v))) (sym (rhs_is j i pair)) (exchange-stands, tail-stands 1 (tail_of rel) tail-terms)

    -- all of them come after w
    tail_under : (x : Term) → letters x.row ≡ w → (e : ℕ) (ts : List Term) → ((t : Term) → Among t ts → TailTerm m o n j i t) → GreaterThan o x (tail_entries m step j i w k a e ts)
    unfolding place pieces.around
    tail_under x q e [] h = tt
    tail_under x q e (t ∷ ts) h = (
      ap (λ y. compare_words o y (place u (letters t.row) v)) (q ∙ d.split) ∙ tail-after o u j i v (letters t.row) (h t (inl refl)).before,
      tail_under x q (e + 1) ts (λ t b. h t (inr b)),
    )

    entries_under : (x : Term) → letters x.row ≡ w → GreaterThan o x (entries_at m table step w k a)
    unfolding place pieces.around entries_at
    entries_under x q = (ap (λ y. compare_words o y (place u (i ∷ j ∷ []) v)) (q ∙ d.split) ∙ exchange-after o u j i v d.falls, tail_under x q 1 (tail_of rel) tail-terms)

    -- and they have the value of w
    entries-value : (ends : Ends m n table) (φ : Word → R.carrier) → eval (scale (m.means a) (around u (rhs P j i) v)) (value P ends φ) ≡ R.mul (m.means a) (value P ends φ w)
    entries-value ends φ =
        eval-scale (m.means a) (around u (rhs P j i) v) (value P ends φ)
        ∙ ap (R.mul (m.means a)) (eval-around u (rhs P j i) v (value P ends φ) ∙ sym (value_first P ends φ w (inversion_at w k d) d.first))

  module _ (ends : Ends m n table) where
    -- the value of the normal form of a list
    abbrev list_value : (Word → R.carrier) → List Term → R.carrier
    list_value φ ts = eval (sum_of m ts) (value P ends φ)

    record Keeps (work done work' done' : List Term) : Type 0 where
      pub running : Running m o n work' done'
      pub same : (φ : Word → R.carrier) → R.add (list_value φ done') (list_value φ work') ≡ R.add (list_value φ done) (list_value φ work)

    -- STEPS

    -- a standard word goes to the result
    moved : (x : Term) (xs done : List Term) → Standard (letters x.row) → Running m o n (x ∷ xs) done → Keeps (x ∷ xs) done xs (done ++ (x ∷ []))
    unfolding sum_of eval
    moved x xs done st r = record {
      running = record {
        work_kept = without_first m o n x xs r.work_kept;
        done_kept = record {
          terms = terms-append m n done (x ∷ []) r.done_kept.terms (r.work_kept.terms.0, tt);
          kept = record {
            falls = falls_push o done x r.done_kept.kept.falls r.above;
            none_zero = none_zero-append done (x ∷ []) r.done_kept.kept.none_zero (r.work_kept.kept.none_zero.0, tt);
          };
        };
        standard = λ t h. ⊎_elim (r.standard t) (only t) (occurs-append (sum_of m done) (sum_of m (x ∷ [])) t (subst (Occurs t) (sum_of_append m done (x ∷ [])) h));
        above = λ z a. ⊎_elim (λ b. above-rest o z x xs (r.above z b) r.work_kept.kept.falls.0) (last z) (among_append z done (x ∷ []) a);
      };
      same = λ φ.
          let t = R.mul (m.means x.code) (value P ends φ (letters x.row)) in
          ap (λ f. R.add (eval f (value P ends φ)) (list_value φ xs)) (sum_of_append m done (x ∷ []))
          ∙ ap (λ y. R.add y (list_value φ xs)) (eval-append (sum_of m done) (sum_of m (x ∷ [])) (value P ends φ) ∙ ap (R.add (list_value φ done)) (ring.add-zero R t))
          ∙ ring.add_assoc R (list_value φ done) t (list_value φ xs);
    }
      where
        only : (t : Word) → Occurs t (sum_of m (x ∷ [])) → Standard t
        only t (inl e) = subst Standard (sym e) st
        only t (inr o) = absurd o

        last : (z : Term) → Among z (x ∷ []) → Above o z xs
        last z (inl e) = subst (λ y. Above o y xs) (sym e) r.work_kept.kept.falls.0
        last z (inr a) = absurd a

    -- any other is rewritten at its leftmost inversion
    rewritten : (cap step : ℕ) (x : Term) (xs done : List Term) (k : ℕ) (ys : List Term) → Running m o n (x ∷ xs) done → FallsAt (letters x.row) k
        → load m o cap (entries_at m table step (letters x.row) k x.code) xs ≡ Ok ys → Keeps (x ∷ xs) done ys done
    unfolding sum_of eval
    rewritten cap step x xs done k ys r d h =
        let w = letters x.row in
        let g = r.work_kept.terms.0 in
        let es = entries_at m table step w k x.code in
        let f = scale (m.means x.code) (around (take k w) (rhs P (get_or w k 0) (get_or w (k + 1) 0)) (drop (k + 2) w)) in
        let l : Loaded m o n es f xs ys =
        load-adds m o n valid.few cap es f xs ys (entries-stand step x.code g.in_use w g.word.over k d) (without_first m o n x xs r.work_kept) h
        in
        let under = entries_under step x.code g.in_use w g.word.over k d x refl in
        record {
          running = record {
            work_kept = l.kept;
            done_kept = r.done_kept;
            standard = r.standard;
            above = λ z a. l.above z (above-rest o z x xs (r.above z a) r.work_kept.kept.falls.0) (greater_trans o z x es (greater_words o z x (r.above z a)) under);
          };
          same = λ φ.
              ap (R.add (list_value φ done))
              (l.adds (value P ends φ) ∙ ap (R.add (list_value φ xs)) (entries-value step x.code g.in_use w g.word.over k d ends φ)
              ∙ ring.add_comm R (list_value φ xs) (R.mul (m.means x.code) (value P ends φ w)));
        }

    step_keeps : (cap out k : ℕ) (x : Term) (xs done : List Term) (s : State) → Running m o n (x ∷ xs) done → step_of m o table cap out k x xs done ≡ Ok s → Keeps (x ∷ xs) done s.work s.done
    unfolding step_of
    step_keeps cap out k x xs done s r h = at (leftmost_inversion (letters x.row)) refl h
      where
        at : (p : Option ℕ) → leftmost_inversion (letters x.row) ≡ p → step_by m o table cap out k x xs done p ≡ Ok s → Keeps (x ∷ xs) done s.work s.done
        at None e h = subst (λ t. Keeps (x ∷ xs) done t.work t.done) (finished-ok out k x xs done s h) (moved x xs done (standard_of_none (letters x.row) e) r)
        at (Some q) e h =
            let y = worked-ok done (load m o cap (entries_at m table k (letters x.row) q x.code) xs) s h in
            subst (λ t. Keeps (x ∷ xs) done t.work t.done) y.2 (rewritten cap k x xs done q y.0 r (falls_at (letters x.row) q e) y.1)

    pub steps-keep : (cap out k : ℕ) (x : Term) (xs done : List Term) (s : State) → Running m o n (x ∷ xs) done → step_of m o table cap out k x xs done ≡ Ok s → StepKeeps m o n table ends x xs done s
    steps-keep cap out k x xs done s r h =
        let q = step_keeps cap out k x xs done s r h in
        record {
          running = q.running;
          same = NF_of_values P ends (sum_of m s.done ++ sum_of m s.work) (sum_of m done ++ sum_of m (x ∷ xs))
              (λ φ. eval-append (sum_of m s.done) (sum_of m s.work) (value P ends φ) ∙ q.same φ ∙ sym (eval-append (sum_of m done) (sum_of m (x ∷ xs)) (value P ends φ)));
        }

    -- RUNS

    run_keeps : (cap out fuel k : ℕ) (work done : List Term) (r : Outcome) → Running m o n work done → run_from m o table cap out fuel k work done ≡ Ok r → Keeps work done [] r.terms
    run_keeps cap out fuel k [] done r g h =
        subst (λ t. Keeps [] done [] t.terms) (ok_injective (record { terms = done; steps = k }) r h) (record { running = g; same = λ φ. refl })
    run_keeps cap out zero k (x ∷ xs) done r g h = let z : ◌≡◌ {A = ℕ} 0 1 = cc in absurd (omega arith)
    run_keeps cap out (suc fuel) k (x ∷ xs) done r g h =
        let q = then_ok (step_of m o table cap out (k + 1) x xs done) (λ s. run_from m o table cap out fuel (k + 1) s.work s.done) r h in
        let a = step_keeps cap out (k + 1) x xs done q.0 g q.1 in
        let b = run_keeps cap out fuel (k + 1) q.0.work q.0.done r a.running q.2 in
        record { running = b.running; same = λ φ. b.same φ ∙ a.same φ }

    pub calculates : (mem : Memory) (es : List Entry) (f : FreeSum m.ring) (r : Outcome) → StandFor m n es f → calculate m o table mem es ≡ Ok r → IsNormalForm m o n table ends f r.terms
    unfolding calculate sum_of
    calculates mem es f r s h =
        let q = then_ok (load m o mem.work es []) (λ xs. run_from m o table mem.work mem.result step_limit 0 xs []) r h in
        let l = load-adds m o n valid.few mem.work es f [] q.0 s (none_kept m o n) q.1 in
        let k = run_keeps mem.work mem.result step_limit 0 q.0 [] r
        (record { work_kept = l.kept; done_kept = none_kept m o n; standard = λ t o. absurd o; above = λ z a. absurd a }) q.2 in
        let g = sum_of m r.terms in
        let same : (φ : Word → R.carrier) → eval g (value P ends φ) ≡ eval f (value P ends φ) = λ φ.
        let none = eval-nil R (value P ends φ) in
        sym (ap (R.add (eval g (value P ends φ))) none ∙ ring.add-zero R (eval g (value P ends φ))) ∙ k.same φ
        ∙ ap₂ R.add none (l.adds (value P ends φ) ∙ ap (λ y. R.add y (eval f (value P ends φ))) none ∙ ring.zero-add R (eval f (value P ends φ)))
        ∙ ring.zero-add R (eval f (value P ends φ)) in
        record {
          kept = k.running.done_kept;
          standard = k.running.standard;
          normal_form = λ w. sym (NF_of_standard P ends g k.running.standard w) ∙ NF_of_values P ends g f same w;
        }
