-- What each call loads stands for the list, the sum, the difference, the product or the overlap that it is of.
use Rattle.std.proofs.Common.{ℕ, ◌+◌, List, [], ◌∷◌, ◌++◌, sym, refl, ap, subst, inl, inr, append-nil, arith}
use Rattle.theory.specs.FreeSum.{place, around, negate, times_term, times}
use Rattle.theory.specs.Words.{Over}
use Rattle.theory.specs.Relations.{Relations, Triple, rhs, overlap}
use Rattle.theory.proofs.Relations.{pair_ji, pair_kj}
use Rattle.theory.proofs.Words.{over_join}
use Rattle.coefficients.specs.Coding.{Coding}
use Rattle.orders.specs.Letters.{letters}
use Rattle.orders.specs.Models.{OrderModel}
use Rattle.words.specs.declared.term.Term.{Term}
use Rattle.run.specs.declared.relation.Relation.{Relation}
use Rattle.run.specs.Relations.{relation_of, tail_of}
use Rattle.run.specs.Calls.{first_entries, second_entries, negated_entries, joined_entries, product_entries}
use Rattle.algebra.specs.Overlaps.{first_tail, second_tail, first_half, second_half, overlap_entries}
use Rattle.normal_forms.specs.Terms.{Among, sum_of}
use Rattle.normal_forms.specs.Relations.{relations_of, TailTerm, Valid}
use Rattle.normal_forms.specs.Entries.{StandFor}
use Rattle.normal_forms.proofs.Codes.{product-means, negative-means}
use Rattle.normal_forms.proofs.Calls.{own_means, stand-append}
use Rattle.normal_forms.proofs.Running.{rhs_is}
use Rattle.algebra.proofs.Scanning.{Loadable, AllLoadable}

-- CALCULATIONS

module _ (m : Coding) (n : ℕ) where
  pub first_stand : (p : ℕ) (ts : List Term) → AllLoadable m n ts → StandFor m n (first_entries p ts) (sum_of m ts)
  unfolding sum_of
  first_stand p [] s = tt
  first_stand p (t ∷ ts) s = (record { word = refl; over = s.0.over; code = own_means m n t.code s.0.in_use }, first_stand (p + 1) ts s.1)

  second-stand : (p : ℕ) (ts : List Term) → AllLoadable m n ts → StandFor m n (second_entries p ts) (sum_of m ts)
  unfolding sum_of
  second-stand p [] s = tt
  second-stand p (t ∷ ts) s = (record { word = refl; over = s.0.over; code = own_means m n t.code s.0.in_use }, second-stand (p + 1) ts s.1)

  negated_stand : (p : ℕ) (ts : List Term) → AllLoadable m n ts → StandFor m n (negated_entries m p ts) (negate (sum_of m ts))
  unfolding sum_of negate
  negated_stand p [] s = tt
  negated_stand p (t ∷ ts) s = (record { word = refl; over = s.0.over; code = λ c h. negative-means m t.code c s.0.in_use h }, negated_stand (p + 1) ts s.1)

  joined-stand : (p : ℕ) (t : Term) (q : ℕ) (us : List Term) → Loadable m n t → AllLoadable m n us
      → StandFor m n (joined_entries m p t q us) (times_term (record { coef = m.means t.code; word = letters t.row }) (sum_of m us))
  unfolding sum_of times_term
  joined-stand p t q [] s u = tt
  joined-stand p t q (x ∷ us) s u = (
    record {
      word = refl;
      over = over_join n (letters t.row) (letters x.row) s.over u.0.over;
      code = λ c h. product-means m t.code x.code c s.in_use u.0.in_use h;
    },
    joined-stand p t (q + 1) us s u.1,
  )

  pub product-stand : (p : ℕ) (ts us : List Term) → AllLoadable m n ts → AllLoadable m n us → StandFor m n (product_entries m p ts us) (times (sum_of m ts) (sum_of m us))
  unfolding sum_of times
  product-stand p [] us s u = tt
  product-stand p (t ∷ ts) us s u =
      stand-append m n (joined_entries m p t 1 us) (product_entries m (p + 1) ts us) (times_term (record { coef = m.means t.code; word = letters t.row }) (sum_of m us)) (times (sum_of m ts) (sum_of m us))
      (joined-stand p t 1 us s.0 u) (product-stand (p + 1) ts us s.1 u)

  pub sum-stand : (ts us : List Term) → AllLoadable m n ts → AllLoadable m n us → StandFor m n (first_entries 1 ts ++ second_entries 1 us) (sum_of m ts ++ sum_of m us)
  sum-stand ts us s u = stand-append m n (first_entries 1 ts) (second_entries 1 us) (sum_of m ts) (sum_of m us) (first_stand 1 ts s) (second-stand 1 us u)

  pub difference-stand : (ts us : List Term) → AllLoadable m n ts → AllLoadable m n us → StandFor m n (first_entries 1 ts ++ negated_entries m 1 us) (sum_of m ts ++ negate (sum_of m us))
  difference-stand ts us s u = stand-append m n (first_entries 1 ts) (negated_entries m 1 us) (sum_of m ts) (negate (sum_of m us)) (first_stand 1 ts s) (negated_stand 1 us u)

-- OVERLAPS

module _ (m : Coding) (o : OrderModel) (n : ℕ) (table : List Relation) (valid : Valid m o n table) where
  abbrev P : Relations m.ring
  P = relations_of m n table

  module _ (i j k : ℕ) (rises : Triple n i j k) where
    first_tail-stand : (e : ℕ) (ts : List Term) → ((t : Term) → Among t ts → TailTerm m o n k j t) → StandFor m n (first_tail i e ts) (around [] (sum_of m ts) (i ∷ []))
    unfolding around sum_of place
    first_tail-stand e [] h = tt
    first_tail-stand e (t ∷ ts) h =
        let s = (h t (inl refl)).term in (
          record {
            word = refl;
            over = over_join n (letters t.row) (i ∷ []) s.word.over (record { low = rises.low; high = omega arith }, tt);
            code = own_means m n t.code s.in_use;
          },
          first_tail-stand (e + 1) ts (λ t b. h t (inr b)),
        )

    second_tail-stand : (e : ℕ) (ts : List Term) → ((t : Term) → Among t ts → TailTerm m o n j i t) → StandFor m n (second_tail m k e ts) (negate (around (k ∷ []) (sum_of m ts) []))
    unfolding around sum_of place negate
    second_tail-stand e [] h = tt
    second_tail-stand e (t ∷ ts) h =
        let s = (h t (inl refl)).term in (
          record {
            word = ap (λ w. k ∷ w) (sym (append-nil (letters t.row)));
            over = (record { low = omega arith; high = rises.high }, s.word.over);
            code = λ c e. negative-means m t.code c s.in_use e;
          },
          second_tail-stand (e + 1) ts (λ t b. h t (inr b)),
        )

    letters-over : Over n (j ∷ k ∷ i ∷ []) × Over n (k ∷ i ∷ j ∷ [])
    letters-over = (
      (record { low = omega arith; high = omega arith }, (record { low = omega arith; high = omega arith }, (record { low = omega arith; high = omega arith }, tt))),
      (record { low = omega arith; high = omega arith }, (record { low = omega arith; high = omega arith }, (record { low = omega arith; high = omega arith }, tt))),
    )

    first_half-stand : StandFor m n (first_half (relation_of table k j) i j k) (around [] (rhs P k j) (i ∷ []))
    unfolding around place
    first_half-stand =
        let p = pair_kj rises in
        subst (λ f. StandFor m n (first_half (relation_of table k j) i j k) (around [] f (i ∷ []))) (sym (rhs_is m o n table valid k j p))
        (record { word = refl; over = letters-over.0; code = own_means m n (relation_of table k j).factor (valid.pairs k j p).factor }, first_tail-stand 1 (tail_of (relation_of table k j)) (valid.pairs k j p).tail)

    second_half-stand : StandFor m n (second_half m (relation_of table j i) i j k) (negate (around (k ∷ []) (rhs P j i) []))
    unfolding around place negate
    second_half-stand =
        let p = pair_ji rises in
        subst (λ f. StandFor m n (second_half m (relation_of table j i) i j k) (negate (around (k ∷ []) f []))) (sym (rhs_is m o n table valid j i p)) (
          record { word = refl; over = letters-over.1; code = λ c e. negative-means m (relation_of table j i).factor c (valid.pairs j i p).factor e },
          second_tail-stand 1 (tail_of (relation_of table j i)) (valid.pairs j i p).tail,
        )

    pub overlap-stand : StandFor m n (overlap_entries m table i j k) (overlap P i j k)
    unfolding overlap
    overlap-stand =
        stand-append m n (first_half (relation_of table k j) i j k) (second_half m (relation_of table j i) i j k) (around [] (rhs P k j) (i ∷ [])) (negate (around (k ∷ []) (rhs P j i) []))
        first_half-stand second_half-stand
