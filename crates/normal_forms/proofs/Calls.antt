-- What each calculation loads stands for the list, the sum, the difference or the product of its operands.
use Rattle.std.proofs.Common.{◌≡◌, ℕ, ◌+◌, true, List, [], ◌∷◌, ◌++◌, Ok, refl, ap, ◌∙◌}
use Rattle.theory.specs.FreeSum.{FreeSum, Term as FreeTerm, negate, times_term, times}
use Rattle.theory.proofs.Words.{over_join}
use Rattle.coefficients.specs.Coding.{Coding, Answer}
use Rattle.orders.specs.Letters.{letters}
use Rattle.orders.specs.Models.{OrderModel}
use Rattle.words.specs.declared.term.Term.{Term}
use Rattle.run.specs.declared.relation.Relation.{Relation}
use Rattle.run.specs.Entries.{Entry}
use Rattle.run.specs.Calls.{Memory, first_entries, second_entries, negated_entries, joined_entries, product_entries}
use Rattle.normal_forms.specs.Terms.{sum_of, IsTerm, AreTerms}
use Rattle.normal_forms.specs.Relations.{Ends, Valid}
use Rattle.normal_forms.specs.Entries.{StandFor}
use Rattle.normal_forms.specs.Theorems.{CallsAnswer}
use Rattle.normal_forms.proofs.Codes.{CodeOf, product-means, negative-means}
use Rattle.normal_forms.proofs.Running.{calculates}

module _ (m : Coding) (n : ℕ) where
  -- the free term of a term
  abbrev meant : Term → FreeTerm m.ring
  meant t = record { coef = m.means t.code; word = letters t.row }

  pub own_means : (a : ℕ) → m.used a ≡ true → (c : ℕ) → ◌≡◌ {A = Answer} (Ok a) (Ok c) → CodeOf m c (m.means a)
  own_means a u c h = let e : c ≡ a = cc in record { in_use = ap m.used e ∙ u; is = ap m.means e }

  pub first_stand : (p : ℕ) (ts : List Term) → AreTerms m n ts → StandFor m n (first_entries p ts) (sum_of m ts)
  unfolding sum_of
  first_stand p [] s = tt
  first_stand p (t ∷ ts) s = (record { word = refl; over = s.0.word.over; code = own_means t.code s.0.in_use }, first_stand (p + 1) ts s.1)

  pub second-stand : (p : ℕ) (ts : List Term) → AreTerms m n ts → StandFor m n (second_entries p ts) (sum_of m ts)
  unfolding sum_of
  second-stand p [] s = tt
  second-stand p (t ∷ ts) s = (record { word = refl; over = s.0.word.over; code = own_means t.code s.0.in_use }, second-stand (p + 1) ts s.1)

  pub negated_stand : (p : ℕ) (ts : List Term) → AreTerms m n ts → StandFor m n (negated_entries m p ts) (negate (sum_of m ts))
  unfolding sum_of negate
  negated_stand p [] s = tt
  negated_stand p (t ∷ ts) s =
      (record { word = refl; over = s.0.word.over; code = λ c h. negative-means m t.code c s.0.in_use h }, negated_stand (p + 1) ts s.1)

  pub stand-append : (es ds : List Entry) (f g : FreeSum m.ring) → StandFor m n es f → StandFor m n ds g → StandFor m n (es ++ ds) (f ++ g)
  stand-append [] ds [] g a b = b
  stand-append [] ds (x ∷ f) g a b = absurd a
  stand-append (e ∷ es) ds [] g a b = absurd a
  stand-append (e ∷ es) ds (x ∷ f) g a b = (a.0, stand-append es ds f g a.1 b)

  joined-stand : (p : ℕ) (t : Term) (q : ℕ) (us : List Term) → IsTerm m n t → AreTerms m n us → StandFor m n (joined_entries m p t q us) (times_term (meant t) (sum_of m us))
  unfolding sum_of times_term
  joined-stand p t q [] s u = tt
  joined-stand p t q (x ∷ us) s u = (
    record {
      word = refl;
      over = over_join n (letters t.row) (letters x.row) s.word.over u.0.word.over;
      code = λ c h. product-means m t.code x.code c s.in_use u.0.in_use h;
    },
    joined-stand p t (q + 1) us s u.1,
  )

  pub product-stand : (p : ℕ) (ts us : List Term) → AreTerms m n ts → AreTerms m n us → StandFor m n (product_entries m p ts us) (times (sum_of m ts) (sum_of m us))
  unfolding sum_of times
  product-stand p [] us s u = tt
  product-stand p (t ∷ ts) us s u =
      stand-append (joined_entries m p t 1 us) (product_entries m (p + 1) ts us) (times_term (meant t) (sum_of m us)) (times (sum_of m ts) (sum_of m us))
      (joined-stand p t 1 us s.0 u) (product-stand (p + 1) ts us s.1 u)

module _ (m : Coding) (o : OrderModel) (n : ℕ) (table : List Relation) (valid : Valid m o n table) (ends : Ends m n table) where
  pub calls_answer : (mem : Memory) → CallsAnswer m o n table ends mem
  calls_answer mem = record {
    normalised = λ p ts r s h. calculates m o n table valid ends mem (first_entries p ts) (sum_of m ts) r (first_stand m n p ts s) h;
    added = λ p q ts us r s u h.
        calculates m o n table valid ends mem (first_entries p ts ++ second_entries q us) (sum_of m ts ++ sum_of m us) r
        (stand-append m n (first_entries p ts) (second_entries q us) (sum_of m ts) (sum_of m us) (first_stand m n p ts s) (second-stand m n q us u)) h;
    subtracted = λ p q ts us r s u h.
        calculates m o n table valid ends mem (first_entries p ts ++ negated_entries m q us) (sum_of m ts ++ negate (sum_of m us)) r
        (stand-append m n (first_entries p ts) (negated_entries m q us) (sum_of m ts) (negate (sum_of m us)) (first_stand m n p ts s) (negated_stand m n q us u)) h;
    multiplied = λ p ts us r s u h. calculates m o n table valid ends mem (product_entries m p ts us) (times (sum_of m ts) (sum_of m us)) r (product-stand m n p ts us s u) h;
  }
