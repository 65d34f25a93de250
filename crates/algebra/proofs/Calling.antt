-- What an answered calculation has checked, and what its run was given.
use Rattle.std.proofs.Common.{◌≡◌, ℕ, List, [], ◌++◌, Ok}
use Rattle.theory.specs.FreeSum.{FreeSum, negate, times}
use Rattle.theory.specs.Words.{OverSum}
use Rattle.coefficients.specs.Coding.{Coding}
use Rattle.orders.specs.Models.{OrderModel}
use Rattle.words.specs.declared.term.Term.{Term}
use Rattle.run.specs.declared.relation.Relation.{Relation}
use Rattle.run.specs.Entries.{Entry}
use Rattle.run.specs.Step.{Outcome}
use Rattle.run.specs.Calls.{Memory, calculate, first_entries, second_entries, negated_entries, product_entries}
use Rattle.normal_forms.specs.Terms.{sum_of}
use Rattle.normal_forms.specs.Entries.{StandFor}
use Rattle.normal_forms.proofs.Letters.{entries_over}
use Rattle.algebra.specs.declared.verdict.Verdict.{Verdict}
use Rattle.algebra.specs.Verdicts.{IsSound}
use Rattle.algebra.specs.Overlaps.{by_run}
use Rattle.algebra.specs.Calls.{in_first, in_second, when_sound, scan_first, scan_second, normalise, sum, difference, product}
use Rattle.algebra.proofs.Scanning.{AllLoadable, when_sound-ok, scan-ok, by_run-ok}
use Rattle.algebra.proofs.Standing.{first_stand, sum-stand, difference-stand, product-stand}

module _ (m : Coding) (o : OrderModel) (mem : Memory) (n : ℕ) (table : List Relation) (v : Verdict) where
  -- what an answered call on one list, or on two, has scanned, and its run
  record Scanned (ts us : List Term) (es : List Entry) (r : Outcome) : Type 0 where
    pub is_sound : IsSound v
    pub first : AllLoadable m n ts
    pub second : AllLoadable m n us
    pub ran : calculate m o table mem es ≡ Ok r

  one : (ts : List Term) (es : List Entry) (r : Outcome) → when_sound v (scan_first m n 1 ts (by_run (calculate m o table mem es))) ≡ Ok r → Scanned ts [] es r
  one ts es r h =
      let q = by_run (calculate m o table mem es) in
      let w = when_sound-ok v (scan_first m n 1 ts q) r h in
      let x = scan-ok in_first m n 1 ts q r w.1 in
      record { is_sound = w.0; first = x.0; second = tt; ran = by_run-ok (calculate m o table mem es) r x.1 }

  two : (ts us : List Term) (es : List Entry) (r : Outcome) → when_sound v (scan_first m n 1 ts (scan_second m n 1 us (by_run (calculate m o table mem es)))) ≡ Ok r → Scanned ts us es r
  two ts us es r h =
      let q = by_run (calculate m o table mem es) in
      let w = when_sound-ok v (scan_first m n 1 ts (scan_second m n 1 us q)) r h in
      let x = scan-ok in_first m n 1 ts (scan_second m n 1 us q) r w.1 in
      let y = scan-ok in_second m n 1 us q r x.1 in
      record { is_sound = w.0; first = x.0; second = y.0; ran = by_run-ok (calculate m o table mem es) r y.1 }

  -- its entries stand for f, and the free sums of its operands are in the letters 1 to n
  pub record Loaded (ts us : List Term) (f : FreeSum m.ring) (r : Outcome) : Type 0 where
    pub is_sound : IsSound v
    pub over_first : OverSum n (sum_of m ts)
    pub over_second : OverSum n (sum_of m us)
    pub entries : List Entry
    pub stand : StandFor m n entries f
    pub ran : calculate m o table mem entries ≡ Ok r

  over : (ts : List Term) → AllLoadable m n ts → OverSum n (sum_of m ts)
  over ts a = entries_over m n (first_entries 1 ts) (sum_of m ts) (first_stand m n 1 ts a)

  loaded : (ts us : List Term) (es : List Entry) (f : FreeSum m.ring) (r : Outcome) → (AllLoadable m n ts → AllLoadable m n us → StandFor m n es f) → Scanned ts us es r → Loaded ts us f r
  loaded ts us es f r st k = record {
    is_sound = k.is_sound;
    over_first = over ts k.first;
    over_second = over us k.second;
    entries = es;
    stand = st k.first k.second;
    ran = k.ran;
  }

  pub normalise-ok : (ts : List Term) (r : Outcome) → normalise m o mem n table v ts ≡ Ok r → Loaded ts [] (sum_of m ts) r
  unfolding normalise
  normalise-ok ts r h =
      let es = first_entries 1 ts in
      loaded ts [] es (sum_of m ts) r (λ a _. first_stand m n 1 ts a) (one ts es r h)

  pub sum-ok : (ts us : List Term) (r : Outcome) → sum m o mem n table v ts us ≡ Ok r → Loaded ts us (sum_of m ts ++ sum_of m us) r
  unfolding sum
  sum-ok ts us r h =
      let es = first_entries 1 ts ++ second_entries 1 us in
      loaded ts us es (sum_of m ts ++ sum_of m us) r (sum-stand m n ts us) (two ts us es r h)

  pub difference-ok : (ts us : List Term) (r : Outcome) → difference m o mem n table v ts us ≡ Ok r → Loaded ts us (sum_of m ts ++ negate (sum_of m us)) r
  unfolding difference
  difference-ok ts us r h =
      let es = first_entries 1 ts ++ negated_entries m 1 us in
      loaded ts us es (sum_of m ts ++ negate (sum_of m us)) r (difference-stand m n ts us) (two ts us es r h)

  pub product_ok : (ts us : List Term) (r : Outcome) → product m o mem n table v ts us ≡ Ok r → Loaded ts us (times (sum_of m ts) (sum_of m us)) r
  unfolding product
  product_ok ts us r h =
      let es = product_entries m 1 ts us in
      loaded ts us es (times (sum_of m ts) (sum_of m us)) r (product-stand m n 1 ts us) (two ts us es r h)
