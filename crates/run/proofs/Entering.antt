-- Laws of entries, one after another.
use Rattle.std.proofs.Common.{◌≡◌, ℕ, List, [], ◌∷◌, ◌++◌, Ok, Err, Result, sym, refl, ap, ◌∙◌}
use Rattle.coefficients.specs.Coding.{Coding}
use Rattle.orders.specs.Models.{OrderModel}
use Rattle.words.specs.declared.term.Term.{Term}
use Rattle.kept.specs.Lists.{items, places, SameMemory, BlankBefore}
use Rattle.kept.specs.declared.list.KeptList.{KeptList}
use Rattle.run.specs.declared.entry.Entry.{Entry as RowEntry}
use Rattle.run.specs.declared.fault.RunFault.{RunFault}
use Rattle.run.specs.Entries.{Entry, entered, row_entry, add_entry, load, then_do}
use Rattle.run.specs.Post.{Left}

-- the entry e into the list xs, then the entries es
module _ (m : Coding) (o : OrderModel) (cap : ℕ) (e : Entry) (r : RowEntry) (es : List Entry) (xs : List Term) (er : r ≡ row_entry e) where
  entered_is : entered m o cap r xs ≡ add_entry m o cap e xs
  unfolding add_entry
  entered_is = ap (λ r. entered m o cap r xs) er

  pub cons-ok : (ys : List Term) → Ok ys ≡ entered m o cap r xs → load m o cap es ys ≡ load m o cap (e ∷ es) xs
  cons-ok ys h = ap (λ q. then_do q (load m o cap es)) (h ∙ entered_is)

  pub cons-err : (f : RunFault) → entered m o cap r xs ≡ Err f → load m o cap (e ∷ es) xs ≡ Err f
  cons-err f h = ap (λ q. then_do q (load m o cap es)) (sym entered_is ∙ h)

-- the entries of two lists
module _ (m : Coding) (o : OrderModel) (cap : ℕ) (fs : List Entry) where
  then_append : (es : List Entry) → ((xs : List Term) → load m o cap (es ++ fs) xs ≡ then_do (load m o cap es xs) (load m o cap fs))
      → (r : Result (List Term) RunFault) → then_do r (load m o cap (es ++ fs)) ≡ then_do (then_do r (load m o cap es)) (load m o cap fs)
  then_append es both (Ok ys) = both ys
  then_append es both (Err f) = refl

  load-append : (es : List Entry) (xs : List Term) → load m o cap (es ++ fs) xs ≡ then_do (load m o cap es xs) (load m o cap fs)
  load-append [] xs = refl
  load-append (e ∷ es) xs = then_append es (load-append es) (add_entry m o cap e xs)

  pub append-ok : (es : List Entry) (xs ys : List Term) → Ok ys ≡ load m o cap es xs → load m o cap fs ys ≡ load m o cap (es ++ fs) xs
  append-ok es xs ys h = ap (λ r. then_do r (load m o cap fs)) h ∙ sym (load-append es xs)

  pub append-err : (es : List Entry) (xs : List Term) (f : RunFault) → load m o cap es xs ≡ Err f → load m o cap (es ++ fs) xs ≡ Err f
  append-err es xs f h = load-append es xs ∙ ap (λ r. then_do r (load m o cap fs)) h

module _ {O : Type 0} {k : _} where
  pub same_memory : {before mid after : KeptList O k} → SameMemory before mid → SameMemory mid after → SameMemory before after
  same_memory s t = record { order = t.order ∙ s.order; reference = t.reference ∙ s.reference; places = t.places ∙ s.places }

  -- what is left after the entries fs, from what was left before them
  module _ (model : O → OrderModel) (m : Coding) (before mid after : KeptList O k) (fs : List Entry) (r : Result (Unit {0}) RunFault)
      (late : Left (load m (model mid.order.now) (places mid) fs (items mid)) mid after r)
    where
      through : (want : Result (List Term) RunFault) (q : Result (Unit {0}) RunFault) → SameMemory before mid
          → load m (model before.order.now) (places before) fs (items mid) ≡ want → (BlankBefore before → BlankBefore mid)
          → Left (load m (model mid.order.now) (places mid) fs (items mid)) mid after q → Left want before after q
      through want (Ok u) s e b h = (same_memory s h.0, rw (s.order, s.places) at h.1 ∙ e, λ p. h.2 (b p))
      through want (Err f) s e b h = (same_memory s h.0, sym e ∙ rw (s.order, s.places) at h.1)

      -- one entry, then others
      pub left_cons : (e : Entry) (x : RowEntry) (u : Unit {0}) → x ≡ row_entry e → Left (entered m (model before.order.now) (places before) x (items before)) before mid (Ok u)
          → Left (load m (model before.order.now) (places before) (e ∷ fs) (items before)) before after r
      left_cons e x u ex early = through _ r early.0 (cons-ok m (model before.order.now) (places before) e x fs (items before) ex (items mid) early.1) early.2 late

      -- entries, then others
      pub left_append : (es : List Entry) (u : Unit {0}) → Left (load m (model before.order.now) (places before) es (items before)) before mid (Ok u)
          → Left (load m (model before.order.now) (places before) (es ++ fs) (items before)) before after r
      left_append es u early = through _ r early.0 (append-ok m (model before.order.now) (places before) fs es (items before) (items mid) early.1) early.2 late
