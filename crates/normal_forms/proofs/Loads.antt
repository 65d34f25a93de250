-- An answered insertion adds its term to the free sum and keeps the list kept; so do answered entries, one after another.
use Rattle.std.proofs.Common.{◌≡◌, ℕ, ◌-◌, ◌≤◌, Bool, true, false, cond, eqb, leb, List, [], ◌∷◌, ◌++◌, length, Some, None, Ok, Err, Result, Ordering, Less, Equal, Greater, sym, refl, ap, ◌∙◌, subst, ap₂, arith}
use Rattle.std.proofs.lemmas.Bool.{eqb-true, eqb-false, leb-true}
use Rattle.theory.specs.Ring.{CommutativeRing}
use Rattle.theory.specs.FreeSum.{Word, FreeSum, Term as FreeTerm, eval}
use Rattle.theory.proofs.RingLaws as ring
use Rattle.theory.proofs.Eval.{eval-append}
use Rattle.theory.proofs.Equality.{≈-of-eval}
use Rattle.coefficients.specs.Coding.{Coding, Answer}
use Rattle.orders.specs.Letters.{letters, letter_count, row_places}
use Rattle.orders.specs.Models.{OrderModel}
use Rattle.words.specs.Rows.{row_of}
use Rattle.words.specs.Compare.{compare_words}
use Rattle.words.specs.declared.term.Term.{Term}
use Rattle.kept.specs.Kept.{Listed, insert, compare_terms, by_order, fresh, merged, onto, placed}
use Rattle.kept.specs.Falling.{Above, NoneZero}
use Rattle.kept.proofs.Keeps.{full, onto-ok, placed-falls}
use Rattle.run.specs.declared.fault.Cause.{Cause}
use Rattle.run.specs.declared.fault.Place.{Place}
use Rattle.run.specs.Entries.{Entry, then_do, at_place, from_kept, added, add_entry, load}
use Rattle.normal_forms.specs.Terms.{sum_of, IsTerm, AreTerms, KeptTerms}
use Rattle.normal_forms.specs.Entries.{EntryMeans, StandFor}
use Rattle.normal_forms.specs.Theorems.{Added}
use Rattle.normal_forms.proofs.Codes.{sum-means}
use Rattle.normal_forms.proofs.Rows.{letters_row, row_holds}
use Rattle.normal_forms.proofs.Order.{equal-terms}

-- ANSWERS

pub ok_injective : {A E : Type 0} (x y : A) → ◌≡◌ {A = Result A E} (Ok x) (Ok y) → x ≡ y
ok_injective x y h = cc

pub then_ok : {A B E : Type 0} (r : Result A E) (f : A → Result B E) (y : B) → then_do r f ≡ Ok y → (x : A) × (r ≡ Ok x) × (f x ≡ Ok y)
then_ok (Ok x) f y h = (x, refl, h)
then_ok (Err e) f y h = let z : ◌≡◌ {A = ℕ} 0 1 = cc in absurd (omega arith)

at_place-ok : {A : Type 0} (p : Place) (r : Result A Cause) (y : A) → at_place p r ≡ Ok y → r ≡ Ok y
at_place-ok p (Ok x) y h = ap Ok (ok_injective x y h)
at_place-ok p (Err e) y h = let z : ◌≡◌ {A = ℕ} 0 1 = cc in absurd (omega arith)

from_kept-ok : (r : Listed) (ys : List Term) → from_kept r ≡ Ok ys → r ≡ Ok ys
from_kept-ok (Ok xs) ys h = ap Ok (ok_injective xs ys h)
from_kept-ok (Err e) ys h = let z : ◌≡◌ {A = ℕ} 0 1 = cc in absurd (omega arith)

-- the sum in a term's place: it is zero and the term goes, or it is not and stays
data Merge (x : Term) (xs ys : List Term) (r : Answer) : Type 0 where
  gone : r ≡ Ok 0 → ys ≡ xs → Merge x xs ys r
  stays : (c : ℕ) → r ≡ Ok c → ¬ (c ≡ 0) → ys ≡ record { row = x.row; code = c } ∷ xs → Merge x xs ys r

merged-ok : (x : Term) (xs ys : List Term) (r : Answer) → merged x xs r ≡ Ok ys → Merge x xs ys r
merged-ok x xs ys (Ok c) h = at (eqb c 0) refl h
  where
    at : (b : Bool) → eqb c 0 ≡ b → ◌≡◌ {A = Listed} (cond b (Ok xs) (Ok (record { row = x.row; code = c } ∷ xs))) (Ok ys) → Merge x xs ys (Ok c)
    at true e h = gone (ap Ok (eqb-true c 0 e)) cc
    at false e h = stays c refl (eqb-false c 0 e) cc
merged-ok x xs ys (Err e) h = let z : ◌≡◌ {A = ℕ} 0 1 = cc in absurd (omega arith)

-- z's word is greater than that of every entry
abbrev pub GreaterThan : OrderModel → Term → List Entry → Type 0
GreaterThan o z [] = Unit {0}
GreaterThan o z (e ∷ es) = (compare_words o (letters z.row) e.word ≡ Greater) × GreaterThan o z es

module _ (m : Coding) (o : OrderModel) (n : ℕ) where
  abbrev R : CommutativeRing
  R = m.ring

  -- INSERTIONS

  -- the value of a term
  abbrev at_term : (Word → R.carrier) → Term → R.carrier
  at_term φ t = R.mul (m.means t.code) (φ (letters t.row))

  pub record Inserted (t : Term) (xs ys : List Term) : Type 0 where
    pub kept : KeptTerms m o n ys
    pub adds : (φ : Word → m.ring.carrier) → eval (sum_of m ys) φ ≡ m.ring.add (eval (sum_of m xs) φ) (m.ring.mul (m.means t.code) (φ (letters t.row)))
    pub above : (z : Term) → Above o z xs → compare_terms o z t ≡ Greater → Above o z ys

  -- a term that is not zero, at its place
  module _ (room : ℕ) (t : Term) (term : IsTerm m n t) (not_zero : t.code ≡ 0 → ⊥) where
    record Placed (xs ys : List Term) : Type 0 where
      pub terms : AreTerms m n ys
      pub none_zero : NoneZero ys
      pub adds : (φ : Word → R.carrier) → eval (sum_of m ys) φ ≡ R.add (eval (sum_of m xs) φ) (at_term φ t)

    in_front : (xs : List Term) → AreTerms m n xs → NoneZero xs → Placed xs (t ∷ xs)
    unfolding sum_of eval
    in_front xs a z = record { terms = (term, a); none_zero = (not_zero, z); adds = λ φ. ring.add_comm R (at_term φ t) (eval (sum_of m xs) φ) }

    gather : (p q r : R.carrier) → R.add (R.add p q) r ≡ R.add (R.add p r) q
    gather p q r = ring.add_assoc R p q r ∙ ap (R.add p) (ring.add_comm R q r) ∙ sym (ring.add_assoc R p r q)

    -- two terms with one word
    together : (x : Term) (c : ℕ) → letters x.row ≡ letters t.row → m.means c ≡ R.add (m.means x.code) (m.means t.code) → (φ : Word → R.carrier)
        → R.mul (m.means c) (φ (letters x.row)) ≡ R.add (at_term φ x) (at_term φ t)
    together x c e s φ =
        ap (λ y. R.mul y (φ (letters x.row))) s ∙ ring.add-mul R (m.means x.code) (m.means t.code) (φ (letters x.row))
        ∙ ap (λ w. R.add (at_term φ x) (R.mul (m.means t.code) (φ w))) e

    merging : (x : Term) (xs ys : List Term) → IsTerm m n x → AreTerms m n xs → NoneZero xs → letters x.row ≡ letters t.row → Merge x xs ys (m.sum x.code t.code) → Placed (x ∷ xs) ys
    unfolding sum_of eval
    merging x xs ys g a z e (gone s q) =
        let k = sum-means m x.code t.code 0 g.in_use term.in_use s in
        subst (Placed (x ∷ xs)) (sym q)
        (record {
          terms = a;
          none_zero = z;
          adds = λ φ.
              sym (gather (at_term φ x) (eval (sum_of m xs) φ) (at_term φ t)
              ∙ ap (λ y. R.add y (eval (sum_of m xs) φ)) (sym (together x 0 e k.is φ) ∙ ap (λ y. R.mul y (φ (letters x.row))) m.zero_code.is ∙ ring.zero-mul R (φ (letters x.row)))
              ∙ ring.zero-add R (eval (sum_of m xs) φ));
        })
    merging x xs ys g a z e (stays c s nz q) =
        let k = sum-means m x.code t.code c g.in_use term.in_use s in
        subst (Placed (x ∷ xs)) (sym q)
        (record {
          terms = (record { word = g.word; in_use = k.in_use }, a);
          none_zero = (nz, z);
          adds = λ φ. ap (λ y. R.add y (eval (sum_of m xs) φ)) (together x c e k.is φ) ∙ gather (at_term φ x) (at_term φ t) (eval (sum_of m xs) φ);
        })

    behind : (x : Term) (xs ys : List Term) → IsTerm m n x → ¬ (x.code ≡ 0) → Placed xs ys → Placed (x ∷ xs) (x ∷ ys)
    unfolding sum_of eval
    behind x xs ys g nz p = record {
      terms = (g, p.terms);
      none_zero = (nz, p.none_zero);
      adds = λ φ. ap (R.add (at_term φ x)) (p.adds φ) ∙ sym (ring.add_assoc R (at_term φ x) (eval (sum_of m xs) φ) (at_term φ t));
    }

    placed-adds : (xs ys : List Term) → AreTerms m n xs → NoneZero xs → placed m o room t xs ≡ Ok ys → Placed xs ys
    placed-adds [] ys a z h = subst (Placed []) (sym (full room t [] ys h)) (in_front [] tt tt)
    placed-adds (x ∷ xs) ys a z h = at (λ zs. placed-adds xs zs a.1 z.1) (compare_terms o x t) refl h
      where
        at : ((zs : List Term) → placed m o room t xs ≡ Ok zs → Placed xs zs) → (r : Ordering) → compare_terms o x t ≡ r
            → by_order r (fresh room t (x ∷ xs)) (merged x xs (m.sum x.code t.code)) (onto x (placed m o room t xs)) ≡ Ok ys → Placed (x ∷ xs) ys
        at rest Less e h = subst (Placed (x ∷ xs)) (sym (full room t (x ∷ xs) ys h)) (in_front (x ∷ xs) a z)
        at rest Equal e h = merging x xs ys a.0 a.1 z.1 (equal-terms o x t e) (merged-ok x xs ys (m.sum x.code t.code) h)
        at rest Greater e h =
            let q = onto-ok x (placed m o room t xs) ys h in
            subst (Placed (x ∷ xs)) (sym q.2) (behind x xs q.0 a.0 z.0 (rest q.0 q.1))

  pub insert-adds : (room : ℕ) (t : Term) (xs ys : List Term) → IsTerm m n t → KeptTerms m o n xs → insert m o room t xs ≡ Ok ys → Inserted t xs ys
  insert-adds room t xs ys term k h = at (eqb t.code 0) refl h
    where
      at : (b : Bool) → eqb t.code 0 ≡ b → cond b (Ok xs) (placed m o room t xs) ≡ Ok ys → Inserted t xs ys
      at true e h =
          let none : m.means t.code ≡ R.zero = ap m.means (eqb-true t.code 0 e) ∙ m.zero_code.is in
          subst (Inserted t xs) (ok_injective xs ys h)
          (record {
            kept = k;
            adds = λ φ.
                sym (ap (λ y. R.add (eval (sum_of m xs) φ) (R.mul y (φ (letters t.row)))) none ∙ ap (R.add (eval (sum_of m xs) φ)) (ring.zero-mul R (φ (letters t.row)))
                ∙ ring.add-zero R (eval (sum_of m xs) φ));
            above = λ z a _. a;
          })
      at false e h =
          let p = placed-adds room t term (eqb-false t.code 0 e) xs ys k.terms k.kept.none_zero h in
          let f = placed-falls m o room t xs ys k.kept.falls h in
          record { kept = record { terms = p.terms; kept = record { falls = f.0; none_zero = p.none_zero } }; adds = p.adds; above = f.1 }

  pub insertion_adds : (room : ℕ) (t : Term) (xs ys : List Term) → IsTerm m n t → KeptTerms m o n xs → insert m o room t xs ≡ Ok ys → Added m o n t xs ys
  unfolding sum_of eval
  insertion_adds room t xs ys term k h =
      let i = insert-adds room t xs ys term k h in
      record {
        kept = i.kept;
        adds = ≈-of-eval (sum_of m ys) (sum_of m xs ++ sum_of m (t ∷ []))
            (λ φ. i.adds φ ∙ sym (eval-append (sum_of m xs) (sum_of m (t ∷ [])) φ ∙ ap (R.add (eval (sum_of m xs) φ)) (ring.add-zero R (at_term φ t))));
      }

  -- ENTRIES

  pub record Loaded (es : List Entry) (f : FreeSum m.ring) (xs ys : List Term) : Type 0 where
    pub kept : KeptTerms m o n ys
    pub adds : (φ : Word → m.ring.carrier) → eval (sum_of m ys) φ ≡ m.ring.add (eval (sum_of m xs) φ) (eval f φ)
    pub above : (z : Term) → Above o z xs → GreaterThan o z es → Above o z ys

  module _ (few : n ≤ letter_count) (cap : ℕ) where
    entry_adds : (e : Entry) (x : FreeTerm R) (xs ys : List Term) → EntryMeans m n e x → KeptTerms m o n xs → add_entry m o cap e xs ≡ Ok ys → Loaded (e ∷ []) (x ∷ []) xs ys
    unfolding add_entry eval compare_terms
    entry_adds e x xs ys s k h = at (leb (length e.word) row_places) refl e.code refl (at_place-ok e.place (added m o cap (cond (leb (length e.word) row_places) (Some (row_of e.word)) None) e.code xs) ys h)
      where
        at : (b : Bool) → leb (length e.word) row_places ≡ b → (r : Answer) → e.code ≡ r → added m o cap (cond b (Some (row_of e.word)) None) r xs ≡ Ok ys → Loaded (e ∷ []) (x ∷ []) xs ys
        at false l r q h = let z : ◌≡◌ {A = ℕ} 0 1 = cc in absurd (omega arith)
        at true l (Err f) q h = let z : ◌≡◌ {A = ℕ} 0 1 = cc in absurd (omega arith)
        at true l (Ok c) q h =
            let d = s.code c q in
            let t : Term = record { row = row_of e.word; code = c } in
            let w : letters (row_of e.word) ≡ e.word = letters_row n few e.word s.over in
            let b = leb-true (length e.word) row_places l in
            let i = insert-adds (cap - length xs) t xs ys (record { word = row_holds n few e.word s.over b; in_use = d.in_use }) k
            (from_kept-ok (insert m o (cap - length xs) t xs) ys h) in
            record {
              kept = i.kept;
              adds = λ φ. i.adds φ ∙ ap (R.add (eval (sum_of m xs) φ)) (ap₂ R.mul d.is (ap φ (w ∙ s.word)) ∙ sym (ring.add-zero R (R.mul x.coef (φ x.word))));
              above = λ z a u. i.above z a (ap (compare_words o (letters z.row)) w ∙ u.0);
            }

    pub load-adds : (es : List Entry) (f : FreeSum m.ring) (xs ys : List Term) → StandFor m n es f → KeptTerms m o n xs → load m o cap es xs ≡ Ok ys → Loaded es f xs ys
    unfolding eval
    load-adds [] [] xs ys s k h =
        subst (Loaded [] [] xs) (ok_injective xs ys h) (record { kept = k; adds = λ φ. sym (ring.add-zero R (eval (sum_of m xs) φ)); above = λ z a u. a })
    load-adds [] (x ∷ f) xs ys s k h = absurd s
    load-adds (e ∷ es) [] xs ys s k h = absurd s
    load-adds (e ∷ es) (x ∷ f) xs ys s k h =
        let q = then_ok (add_entry m o cap e xs) (load m o cap es) ys h in
        let a = entry_adds e x xs q.0 s.0 k q.1 in
        let b = load-adds es f q.0 ys s.1 a.kept q.2 in
        record {
          kept = b.kept;
          adds = λ φ.
              b.adds φ
              ∙ ap (λ y. R.add y (eval f φ)) (a.adds φ ∙ ap (R.add (eval (sum_of m xs) φ)) (ring.add-zero R (R.mul x.coef (φ x.word))))
              ∙ ring.add_assoc R (eval (sum_of m xs) φ) (R.mul x.coef (φ x.word)) (eval f φ);
          above = λ z l u. b.above z (a.above z l (u.0, tt)) u.1;
        }
