-- The table of an algebra that was just opened is valid, and an accepted declaration keeps it valid.
use Rattle.std.proofs.Common.{◌≡◌, ℕ, ◌+◌, ◌<◌, ◌≤◌, Bool, true, false, cond, not, ◌&&◌, eqb, ltb, leb, List, [], ◌∷◌, length, get_or, set, Some, None, Ok, Option, Result, Ordering, Less, Equal, Greater, sym, refl, ap, ◌∙◌, subst, inl, inr, arith, length-set, get_or-set_other, get_or-set_same}
use Rattle.std.specs.Ordering.{is_lt}
use native.Mathlib.Decide.{ℕ_discrete}
use lib.ListN.{length-replicate, get_or-replicate}
use Rattle.std.proofs.lemmas.Bool.{and_parts, ltb-true, leb-true}
use Rattle.theory.specs.Relations.{Pair}
use Rattle.theory.specs.Words.{Over}
use Rattle.coefficients.specs.Coding.{Coding}
use Rattle.coefficients.specs.declared.fault.RingFault.TheVariants.{NotInUse}
use Rattle.orders.specs.Letters.{letters, is_letter, letter_count, image}
use Rattle.orders.specs.Models.{OrderModel, compare_images}
use Rattle.words.specs.Inversions.{standard}
use Rattle.words.specs.Rows.{is_row}
use Rattle.words.specs.declared.term.Term.{Term}
use Rattle.run.specs.declared.relation.Relation.{Relation}
use Rattle.run.specs.Relations.{pair_place, null, relation_of}
use Rattle.normal_forms.specs.Terms.{Among}
use Rattle.normal_forms.specs.Relations.{TailTerm, ValidRelation, Valid}
use Rattle.relations.specs.declared.fault.DeclareCause.{DeclareCause}
use Rattle.relations.specs.declared.fault.DeclareCause.TheVariants.{Generator, NotRising, AlreadyDeclared, Coefficient, FactorZero, TailSize, TailNotKept, TailNotBefore}
use Rattle.relations.specs.declared.fault.DeclareFault.{DeclareFault}
use Rattle.relations.specs.Declare.{passed, check, is_generator, letters_to, is_word, below_last, image_before, check_tail, check_relation, declare_answer, AllFull}
use Rattle.relations.specs.Presentations.{Says, Plain, Declares}

-- a check that was passed
check-ok : {A : Type 0} (b : Bool) (f : DeclareCause) (p : ℕ) (r : Result A DeclareFault) (x : A) → check b f p r ≡ Ok x → (b ≡ true) × (r ≡ Ok x)
check-ok true f p r x h = (refl, h)
check-ok false f p r x h = absurd cc

less_is : (r : Ordering) → is_lt r ≡ true → r ≡ Less
less_is Less h = refl
less_is Equal h = absurd cc
less_is Greater h = absurd cc

pub over-letters : (n : ℕ) (row : List ℕ) → letters_to n (letters row) ≡ true → Over n (letters row)
over-letters n [] h = tt
over-letters n (x ∷ xs) h = at (over-letters n xs) (is_letter x) refl h
  where
    at : (letters_to n (letters xs) ≡ true → Over n (letters xs)) → (b : Bool) → is_letter x ≡ b → letters_to n (cond b (x ∷ letters xs) []) ≡ true → Over n (cond b (x ∷ letters xs) [])
    at rest false e h = tt
    at rest true e h =
        let p = and_parts (leb x n) (letters_to n (letters xs)) h in
        let low = ltb-true 0 x (and_parts (ltb 0 x) (leb x letter_count) e).0 in
        (record { low = omega arith; high = leb-true x n p.0 }, rest p.1)

module _ (m : Coding) (o : OrderModel) (n j i : ℕ) where
  -- the terms of a tail that passed its checks
  tail-ok : (last : Option Term) (p : ℕ) (ts : List Term) → check_tail m o n j i last p ts passed ≡ passed → AllFull ts → (t : Term) → Among t ts → TailTerm m o n j i t
  tail-ok last p [] h f = λ t a. absurd a
  tail-ok last p (t ∷ ts) h f =
      let w = letters t.row in
      let e₅ = check_tail m o n j i (Some t) (p + 1) ts passed in
      let e₄ = check (image_before o w (i ∷ j ∷ [])) TailNotBefore p e₅ in
      let b₃ = not (eqb t.code 0) && (standard w && below_last o last t) in
      let e₃ = check b₃ TailNotKept p e₄ in
      let e₂ = check (m.used t.code) (Coefficient NotInUse) p e₃ in
      let e₁ = check (leb (length w) 8) TailSize p e₂ in
      let a = check-ok (is_word n t.row) Generator p e₁ tt h in
      let b = check-ok (leb (length w) 8) TailSize p e₂ tt a.1 in
      let c = check-ok (m.used t.code) (Coefficient NotInUse) p e₃ tt b.1 in
      let d = check-ok b₃ TailNotKept p e₄ tt c.1 in
      let e = check-ok (image_before o w (i ∷ j ∷ [])) TailNotBefore p e₅ tt d.1 in
      let word = and_parts (is_row t.row) (letters_to n w) a.0 in
      all (record {
        term = record { word = record { full = f.0; clean = word.0; over = over-letters n t.row word.1 }; in_use = c.0 };
        before = less_is (compare_images o (image w) (image (i ∷ j ∷ []))) e.0;
      }) (tail-ok (Some t) (p + 1) ts e.1 f.1)
    where
      all : TailTerm m o n j i t → ((u : Term) → Among u ts → TailTerm m o n j i u) → (u : Term) → Among u (t ∷ ts) → TailTerm m o n j i u
      all s rest u (inl e) = subst (TailTerm m o n j i) (sym e) s
      all s rest u (inr a) = rest u a

  -- what a relation that passed its checks has
  record Checked (c : ℕ) (tail : List Term) : Type 0 where
    pub factor : m.used c ≡ true
    pub tail_checked : check_tail m o n j i None 1 tail passed ≡ passed

  checked : (c : ℕ) (tail : List Term) → check_relation m o n j i c tail ≡ passed → Checked c tail
  checked c tail h =
      let e₃ = check_tail m o n j i None 1 tail passed in
      let e₂ = check (leb (length tail) 8) TailSize 0 e₃ in
      let e₁ = check (not (eqb c 0)) FactorZero 0 e₂ in
      let q₁ = check-ok (m.used c) (Coefficient NotInUse) 0 e₁ tt h in
      let q₂ = check-ok (not (eqb c 0)) FactorZero 0 e₂ tt q₁.1 in
      record { factor = q₁.0; tail_checked = (check-ok (leb (length tail) 8) TailSize 0 e₃ tt q₂.1).1 }

  valid_relation : (c : ℕ) (tail : List Term) (r : Relation) → Checked c tail → AllFull tail → Says r c tail → ValidRelation m o n j i r
  valid_relation c tail r s f a =
      record { factor = ap m.used a.factor ∙ s.factor; tail = λ t b. tail-ok None 1 tail s.tail_checked f t (subst (Among t) a.tail b) }

  -- what an accepted declaration has seen to
  pub record Seen (d : List Bool) (c : ℕ) (tail : List Term) : Type 0 where
    pub pair : Pair n j i
    pub fresh : not (get_or d (pair_place j i) false) ≡ true
    pub rest : check_relation m o n j i c tail ≡ passed

  pub seen : (d : List Bool) (c : ℕ) (tail : List Term) → declare_answer m o n d j i c tail ≡ passed → Seen d c tail
  unfolding declare_answer
  seen d c tail h =
      let e₄ = check_relation m o n j i c tail in
      let e₃ = check (not (get_or d (pair_place j i) false)) AlreadyDeclared 0 e₄ in
      let e₂ = check (ltb i j) NotRising 0 e₃ in
      let e₁ = check (is_generator n i) Generator 0 e₂ in
      let q₁ = check-ok (is_generator n j) Generator 0 e₁ tt h in
      let q₂ = check-ok (is_generator n i) Generator 0 e₂ tt q₁.1 in
      let q₃ = check-ok (ltb i j) NotRising 0 e₃ tt q₂.1 in
      let q₄ = check-ok (not (get_or d (pair_place j i) false)) AlreadyDeclared 0 e₄ tt q₃.1 in
      record {
        pair = record {
          low = leb-true 1 i (and_parts (leb 1 i) (leb i n) q₂.0).0;
          falls = ltb-true i j q₃.0;
          high = leb-true j n (and_parts (leb 1 j) (leb j n) q₁.0).1;
        };
        fresh = q₄.0;
        rest = q₄.1;
      }

pub opened-valid : (m : Coding) (o : OrderModel) (n : ℕ) (table : List Relation) → n ≤ letter_count → Plain m.one table → Valid m o n table
unfolding relation_of
opened-valid m o n table h p =
    record { few = h; size = ap length p.table_is ∙ length-replicate 64 p.relation; pairs = λ j i f. subst (ValidRelation m o n j i) (sym (is j i f)) (plain j i) }
  where
    is : (j i : ℕ) → Pair n j i → get_or table (pair_place j i) null ≡ p.relation
    is j i f =
        let a = f.low in
        let b = f.falls in
        let c = f.high in
        ap (λ t. get_or t (pair_place j i) null) p.table_is ∙ get_or-replicate 64 (pair_place j i) p.relation null (omega arith)

    plain : (j i : ℕ) → ValidRelation m o n j i p.relation
    plain j i = record { factor = ap m.used p.says.factor ∙ m.one_code.in_use; tail = λ t a. absurd (subst (Among t) p.says.tail a) }

module _ (m : Coding) (o : OrderModel) (n j i : ℕ) (pair : Pair n j i) (table : List Relation) where
  set-valid : (r : Relation) → ValidRelation m o n j i r → Valid m o n table → Valid m o n (set table (pair_place j i) r)
  unfolding relation_of
  set-valid r w v = record {
    few = v.few;
    size = length-set table (pair_place j i) r ∙ v.size;
    pairs = λ j' i' f. at j' i' f (ℕ_discrete (pair_place j' i') (pair_place j i));
  }
    where
      at : (j' i' : ℕ) → Pair n j' i' → Dec (pair_place j' i' ≡ pair_place j i) → ValidRelation m o n j' i' (get_or (set table (pair_place j i) r) (pair_place j' i') null)
      at j' i' f (no k) = subst (ValidRelation m o n j' i') (sym (get_or-set_other table (pair_place j i) (pair_place j' i') r null k)) (v.pairs j' i' f)
      at j' i' f (yes e) =
          subst (ValidRelation m o n j' i') (sym (ap (λ k. get_or (set table (pair_place j i) r) k null) e ∙ get_or-set_same table (pair_place j i) r null inside))
          (subst (λ x. ValidRelation m o n x i' r) (sym same-j) (subst (λ x. ValidRelation m o n j x r) (sym same-i) w))
        where
          few : n ≤ 8
          few = v.few

          inside : pair_place j i < length table
          inside =
              let k = few in
              let z = v.size in
              omega arith

          same-j : j' ≡ j
          same-j =
              let k = few in
              omega arith

          same-i : i' ≡ i
          same-i =
              let k = same-j in
              omega arith

  -- a relation that passed its checks keeps the table valid
  pub related-valid : (c : ℕ) (tail : List Term) (r : Relation) → check_relation m o n j i c tail ≡ passed → AllFull tail → Says r c tail
      → Valid m o n table → Valid m o n (set table (pair_place j i) r)
  related-valid c tail r h f a v = set-valid r (valid_relation m o n j i c tail r (checked m o n j i c tail h) f a) v

-- so does an accepted declaration
pub declares-valid : (m : Coding) (o : OrderModel) (n j i c : ℕ) (tail : List Term) (table : List Relation) (d : List Bool) (table' : List Relation) (d' : List Bool)
    → declare_answer m o n d j i c tail ≡ passed → Declares j i c tail table d table' d' → Valid m o n table → Valid m o n table'
declares-valid m o n j i c tail table d table' d' h a v =
    let s = seen m o n j i d c tail h in
    subst (Valid m o n) (sym a.table_is) (related-valid m o n j i s.pair table c tail a.relation s.rest a.full a.says v)
