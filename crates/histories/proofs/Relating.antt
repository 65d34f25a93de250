-- The relations of an algebra are those that were declared.
use Rattle.std.proofs.Common.{◌≡◌, ℕ, ◌<◌, Bool, true, false, not, List, [], ◌∷◌, length, get_or, set, Ok, sym, ap, ◌∙◌, subst, inl, inr, arith}
use native.Mathlib.Decide.{ℕ_discrete}
use Rattle.std.proofs.lemmas.List.{length-set, length-replicate, get_or-set_same, get_or-set_other}
use Rattle.theory.specs.Relations.{Pair}
use Rattle.coefficients.specs.Coding.{Coding}
use Rattle.orders.specs.Models.{OrderModel}
use Rattle.words.specs.declared.term.Term.{Term}
use Rattle.run.specs.declared.relation.Relation.{Relation}
use Rattle.run.specs.Relations.{pair_place, tail_of}
use Rattle.relations.specs.Counts.{is_count}
use Rattle.relations.specs.Declare.{declare_answer}
use Rattle.relations.specs.Presentations.{Opened, Declares}
use Rattle.normal_forms.specs.Terms.{Among, sum_of}
use Rattle.normal_forms.specs.Relations.{relations_of, Valid}
use Rattle.histories.specs.State.{State, opened, closed, count, table_of}
use Rattle.histories.specs.History.{Calculation, History, opens, declares, declare_refused, closes, overlaps, overlap_refused, decides, normalises, normalise_refused, adds, sum_refused, subtracts, difference_refused, multiplies, product_refused, Declaration, declarations}
use Rattle.histories.specs.Law.{Plain, Gives, Names, Presents, RelationsDeclared}
use Rattle.relations.proofs.Validity.{seen}
use Rattle.histories.proofs.Declaring.{pair-low, count-few, opened-relation, relation-same, relation_other}
use Rattle.histories.proofs.Keeping.{keeps}

opened-plain : (m : Coding) (n : ℕ) (table : List Relation) (declared : List Bool) → is_count n ≡ true → Opened m table declared → Plain m n table
unfolding relations_of sum_of
opened-plain m n table declared c h = record {
  factors = λ j i p. ap (λ r. m.means r.factor) (opened-relation m n table declared h (count-few n c) j i p) ∙ ap m.means h.plain.says.factor ∙ m.one_code.is;
  tails = λ j i p. ap (λ r. sum_of m (tail_of r)) (opened-relation m n table declared h (count-few n c) j i p) ∙ ap (sum_of m) h.plain.says.tail;
}

declare_gives : (m : Coding) (o : OrderModel) (n : ℕ) (table table' : List Relation) (declared declared' : List Bool) (j i c : ℕ) (tail : List Term) → Valid m o n table
    → declare_answer m o n declared j i c tail ≡ Ok tt → Declares j i c tail table declared table' declared' → Gives m n table table' j i c tail
unfolding relations_of
declare_gives m o n table table' declared declared' j i c tail valid e h =
    let pair = (seen m o n j i declared c tail e).pair in
    let same = relation-same m o n table table' declared declared' j i c tail valid h pair in
    let other = relation_other m o n table table' declared declared' j i c tail valid h pair in
    record {
      pair = pair;
      factor_is = ap (λ r. m.means r.factor) same ∙ ap m.means h.says.factor;
      tail_is = ap (λ r. sum_of m (tail_of r)) same ∙ ap (sum_of m) h.says.tail;
      other_factors = λ j' i' p k. ap (λ r. m.means r.factor) (other j' i' p k);
      other_tails = λ j' i' p k. ap (λ r. sum_of m (tail_of r)) (other j' i' p k);
    }

-- each pair that has a declaration is marked while the algebra is open
abbrev Marked : State → List Declaration → Type 0
Marked (opened n table declared) ds = (length declared ≡ 64) × ((j i : ℕ) → Names j i ds → get_or declared (pair_place j i) false ≡ true)
Marked (closed n table v) ds = Unit {0}

record Told (m : Coding) (s : State) (ds : List Declaration) : Type 0 where
  pub presents : Presents m (count s) (table_of s) ds
  pub marked : Marked s ds

-- a mark more
mark-stays : (l : List Bool) (p q : ℕ) → p < length l → get_or l q false ≡ true → get_or (set l p true) q false ≡ true
mark-stays l p q low h = at (ℕ_discrete q p)
  where
    at : Dec (q ≡ p) → get_or (set l p true) q false ≡ true
    at (yes e) = ap (λ k. get_or (set l p true) k false) e ∙ get_or-set_same l p true false low
    at (no n) = get_or-set_other l p q true false (λ e. n e) ∙ h

not_marked : (b : Bool) → not b ≡ true → ¬ (b ≡ true)
not_marked true h e = let z : ◌≡◌ {A = ℕ} 0 1 = cc in omega arith
not_marked false h e = let z : ◌≡◌ {A = ℕ} 0 1 = cc in omega arith

named : (d : Declaration) (ds : List Declaration) → Among d ds → Names d.j d.i ds
named d [] a = absurd a
named d (e ∷ ds) (inl p) = inl (ap (λ x. x.j) (sym p), ap (λ x. x.i) (sym p))
named d (e ∷ ds) (inr a) = inr (named d ds a)

module _ (m : Coding) (o : OrderModel) (n : ℕ) (table table' : List Relation) (declared declared' : List Bool) (ds : List Declaration) (j i c : ℕ) (tail : List Term)
    (valid : Valid m o n table) (told : Told m (opened n table declared) ds) (e : declare_answer m o n declared j i c tail ≡ Ok tt) (h : Declares j i c tail table declared table' declared') where
  abbrev new : Declaration
  new = record { j = j; i = i; c = c; tail = tail }

  gives : Gives m n table table' j i c tail
  gives = declare_gives m o n table table' declared declared' j i c tail valid e h

  unnamed : ¬ Names j i ds
  unnamed x = not_marked (get_or declared (pair_place j i) false) (seen m o n j i declared c tail e).fresh (told.marked.1 j i x)

  -- a pair that has a declaration already is another
  another : (d : Declaration) → Among d ds → ¬ ((d.j ≡ j) × (d.i ≡ i))
  another d a p = unnamed (subst (λ x. Names j x ds) p.1 (subst (λ x. Names x d.i ds) p.0 (named d ds a)))

  declare_told : Told m (opened n table' declared') (new ∷ ds)
  declare_told = record {
    presents = record {
      apart = (unnamed, told.presents.apart);
      pairs = pair_of;
      factors = factor_of;
      tails = tail_of_one;
      other_factors = λ j' i' p k. gives.other_factors j' i' p (λ x. k (inl (sym x.0, sym x.1))) ∙ told.presents.other_factors j' i' p (λ x. k (inr x));
      other_tails = λ j' i' p k. gives.other_tails j' i' p (λ x. k (inl (sym x.0, sym x.1))) ∙ told.presents.other_tails j' i' p (λ x. k (inr x));
    };
    marked = (ap length h.declared_is ∙ length-set declared (pair_place j i) true ∙ told.marked.0, mark);
  }
    where
      pair_of : (d : Declaration) → Among d (new ∷ ds) → Pair n d.j d.i
      pair_of d (inl p) = subst (λ x. Pair n x.j x.i) (sym p) gives.pair
      pair_of d (inr a) = told.presents.pairs d a

      factor_of : (d : Declaration) → Among d (new ∷ ds) → (relations_of m n table').factor d.j d.i ≡ m.means d.c
      factor_of d (inl p) = subst (λ x. (relations_of m n table').factor x.j x.i ≡ m.means x.c) (sym p) gives.factor_is
      factor_of d (inr a) = gives.other_factors d.j d.i (told.presents.pairs d a) (another d a) ∙ told.presents.factors d a

      tail_of_one : (d : Declaration) → Among d (new ∷ ds) → (relations_of m n table').tail d.j d.i ≡ sum_of m d.tail
      tail_of_one d (inl p) = subst (λ x. (relations_of m n table').tail x.j x.i ≡ sum_of m x.tail) (sym p) gives.tail_is
      tail_of_one d (inr a) = gives.other_tails d.j d.i (told.presents.pairs d a) (another d a) ∙ told.presents.tails d a

      low : pair_place j i < length declared
      low = subst (λ k. pair_place j i < k) (sym told.marked.0) (pair-low n j i valid.few gives.pair)

      mark : (j' i' : ℕ) → Names j' i' (new ∷ ds) → get_or declared' (pair_place j' i') false ≡ true
      mark j' i' x = ap (λ l. get_or l (pair_place j' i') false) h.declared_is ∙ at x
        where
          at : Names j' i' (new ∷ ds) → get_or (set declared (pair_place j i) true) (pair_place j' i') false ≡ true
          at (inl p) =
              subst (λ y. get_or (set declared (pair_place j i) true) (pair_place y i') false ≡ true) p.0
              (subst (λ z. get_or (set declared (pair_place j i) true) (pair_place j z) false ≡ true) p.1 (get_or-set_same declared (pair_place j i) true false low))
          at (inr y) = mark-stays declared (pair_place j i) (pair_place j' i') low (told.marked.1 j' i' y)

told_all : (m : Coding) (o : OrderModel) (s : State) (cs : List (Calculation m)) (h : History m o s cs) → Told m s (declarations h)
told_all m o s cs (opens n {table = table} {declared = declared} c h) =
    let p = opened-plain m n table declared c h in
    record {
      presents = record {
        apart = tt;
        pairs = λ d a. absurd a;
        factors = λ d a. absurd a;
        tails = λ d a. absurd a;
        other_factors = λ j i q k. p.factors j i q;
        other_tails = λ j i q k. p.tails j i q;
      };
      marked = (ap length h.none_declared ∙ length-replicate 64 false, λ j i x. absurd x);
    }
told_all m o s cs (declares {n = n} {table = table} {table' = table'} {declared = declared} {declared' = declared'} j i c tail h e d) =
    declare_told m o n table table' declared declared' (declarations h) j i c tail (keeps m o (opened n table declared) cs h).valid (told_all m o (opened n table declared) cs h) e d
told_all m o s cs (declare_refused j i c tail h e) = told_all m o s cs h
told_all m o s cs (closes {n = n} {table = table} {declared = declared} h) = record { presents = (told_all m o (opened n table declared) cs h).presents; marked = tt }
told_all m o s cs (overlaps mem i j k h e) = told_all m o s cs h
told_all m o s cs (overlap_refused mem i j k h e) = told_all m o s cs h
told_all m o s cs (decides {n = n} {table = table} {v = v} mem h) = record { presents = (told_all m o (closed n table v) cs h).presents; marked = tt }
told_all m o s cs (normalises {cs = cs₀} mem h p e) = told_all m o s cs₀ h
told_all m o s cs (normalise_refused mem ts h e) = told_all m o s cs h
told_all m o s cs (adds {cs = cs₀} mem h p q e) = told_all m o s cs₀ h
told_all m o s cs (sum_refused mem ts us h e) = told_all m o s cs h
told_all m o s cs (subtracts {cs = cs₀} mem h p q e) = told_all m o s cs₀ h
told_all m o s cs (difference_refused mem ts us h e) = told_all m o s cs h
told_all m o s cs (multiplies {cs = cs₀} mem h p q e) = told_all m o s cs₀ h
told_all m o s cs (product_refused mem ts us h e) = told_all m o s cs h

pub relations-declared : (m : Coding) (o : OrderModel) → RelationsDeclared m o
relations-declared m o = record {
  at_first = opened-plain m;
  then_declared = λ n table table' declared declared' cs j i c tail h e d.
      declare_gives m o n table table' declared declared' j i c tail (keeps m o (opened n table declared) cs h).valid e d;
  after_all = λ s cs h. (told_all m o s cs h).presents;
}
