-- The relation that a factor and a tail make, from the places that are filled.
use Rattle.std.proofs.Common.{◌≡◌, ℕ, ◌+◌, ◌-◌, ◌≤◌, min, List, ◌++◌, length, take, drop, ap, subst, sym, ◌∙◌, arith}
use Rattle.std.proofs.Math.Nat.{min-le_left, min-eq_right}
use Rattle.std.proofs.Math.Bridge.{le_prop}
use Rattle.std.proofs.Math.Seq.{take-append-add}
use Rattle.std.proofs.lemmas.List.{take-replicate, drop-replicate}
use Rattle.words.specs.Terms.{blank}
use Rattle.words.specs.declared.term.Term.{Term}
use Rattle.kept.specs.Terms.{blanks}
use Rattle.run.specs.declared.relation.Relation.{Relation}
use Rattle.run.specs.Relations.{made_relation}

-- a number is at most eight in one way
same_relation : (c : ℕ) (ts : List Term) (a b : ℕ) (h : a ≤ 8) (k : b ≤ 8) → a ≡ b
    → ◌≡◌ {A = Relation} (record { factor = c; count = a; tail = ts; few = h }) (record { factor = c; count = b; tail = ts; few = k })
same_relation c ts a b h k e =
    subst (λ (x : ℕ). (l : x ≤ 8) → ◌≡◌ {A = Relation} (record { factor = c; count = a; tail = ts; few = h }) (record { factor = c; count = x; tail = ts; few = l })) e
    (λ l. ap (λ (f : a ≤ 8). record { factor = c; count = a; tail = ts; few = f }) (le_prop h l)) k

-- the places behind a tail
filled : (ts : List Term) → length ts ≤ 8 → take 8 (ts ++ blanks 8) ≡ ts ++ blanks (8 - length ts)
filled ts h =
    ap (λ k. take k (ts ++ blanks 8)) whole ∙ take-append-add ts (blanks 8) (8 - length ts) ∙ ap (λ us. ts ++ us) (take-replicate (8 - length ts) 8 blank (omega arith))
  where
    whole : 8 ≡ length ts + (8 - length ts)
    whole = omega arith

pub is_made : (c : ℕ) (ts us : List Term) (k : length ts ≤ 8) → us ≡ ts ++ drop (length ts) (blanks 8)
    → ◌≡◌ {A = Relation} (record { factor = c; count = length ts; tail = us; few = k }) (made_relation c ts)
unfolding made_relation
is_made c ts us k e =
    ap (λ (l : List Term). record { factor = c; count = length ts; tail = l; few = k }) (e ∙ ap (λ l. ts ++ l) (drop-replicate (length ts) 8 blank) ∙ sym (filled ts k))
    ∙ same_relation c (take 8 (ts ++ blanks 8)) (length ts) (min 8 (length ts)) k (min-le_left 8 (length ts)) (sym (min-eq_right k))
