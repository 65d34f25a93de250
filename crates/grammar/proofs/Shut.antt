-- In a form that is no expression, brackets nest at most two deep.
use Rattle.std.proofs.Common.{◌≡◌, ℕ, suc, ◌+◌, ◌<◌, true, List, [], ◌∷◌, ◌++◌, map, codes, decimal, refl, ap, subst, ⊎_elim, append_assoc, arith}
use Rattle.grammar.specs.declared.forms.RingForm.{RingForm}
use Rattle.grammar.specs.declared.forms.RingForm.TheVariants.{Mod, Int, QPoly}
use Rattle.grammar.specs.Forms.{OrderChoice, lex, degree, TermForm, algebra, rel, decide}
use Rattle.grammar.specs.Grammar.{spaced_parts, in_brackets, write_generator, write_ring, write_order, write_term, write_form, plain, Number, All, FineRing, FineOrder, FineTerm, FineAnyhow}
use Rattle.grammar.specs.Laws.{count_of}
use Rattle.grammar.proofs.Leaves.{decimal_plain}
use Rattle.grammar.proofs.Levels.{At, count-append, plain_level, split, behind, none_in}

-- at each opening bracket fewer than k are open, and at the end none
pub record Shut (k : ℕ) (xs : List ℕ) : Type 0 where
  pub at : At 0 xs
  pub low : (p q : List ℕ) → xs ≡ p ++ (40 ∷ q) → count_of 40 p < count_of 41 p + k

plain_shut : (k : ℕ) (a : List ℕ) → plain a ≡ true → Shut k a
plain_shut k a h = record { at = plain_level a h; low = λ p q e. absurd (none_in a p q h e) }

append_shut : (k : ℕ) (xs ys : List ℕ) → Shut k xs → Shut k ys → Shut k (xs ++ ys)
append_shut k xs ys x y = record {
  at = omega (arith, x.at, y.at, count-append 40 xs ys, count-append 41 xs ys);
  low = λ p q e.
      ⊎_elim (λ w. x.low p w.0 w.1)
      (λ w. omega (arith, y.low w.0 q w.2, x.at, ap (count_of 40) w.1, ap (count_of 41) w.1, count-append 40 xs w.0, count-append 41 xs w.0))
      (split xs ys p q e);
}

parts_shut : (k : ℕ) (ps : List (List ℕ)) → All (Shut k) ps → Shut k (spaced_parts ps)
parts_shut k [] a = plain_shut k [] refl
parts_shut k (p ∷ ps) a = spaced (p ++ spaced_parts ps) (append_shut k p (spaced_parts ps) a.0 (parts_shut k ps a.1))
  where
    spaced : (xs : List ℕ) → Shut k xs → Shut k (32 ∷ xs)
    spaced xs x = record {
      at = omega (arith, x.at);
      low = λ p q e. let b = behind 32 xs p q (λ z. omega arith) e in omega (arith, x.low b.0 q b.2, ap (count_of 40) b.1, ap (count_of 41) b.1);
    }

pub closed_shut : (k : ℕ) (xs : List ℕ) → Shut k xs → Shut (suc k) (40 ∷ (xs ++ (41 ∷ [])))
closed_shut k xs x = record { at = omega (arith, x.at, count-append 40 xs (41 ∷ []), count-append 41 xs (41 ∷ [])); low = low }
  where
    low : (p q : List ℕ) → 40 ∷ (xs ++ (41 ∷ [])) ≡ p ++ (40 ∷ q) → count_of 40 p < count_of 41 p + suc k
    low [] q e = omega arith
    low (b ∷ p) q e =
        let i : b ≡ 40 = cc in
        let j : xs ++ (41 ∷ []) ≡ p ++ (40 ∷ q) = cc in
        let c = ap (λ (x : ℕ). count_of 40 (x ∷ p)) i in
        let d = ap (λ (x : ℕ). count_of 41 (x ∷ p)) i in
        ⊎_elim (λ w. omega (arith, c, d, x.low p w.0 w.1)) (λ w. let z = behind 41 [] w.0 q (λ y. omega arith) w.2 in absurd (none_in [] z.0 q refl z.2)) (split xs (41 ∷ []) p q j)

brackets_shut : (k : ℕ) (w : List ℕ) (ps : List (List ℕ)) → plain w ≡ true → All (Shut k) ps → Shut (suc k) (in_brackets w ps)
brackets_shut k w ps h a = subst (λ l. Shut (suc k) (40 ∷ l)) (append_assoc w (spaced_parts ps) (41 ∷ [])) (closed_shut k (w ++ spaced_parts ps) (append_shut k w (spaced_parts ps) (plain_shut k w h) (parts_shut k ps a)))

all_shut : {X : Type 0} (k : ℕ) (W : X → List ℕ) (P : X → Type 0) → ((x : X) → P x → Shut k (W x)) → (xs : List X) → All P xs → All (Shut k) (map W xs)
all_shut k W P s [] a = tt
all_shut k W P s (x ∷ xs) a = (s x a.0, all_shut k W P s xs a.1)

number_shut : (k n : ℕ) → Number n → Shut k (decimal n)
number_shut k n h = plain_shut k (decimal n) (decimal_plain n h)

ring_shut : (r : RingForm) → FineRing r → Shut 1 (write_ring r)
ring_shut (Mod m) h = brackets_shut 0 (codes "mod") (decimal m ∷ []) refl (number_shut 0 m h, tt)
ring_shut Int h = brackets_shut 0 (codes "int") [] refl tt
ring_shut QPoly h = brackets_shut 0 (codes "qpoly") [] refl tt

order_shut : (o : OrderChoice) → FineOrder o → Shut 1 (write_order o)
order_shut lex h = brackets_shut 0 (codes "lex") [] refl tt
order_shut (degree ws) h = brackets_shut 0 (codes "deg") (map decimal ws) refl (all_shut 0 decimal Number (number_shut 0) ws h.0)

term_shut : (t : TermForm) → FineTerm t → Shut 1 (write_term t)
term_shut t h = brackets_shut 0 t.coefficient (map write_generator t.generators) h.0.0 (all_shut 0 write_generator Number (λ n k. plain_shut 0 (write_generator n) (decimal_plain n k)) t.generators h.1)

pub algebra_shut : (n : ℕ) (r : RingForm) (o : OrderChoice) → FineAnyhow (algebra n r o) → Shut 2 (write_form (algebra n r o))
unfolding write_form
algebra_shut n r o h = brackets_shut 1 (codes "algebra") (decimal n ∷ (write_ring r ∷ (write_order o ∷ []))) refl (number_shut 1 n h.0, (ring_shut r h.1, (order_shut o h.2, tt)))

pub rel_shut : (j i : ℕ) (c : List ℕ) (ts : List TermForm) → FineAnyhow (rel j i c ts) → Shut 2 (write_form (rel j i c ts))
unfolding write_form
rel_shut j i c ts h =
    brackets_shut 1 (codes "rel") (decimal j ∷ (decimal i ∷ (c ∷ map write_term ts))) refl (number_shut 1 j h.0, (number_shut 1 i h.1, (plain_shut 1 c h.2.0, all_shut 1 write_term FineTerm term_shut ts h.3)))

pub decide_shut : Shut 1 (write_form decide)
unfolding write_form
decide_shut = brackets_shut 0 (codes "decide") [] refl tt
