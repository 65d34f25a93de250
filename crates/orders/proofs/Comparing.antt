-- Comparing lists at their first difference is a strict total order, and adding the same list to both changes nothing.
use Rattle.std.proofs.Common.{◌≡◌, ℕ, ◌+◌, ◌<◌, ◌≤◌, ◌⊎◌, List, [], ◌∷◌, ◌++◌, length, Ordering, Less, Equal, Greater, sym, refl, ap, ◌∙◌, inl, inr, ⊎_elim, arith}
use Rattle.std.proofs.lemmas.Bool.{cases_order, lt-ltb, le-ltb}
use Rattle.std.specs.Ordering.{nat_cmp, ordering_then, ordering_reverse}
use Rattle.std.specs.Cmp.Lexicographic.{slice_cmp}
use Rattle.std.proofs.lemmas.Bool.Decides.{nat_tests}
use Rattle.std.proofs.lemmas.Cmp.{nat_list_cmp_total, tied_itself}
use Rattle.std.proofs.lemmas.Map.Lookups.{exact_bytes}
use Rattle.orders.specs.Orders.{first_difference, numbers, then_by, reversed, plus, dot}

numbers-below : (x y : ℕ) (r : Ordering) → x < y → numbers x y r ≡ Less
numbers-below x y r h = rw (lt-ltb x y h)

pub numbers-above : (x y : ℕ) (r : Ordering) → y < x → numbers x y r ≡ Greater
numbers-above x y r h = let k : y ≤ x = omega arith in rw (le-ltb x y k, lt-ltb y x h)

numbers-same : (x y : ℕ) (r : Ordering) → x ≡ y → numbers x y r ≡ r
numbers-same x y r e = let h : y ≤ x = omega arith in let k : x ≤ y = omega arith in rw (le-ltb x y h, le-ltb y x k)

-- the three ways that two numbers compare
pub numbers_less : (x y : ℕ) (r : Ordering) → numbers x y r ≡ Less → (x < y) ⊎ ((x ≡ y) × (r ≡ Less))
numbers_less x y r h =
    ⊎_elim (λ e. inr (e, sym (numbers-same x y r e) ∙ h))
    (⊎_elim inl (λ k. let g = numbers-above x y r k in let z : ◌≡◌ {A = ℕ} 0 1 = cc in absurd (omega arith)))
    (cases_order x y)

numbers-plus : (c x y : ℕ) (r : Ordering) → numbers (c + x) (c + y) r ≡ numbers x y r
numbers-plus c x y r =
    ⊎_elim (λ e. numbers-same (c + x) (c + y) r (ap (λ k. c + k) e) ∙ sym (numbers-same x y r e))
    (⊎_elim (λ k. numbers-below (c + x) (c + y) r (omega arith) ∙ sym (numbers-below x y r k))
    (λ k. numbers-above (c + x) (c + y) r (omega arith) ∙ sym (numbers-above x y r k)))
    (cases_order x y)

pub numbers-then : (x y : ℕ) (r s : Ordering) → numbers x y (then_by r s) ≡ then_by (numbers x y r) s
numbers-then x y r s =
    ⊎_elim (λ e. numbers-same x y (then_by r s) e ∙ ap (λ t. then_by t s) (sym (numbers-same x y r e)))
    (⊎_elim (λ k. numbers-below x y (then_by r s) k ∙ ap (λ t. then_by t s) (sym (numbers-below x y r k)))
    (λ k. numbers-above x y (then_by r s) k ∙ ap (λ t. then_by t s) (sym (numbers-above x y r k))))
    (cases_order x y)

-- comparing as the library compares numbers and slices
numbers_cmp : (x y : ℕ) (r : Ordering) → numbers x y r ≡ ordering_then (nat_cmp x y) r
numbers_cmp x y r =
    ⊎_elim (λ e. let c : nat_cmp x y ≡ Equal = grind (arith, nat_tests) in numbers-same x y r e ∙ ap (λ o. ordering_then o r) (sym c))
    (⊎_elim
    (λ k. let c : nat_cmp x y ≡ Less = grind (arith, nat_tests) in numbers-below x y r k ∙ ap (λ o. ordering_then o r) (sym c))
    (λ k. let c : nat_cmp x y ≡ Greater = grind (arith, nat_tests) in numbers-above x y r k ∙ ap (λ o. ordering_then o r) (sym c)))
    (cases_order x y)

pub difference_cmp : (xs ys : List ℕ) → first_difference xs ys ≡ slice_cmp nat_cmp xs ys
difference_cmp [] [] = refl
difference_cmp [] (y ∷ ys) = refl
difference_cmp (x ∷ xs) [] = refl
difference_cmp (x ∷ xs) (y ∷ ys) = ap (numbers x y) (difference_cmp xs ys) ∙ numbers_cmp x y (slice_cmp nat_cmp xs ys)

reversed_cmp : (o : Ordering) → reversed o ≡ ordering_reverse o
reversed_cmp Less = refl
reversed_cmp Equal = refl
reversed_cmp Greater = refl

pub difference-same : (xs : List ℕ) → first_difference xs xs ≡ Equal
difference-same xs = difference_cmp xs xs ∙ tied_itself nat_list_cmp_total xs

pub difference-equal : (xs ys : List ℕ) → first_difference xs ys ≡ Equal → xs ≡ ys
difference-equal xs ys h = exact_bytes xs ys (sym (difference_cmp xs ys) ∙ h)

pub difference-reversed : (xs ys : List ℕ) → first_difference ys xs ≡ reversed (first_difference xs ys)
difference-reversed xs ys =
    difference_cmp ys xs ∙ nat_list_cmp_total.antisymm ys xs ∙ ap ordering_reverse (sym (difference_cmp xs ys)) ∙ sym (reversed_cmp (first_difference xs ys))

pub difference_less : (xs ys zs : List ℕ) → first_difference xs ys ≡ Less → first_difference ys zs ≡ Less → first_difference xs zs ≡ Less
difference_less xs ys zs h k = difference_cmp xs zs ∙ nat_list_cmp_total.trans xs ys zs (sym (difference_cmp xs ys) ∙ h) (sym (difference_cmp ys zs) ∙ k)

pub difference-plus : (cs xs ys : List ℕ) → length cs ≡ length xs → length cs ≡ length ys → first_difference (plus cs xs) (plus cs ys) ≡ first_difference xs ys
difference-plus [] [] [] p q = refl
difference-plus [] [] (y ∷ ys) p q = absurd (omega arith)
difference-plus [] (x ∷ xs) ys p q = absurd (omega arith)
difference-plus (c ∷ cs) [] ys p q = absurd (omega arith)
difference-plus (c ∷ cs) (x ∷ xs) [] p q = absurd (omega arith)
difference-plus (c ∷ cs) (x ∷ xs) (y ∷ ys) p q =
    numbers-plus c x y (first_difference (plus cs xs) (plus cs ys)) ∙ ap (numbers x y) (difference-plus cs xs ys (omega arith) (omega arith))

-- lists that begin with lists of one length
pub difference-append : (a b c d : List ℕ) → length a ≡ length b → first_difference (a ++ c) (b ++ d) ≡ then_by (first_difference a b) (first_difference c d)
difference-append [] [] c d e = refl
difference-append [] (y ∷ b) c d e = absurd (omega arith)
difference-append (x ∷ a) [] c d e = absurd (omega arith)
difference-append (x ∷ a) (y ∷ b) c d e = ap (numbers x y) (difference-append a b c d (omega arith)) ∙ numbers-then x y (first_difference a b) (first_difference c d)

-- images with the same counts have the same weight
pub same_weights : (ws u v : List ℕ) → first_difference u v ≡ Equal → first_difference (dot ws u ∷ u) (dot ws v ∷ v) ≡ Equal
same_weights ws u v h = ap (λ w. first_difference (dot ws u ∷ u) (dot ws w ∷ w)) (sym (difference-equal u v h)) ∙ difference-same (dot ws u ∷ u)
