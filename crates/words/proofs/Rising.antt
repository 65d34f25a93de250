-- Standard words are those without inversions, and those without a leftmost one.
use Rattle.std.proofs.Common.{◌≡◌, ℕ, suc, ◌+◌, ◌<◌, ◌≤◌, true, cond, ltb, leb, List, [], ◌∷◌, length, get_or, take, Option, Some, None, Bool, false, not, Decides, sym, refl, ◌∙◌, subst, ⊎_elim, arith}
use Rattle.std.proofs.lemmas.Bool.{cases_Bool, and_parts, and_from, leb-true, ltb-true, ltb-false, le-leb, lt-ltb, le-ltb}
use Rattle.std.specs.Option.{is_some}
use Rattle.words.specs.Inversions.{below, inversions, rises, standard, falls, leftmost_inversion}
use Rattle.words.specs.Laws.{StandardWords}

one_if : (x y : ℕ) → x < y → ◌≡◌ {A = ℕ} (cond (ltb x y) 1 0) 1
one_if x y h = rw (lt-ltb x y h)

none_if : (x y : ℕ) → y ≤ x → ◌≡◌ {A = ℕ} (cond (ltb x y) 1 0) 0
none_if x y h = rw (le-ltb x y h)

-- one letter more among those that may be smaller than x
pub below_one : (x y : ℕ) (w : List ℕ) → y < x → below x (y ∷ w) ≡ 1 + below x w
below_one x y w h = let e = one_if y x h in omega arith

pub below_none : (x y : ℕ) (w : List ℕ) → x ≤ y → below x (y ∷ w) ≡ below x w
below_none x y w h = let e = none_if y x h in omega arith

below_mono : (x y : ℕ) (w : List ℕ) → x ≤ y → below x w ≤ below y w
below_mono x y [] h = omega arith
below_mono x y (z ∷ w) h =
    let i = below_mono x y w h in
    ⊎_elim
    (λ e.
    let l = ltb-true z x e in
    let a = below_one x z w l in
    let b = below_one y z w (omega arith) in
    omega arith)
    (λ e.
    let l = ltb-false z x e in
    let a = below_none x z w l in
    ⊎_elim (λ f. let b = below_one y z w (ltb-true z y f) in omega arith) (λ f. let b = below_none y z w (ltb-false z y f) in omega arith) (cases_Bool (ltb z y)))
    (cases_Bool (ltb z x))

rises_none : (x : ℕ) (w : List ℕ) → rises x w ≡ true → (below x w ≡ 0) × (inversions w ≡ 0)
rises_none x [] h = (refl, refl)
rises_none x (y ∷ w) h =
    let p = and_parts (leb x y) (rises y w) h in
    let l = leb-true x y p.0 in
    let r = rises_none y w p.1 in
    let a = r.0 in
    let b = r.1 in
    let m = below_mono x y w l in
    let e = below_none x y w l in
    (omega arith, omega arith)

none_rises : (x : ℕ) (w : List ℕ) → below x w + inversions w ≡ 0 → rises x w ≡ true
none_rises x [] h = refl
none_rises x (y ∷ w) h =
    ⊎_elim
    (λ e. let a = below_one x y w (ltb-true y x e) in absurd (omega arith))
    (λ e.
    let l = ltb-false y x e in
    let a = below_none x y w l in
    and_from (leb x y) (rises y w) (le-leb x y l) (none_rises y w (omega arith)))
    (cases_Bool (ltb y x))

-- where the letters fall
pub falls_here : (k x y : ℕ) (w : List ℕ) → y < x → falls k x (y ∷ w) ≡ Some k
falls_here k x y w h = rw (lt-ltb y x h)

pub falls_later : (k x y : ℕ) (w : List ℕ) → x ≤ y → falls k x (y ∷ w) ≡ falls (suc k) y w
falls_later k x y w h = rw (le-ltb y x h)

pub rises-falls : (k x : ℕ) (w : List ℕ) → rises x w ≡ true → falls k x w ≡ None
rises-falls k x [] h = refl
rises-falls k x (y ∷ w) h =
    let p = and_parts (leb x y) (rises y w) h in
    falls_later k x y w (leb-true x y p.0) ∙ rises-falls (suc k) y w p.1

pub falls-rises : (k x : ℕ) (w : List ℕ) → falls k x w ≡ None → rises x w ≡ true
falls-rises k x [] h = refl
falls-rises k x (y ∷ w) h =
    ⊎_elim
    (λ e. let f = falls_here k x y w (ltb-true y x e) in let z : ◌≡◌ {A = ℕ} 0 1 = cc in absurd (omega arith))
    (λ e.
    let l = ltb-false y x e in
    and_from (leb x y) (rises y w) (le-leb x y l) (falls-rises (suc k) y w (sym (falls_later k x y w l) ∙ h)))
    (cases_Bool (ltb y x))

-- a place that many steps on from the letter x
record Fallen (k j x : ℕ) (w : List ℕ) : Type 0 where
  steps : ℕ
  there : steps + j ≡ k
  inside : suc steps < length (x ∷ w)
  lower : get_or (x ∷ w) (suc steps) 0 < get_or (x ∷ w) steps 0
  before : rises x (take steps w) ≡ true

fallen : (k j x : ℕ) (w : List ℕ) → falls j x w ≡ Some k → Fallen k j x w
fallen k j x [] h = let z : ◌≡◌ {A = ℕ} 0 1 = cc in absurd (omega arith)
fallen k j x (y ∷ w) h =
    ⊎_elim
    (λ e.
    let l = ltb-true y x e in
    let f = falls_here j x y w l in
    let s : j ≡ k = cc in
    record { steps = 0; there = omega arith; inside = omega arith; lower = l; before = refl })
    (λ e.
    let l = ltb-false y x e in
    let r = fallen k (suc j) y w (sym (falls_later j x y w l) ∙ h) in
    let t = r.there in
    let i = r.inside in
    record { steps = suc r.steps; there = omega arith; inside = omega arith; lower = r.lower; before = and_from (leb x y) (rises y (take r.steps w)) (le-leb x y l) r.before })
    (cases_Bool (ltb y x))

at_place : (w : List ℕ) (k : ℕ) → leftmost_inversion w ≡ Some k → (suc k < length w) × (get_or w (suc k) 0 < get_or w k 0) × (standard (take (suc k) w) ≡ true)
at_place [] k h = let z : ◌≡◌ {A = ℕ} 0 1 = cc in absurd (omega arith)
at_place (x ∷ w) k h =
    let r = fallen k 0 x w h in
    let t = r.there in
    let e : r.steps ≡ k = omega arith in
    subst (λ d. (suc d < length (x ∷ w)) × (get_or (x ∷ w) (suc d) 0 < get_or (x ∷ w) d 0) × (standard (take (suc d) (x ∷ w)) ≡ true)) e (r.inside, r.lower, r.before)

no_inversion : (w : List ℕ) → Decides (standard w) (inversions w ≡ 0)
no_inversion [] = (λ _. refl, λ _. refl)
no_inversion (x ∷ w) = (λ h. let r = rises_none x w h in let a = r.0 in let b = r.1 in omega arith, λ h. none_rises x w h)

no_place : (w : List ℕ) → Decides (standard w) (leftmost_inversion w ≡ None)
no_place [] = (λ _. refl, λ _. refl)
no_place (x ∷ w) = (λ h. rises-falls 0 x w h, λ h. falls-rises 0 x w h)

pub standard-words : StandardWords
standard-words = record { no_inversion = no_inversion; no_place = no_place; place = at_place }

-- a word is standard where it has no leftmost inversion
pub standard_told : (w : List ℕ) (t : Bool) → is_some (leftmost_inversion w) ≡ not t → t ≡ standard w
standard_told w t h = go (leftmost_inversion w) t refl h
  where
    go : (r : Option ℕ) (t : Bool) → leftmost_inversion w ≡ r → is_some r ≡ not t → t ≡ standard w
    go None true e h = sym ((no_place w).1 e)
    go None false e h = cc
    go (Some k) true e h = cc
    go (Some k) false e h = ⊎_elim (λ s. let n = (no_place w).0 s in let z : ◌≡◌ {A = ℕ} 0 1 = cc in absurd (omega arith)) sym (cases_Bool (standard w))
