-- A modulus chooses one ring, and weights choose one order: the facts in their fields have one proof at most.
use Rattle.std.proofs.Common.{◌≡◌, ℕ, zero, suc, ◌^◌, ◌<◌, ◌≤◌, Bool, true, false, ◌&&◌, ltb, leb, List, [], ◌∷◌, length, get_or, Ok, Err, Result, IfOk, IfErr, MatchResult, refl, ap, ◌∙◌, ap₂, subst, ⊎_elim, arith}
use Rattle.std.specs.List.{AllZip, IsAmong}
use mathlib.Core.HLevel.{is_prop→PathP}
use native.Mathlib.Bridge.{le_prop}
use Rattle.std.proofs.lemmas.Bool.{cases_Bool, and_from, and_parts, lt-ltb, le-leb, ltb-true, leb-true}
use Rattle.residues.specs.Modulus.{is_modulus}
use Rattle.residues.specs.declared.residues.Residues as residues
use Rattle.orders.specs.Weights.{Weighs, weight_values}
use Rattle.orders.specs.declared.degree.Degree as degree
use Rattle.orders.specs.declared.weight.Weight.{Weight}
use Rattle.orders.specs.declared.weight.WeightOutOfRange.{WeightOutOfRange}
use Rattle.choices.specs.Rings.{residues_when, residues_from}
use Rattle.choices.specs.Orders.{is_weight, all_weights, weights_of, degree_when, degree_from}
use Rattle.choices.specs.declared.ring.AnyRing.TheVariants.{Residues}
use Rattle.choices.specs.declared.order.AnyOrder.TheVariants.{Degree}

residues_same : (k l : residues.Residues) → k.modulus ≡ l.modulus → k ≡ l
residues_same k l e i = record {
  modulus = e i;
  range = (is_prop→PathP (λ j. 2 ≤ e j) (λ j. le_prop) k.range.0 l.range.0 i, is_prop→PathP (λ j. e j < 2 ^ 32) (λ j. le_prop) k.range.1 l.range.1 i);
}

pub residues_chosen : (m : ℕ) (k : residues.Residues) → is_modulus m ≡ true → k.modulus ≡ m → Ok (Residues k) ≡ residues_from m
residues_chosen m k h e = go (is_modulus m) refl h
  where
    go : (t : Bool) (p : is_modulus m ≡ t) → t ≡ true → Ok (Residues k) ≡ residues_when m t p
    go true p q = ap (λ (r : residues.Residues). Ok (Residues r)) (residues_same k _ e)
    go false p q = let z : ◌≡◌ {A = ℕ} 0 1 = cc in absurd (omega arith)

weight_same : (v w : Weight) → v.value ≡ w.value → v ≡ w
weight_same v w e i = record { value = e i; positive = is_prop→PathP (λ j. 0 < e j) (λ j. le_prop) v.positive w.positive i }

weights_same : (vs : List Weight) (ws : List ℕ) (h : all_weights ws ≡ true) → weight_values vs ≡ ws → vs ≡ weights_of ws h
weights_same [] [] h e = refl
weights_same [] (w ∷ ws) h e = let z : ◌≡◌ {A = ℕ} 0 1 = cc in absurd (omega arith)
weights_same (v ∷ vs) [] h e = let z : ◌≡◌ {A = ℕ} 0 1 = cc in absurd (omega arith)
weights_same (v ∷ vs) (w ∷ ws) h e =
    let p : v.value ≡ w = cc in
    let q : weight_values vs ≡ ws = cc in
    ap₂ (λ (x : Weight) (xs : List Weight). x ∷ xs) (weight_same v _ p) (weights_same vs ws _ q)

pub degree_chosen : (ws : List ℕ) (d : degree.Degree) → all_weights ws ≡ true → weight_values d.weights ≡ ws → Ok (Degree d) ≡ degree_from ws
degree_chosen ws d h e = go (all_weights ws) refl h
  where
    go : (t : Bool) (p : all_weights ws ≡ t) → t ≡ true → Ok (Degree d) ≡ degree_when ws t p
    go true p q = ap (λ (vs : List Weight). Ok (Degree (record { weights = vs }))) (weights_same d.weights ws p e)
    go false p q = let z : ◌≡◌ {A = ℕ} 0 1 = cc in absurd (omega arith)

weighed_in : (n : ℕ) → 0 < n → n ≤ 255 → is_weight n ≡ true
weighed_in n p q = and_from (ltb 0 n) (leb n 255) (lt-ltb 0 n p) (le-leb n 255 q)

weighed_out : (n : ℕ) → (0 < n → n ≤ 255 → ⊥) → is_weight n ≡ false
weighed_out n h = go (is_weight n) refl
  where
    go : (t : Bool) → is_weight n ≡ t → t ≡ false
    go true p = let q = and_parts (ltb 0 n) (leb n 255) p in absurd (h (ltb-true 0 n q.0) (leb-true n 255 q.1))
    go false p = refl

weighed : (ws : List ℕ) (vs : List Weight) → AllZip (λ n v. Weighs n (Ok v)) ws vs → (all_weights ws ≡ true) × (weight_values vs ≡ ws)
weighed [] [] h = (refl, refl)
weighed [] (v ∷ vs) h = elim h [ ]
weighed (w ∷ ws) [] h = elim h [ ]
weighed (w ∷ ws) (v ∷ vs) h =
    let rest = weighed ws vs h.1 in
    (and_from (is_weight w) (all_weights ws) (weighed_in w h.0.0 h.0.1) rest.0, ap₂ (λ (x : ℕ) (xs : List ℕ). x ∷ xs) h.0.2 rest.1)

not_weighed : (ws : List ℕ) (i n : ℕ) → i < length ws → n ≡ get_or ws i n → (0 < n → n ≤ 255 → ⊥) → all_weights ws ≡ false
not_weighed [] i n l e h = absurd (omega arith)
not_weighed (w ∷ ws) zero n l e h = ap (λ t. t && all_weights ws) (weighed_out w (subst (λ k. 0 < k → k ≤ 255 → ⊥) e h))
not_weighed (w ∷ ws) (suc i) n l e h =
    ap (λ t. is_weight w && t) (not_weighed ws i n (omega arith) e h) ∙ ⊎_elim (λ t. rw t) (λ t. rw t) (cases_Bool (is_weight w))

pub zip_weaker : {A B : Type 0} (P Q : A → B → Type 0) → ((x : A) (y : B) → P x y → Q x y) → (xs : List A) (ys : List B) → AllZip P xs ys → AllZip Q xs ys
zip_weaker P Q f [] [] h = h
zip_weaker P Q f [] (y ∷ ys) h = h
zip_weaker P Q f (x ∷ xs) [] h = h
zip_weaker P Q f (x ∷ xs) (y ∷ ys) h = (f x y h.0, zip_weaker P Q f xs ys h.1)

-- each number made a weight, or one of them refused
pub all_weighed : (ws : List ℕ) (r : Result (List Weight) WeightOutOfRange) → IfOk r (λ vs. AllZip (λ n v. Weighs n (Ok v)) ws vs) → IfErr r (λ e. (n : ℕ) × IsAmong ws n × Weighs n (Err e))
    → MatchResult r (λ vs. (all_weights ws ≡ true) × (weight_values vs ≡ ws)) (λ _. all_weights ws ≡ false)
all_weighed ws (Ok vs) h k = weighed ws vs h
all_weighed ws (Err e) h k = not_weighed ws k.1.0 k.0 k.1.1.0 k.1.1.1 k.2
