-- The order of lists of words under which a word is replaced by words below it: it ends where that of words does.
use mathlib.Core.Path.{◌≡◌, refl, sym, subst, ◌∙◌}
use mathlib.Core.Logic.{◌⊎◌, inl, inr}
use mathlib.Core.List.{List, [], ◌∷◌, ◌++◌}
use mathlib.Core.WellFounded.Acc
use mathlib.Core.WellFounded.{Acc, WellFounded, recursion}
use Rattle.theory.specs.Ring.{CommutativeRing}
use Rattle.theory.specs.FreeSum.{Word, word_eq}
use Rattle.theory.specs.Relations.{Relations}
use Rattle.theory.specs.Rewriting.{Below}
use Rattle.theory.proofs.Lists.{Listed, listed-left, listed-right, part}

module _ {R : CommutativeRing} (P : Relations R) where
  -- vs has words of ws other than `word`, and words below it
  pub record Lowered (vs ws : List Word) : Type 0 where
    pub word : Word
    pub listed : Listed word ws
    pub each : (t : Word) → Listed t vs → (Listed t ws × ¬ (t ≡ word)) ⊎ Below P t word

  -- a list with fewer words
  fewer_acc : {ws : List Word} (vs : List Word) → ((t : Word) → Listed t vs → Listed t ws) → Acc Lowered ws → Acc Lowered vs
  fewer_acc vs sub acc =
      Acc.intro vs
      (λ us l. Acc.inv acc (record { word = l.word; listed = sub l.word l.listed; each = λ t h. elim (l.each t h) [ inl a ↦ inl (sub t a.0, a.1) | inr b ↦ inr b ] }))

  module _ (a : Word) (lower : (b : Word) → Below P b a → (ws : List Word) → Acc Lowered ws → Acc Lowered (b ∷ ws)) where
    lower-all : (ks ws : List Word) → ((t : Word) → Listed t ks → Below P t a) → Acc Lowered ws → Acc Lowered (ks ++ ws)
    lower-all [] ws h acc = acc
    lower-all (k ∷ ks) ws h acc = lower k (h k (inl refl)) (ks ++ ws) (lower-all ks ws (λ t l. h t (inr l)) acc)

    -- a itself was lowered
    at_head : (ws vs : List Word) → Acc Lowered ws → (l : Lowered vs (a ∷ ws)) → l.word ≡ a → Acc Lowered vs
    at_head ws vs acc l e =
        let p = part (λ t. Listed t ws) (λ t. Below P t a) vs (λ t h. sort t (l.each t h)) in
        fewer_acc vs
        (λ t h. elim (p.covers t h) [ inl x ↦ listed-right t p.second ws (p.of_first t x) | inr y ↦ listed-left t p.second ws y ])
        (lower-all p.second ws p.of_second acc)
      where
        sort : (t : Word) → (Listed t (a ∷ ws) × ¬ (t ≡ l.word)) ⊎ Below P t l.word → Listed t ws ⊎ Below P t a
        sort t (inl (inl p, n)) = absurd (n (p ∙ sym e))
        sort t (inl (inr h, n)) = inl h
        sort t (inr b) = inr (subst (Below P t) e b)

    -- another word was
    in_rest : (ws vs : List Word) → ((us : List Word) → Lowered us ws → Acc Lowered (a ∷ us)) → (l : Lowered vs (a ∷ ws)) → ¬ (l.word ≡ a) → Acc Lowered vs
    in_rest ws vs rest l n =
        let p = part (λ t. t ≡ a) (λ t. (Listed t ws × ¬ (t ≡ l.word)) ⊎ Below P t l.word) vs (λ t h. sort t (l.each t h)) in
        fewer_acc vs (λ t h. elim (p.covers t h) [ inl x ↦ inl (p.of_first t x) | inr y ↦ inr y ])
        (rest p.second (record { word = l.word; listed = elim l.listed [ inl q ↦ absurd (n q) | inr h ↦ h ]; each = p.of_second }))
      where
        sort : (t : Word) → (Listed t (a ∷ ws) × ¬ (t ≡ l.word)) ⊎ Below P t l.word → (t ≡ a) ⊎ ((Listed t ws × ¬ (t ≡ l.word)) ⊎ Below P t l.word)
        sort t (inl (inl p, m)) = inl p
        sort t (inl (inr h, m)) = inr (inl (h, m))
        sort t (inr b) = inr (inr b)

    cons_acc : {ws : List Word} → Acc Lowered ws → Acc Lowered (a ∷ ws)
    cons_acc (Acc.intro ws h) = Acc.intro (a ∷ ws) (λ vs l. go (λ us k. cons_acc (h us k)) vs l (word_eq l.word a))
      where
        go : ((us : List Word) → Lowered us ws → Acc Lowered (a ∷ us)) → (vs : List Word) (l : Lowered vs (a ∷ ws)) → Dec (l.word ≡ a) → Acc Lowered vs
        go rest vs l (yes e) = at_head ws vs (Acc.intro ws h) l e
        go rest vs l (no n) = in_rest ws vs rest l n

  module _ (ends : WellFounded (Below P)) where
    pub lowered_ends : (ws : List Word) → Acc Lowered ws
    lowered_ends [] = Acc.intro [] (λ vs l. absurd l.listed)
    lowered_ends (w ∷ ws) = recursion ends {C = λ a. (ws : List Word) → Acc Lowered ws → Acc Lowered (a ∷ ws)} w (λ a lower ws acc. cons_acc a lower acc) ws (lowered_ends ws)
