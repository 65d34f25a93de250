-- Lists of words, as sets.
use mathlib.Core.Path.{◌≡◌, refl, sym, subst, ◌∙◌}
use mathlib.Core.Logic.{◌⊎◌, inl, inr}
use mathlib.Core.List.{List, [], ◌∷◌, ◌++◌}
use Rattle.theory.specs.FreeSum.{Word, word_eq}

-- w is a word of the list
abbrev pub Listed : Word → List Word → Type 0
Listed w [] = ⊥
Listed w (x ∷ ws) = (w ≡ x) ⊎ Listed w ws

pub listed? : (t : Word) (ws : List Word) → Dec (Listed t ws)
listed? t [] = no (λ z. z)
listed? t (w ∷ ws) = go (word_eq t w) (listed? t ws)
  where
    go : Dec (t ≡ w) → Dec (Listed t ws) → Dec (Listed t (w ∷ ws))
    go (yes p) d = yes (inl p)
    go (no n) (yes l) = yes (inr l)
    go (no n) (no m) = no (elim [ inl p ↦ n p | inr l ↦ m l ])

pub listed-append : (t : Word) (us vs : List Word) → Listed t (us ++ vs) → Listed t us ⊎ Listed t vs
listed-append t [] vs l = inr l
listed-append t (u ∷ us) vs (inl p) = inl (inl p)
listed-append t (u ∷ us) vs (inr l) = elim (listed-append t us vs l) [ inl a ↦ inl (inr a) | inr b ↦ inr b ]

pub listed-left : (t : Word) (us vs : List Word) → Listed t us → Listed t (us ++ vs)
listed-left t [] vs l = absurd l
listed-left t (u ∷ us) vs (inl p) = inl p
listed-left t (u ∷ us) vs (inr l) = inr (listed-left t us vs l)

pub listed-right : (t : Word) (us vs : List Word) → Listed t vs → Listed t (us ++ vs)
listed-right t [] vs l = l
listed-right t (u ∷ us) vs l = inr (listed-right t us vs l)

-- the words of a list other than w
drop_if : {A : Type 0} → Dec A → Word → List Word → List Word
drop_if (yes _) x ws = ws
drop_if (no _) x ws = x ∷ ws

pub without : Word → List Word → List Word
without w [] = []
without w (x ∷ ws) = drop_if (word_eq x w) x (without w ws)

pub listed_without : (w t : Word) (ws : List Word) → Listed t (without w ws) → Listed t ws × ¬ (t ≡ w)
unfolding without drop_if
listed_without w t [] l = absurd l
listed_without w t (x ∷ ws) l = go (listed_without w t ws) (word_eq x w) l
  where
    later : Listed t ws × ¬ (t ≡ w) → Listed t (x ∷ ws) × ¬ (t ≡ w)
    later k = (inr k.0, k.1)

    go : (Listed t (without w ws) → Listed t ws × ¬ (t ≡ w)) → (d : Dec (x ≡ w)) → Listed t (drop_if d x (without w ws)) → Listed t (x ∷ ws) × ¬ (t ≡ w)
    go rest (yes _) l = later (rest l)
    go rest (no n) (inl p) = (inl p, λ q. n (sym p ∙ q))
    go rest (no n) (inr l) = later (rest l)

pub without_listed : (w t : Word) (ws : List Word) → ¬ (t ≡ w) → Listed t ws → Listed t (without w ws)
unfolding without drop_if
without_listed w t [] n l = absurd l
without_listed w t (x ∷ ws) n l = go (without_listed w t ws n) (word_eq x w) l
  where
    go : (Listed t ws → Listed t (without w ws)) → (d : Dec (x ≡ w)) → Listed t (x ∷ ws) → Listed t (drop_if d x (without w ws))
    go rest (yes e) (inl p) = absurd (n (p ∙ e))
    go rest (yes e) (inr l) = rest l
    go rest (no _) (inl p) = inl p
    go rest (no _) (inr l) = inr (rest l)

-- a list of words of two sorts, sorted
pub record Parted (A B : Word → Type 0) (ws : List Word) : Type 0 where
  pub first : List Word
  pub second : List Word
  pub of_first : (t : Word) → Listed t first → A t
  pub of_second : (t : Word) → Listed t second → B t
  pub covers : (t : Word) → Listed t ws → Listed t first ⊎ Listed t second

pub part : (A B : Word → Type 0) (ws : List Word) → ((t : Word) → Listed t ws → A t ⊎ B t) → Parted A B ws
part A B [] h = record { first = []; second = []; of_first = λ t l. absurd l; of_second = λ t l. absurd l; covers = λ t l. absurd l }
part A B (w ∷ ws) h = go (h w (inl refl)) (part A B ws (λ t l. h t (inr l)))
  where
    go : A w ⊎ B w → Parted A B ws → Parted A B (w ∷ ws)
    go (inl a) p = record {
      first = w ∷ p.first;
      second = p.second;
      of_first = λ t. elim [ inl e ↦ subst A (sym e) a | inr l ↦ p.of_first t l ];
      of_second = p.of_second;
      covers = λ t. elim [ inl e ↦ inl (inl e) | inr l ↦ elim (p.covers t l) [ inl a ↦ inl (inr a) | inr b ↦ inr b ] ];
    }
    go (inr b) p = record {
      first = p.first;
      second = w ∷ p.second;
      of_first = p.of_first;
      of_second = λ t. elim [ inl e ↦ subst B (sym e) b | inr l ↦ p.of_second t l ];
      covers = λ t. elim [ inl e ↦ inr (inl e) | inr l ↦ elim (p.covers t l) [ inl a ↦ inl a | inr b ↦ inr (inr b) ] ];
    }
