-- Each sum in the letters 1 to n can be rewritten, by steps that take whole coefficients, to standard words.
use mathlib.Core.Path.{◌≡◌, refl, sym, ap, subst, ◌∙◌}
use mathlib.Core.Logic.{◌⊎◌, inl, inr}
use mathlib.Core.List.{List, [], ◌∷◌, ◌++◌}
use mathlib.Core.WellFounded.{Acc, WellFounded}
use Rattle.theory.specs.Ring.{CommutativeRing}
use Rattle.theory.specs.FreeSum.{Word, FreeSum, Occurs, coeff, ◌≈◌, scale}
use Rattle.theory.specs.Words.{Standard, Inversion, Leftmost, leftmost, OverSum, AllStandard}
use Rattle.theory.specs.Relations.{Relations, TailsOver}
use Rattle.theory.specs.Rewriting.{replaced, Reduct, Below, below_one, rewritten, Rewrite, Standardised, done, then}
use Rattle.theory.proofs.RingLaws as ring
use Rattle.theory.proofs.Eval.{eval, eval-append, eval-scale}
use Rattle.theory.proofs.Lists.{Listed}
use Rattle.theory.proofs.Equality.{≈-of-eval, remove, eval-remove, occurs-remove, words, occurs-words, words_occur}
use Rattle.theory.proofs.Occurs.{occurs-append, occurs-scale}
use Rattle.theory.proofs.Relations.{reduct_over}
use Rattle.theory.proofs.NormalForm.{eval_at, eval-replaced, occurs-replaced}
use Rattle.theory.proofs.Lowered.{Lowered, lowered_ends}
use Rattle.theory.proofs.Rewriting.{eval-rewritten}

module _ {R : CommutativeRing} where
  -- a word of f that is not standard, if there is one
  data Search (f : FreeSum R) : Type 0 where
    none : AllStandard f → Search f
    found : (w : Word) → Occurs w f → Inversion w → Search f

  search_word : (f : FreeSum R) → Search f
  search_word [] = none (λ t o. absurd o)
  search_word (e ∷ f) = go (leftmost e.word) (search_word f)
    where
      go : Standard e.word ⊎ Leftmost e.word → Search f → Search (e ∷ f)
      go (inr l) _ = found e.word (inl refl) l.inversion
      go (inl s) (none h) = none (λ t. elim [ inl p ↦ subst Standard (sym p) s | inr o ↦ h t o ])
      go (inl s) (found w o r) = found w (inr o) r

module _ {R : CommutativeRing} (P : Relations R) where
  -- f with the whole coefficient of w rewritten at r
  next : (f : FreeSum R) {w : Word} → Inversion w → FreeSum R
  next f {w} r = remove w f ++ scale (coeff f w) (replaced P r)

  next_≈ : (f : FreeSum R) {w : Word} (r : Inversion w) → next f r ≈ rewritten P f (coeff f w) r
  unfolding next
  next_≈ f {w} r = ≈-of-eval (next f r) (rewritten P f a r) same-value
    where
      a : R.carrier
      a = coeff f w

      regroup : (x y z : R.carrier) → R.add (R.add x y) (R.add (R.neg x) z) ≡ R.add y z
      regroup x y z = ring.add_swap R x y (R.neg x) z ∙ ap (λ t. R.add t (R.add y z)) (ring.add-neg R x) ∙ ring.zero-add R (R.add y z)

      same-value : (φ : Word → R.carrier) → eval (next f r) φ ≡ eval (rewritten P f a r) φ
      same-value φ =
          eval-append (remove w f) (scale a (replaced P r)) φ
          ∙ ap (R.add (eval (remove w f) φ)) (eval-scale a (replaced P r) φ ∙ ap (R.mul a) (eval-replaced P r φ))
          ∙ sym (eval-rewritten P f a r φ ∙ ap (λ x. R.add x (R.add (R.neg (R.mul a (φ w))) (R.mul a (eval_at P r φ)))) (eval-remove w f φ) ∙ regroup _ _ _)

  next-words : (f : FreeSum R) {w : Word} (r : Inversion w) (t : Word) → Occurs t (next f r) → (Occurs t f × ¬ (t ≡ w)) ⊎ Reduct P t w
  unfolding next
  next-words f {w} r t o = go (occurs-append (remove w f) (scale (coeff f w) (replaced P r)) t o)
    where
      go : Occurs t (remove w f) ⊎ Occurs t (scale (coeff f w) (replaced P r)) → (Occurs t f × ¬ (t ≡ w)) ⊎ Reduct P t w
      go (inl a) = inl (occurs-remove w f t a)
      go (inr b) = inr (occurs-replaced P r t (occurs-scale (coeff f w) (replaced P r) t b))

  next_lowered : (f : FreeSum R) {w : Word} (r : Inversion w) → Occurs w f → Lowered P (words (next f r)) (words f)
  next_lowered f {w} r o = record { word = w; listed = occurs-words f w o; each = λ t l. go t (next-words f r t (words_occur (next f r) t l)) }
    where
      go : (t : Word) → (Occurs t f × ¬ (t ≡ w)) ⊎ Reduct P t w → (Listed t (words f) × ¬ (t ≡ w)) ⊎ Below P t w
      go t (inl a) = inl (occurs-words f t a.0, a.1)
      go t (inr b) = inr (below_one b)

module _ {R : CommutativeRing} (P : Relations R) (ends : WellFounded (Below P)) (tails : TailsOver P) where
  next-over : (f : FreeSum R) {w : Word} (r : Inversion w) → Occurs w f → OverSum P.n f → OverSum P.n (next P f r)
  next-over f {w} r o over t h = elim (next-words P f r t h) [ inl a ↦ over t a.0 | inr b ↦ reduct_over P tails t w b (over w o) ]

  run : {ws : List Word} → Acc (Lowered P) ws → (f : FreeSum R) → words f ≡ ws → OverSum P.n f → Standardised P f
  run (Acc.intro ws h) f e over = go (λ g l o. run (h (words g) (subst (Lowered P (words g)) e l)) g refl o) (search_word f)
    where
      go : ((g : FreeSum R) → Lowered P (words g) (words f) → OverSum P.n g → Standardised P g) → Search f → Standardised P f
      go rest (none s) = record { sum = f; standard = s; rewriting = done (λ w. refl); whole = tt }
      go rest (found w o r) =
          let k = rest (next P f r) (next_lowered P f r o) (next-over f r o over) in
          let s : Rewrite P f (next P f r) = record { word = w; over = over w o; inversion = r; taken = coeff f w; becomes = next_≈ P f r } in
          record { sum = k.sum; standard = k.standard; rewriting = then s k.rewriting; whole = (refl, k.whole) }

  pub standardise : (f : FreeSum R) → OverSum P.n f → Standardised P f
  standardise f over = run (lowered_ends P ends (words f)) f refl over
