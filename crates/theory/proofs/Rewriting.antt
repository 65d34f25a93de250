-- Rewriting keeps a sum's class; and where the overlaps resolve it keeps the normal form, and ends nowhere else.
use mathlib.Core.Path.{◌≡◌, refl, sym, ap, ap₂, ◌∙◌}
use mathlib.Core.List.{◌++◌}
use mathlib.Core.WellFounded.{WellFounded}
use Rattle.theory.specs.Ring.{CommutativeRing}
use Rattle.theory.specs.FreeSum.{Word, FreeSum, ◌≈◌, single, scale, negate}
use Rattle.theory.specs.Words.{Over, Inversion}
use Rattle.theory.specs.Relations.{Relations, TailsOver}
use Rattle.theory.specs.Congruence.{Congruent}
use Rattle.theory.specs.Rewriting.{Ended, replaced, Below, rewritten, Rewriting, done, then}
use Rattle.theory.specs.NormalForm.{NF, Resolves}
use Rattle.theory.proofs.RingLaws as ring
use Rattle.theory.proofs.Eval.{eval, eval-append, eval-single, eval-scale, eval-negate}
use Rattle.theory.proofs.Equality.{eval_≈}
use Rattle.theory.proofs.Congruence.{congruent_≈, congruent_equal, congruent-sym, congruent_trans, congruent-append, congruent-scale, congruent-replaced}
use Rattle.theory.proofs.Standard.{only-standard, only-standard-standard, ended-only-standard}
use Rattle.theory.proofs.NormalForm.{value, eval_at, eval-replaced, NF_of_values, NF_≈, NF_of_standard}
use Rattle.theory.proofs.Diamond.{value_at, diamond}

module _ {R : CommutativeRing} (P : Relations R) where
  pub eval-rewritten : (f : FreeSum R) (a : R.carrier) {w : Word} (r : Inversion w) (φ : Word → R.carrier)
      → eval (rewritten P f a r) φ ≡ R.add (eval f φ) (R.add (R.neg (R.mul a (φ w))) (R.mul a (eval_at P r φ)))
  unfolding rewritten
  eval-rewritten f a {w} r φ =
      let g = replaced P r in
      eval-append f (scale a (negate (single w)) ++ scale a g) φ
      ∙ ap (R.add (eval f φ))
      (eval-append (scale a (negate (single w))) (scale a g) φ
      ∙ ap₂ R.add (eval-scale a (negate (single w)) φ ∙ ap (R.mul a) (eval-negate (single w) φ ∙ ap R.neg (eval-single R w φ))
      ∙ ring.mul-neg R a (φ w)) (eval-scale a g φ ∙ ap (R.mul a) (eval-replaced P r φ)))

  -- a step at a word that φ does not tell from what it comes to
  rewritten-value : (f : FreeSum R) (a : R.carrier) {w : Word} (r : Inversion w) (φ : Word → R.carrier) → φ w ≡ eval_at P r φ → eval (rewritten P f a r) φ ≡ eval f φ
  rewritten-value f a r φ e =
      let x = R.mul a (eval_at P r φ) in
      eval-rewritten f a r φ ∙ ap (λ y. R.add (eval f φ) (R.add (R.neg (R.mul a y)) x)) e ∙ ap (R.add (eval f φ)) (ring.neg-add_self R x) ∙ ring.add-zero R (eval f φ)

  pub rewriting-value : (φ : Word → R.carrier) → ((w : Word) → Over P.n w → (r : Inversion w) → φ w ≡ eval_at P r φ) → {f g : FreeSum R} → Rewriting P f g → eval f φ ≡ eval g φ
  rewriting-value φ h (done {f = f} {g = g} e) = eval_≈ f g e φ
  rewriting-value φ h (then {f = f} {g = g} s t) =
      sym (eval_≈ g (rewritten P f s.taken s.inversion) s.becomes φ ∙ rewritten-value f s.taken s.inversion φ (h s.word s.over s.inversion))
      ∙ rewriting-value φ h t

  -- rewriting keeps the class in the quotient
  rewritten-congruent : (f : FreeSum R) (a : R.carrier) (w : Word) → Over P.n w → (r : Inversion w) → Congruent P (rewritten P f a r) f
  unfolding rewritten
  rewritten-congruent f a w over r =
      congruent_trans P (f ++ (out ++ scale a g)) (f ++ (out ++ scale a (single w))) f
      (congruent-append P f f (out ++ scale a g) (out ++ scale a (single w)) (congruent_equal P f f (λ φ. refl))
      (congruent-append P out out (scale a g) (scale a (single w)) (congruent_equal P out out (λ φ. refl))
      (congruent-scale P a g (single w) (congruent-sym P (single w) g (congruent-replaced P w over r)))))
      (congruent_equal P (f ++ (out ++ scale a (single w))) f same-value)
    where
      g : FreeSum R
      g = replaced P r

      out : FreeSum R
      out = scale a (negate (single w))

      same-value : (φ : Word → R.carrier) → eval (f ++ (out ++ scale a (single w))) φ ≡ eval f φ
      same-value φ =
          eval-append f (out ++ scale a (single w)) φ
          ∙ ap (R.add (eval f φ))
          (eval-append out (scale a (single w)) φ
          ∙ ap₂ R.add (eval-scale a (negate (single w)) φ ∙ ap (R.mul a) (eval-negate (single w) φ) ∙ ring.mul-neg R a _) (eval-scale a (single w) φ)
          ∙ ring.neg-add_self R _)
          ∙ ring.add-zero R (eval f φ)

  pub rewriting-congruent : {f g : FreeSum R} → Rewriting P f g → Congruent P f g
  rewriting-congruent (done {f = f} {g = g} e) = congruent_≈ P f g e
  rewriting-congruent (then {f = f} {g = g} {h = h} s t) =
      let k = rewritten P f s.taken s.inversion in
      congruent_trans P f k h (congruent-sym P k f (rewritten-congruent f s.taken s.word s.over s.inversion))
      (congruent_trans P k g h (congruent_≈ P k g (λ w. sym (s.becomes w))) (rewriting-congruent t))

module _ {R : CommutativeRing} (P : Relations R) (ends : WellFounded (Below P)) (tails : TailsOver P) (res : Resolves P ends) where
  pub rewriting-NF : (f g : FreeSum R) → Rewriting P f g → NF P ends f ≈ NF P ends g
  unfolding value_at
  rewriting-NF f g t = NF_of_values P ends f g (λ φ. rewriting-value P (value P ends φ) (diamond P ends tails res φ) t)

  pub rewriting_ends : (f g : FreeSum R) → Rewriting P f g → Ended g → g ≈ NF P ends f
  rewriting_ends f g t h w =
      let s = only-standard g in
      let e = ended-only-standard g h in
      e w ∙ sym (rewriting-NF f g t w ∙ NF_≈ P ends g s e w ∙ NF_of_standard P ends s (only-standard-standard g) w)
