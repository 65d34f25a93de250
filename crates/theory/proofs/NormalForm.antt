-- Normal forms: that of a word unfolds at its leftmost inversion and has standard words only; that of a sum is linear.
use mathlib.Core.Path.{◌≡◌, refl, sym, ap, ap₂, subst, ◌∙◌}
use mathlib.Core.Logic.{◌⊎◌, inl, inr}
use mathlib.Core.List.{[], ◌∷◌, ◌++◌}
use mathlib.Core.WellFounded.{WellFounded, fix-eq, recursion}
use Rattle.theory.specs.Ring.{CommutativeRing}
use Rattle.theory.specs.FreeSum.{Word, place, FreeSum, Occurs, ◌≈◌, single, scale, negate, bind}
use Rattle.theory.specs.Words.{Standard, Inversion, First, Leftmost, leftmost, AllStandard}
use Rattle.theory.specs.Relations.{Relations, rhs}
use Rattle.theory.specs.Rewriting.{replaced, Reduct, Below, below_one}
use Rattle.theory.specs.NormalForm.{bind_in, nf_at, nf, NF}
use Rattle.theory.proofs.Eval.{eval, eval-append, eval-scale, eval-negate, eval-around, eval-bind, eval-single, eval_cong}
use Rattle.theory.proofs.Equality.{eval_≈, ≈-of-eval}
use Rattle.theory.proofs.Occurs.{occurs-around, occurs-bind, occurs-single}
use Rattle.theory.proofs.Words.{standard-no_inversion, leftmost-same}

module _ {R : CommutativeRing} where
  bind_in-bind : (f : FreeSum R) (k : Word → FreeSum R) → bind_in f (λ t o. k t) ≡ bind f k
  unfolding bind bind_in
  bind_in-bind [] k = refl
  bind_in-bind (e ∷ f) k = ap (λ g. scale e.coef (k e.word) ++ g) (bind_in-bind f k)

-- the value of what a word comes to when it is rewritten at r
abbrev pub eval_at : {R : CommutativeRing} (P : Relations R) {w : Word} → Inversion w → (Word → R.carrier) → R.carrier
eval_at P r φ = eval (rhs P r.j r.i) (λ x. φ (place r.before x r.after))

-- its normal form
abbrev pub nf_replaced : {R : CommutativeRing} (P : Relations R) (ends : WellFounded (Below P)) {w : Word} → Inversion w → FreeSum R
nf_replaced P ends r = bind (rhs P r.j r.i) (λ t. nf P ends (place r.before t r.after))

pub eval-replaced : {R : CommutativeRing} (P : Relations R) {w : Word} (r : Inversion w) (φ : Word → R.carrier) → eval (replaced P r) φ ≡ eval_at P r φ
eval-replaced P r φ = eval-around r.before (rhs P r.j r.i) r.after φ

pub occurs-replaced : {R : CommutativeRing} (P : Relations R) {w : Word} (r : Inversion w) (t : Word) → Occurs t (replaced P r) → Reduct P t w
occurs-replaced P r t o = let x = occurs-around r.before (rhs P r.j r.i) r.after t o in record { inversion = r; part = x.0; occurs = x.1; made = x.2 }

module _ {R : CommutativeRing} (P : Relations R) (ends : WellFounded (Below P)) where
  -- a standard word is its own normal form, and any other is rewritten at its leftmost inversion
  data Unfolds (w : Word) : Type 0 where
    stands : Standard w → nf P ends w ≡ single w → Unfolds w
    falls : (r : Inversion w) → First w r → nf P ends w ≡ nf_replaced P ends r → Unfolds w

  nf_unfolds : (w : Word) → Unfolds w
  unfolding nf nf_at
  nf_unfolds w = go (leftmost w) (fix-eq ends (λ w smaller. nf_at P w (leftmost w) smaller) w)
    where
      go : (d : Standard w ⊎ Leftmost w) → nf P ends w ≡ nf_at P w d (λ y _. nf P ends y) → Unfolds w
      go (inl s) e = stands s e
      go (inr l) e = falls l.inversion l.first (e ∙ bind_in-bind (rhs P l.inversion.j l.inversion.i) (λ t. nf P ends (place l.inversion.before t l.inversion.after)))

  pub nf-standard : (w : Word) → Standard w → nf P ends w ≡ single w
  nf-standard w s = go (nf_unfolds w)
    where
      go : Unfolds w → nf P ends w ≡ single w
      go (stands _ e) = e
      go (falls r _ e) = absurd (standard-no_inversion w s r)

  pub nf_first : (w : Word) (r : Inversion w) → First w r → nf P ends w ≡ nf_replaced P ends r
  nf_first w r f = go (nf_unfolds w)
    where
      go : Unfolds w → nf P ends w ≡ nf_replaced P ends r
      go (stands s _) = absurd (standard-no_inversion w s r)
      go (falls l h e) =
          let k = leftmost-same w l r h f in
          e ∙ (λ m. bind (rhs P (k.1 m) (k.2 m)) (λ t. nf P ends (place (k.0 m) t (k.3 m))))

  -- the words of a normal form are standard, and what passes on from a word to its reducts holds of them
  pub nf-words : (Q : Word → Type 0) → ((x w : Word) → Reduct P x w → Q w → Q x) → (w : Word) → Q w → (t : Word) → Occurs t (nf P ends w) → Standard t × Q t
  nf-words Q pass w = recursion ends {C = λ w. Q w → (t : Word) → Occurs t (nf P ends w) → Standard t × Q t} w (λ w ih q t o. go w ih q t o (leftmost w))
    where
      go : (w : Word) → ((y : Word) → Below P y w → Q y → (t : Word) → Occurs t (nf P ends y) → Standard t × Q t) → Q w → (t : Word)
          → Occurs t (nf P ends w) → Standard w ⊎ Leftmost w → Standard t × Q t
      go w ih q t o (inl s) = subst (λ x. Standard x × Q x) (sym (occurs-single R t w (subst (Occurs t) (nf-standard w s) o))) (s, q)
      go w ih q t o (inr l) =
          let r = l.inversion in
          let h = occurs-bind (rhs P r.j r.i) (λ x. nf P ends (place r.before x r.after)) t (subst (Occurs t) (nf_first w r l.first) o) in
          let s : Reduct P (place r.before h.0 r.after) w = record { inversion = r; part = h.0; occurs = h.1; made = refl } in
          ih (place r.before h.0 r.after) (below_one s) (pass (place r.before h.0 r.after) w s q) t h.2

-- the value of a word's normal form
unfoldable pub value : {R : CommutativeRing} (P : Relations R) → WellFounded (Below P) → (Word → R.carrier) → Word → R.carrier
value P ends φ w = eval (nf P ends w) φ

module _ {R : CommutativeRing} (P : Relations R) (ends : WellFounded (Below P)) where
  pub value-standard : (φ : Word → R.carrier) (w : Word) → Standard w → value P ends φ w ≡ φ w
  unfolding value
  value-standard φ w s = ap (λ f. eval f φ) (nf-standard P ends w s) ∙ eval-single R w φ

  pub value_first : (φ : Word → R.carrier) (w : Word) (r : Inversion w) → First w r → value P ends φ w ≡ eval_at P r (value P ends φ)
  unfolding value
  value_first φ w r h = ap (λ f. eval f φ) (nf_first P ends w r h) ∙ eval-bind (rhs P r.j r.i) (λ t. nf P ends (place r.before t r.after)) φ

  pub eval-nf : (w : Word) (φ : Word → R.carrier) → eval (nf P ends w) φ ≡ value P ends φ w
  unfolding value
  eval-nf w φ = refl

  pub eval-NF : (f : FreeSum R) (φ : Word → R.carrier) → eval (NF P ends f) φ ≡ eval f (value P ends φ)
  unfolding NF value
  eval-NF f φ = eval-bind f (nf P ends) φ

  -- equal values of two sums at the values of normal forms
  pub NF_of_values : (f g : FreeSum R) → ((φ : Word → R.carrier) → eval f (value P ends φ) ≡ eval g (value P ends φ)) → NF P ends f ≈ NF P ends g
  NF_of_values f g h = ≈-of-eval (NF P ends f) (NF P ends g) (λ φ. eval-NF f φ ∙ h φ ∙ sym (eval-NF g φ))

  pub NF_≈ : (f g : FreeSum R) → f ≈ g → NF P ends f ≈ NF P ends g
  NF_≈ f g h = NF_of_values f g (λ φ. eval_≈ f g h (value P ends φ))

  pub NF_first : (w : Word) (r : Inversion w) → First w r → NF P ends (single w) ≈ NF P ends (replaced P r)
  NF_first w r h = NF_of_values (single w) (replaced P r) (λ φ. eval-single R w (value P ends φ) ∙ value_first φ w r h ∙ sym (eval-replaced P r (value P ends φ)))

  pub NF-append : (f g : FreeSum R) → NF P ends (f ++ g) ≈ NF P ends f ++ NF P ends g
  NF-append f g =
      ≈-of-eval (NF P ends (f ++ g)) (NF P ends f ++ NF P ends g)
      (λ φ. eval-NF (f ++ g) φ ∙ eval-append f g (value P ends φ) ∙ sym (eval-append (NF P ends f) (NF P ends g) φ ∙ ap₂ R.add (eval-NF f φ) (eval-NF g φ)))

  pub NF-scale : (r : R.carrier) (f : FreeSum R) → NF P ends (scale r f) ≈ scale r (NF P ends f)
  NF-scale r f =
      ≈-of-eval (NF P ends (scale r f)) (scale r (NF P ends f))
      (λ φ. eval-NF (scale r f) φ ∙ eval-scale r f (value P ends φ) ∙ sym (eval-scale r (NF P ends f) φ ∙ ap (R.mul r) (eval-NF f φ)))

  pub NF-negate : (f : FreeSum R) → NF P ends (negate f) ≈ negate (NF P ends f)
  NF-negate f =
      ≈-of-eval (NF P ends (negate f)) (negate (NF P ends f))
      (λ φ. eval-NF (negate f) φ ∙ eval-negate f (value P ends φ) ∙ sym (eval-negate (NF P ends f) φ ∙ ap R.neg (eval-NF f φ)))

  pub NF-standard : (f : FreeSum R) → AllStandard (NF P ends f)
  unfolding NF
  NF-standard f t o = let h = occurs-bind f (nf P ends) t o in (nf-words P ends (λ _. Unit {0}) (λ _ _ _ _. tt) h.0 tt t h.2).0

  -- a sum of standard words is its own normal form
  pub NF_of_standard : (s : FreeSum R) → AllStandard s → NF P ends s ≈ s
  NF_of_standard s h = ≈-of-eval (NF P ends s) s (λ φ. eval-NF s φ ∙ eval_cong s (value P ends φ) φ (λ x o. value-standard φ x (h x o)))
