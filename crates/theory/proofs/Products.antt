-- Congruence is kept by words on both sides, and so by products.
use mathlib.Core.Path.{◌≡◌, refl, sym, ap, ap₂, fun_ext, ◌∙◌}
use mathlib.Core.Logic.{inl, inr}
use mathlib.Core.List.{List, [], ◌∷◌, ◌++◌, append-nil}
use Rattle.theory.specs.Ring.{CommutativeRing}
use Rattle.theory.specs.FreeSum.{Word, place, FreeSum, Occurs, scale, around, bind, times}
use Rattle.theory.specs.Words.{Over, OverSum}
use Rattle.theory.specs.Relations.{Relations, rhs}
use Rattle.theory.specs.Congruence.{Multiple, multiple, combination, Congruent}
use Rattle.theory.proofs.Eval.{eval, eval-nil, eval-append, eval-around, eval-bind, eval-times, eval-exchange}
use Rattle.theory.proofs.Words.{over_join, place-place}
use Rattle.theory.proofs.Congruence.{eval-multiple, congruent-eval, congruent_of_eval, congruent_equal, congruent_trans, congruent-append, congruent-scale}

module _ {R : CommutativeRing} where
  -- a product by the words of one factor
  times-left : (f g : FreeSum R) (φ : Word → R.carrier) → eval (times f g) φ ≡ eval (bind f (λ x. around x g [])) φ
  unfolding place
  times-left f g φ =
      eval-times f g φ
      ∙ sym (eval-bind f (λ x. around x g []) φ ∙ ap (eval f) (fun_ext (λ x. eval-around x g [] φ ∙ ap (eval g) (fun_ext (λ y. ap (λ t. φ (x ++ t)) (append-nil y))))))

  times-right : (f g : FreeSum R) (φ : Word → R.carrier) → eval (times f g) φ ≡ eval (bind g (λ y. around [] f y)) φ
  unfolding place
  times-right f g φ =
      eval-times f g φ ∙ eval-exchange f g (λ x y. φ (x ++ y))
      ∙ sym (eval-bind g (λ y. around [] f y) φ ∙ ap (eval g) (fun_ext (λ y. eval-around [] f y φ)))

module _ {R : CommutativeRing} (P : Relations R) where
  -- congruence is kept by words on both sides
  around-multiple : (u v : Word) → Over P.n u → Over P.n v → Multiple P → Multiple P
  around-multiple u v ou ov m = record {
    by = m.by;
    before = u ++ m.before;
    j = m.j;
    i = m.i;
    after = m.after ++ v;
    pair = m.pair;
    over_before = over_join P.n u m.before ou m.over_before;
    over_after = over_join P.n m.after v m.over_after ov;
  }

  around-all : (u v : Word) → Over P.n u → Over P.n v → List (Multiple P) → List (Multiple P)
  around-all u v ou ov [] = []
  around-all u v ou ov (m ∷ l) = around-multiple u v ou ov m ∷ around-all u v ou ov l

  combination-around : (u v : Word) (ou : Over P.n u) (ov : Over P.n v) (l : List (Multiple P)) (φ : Word → R.carrier)
      → eval (combination P (around-all u v ou ov l)) φ ≡ eval (combination P l) (λ x. φ (place u x v))
  unfolding combination around-all around-multiple
  combination-around u v ou ov [] φ = eval-nil R φ ∙ sym (eval-nil R (λ x. φ (place u x v)))
  combination-around u v ou ov (m ∷ l) φ =
      eval-append (multiple P (around-multiple u v ou ov m)) (combination P (around-all u v ou ov l)) φ
      ∙ ap₂ R.add (eval-multiple P (around-multiple u v ou ov m) φ ∙ ap₂ (λ x y. R.mul m.by (R.add x (R.neg y))) (shift (m.j ∷ m.i ∷ []))
      (ap (eval (rhs P m.j m.i)) (fun_ext shift)) ∙ sym (eval-multiple P m (λ x. φ (place u x v)))) (combination-around u v ou ov l φ)
      ∙ sym (eval-append (multiple P m) (combination P l) (λ x. φ (place u x v)))
    where
      shift : (x : Word) → φ (place (u ++ m.before) x (m.after ++ v)) ≡ φ (place u (place m.before x m.after) v)
      shift x = ap φ (sym (place-place u m.before x m.after v))

  pub congruent-around : (u v : Word) → Over P.n u → Over P.n v → (f g : FreeSum R) → Congruent P f g → Congruent P (around u f v) (around u g v)
  congruent-around u v ou ov f g c =
      congruent_of_eval P (around u f v) (around u g v) (around-all u v ou ov c.by)
      (λ φ. eval-around u f v φ ∙ congruent-eval P f g c (λ x. φ (place u x v)) ∙ ap₂ R.add (sym (eval-around u g v φ)) (sym (combination-around u v ou ov c.by φ)))

  congruent-each : (f : FreeSum R) (k l : Word → FreeSum R) → ((t : Word) → Occurs t f → Congruent P (k t) (l t)) → Congruent P (bind f k) (bind f l)
  unfolding bind
  congruent-each [] k l h = congruent_equal P [] [] (λ φ. refl)
  congruent-each (e ∷ f) k l h =
      congruent-append P (scale e.coef (k e.word)) (scale e.coef (l e.word)) (bind f k) (bind f l)
      (congruent-scale P e.coef (k e.word) (l e.word) (h e.word (inl refl)))
      (congruent-each f k l (λ t o. h t (inr o)))

  -- and so by products with a sum in the letters 1 to n, on either side
  pub congruent-times-left : (f f' g : FreeSum R) → OverSum P.n g → Congruent P f f' → Congruent P (times f g) (times f' g)
  congruent-times-left f f' g o c =
      congruent_trans P (times f g) (bind g (λ y. around [] f y)) (times f' g) (congruent_equal P (times f g) (bind g (λ y. around [] f y)) (times-right f g))
      (congruent_trans P (bind g (λ y. around [] f y)) (bind g (λ y. around [] f' y)) (times f' g)
      (congruent-each g (λ y. around [] f y) (λ y. around [] f' y) (λ y h. congruent-around [] y tt (o y h) f f' c))
      (congruent_equal P (bind g (λ y. around [] f' y)) (times f' g) (λ φ. sym (times-right f' g φ))))

  pub congruent-times-right : (f g g' : FreeSum R) → OverSum P.n f → Congruent P g g' → Congruent P (times f g) (times f g')
  congruent-times-right f g g' o c =
      congruent_trans P (times f g) (bind f (λ x. around x g [])) (times f g') (congruent_equal P (times f g) (bind f (λ x. around x g [])) (times-left f g))
      (congruent_trans P (bind f (λ x. around x g [])) (bind f (λ x. around x g' [])) (times f g')
      (congruent-each f (λ x. around x g []) (λ x. around x g' []) (λ x h. congruent-around x [] (o x h) tt g g' c))
      (congruent_equal P (bind f (λ x. around x g' [])) (times f g') (λ φ. sym (times-left f g' φ))))

  pub congruent-times : (f f' g g' : FreeSum R) → OverSum P.n f' → OverSum P.n g → Congruent P f f' → Congruent P g g' → Congruent P (times f g) (times f' g')
  congruent-times f f' g g' of og c d = congruent_trans P (times f g) (times f' g) (times f' g') (congruent-times-left f f' g og c) (congruent-times-right f' g g' of d)
