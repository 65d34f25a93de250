-- Rewriting: an inversion in a term of a free sum is replaced by its relation, one after another.
use Rattle.std.specs.Prelude.{◌≡◌, ◌++◌}
use Rattle.theory.specs.Ring.{CommutativeRing}
use Rattle.theory.specs.FreeSum.{Word, place, FreeSum, Occurs, coeff, ◌≈◌, single, scale, negate, around}
use Rattle.theory.specs.Words.{Standard, Over, Inversion, AllStandard}
use Rattle.theory.specs.Relations.{Relations, rhs}

module _ {R : CommutativeRing} where
  -- nothing is left to rewrite: each word that is not standard has the coefficient zero
  abbrev pub Ended : FreeSum R → Type 0
  Ended g = (w : Word) → ¬ Standard w → coeff g w ≡ R.zero

module _ {R : CommutativeRing} (P : Relations R) where
  -- what the word comes to when it is rewritten at r
  abbrev pub replaced : {w : Word} → Inversion w → FreeSum R
  replaced r = around r.before (rhs P r.j r.i) r.after

  -- x is one of the words that w comes to when it is rewritten at one inversion
  pub record Reduct (x w : Word) : Type 0 where
    pub inversion : Inversion w
    pub part : Word
    pub occurs : Occurs part (rhs P inversion.j inversion.i)
    pub made : x ≡ place inversion.before part inversion.after

  -- the transitive closure
  pub data Below : Word → Word → Type 0 where
    below_one : {x w : Word} → Reduct x w → Below x w
    below_more : {x y w : Word} → Below x y → Reduct y w → Below x w

  -- f with a times the word w taken away and a times what it comes to at r added
  unfoldable pub rewritten : FreeSum R → R.carrier → {w : Word} → Inversion w → FreeSum R
  rewritten f a {w} r = f ++ (scale a (negate (single w)) ++ scale a (replaced r))

  -- one step, at an inversion of a word in the letters 1 to n; it may take a part of the word's coefficient
  pub record Rewrite (f g : FreeSum R) : Type 0 where
    pub word : Word
    pub over : Over P.n word
    pub inversion : Inversion word
    pub taken : R.carrier
    pub becomes : g ≈ rewritten f taken inversion

  -- it takes the whole collected coefficient
  abbrev pub Whole : {f g : FreeSum R} → Rewrite f g → Type 0
  Whole {f} s = s.taken ≡ coeff f s.word

  -- any number of steps, one after another
  pub data Rewriting : FreeSum R → FreeSum R → Type 0 where
    done : {f g : FreeSum R} → f ≈ g → Rewriting f g
    then : {f g h : FreeSum R} → Rewrite f g → Rewriting g h → Rewriting f h

  abbrev pub AllWhole : {f g : FreeSum R} → Rewriting f g → Type 0
  AllWhole (done e) = Unit {0}
  AllWhole (then s t) = Whole s × AllWhole t

  -- a rewriting of f, by whole steps, that ends in standard words
  pub record Standardised (f : FreeSum R) : Type 0 where
    pub sum : FreeSum R
    pub standard : AllStandard sum
    pub rewriting : Rewriting f sum
    pub whole : AllWhole rewriting

  -- a whole step at a word whose coefficient is not zero
  pub record Active (g f : FreeSum R) : Type 0 where
    pub step : Rewrite f g
    pub whole : Whole step
    pub present : ¬ (coeff f step.word ≡ R.zero)
