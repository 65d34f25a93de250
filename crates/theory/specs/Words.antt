-- Standard words, words in the letters 1 to n, neighbouring inversions, and the leftmost of them.
use Rattle.std.specs.Prelude.{◌≡◌, refl, ◌⊎◌, [], ◌∷◌, ◌++◌, ℕ, ◌≤◌, ◌<◌}
use Rattle.std.proofs.Common.{ap, inl, inr, arith}
use Rattle.std.proofs.Math.Decide.{dec_le}
use Rattle.theory.specs.Ring.{CommutativeRing}
use Rattle.theory.specs.FreeSum.{Word, place, FreeSum, Occurs}

-- the letters of x w never fall
abbrev pub Rising : ℕ → Word → Type 0
Rising x [] = Unit {0}
Rising x (y ∷ w) = (x ≤ y) × Rising y w

-- the letters of the word never fall, from left to right
abbrev pub Standard : Word → Type 0
Standard [] = Unit {0}
Standard (x ∷ w) = Rising x w

-- the letters 1 to n, and the words in them
pub record Letter (n k : ℕ) : Type 0 where
  pub low : 1 ≤ k
  pub high : k ≤ n

abbrev pub Over : ℕ → Word → Type 0
Over n [] = Unit {0}
Over n (x ∷ w) = Letter n x × Over n w

module _ {R : CommutativeRing} where
  -- every word of the sum is in the letters 1 to n; every word of it is standard
  abbrev pub OverSum : ℕ → FreeSum R → Type 0
  OverSum n f = (t : Word) → Occurs t f → Over n t

  abbrev pub AllStandard : FreeSum R → Type 0
  AllStandard f = (t : Word) → Occurs t f → Standard t

-- a neighbouring inversion of w: w is `before` j i `after`, with i < j
pub record Inversion (w : Word) : Type 0 where
  pub before : Word
  pub j : ℕ
  pub i : ℕ
  pub after : Word
  pub split : w ≡ place before (j ∷ i ∷ []) after
  pub falls : i < j

-- it is the leftmost: up to its first letter the word is standard
abbrev pub First : (w : Word) → Inversion w → Type 0
First w r = Standard (r.before ++ (r.j ∷ []))

pub record Leftmost (w : Word) : Type 0 where
  pub inversion : Inversion w
  pub first : First w inversion

-- the search from the left; x is the letter before w
record Found (x : ℕ) (w : Word) : Type 0 where
  pub place_of : Leftmost (x ∷ w)
  pub rises : (y : ℕ) → y ≤ x → Standard (y ∷ (place_of.inversion.before ++ (place_of.inversion.j ∷ [])))

found_here : (x y : ℕ) (w : Word) → ¬ (x ≤ y) → Found x (y ∷ w)
unfolding place
found_here x y w n = record {
  place_of = record { inversion = record { before = []; j = x; i = y; after = w; split = refl; falls = omega arith }; first = tt };
  rises = λ z h. (h, tt);
}

found_later : (x y : ℕ) (w : Word) → x ≤ y → Found y w → Found x (y ∷ w)
unfolding place
found_later x y w h f =
    let r = f.place_of.inversion in
    record {
      place_of = record {
        inversion = record { before = x ∷ r.before; j = r.j; i = r.i; after = r.after; split = ap (λ s. x ∷ s) r.split; falls = r.falls };
        first = f.rises x h;
      };
      rises = λ z k. (k, f.rises x h);
    }

search_from : (x : ℕ) (w : Word) → Rising x w ⊎ Found x w
search_from x [] = inl tt
search_from x (y ∷ w) = go (dec_le x y) (search_from y w)
  where
    go : Dec (x ≤ y) → Rising y w ⊎ Found y w → Rising x (y ∷ w) ⊎ Found x (y ∷ w)
    go (no n) r = inr (found_here x y w n)
    go (yes h) (inl s) = inl (h, s)
    go (yes h) (inr f) = inr (found_later x y w h f)

-- a word is standard, or it has a leftmost inversion
pub leftmost : (w : Word) → Standard w ⊎ Leftmost w
leftmost [] = inl tt
leftmost (x ∷ w) = go (search_from x w)
  where
    go : Rising x w ⊎ Found x w → Standard (x ∷ w) ⊎ Leftmost (x ∷ w)
    go (inl s) = inl s
    go (inr f) = inr f.place_of
