-- What holds of all words: they are ordered, and standard words are those without inversions.
use Rattle.std.specs.Prelude.{◌≡◌, ℕ, suc, ◌<◌, true, List, length, take, Some, None, Decides, slice_index}
use Rattle.orders.specs.Laws.{StrictOrder}
use Rattle.orders.specs.Models.{OrderModel}
use Rattle.words.specs.Compare.{compare_words}
use Rattle.words.specs.Inversions.{inversions, standard, leftmost_inversion}

-- comparing words is a strict total order on all words
abbrev pub WordsOrdered : OrderModel → Type 0
WordsOrdered o = StrictOrder (λ _. Unit {0}) (compare_words o)

pub record StandardWords : Type 0 where
  -- a word is standard exactly where it has no inversion, and exactly where there is no leftmost one
  pub no_inversion : (w : List ℕ) → Decides (standard w) (inversions w ≡ 0)
  pub no_place : (w : List ℕ) → Decides (standard w) (leftmost_inversion w ≡ None)
  -- at the leftmost inversion the letters fall, and up to its left letter the word is standard
  pub place : (w : List ℕ) (k : ℕ) → leftmost_inversion w ≡ Some k → (suc k < length w) × (slice_index w (suc k) < slice_index w k) × (standard (take (suc k) w) ≡ true)
