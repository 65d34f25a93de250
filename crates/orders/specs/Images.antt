-- What the number in an image means: the eight letter counts.
use Rattle.std.specs.Prelude.{◌≡◌, ℕ, zero, suc, ◌/◌, ◌%◌, ◌^◌, List, [], ◌∷◌, length, refl}
use Rattle.orders.specs.Letters.{letter_count}
use Rattle.orders.specs.declared.image.Image.{Image}

-- the last k digits of a number in base 256, the highest first
abbrev pub bytes : ℕ → ℕ → List ℕ
bytes zero n = []
bytes (suc k) n = n / 256 ^ k % 256 ∷ bytes k n

-- the counts of x1, x2 and so on
unfoldable pub counts : Image → List ℕ
counts i = bytes letter_count i.packed

pub length-counts : (i : Image) → length (counts i) ≡ letter_count
unfolding counts
length-counts i = refl
