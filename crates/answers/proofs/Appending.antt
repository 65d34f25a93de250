-- What is appended by the writer of letters.
use Rattle.std.proofs.Common.{◌≡◌, ℕ, ◌+◌, ◌<◌, true, cond, List, [], ◌∷◌, length, get_or, drop, ap, ◌∙◌}
use Rattle.std.proofs.lemmas.List.{at_drop_more}
use Rattle.orders.specs.Letters.{is_letter, letters}

-- the letters from place i on, where the next is one
pub letters-more : (row : List ℕ) (i : ℕ) → i < length row → is_letter (get_or row i 0) ≡ true → letters (drop i row) ≡ get_or row i 0 ∷ letters (drop (i + 1) row)
letters-more row i l h = at_drop_more letters row i 0 l ∙ ap (λ t. cond t (get_or row i 0 ∷ letters (drop (i + 1) row)) []) h
