-- Rows that are filled letter by letter, and the letters of a row that holds a word.
use Rattle.std.proofs.Common.{◌≡◌, ℕ, suc, ◌+◌, ◌-◌, ◌<◌, true, ◌&&◌, eqb, leb, List, [], ◌∷◌, ◌++◌, length, map, take, get_or, set, replicate, sym, refl, ap, ◌∙◌, arith, ⊎_elim, append_assoc}
use Rattle.std.proofs.lemmas.List.{map_more, length-map, length-take-le}
use Rattle.std.proofs.lemmas.Bool.{cases_Bool, and_parts, eqb-true, le-leb}
use Rattle.std.proofs.Math.Seq.{set-append_seam, take-length}
use Rattle.std.specs.List.{list_all}
use Rattle.orders.specs.declared.letter.Letter.{Letter}
use Rattle.orders.specs.Letters.{letters, is_letter}
use Rattle.words.specs.Rows.{is_row, all_zero, row_of}
use Rattle.relations.specs.Declare.{letters_to}

-- the first k of the letters, then zeros
abbrev pub filled : List Letter → ℕ → List ℕ
filled xs k = map (λ x. x.number) (take k xs) ++ replicate (32 - k) 0

pub filled-more : (xs : List Letter) (k : ℕ) (x : Letter) (n : ℕ) → k < length xs → k < 32 → x ≡ get_or xs k x → n ≡ x.number → set (filled xs k) k n ≡ filled xs (k + 1)
filled-more xs k x n h l e f =
    let front : List ℕ = map (λ (x : Letter). x.number) (take k xs) in
    let rest : List ℕ = replicate (32 - (k + 1)) 0 in
    let size : length front ≡ k = length-map (take k xs) (λ (x : Letter). x.number) ∙ length-take-le k xs (omega arith) in
    let room : 32 - k ≡ suc (32 - (k + 1)) = omega arith in
    let next : n ≡ (get_or xs k x).number = f ∙ ap (λ (x : Letter). x.number) e in
    ap (λ j. set (front ++ replicate j 0) k n) room
    ∙ ap (λ j. set (front ++ 0 ∷ rest) j n) (sym size)
    ∙ set-append_seam front 0 rest n
    ∙ sym (append_assoc front (n ∷ []) rest)
    ∙ ap (λ j. (front ++ j ∷ []) ++ rest) next
    ∙ ap (λ ys. ys ++ rest) (sym (map_more (λ (x : Letter). x.number) xs k x h))

pub filled-all : (xs : List Letter) → filled xs (length xs) ≡ row_of (map (λ x. x.number) xs)
filled-all xs =
    ap (λ ys. map (λ (x : Letter). x.number) ys ++ replicate (32 - length xs) 0) (take-length xs)
    ∙ ap (λ j. map (λ (x : Letter). x.number) xs ++ replicate (32 - j) 0) (sym (length-map xs (λ (x : Letter). x.number)))

pub all-letters : (n : ℕ) (w : List ℕ) → list_all (λ x. leb x n) w ≡ letters_to n w
all-letters n [] = refl
all-letters n (x ∷ w) = ap (λ b. leb x n && b) (all-letters n w)
