-- The lines of an input, one after another.
use Rattle.std.proofs.Common.{◌≡◌, ℕ, suc, ◌+◌, ◌<◌, ◌≤◌, min, ◌≢◌, Bool, true, false, cond, eqb, leb, List, [], ◌∷◌, ◌++◌, length, take, drop, sym, refl, ap, ◌∙◌, add-one, one-add, arith}
use Rattle.std.proofs.Math.Seq.{drop-nil}
use Rattle.std.proofs.lemmas.List.{append_assoc, append-nil, drop-drop}
use Rattle.std.proofs.lemmas.Bool.Decides.{nat_tests}
use Rattle.answers.specs.Answers.{answer_bytes, refused}
use Rattle.answers.specs.declared.fault.ScriptFault.TheVariants.{Form}
use Rattle.grammar.specs.declared.fault.FormFault.TheVariants.{TooLong}
use Rattle.session.specs.State.{State, start}
use Rattle.session.specs.Transcript.{lines, line_length, put_first, answers, line_turn, transcript}

lines_first : (b : ℕ) (bs : List ℕ) → lines (b ∷ bs) ≡ take (line_length (b ∷ bs)) (b ∷ bs) ∷ lines (drop (suc (line_length (b ∷ bs))) (b ∷ bs))
unfolding lines
lines_first b [] = go (eqb b 10)
  where
    go : (t : Bool) → cond t ([] ∷ []) (put_first b []) ≡ take (cond t 0 (1 + 0)) (b ∷ []) ∷ lines (drop (suc (cond t 0 (1 + 0))) (b ∷ []))
    go true = refl
    go false = refl
lines_first b (x ∷ bs) = go (eqb b 10) (lines_first x bs)
  where
    go : (t : Bool) → lines (x ∷ bs) ≡ take (line_length (x ∷ bs)) (x ∷ bs) ∷ lines (drop (suc (line_length (x ∷ bs))) (x ∷ bs)) → cond t ([] ∷ lines (x ∷ bs)) (put_first b (lines (x ∷ bs))) ≡ take (cond t 0 (1 + line_length (x ∷ bs))) (b ∷ (x ∷ bs)) ∷ lines (drop (suc (cond t 0 (1 + line_length (x ∷ bs)))) (b ∷ (x ∷ bs)))
    go true h = refl
    go false h = rw (one-add (line_length (x ∷ bs))) (ap (put_first b) h)

-- the first line and what follows it
pub next_line : (bs front back : List ℕ) (n k : ℕ) → 0 < length bs → n ≡ line_length bs → front ≡ take n bs → back ≡ drop n bs → k ≡ min (length back) 1 → lines bs ≡ front ∷ lines (drop k back)
next_line [] front back n k h e f b m = absurd (omega arith)
next_line (c ∷ bs) front back n k h e f b m =
    let all = c ∷ bs in
    lines_first c bs
    ∙ ap (λ i. take i all ∷ lines (drop (suc i) all)) (sym e)
    ∙ ap (λ i. take n all ∷ lines (drop i all)) (sym (add-one n))
    ∙ ap (λ l. take n all ∷ lines l) (sym (drop-drop 1 n all) ∙ ap (drop 1) (sym b) ∙ sym (drop_one back k m))
    ∙ ap (λ l. l ∷ lines (drop k back)) (sym f)
  where
    drop_one : (l : List ℕ) (i : ℕ) → i ≡ min (length l) 1 → drop i l ≡ drop 1 l
    drop_one [] i p = drop-nil i
    drop_one (x ∷ l) i p = let one : i ≡ 1 = omega arith in ap (λ j. drop j (x ∷ l)) one

pub no_lines : (bs : List ℕ) → length bs ≡ 0 → lines bs ≡ []
unfolding lines
no_lines [] h = refl
no_lines (b ∷ bs) h = absurd (omega arith)

-- there are no more lines than bytes
pub length_lines : (bs : List ℕ) → length (lines bs) ≤ length bs
unfolding lines
length_lines [] = omega arith
length_lines (b ∷ bs) = go (eqb b 10) (length_lines bs)
  where
    put : (ls : List (List ℕ)) → length (put_first b ls) ≤ length ls + 1
    put [] = omega arith
    put (l ∷ ls) = omega arith

    go : (t : Bool) → length (lines bs) ≤ length bs → length (cond t ([] ∷ lines bs) (put_first b (lines bs))) ≤ length (b ∷ bs)
    go true h = omega arith
    go false h = omega (arith, put (lines bs))

-- a line ends at the first byte 10
pub line_length_end : (b : ℕ) (bs : List ℕ) → b ≡ 10 → line_length (b ∷ bs) ≡ 0
line_length_end b bs h = grind (arith, nat_tests)

pub line_length_more : (b : ℕ) (bs : List ℕ) → b ≢ 10 → line_length (b ∷ bs) ≡ line_length bs + 1
line_length_more b bs h = grind (arith, nat_tests)

-- one line more is answered
pub one_more : (ls more : List (List ℕ)) (line out out' : List ℕ) (k : ℕ) (s s' : State) → ls ≡ line ∷ more
    → out' ≡ out ++ (answer_bytes k (line_turn s line).answer ++ (10 ∷ [])) → s' ≡ (line_turn s line).after
    → out' ++ answers (k + 1) s' more ≡ out ++ answers k s ls
unfolding answers
one_more ls more line out out' k s s' first o t =
    let now : List ℕ = answer_bytes k (line_turn s line).answer ++ (10 ∷ []) in
    ap (λ x. x ++ answers (k + 1) s' more) o
    ∙ ap (λ u. (out ++ now) ++ answers (k + 1) u more) t
    ∙ append_assoc out now (answers (k + 1) (line_turn s line).after more)
    ∙ sym (ap (λ l. out ++ answers k s l) first)

pub none_left : (ls : List (List ℕ)) (out : List ℕ) (k : ℕ) (s : State) → ls ≡ [] → out ++ answers k s ls ≡ out
unfolding answers
none_left ls out k s e = ap (λ l. out ++ answers k s l) e ∙ append-nil out

-- by its length, an input is refused whole or answered line by line
pub too_long : (input : List ℕ) → 65536 < length input → transcript input ≡ answer_bytes 0 (refused (Form TooLong)) ++ (10 ∷ [])
unfolding transcript
too_long input h = let f : leb (length input) 65536 ≡ false = grind (arith, nat_tests) in rw f

pub not_too_long : (input : List ℕ) → length input ≤ 65536 → transcript input ≡ answers 1 start (lines input)
unfolding transcript
not_too_long input h = let f : leb (length input) 65536 ≡ true = grind (arith, nat_tests) in rw f
