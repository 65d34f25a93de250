-- Expressions: what is written is read where its brackets are not too deep, and refused as too deep where they are; what is read was written.
use Rattle.std.proofs.Common.{◌≡◌, ℕ, zero, suc, ◌+◌, ◌-◌, ◌<◌, ◌≤◌, Bool, true, false, cond, eqb, ◌⊎◌, List, [], ◌∷◌, ◌++◌, length, Some, None, Ok, Err, decimal, Option, sym, refl, ap, ◌∙◌, subst, inl, inr, ⊎_elim, append_assoc, arith, length-append}
use Rattle.std.proofs.lemmas.Bool.Decides.{nat_tests}
use Rattle.grammar.specs.declared.fault.ReadFault.TheVariants.{DeepBracket}
use Rattle.grammar.specs.declared.bytes.Next.TheVariants.{Part, End}
use Rattle.grammar.specs.declared.piece.Operator.{Operator}
use Rattle.grammar.specs.declared.piece.Operator.TheVariants.{Sum, Product, Difference}
use Rattle.grammar.specs.Reading.{Reads, and_then, read_atom, read_next, generator_of}
use Rattle.grammar.specs.Expressions.{Expr, generator, coefficient, apply, Operands, first, next, operator_of, joined_by, sign, write, write_all}
use Rattle.grammar.specs.ExpressionReader.{read_expr, read_more, read_inner, read_leaf, read_operator, by_open, starts_open, leaf, generator_or, may_end, may_go_on}
use Rattle.grammar.specs.Grammar.{plain, Arity, Fine, FineAll, depth, depth_all}
use Rattle.grammar.proofs.Nesting.{at_leaf, too_deep, inner_goes, inner_first, more-end, more-part}
use Rattle.grammar.proofs.Numbers.{number_writes}
use Rattle.grammar.proofs.Chains.{linked, chosen}
use Rattle.grammar.proofs.Leaves.{Ends, atom_read, atom_sound, decimal_plain, no_generator, none_generator, generator-written}
use Rattle.grammar.proofs.Writings.{next_ways, next-written, moved}

-- no more operands than the operator can have
abbrev pub Few : Operator → ℕ → Type 0
Few Sum k = Unit {0}
Few Product k = Unit {0}
Few Difference k = k ≤ 1

pub arity_few : (o : Operator) (k : ℕ) → Arity o k → Few o k
arity_few Sum k h = tt
arity_few Product k h = tt
arity_few Difference k h = omega arith

pub few-before : (o : Operator) (k : ℕ) → Few o (k + 1) → Few o k
few-before Sum k h = tt
few-before Product k h = tt
few-before Difference k h = omega arith

pub goes_on : (o : Operator) (k : ℕ) → Few o (k + 1) → may_go_on o k ≡ true
goes_on Sum k h = refl
goes_on Product k h = refl
goes_on Difference k h = grind (arith, nat_tests)

ends : (o : Operator) (k : ℕ) → Arity o k → may_end o k ≡ true
ends Sum k h = refl
ends Product k h = refl
ends Difference k h = grind (arith, nat_tests)

ended : (o : Operator) (k : ℕ) → may_end o k ≡ true → Arity o k
ended Sum k h = tt
ended Product k h = tt
ended Difference k h = grind (arith, nat_tests)

closed : (a rest : List ℕ) → plain a ≡ true → 0 < length a → starts_open (a ++ rest) ≡ false
closed [] rest p h = absurd (omega arith)
closed (b ∷ a) rest p h = grind (arith, nat_tests)

leaf-read : (e : Expr) (a rest : List ℕ) (d : ℕ) → plain a ≡ true → 0 < length a → leaf a ≡ e → Ends rest → read_expr d (a ++ rest) ≡ Ok (e, rest)
leaf-read e a rest d p h l t =
    at_leaf d (a ++ rest) (closed a rest p h)
    ∙ ap (λ x. and_then x (λ q. Ok (leaf q.0, q.1))) (atom_read a rest p h t)
    ∙ ap (λ x. Ok (x, rest)) l

pub signed : (o : Operator) (bs : List ℕ) → Ok (o, bs) ≡ read_operator (sign o ∷ (32 ∷ bs))
signed Sum bs = refl
signed Product bs = refl
signed Difference bs = refl

below : (a rest : List ℕ) (n : ℕ) → suc (length (a ++ rest)) ≤ n → length rest ≤ n - 1
below a rest n h = omega (arith, length-append a rest)

-- what a bracket opens
pub opening : (os : Operands) → (t : List ℕ) × (write_all os ≡ 40 ∷ t)
unfolding write
opening (first o e) = (sign o ∷ (32 ∷ write e), refl)
opening (next os e) = let i = opening os in (i.0 ++ (32 ∷ write e), ap (λ l. l ++ (32 ∷ write e)) i.1)

pub deep_at_once : (os : Operands) (rest : List ℕ) → read_expr 0 (write_all os ++ rest) ≡ Err DeepBracket
deep_at_once os rest = let i = opening os in too_deep 0 (write_all os ++ rest) (i.0 ++ rest) (ap (λ l. l ++ rest) i.1) refl

-- read whole, or too deep
abbrev pub Whole : Expr → ℕ → List ℕ → Type 0
Whole e d rest = ((depth e ≤ d) × (read_expr d (write e ++ rest) ≡ Ok (e, rest))) ⊎ ((d < depth e) × (read_expr d (write e ++ rest) ≡ Err DeepBracket))

abbrev pub Begun : Operands → ℕ → List ℕ → Type 0
Begun os d rest =
    ((n : ℕ) × (length rest ≤ n) × (depth_all os ≤ d) × (read_expr (suc d) (write_all os ++ rest) ≡ read_more n (λ l. read_expr d l) os rest)) ⊎ ((d < depth_all os) × (read_expr (suc d) (write_all os ++ rest) ≡ Err DeepBracket))

abbrev pub more : ℕ → ℕ → Operands → Reads Expr → Reads Expr
more n d os r = and_then r (λ p. read_more (n - 1) (λ l. read_expr d l) (next os p.0) p.1)

first_begun : (o : Operator) (e : Expr) (d : ℕ) (rest : List ℕ) → Whole e d rest → Begun (first o e) d rest
unfolding write depth read_expr
first_begun o e d rest (inl (h, k)) = inl (length rest, omega arith, h, inner_goes (λ l. read_expr d l) (sign o ∷ (32 ∷ (write e ++ rest))) (write e ++ rest) rest o e (signed o (write e ++ rest)) k)
first_begun o e d rest (inr (h, k)) = inr (h, inner_first (λ l. read_expr d l) (sign o ∷ (32 ∷ (write e ++ rest))) (write e ++ rest) o DeepBracket (signed o (write e ++ rest)) k)

next_begun : (os : Operands) (e : Expr) (d : ℕ) (rest : List ℕ) → may_go_on (operator_of os) (joined_by os) ≡ true → Begun os d (32 ∷ (write e ++ rest)) → Whole e d rest → Begun (next os e) d rest
unfolding write depth
next_begun os e d rest g (inl (n, h, k, l)) w =
    let on = ap (read_expr (suc d)) (append_assoc (write_all os) (32 ∷ write e) rest)
    ∙ l
    ∙ more-part (λ l. read_expr d l) os (operator_of os) (joined_by os) refl refl n Part (32 ∷ (write e ++ rest)) (write e ++ rest) true h refl refl (sym g) in
    ⊎_elim (λ v. inl (n - 1, below (write e) rest n h, omega (arith, k, v.0), on ∙ ap (more n d os) v.1)) (λ v. inr (omega (arith, v.0), on ∙ ap (more n d os) v.1)) w
next_begun os e d rest g (inr (h, k)) w = inr (omega arith, ap (read_expr (suc d)) (append_assoc (write_all os) (32 ∷ write e) rest) ∙ k)

apply_whole : (os : Operands) (d : ℕ) (rest : List ℕ) → may_end (operator_of os) (joined_by os) ≡ true → Begun os d (41 ∷ rest) → Whole (apply os) (suc d) rest
unfolding write depth
apply_whole os d rest g (inl (n, h, k, l)) =
    inl (
      omega arith,
      ap (read_expr (suc d)) (append_assoc (write_all os) (41 ∷ []) rest) ∙ l ∙ more-end (λ l. read_expr d l) os (operator_of os) (joined_by os) refl refl n End (41 ∷ rest) rest true h refl refl (sym g),
    )
apply_whole os d rest g (inr (h, k)) = inr (omega arith, ap (read_expr (suc d)) (append_assoc (write_all os) (41 ∷ []) rest) ∙ k)

mutual
  unfolding write Fine depth

  pub whole_or_deep : (e : Expr) (d : ℕ) (rest : List ℕ) → Fine e → Ends rest → Whole e d rest
  whole_or_deep (generator n) d rest f t = inl (omega arith, leaf-read (generator n) (120 ∷ decimal n) rest d (decimal_plain n f) (omega arith) (ap (generator_or (120 ∷ decimal n)) (number_writes n f)) t)
  whole_or_deep (coefficient a) d rest f t = inl (omega arith, leaf-read (coefficient a) a rest d f.0 f.1 (ap (generator_or a) (no_generator a f.2)) t)
  whole_or_deep (apply os) zero rest f t = inr (omega arith, ap (read_expr 0) (append_assoc (write_all os) (41 ∷ []) rest) ∙ deep_at_once os (41 ∷ rest))
  whole_or_deep (apply os) (suc d) rest f t = apply_whole os d rest (ends _ _ f.1) (begun_or_deep os d (41 ∷ rest) f.0 (arity_few _ _ f.1) refl)

  pub begun_or_deep : (os : Operands) (d : ℕ) (rest : List ℕ) → FineAll os → Few (operator_of os) (joined_by os) → Ends rest → Begun os d rest
  begun_or_deep (first o e) d rest f k t = first_begun o e d rest (whole_or_deep e d rest f t)
  begun_or_deep (next os e) d rest f k t = next_begun os e d rest (goes_on _ _ k) (begun_or_deep os d (32 ∷ (write e ++ rest)) f.0 (few-before _ _ k) refl) (whole_or_deep e d rest f.1 t)

-- which way an expression begins
pub open_ways : (bs : List ℕ) (f : List ℕ → Reads Expr) (g s : Reads Expr) → by_open bs f g ≡ s → ((r : List ℕ) × (bs ≡ 40 ∷ r) × (f r ≡ s)) ⊎ (g ≡ s)
open_ways [] f g s h = inr h
open_ways (b ∷ bs) f g s h = go (eqb b 40) refl h
  where
    go : (t : Bool) → t ≡ eqb b 40 → cond t (f bs) g ≡ s → ((r : List ℕ) × (b ∷ bs ≡ 40 ∷ r) × (f r ≡ s)) ⊎ (g ≡ s)
    go true k e = let i : b ≡ 40 = grind (arith, nat_tests) in inl (bs, ap (λ x. x ∷ bs) i, e)
    go false k e = inr e

pub operator_written : (o : Operator) (bs q : List ℕ) → read_operator bs ≡ Ok (o, q) → bs ≡ sign o ∷ (32 ∷ q)
operator_written o [] q h = absurd (cc)
operator_written o (b ∷ []) q h = grind (arith, nat_tests)
operator_written Sum (b ∷ (c ∷ bs)) q h = grind (arith, nat_tests)
operator_written Product (b ∷ (c ∷ bs)) q h = grind (arith, nat_tests)
operator_written Difference (b ∷ (c ∷ bs)) q h = grind (arith, nat_tests)

-- fine, and its brackets not deeper than d
abbrev pub Within : ℕ → Expr → Type 0
Within d e = Fine e × (depth e ≤ d)

leaf-within : (d : ℕ) (a : List ℕ) → plain a ≡ true → 0 < length a → (a ≡ write (leaf a)) × Within d (leaf a)
unfolding write Fine depth
leaf-within d a p h = go (generator_of a) refl
  where
    go : (o : Option ℕ) → generator_of a ≡ o → (a ≡ write (generator_or a o)) × Within d (generator_or a o)
    go (Some n) e = let w = generator-written a n e in (sym w.0, (w.1, omega arith))
    go None e = (refl, ((p, h, none_generator a e), omega arith))

leaf-sound : (d : ℕ) (bs : List ℕ) (e : Expr) (rest : List ℕ) → read_leaf bs ≡ Ok (e, rest) → (bs ≡ write e ++ rest) × Within d e
leaf-sound d bs e rest h =
    let l = linked (read_atom bs) (λ p. Ok (leaf p.0, p.1)) (e, rest) h in
    let s = atom_sound bs l.0.0 l.0.1 l.1 in
    let w = leaf-within d l.0.0 s.is_plain s.some in
    moved write (Within d) bs (leaf l.0.0) e l.0.1 rest l.2 (s.split ∙ ap (λ x. x ++ l.0.1) w.0, w.1)

-- the operands were read to their end
abbrev Ended : Operands → ℕ → List ℕ → Expr → List ℕ → Type 0
Ended os d bs e rest =
    (os' : Operands) × (e ≡ apply os') × (write_all os ++ bs ≡ write_all os' ++ (41 ∷ rest)) × FineAll os' × (depth_all os' ≤ d) × Arity (operator_of os') (joined_by os')

abbrev pub Sound : (List ℕ → Reads Expr) → ℕ → Type 0
Sound R d = (bs : List ℕ) (e : Expr) (rest : List ℕ) → R bs ≡ Ok (e, rest) → (bs ≡ write e ++ rest) × Within d e

ended_here : (os : Operands) (d : ℕ) (bs q : List ℕ) (e : Expr) (rest : List ℕ) → FineAll os → depth_all os ≤ d → bs ≡ 41 ∷ q → may_end (operator_of os) (joined_by os) ≡ true → ◌≡◌ {A = Reads Expr} (Ok (apply os, q)) (Ok (e, rest)) → Ended os d bs e rest
ended_here os d bs q e rest f k i c h =
    let j : ◌≡◌ {A = Expr × List ℕ} (apply os, q) (e, rest) = cc in
    (os, sym (ap (λ (p : Expr × List ℕ). p.0) j), ap (λ l. write_all os ++ l) (i ∙ ap (λ (p : Expr × List ℕ). 41 ∷ p.1) j), f, k, ended _ _ c)

ended_on : (os : Operands) (d : ℕ) (bs q r : List ℕ) (x e : Expr) (rest : List ℕ) → bs ≡ 32 ∷ q → q ≡ write x ++ r → Ended (next os x) d r e rest → Ended os d bs e rest
unfolding write
ended_on os d bs q r x e rest i j (os', a, b, f, k, c) = (os', a, ap (λ l. write_all os ++ l) (i ∙ ap (λ l. 32 ∷ l) j) ∙ sym (append_assoc (write_all os) (32 ∷ write x) r) ∙ b, f, k, c)

ended_whole : (o : Operator) (x e : Expr) (d : ℕ) (r q s rest : List ℕ) → r ≡ sign o ∷ (32 ∷ q) → q ≡ write x ++ s → Ended (first o x) d s e rest → (40 ∷ r ≡ write e ++ rest) × Within (suc d) e
unfolding write Fine depth
ended_whole o x e d r q s rest i j (os, a, b, f, k, c) =
    subst (λ y. (40 ∷ r ≡ write y ++ rest) × Within (suc d) y) (sym a)
    (ap (λ l. 40 ∷ l) (i ∙ ap (λ l. sign o ∷ (32 ∷ l)) j) ∙ b ∙ sym (append_assoc (write_all os) (41 ∷ []) rest), ((f, c), omega arith))

module _ (R : List ℕ → Reads Expr) (d : ℕ) (S : Sound R d) where
  more-sound : (n : ℕ) (os : Operands) (bs : List ℕ) (e : Expr) (rest : List ℕ) → FineAll os → depth_all os ≤ d → read_more n R os bs ≡ Ok (e, rest) → Ended os d bs e rest
  unfolding read_more Fine depth
  more-sound zero os bs e rest f k h = absurd (cc)
  more-sound (suc n) os bs e rest f k h =
      ⊎_elim
      (λ w. let c = chosen _ (Ok (apply os, w.0)) (e, rest) w.2 in
      ended_here os d bs w.0 e rest f k (next-written End bs w.0 w.1) c.0 c.1)
      (λ w. let c = chosen _ (and_then (R w.0) (λ p. read_more n R (next os p.0) p.1)) (e, rest) w.2 in
      let l = linked (R w.0) (λ p. read_more n R (next os p.0) p.1) (e, rest) c.1 in
      let s = S w.0 l.0.0 l.0.1 l.1 in
      ended_on os d bs w.0 l.0.1 l.0.0 e rest (next-written Part bs w.0 w.1) s.0 (more-sound n (next os l.0.0) l.0.1 e rest (f, s.1.0) (omega (arith, s.1.1)) l.2))
      (next_ways (read_next bs) _ _ (e, rest) h)

  inner_sound : (r : List ℕ) (e : Expr) (rest : List ℕ) → read_inner R r ≡ Ok (e, rest) → (40 ∷ r ≡ write e ++ rest) × Within (suc d) e
  unfolding Fine depth
  inner_sound r e rest h =
      let a = linked (read_operator r) _ (e, rest) h in
      let b = linked (R a.0.1) _ (e, rest) a.2 in
      let s = S a.0.1 b.0.0 b.0.1 b.1 in
      ended_whole a.0.0 b.0.0 e d r a.0.1 b.0.1 rest (operator_written a.0.0 r a.0.1 a.1) s.0
      (more-sound (length b.0.1) (first a.0.0 b.0.0) b.0.1 e rest s.1.0 s.1.1 b.2)

pub expr_sound : (d : ℕ) → Sound (read_expr d) d
unfolding read_expr
expr_sound zero bs e rest h = ⊎_elim (λ w. absurd (cc w.2)) (leaf-sound 0 bs e rest) (open_ways bs (λ _. Err DeepBracket) (read_leaf bs) (Ok (e, rest)) h)
expr_sound (suc d) bs e rest h =
    ⊎_elim (λ w. let s = inner_sound (λ l. read_expr d l) d (expr_sound d) w.0 e rest w.2 in (w.1 ∙ s.0, s.1)) (leaf-sound (suc d) bs e rest)
    (open_ways bs (λ r. read_inner (λ l. read_expr d l) r) (read_leaf bs) (Ok (e, rest)) h)
