-- An expression is refused as too deep exactly where it begins like one of any depth, up to a bracket inside as many others as it may have.
use Rattle.std.proofs.Common.{◌≡◌, ℕ, zero, suc, ◌+◌, Bool, true, false, cond, ◌⊎◌, List, [], ◌∷◌, ◌++◌, length, Ok, Err, Result, sym, refl, ap, ◌∙◌, subst, inl, inr, ⊎_elim, append_assoc, arith}
use Rattle.std.proofs.lemmas.Bool.Decides.{nat_tests}
use Rattle.grammar.specs.declared.fault.ReadFault.{ReadFault}
use Rattle.grammar.specs.declared.fault.ReadFault.TheVariants.{Misfit, DeepBracket}
use Rattle.grammar.specs.declared.bytes.Next.{Next}
use Rattle.grammar.specs.declared.bytes.Next.TheVariants.{Part, End}
use Rattle.grammar.specs.declared.piece.Operator.{Operator}
use Rattle.grammar.specs.declared.piece.Operator.TheVariants.{Sum, Product, Difference}
use Rattle.grammar.specs.Reading.{Reads, and_then, read_atom, read_next, by_next}
use Rattle.grammar.specs.Expressions.{Expr, generator, coefficient, apply, Operands, first, next, operator_of, joined_by, sign, write, write_all}
use Rattle.grammar.specs.ExpressionReader.{read_expr, read_more, read_inner, read_leaf, read_operator, spaced, leaf, may_end, may_go_on}
use Rattle.grammar.specs.Grammar.{Arity, Fine, FineAll}
use Rattle.grammar.proofs.Nesting.{too_deep, inner_first, more-part}
use Rattle.grammar.proofs.Leaves.{Shallow, misfit-shallow, ok-shallow, then-shallow, cond-shallow, atom_shallow, decimal_plain, none_generator}
use Rattle.grammar.proofs.Writings.{next-shallow, next-written}
use Rattle.grammar.proofs.Trees.{Few, few-before, arity_few, Begun, begun_or_deep, deep_at_once, open_ways, operator_written, signed, goes_on, more, Sound, expr_sound}
use Rattle.grammar.proofs.Levels.{At, at_closed, at_opened, space_level, sign_level, sign_level_back, count-append, level, level_all, split, behind, none_in}

no_bracket : (o : Operator) → sign o ≡ 40 → ⊥
no_bracket Sum h = omega arith
no_bracket Product h = omega arith
no_bracket Difference h = omega arith

-- the operator and its first operand, up to a bracket in the operand
in_first : (o : Operator) (e : Expr) (d : ℕ) (p q rest : List ℕ) → ((c : ℕ) (p : List ℕ) → write e ≡ p ++ (40 ∷ q) → At c p → read_expr c (p ++ (40 ∷ rest)) ≡ Err DeepBracket) → 40 ∷ (sign o ∷ (32 ∷ write e)) ≡ p ++ (40 ∷ q) → At d p → read_expr d (p ++ (40 ∷ rest)) ≡ Err DeepBracket
unfolding read_expr
in_first o e d [] q rest ih h a = too_deep d (40 ∷ rest) rest refl (omega arith)
in_first o e zero (b ∷ p) q rest ih h a = let i : b ≡ 40 = cc in too_deep 0 (b ∷ (p ++ (40 ∷ rest))) (p ++ (40 ∷ rest)) (ap (λ x. x ∷ (p ++ (40 ∷ rest))) i) refl
in_first o e (suc d) (b ∷ p) q rest ih h a =
    let i : b ≡ 40 = cc in
    let j : sign o ∷ (32 ∷ write e) ≡ p ++ (40 ∷ q) = cc in
    let s = behind (sign o) (32 ∷ write e) p q (no_bracket o) j in
    let t = behind 32 (write e) s.0 q (λ e. omega arith) s.2 in
    let w : b ∷ p ≡ 40 ∷ (sign o ∷ (32 ∷ t.0)) = cc (s.1, t.1) in
    subst (λ l. read_expr (suc d) (l ++ (40 ∷ rest)) ≡ Err DeepBracket) (sym w)
    (inner_first (λ l. read_expr d l) (sign o ∷ (32 ∷ (t.0 ++ (40 ∷ rest)))) (t.0 ++ (40 ∷ rest)) o DeepBracket (signed o (t.0 ++ (40 ∷ rest)))
    (ih d t.0 t.2 (sign_level_back o t.0 d (subst (At (suc d)) w a))))

-- a later operand, up to a bracket in it
in_next : (os : Operands) (d : ℕ) (p rest : List ℕ) → may_go_on (operator_of os) (joined_by os) ≡ true → At 1 (write_all os) → ((c : ℕ) → Begun os c (32 ∷ (p ++ (40 ∷ rest)))) → ((c : ℕ) → At c p → read_expr c (p ++ (40 ∷ rest)) ≡ Err DeepBracket) → At d (write_all os ++ (32 ∷ p)) → read_expr d ((write_all os ++ (32 ∷ p)) ++ (40 ∷ rest)) ≡ Err DeepBracket
in_next os zero p rest g l begun ih a = ap (read_expr 0) (append_assoc (write_all os) (32 ∷ p) (40 ∷ rest)) ∙ deep_at_once os (32 ∷ (p ++ (40 ∷ rest)))
in_next os (suc d) p rest g l begun ih a =
    ap (read_expr (suc d)) (append_assoc (write_all os) (32 ∷ p) (40 ∷ rest))
    ∙ ⊎_elim
    (λ w. w.3
    ∙ more-part (λ l. read_expr d l) os (operator_of os) (joined_by os) refl refl w.0 Part (32 ∷ (p ++ (40 ∷ rest))) (p ++ (40 ∷ rest)) true w.1 refl refl (sym g)
    ∙ ap (more w.0 d os) (ih d (omega (arith, l, a, count-append 40 (write_all os) (32 ∷ p), count-append 41 (write_all os) (32 ∷ p)))))
    (λ w. w.1)
    (begun d)

mutual
  unfolding write Fine

  pub deep_here : (e : Expr) (d : ℕ) (p q rest : List ℕ) → Fine e → write e ≡ p ++ (40 ∷ q) → At d p → read_expr d (p ++ (40 ∷ rest)) ≡ Err DeepBracket
  deep_here (generator n) d p q rest f h a = absurd (none_in (write (generator n)) p q (decimal_plain n f) h)
  deep_here (coefficient c) d p q rest f h a = absurd (none_in c p q f.0 h)
  deep_here (apply os) d p q rest f h a =
      ⊎_elim (λ w. deep_on os d p w.0 rest f.0 (arity_few _ _ f.1) w.1 a)
      (λ w. let b = behind 41 [] w.0 q (λ e. omega arith) w.2 in absurd (none_in [] b.0 q refl b.2))
      (split (write_all os) (41 ∷ []) p q h)

  deep_on : (os : Operands) (d : ℕ) (p q rest : List ℕ) → FineAll os → Few (operator_of os) (joined_by os) → write_all os ≡ p ++ (40 ∷ q) → At d p → read_expr d (p ++ (40 ∷ rest)) ≡ Err DeepBracket
  deep_on (first o e) d p q rest f k h a = in_first o e d p q rest (λ c p h a. deep_here e c p q rest f h a) h a
  deep_on (next os e) d p q rest f k h a =
      ⊎_elim (λ w. deep_on os d p w.0 rest f.0 (few-before _ _ k) w.1 a)
      (λ w. let t = behind 32 (write e) w.0 q (λ e. omega arith) w.2 in
      let s : p ≡ write_all os ++ (32 ∷ t.0) = w.1 ∙ ap (λ l. write_all os ++ l) t.1 in
      subst (λ l. read_expr d (l ++ (40 ∷ rest)) ≡ Err DeepBracket) (sym s)
      (in_next os d t.0 rest (goes_on _ _ k) (level_all os f.0) (λ c. begun_or_deep os c (32 ∷ (t.0 ++ (40 ∷ rest))) f.0 (few-before _ _ k) refl) (λ c b. deep_here e c t.0 q rest f.1 t.2 b) (subst (At d) s a)))
      (split (write_all os) (32 ∷ write e) p q h)

-- up to a bracket inside d others, the bytes are written like an expression
pub record Deeply (d : ℕ) (bs : List ℕ) : Type 0 where
  pub e : Expr
  pub p : List ℕ
  pub q : List ℕ
  pub rest : List ℕ
  pub fine : Fine e
  pub written : write e ≡ p ++ (40 ∷ q)
  pub begins : bs ≡ p ++ (40 ∷ rest)
  pub at : At d p

-- the same behind operands that were read
record Deeper (os : Operands) (d : ℕ) (bs : List ℕ) : Type 0 where
  pub os' : Operands
  pub p : List ℕ
  pub q : List ℕ
  pub rest : List ℕ
  pub fine : FineAll os'
  pub few : Few (operator_of os') (joined_by os')
  pub written : write_all os' ≡ write_all os ++ (p ++ (40 ∷ q))
  pub begins : bs ≡ p ++ (40 ∷ rest)
  pub at : At d p

pub then_deep : {X Y : Type 0} (r : Result X ReadFault) (f : X → Result Y ReadFault) → and_then r f ≡ Err DeepBracket → (r ≡ Err DeepBracket) ⊎ ((x : X) × (r ≡ Ok x) × (f x ≡ Err DeepBracket))
then_deep (Ok x) f h = inr (x, refl, h)
then_deep (Err Misfit) f h = absurd (cc)
then_deep (Err DeepBracket) f h = inl refl

chosen_deep : {X : Type 0} (b : Bool) (r : Result X ReadFault) → cond b r (Err Misfit) ≡ Err DeepBracket → (b ≡ true) × (r ≡ Err DeepBracket)
chosen_deep true r h = (refl, h)
chosen_deep false r h = absurd (cc)

next_deep : {Y : Type 0} (r : Reads Next) (f g : List ℕ → Reads Y) → Shallow r → ((q : List ℕ) → Shallow (f q)) → by_next r f g ≡ Err DeepBracket → (q : List ℕ) × (r ≡ Ok (Part, q)) × (g q ≡ Err DeepBracket)
next_deep (Ok (End, q)) f g s t h = absurd (t q h)
next_deep (Ok (Part, q)) f g s t h = (q, refl, h)
next_deep (Err Misfit) f g s t h = absurd (cc)
next_deep (Err DeepBracket) f g s t h = absurd (s refl)

spaced-shallow : (o : Operator) (bs : List ℕ) → Shallow (spaced o bs)
spaced-shallow o [] h = absurd (cc)
spaced-shallow o (c ∷ bs) h = grind (arith, nat_tests)

operator_shallow : (bs : List ℕ) → Shallow (read_operator bs)
operator_shallow [] h = absurd (cc)
operator_shallow (b ∷ bs) h = let s = spaced-shallow Sum bs in let p = spaced-shallow Product bs in let d = spaced-shallow Difference bs in grind (arith, nat_tests)

leaf-shallow : (bs : List ℕ) → Shallow (read_leaf bs)
leaf-shallow bs = then-shallow (read_atom bs) (λ p. Ok (leaf p.0, p.1)) (atom_shallow bs) (λ p. ok-shallow (leaf p.0, p.1))

went : (o : Operator) (k : ℕ) → may_go_on o k ≡ true → Few o (k + 1)
went Sum k h = tt
went Product k h = tt
went Difference k h = grind (arith, nat_tests)

one : Expr
one = coefficient (49 ∷ [])

one-fine : Fine one
unfolding Fine one
one-fine = (refl, omega arith, none_generator (49 ∷ []) refl)

-- an expression that begins with these operands
record Completed (os : Operands) : Type 0 where
  pub e : Expr
  pub fine : Fine e
  pub end : List ℕ
  pub written : write e ≡ write_all os ++ end

completed : (os : Operands) → FineAll os → Few (operator_of os) (joined_by os) → Completed os
unfolding write Fine one
completed os f k = go (operator_of os) (joined_by os) refl refl k
  where
    go : (o : Operator) (j : ℕ) → operator_of os ≡ o → joined_by os ≡ j → Few o j → Completed os
    go Sum j x y k = record { e = apply os; fine = (f, subst (λ o. Arity o (joined_by os)) (sym x) tt); end = 41 ∷ []; written = refl }
    go Product j x y k = record { e = apply os; fine = (f, subst (λ o. Arity o (joined_by os)) (sym x) tt); end = 41 ∷ []; written = refl }
    go Difference zero x y k = record {
      e = apply (next os one);
      fine = ((f, one-fine), subst (λ o. Arity o (joined_by os + 1)) (sym x) (omega arith));
      end = 32 ∷ (49 ∷ (41 ∷ []));
      written = append_assoc (write_all os) (32 ∷ (49 ∷ [])) (41 ∷ []);
    }
    go Difference (suc j) x y k = record { e = apply os; fine = (f, subst (λ o. Arity o (joined_by os)) (sym x) (omega arith)); end = 41 ∷ []; written = refl }

few_none : (o : Operator) → Few o 0
few_none Sum = tt
few_none Product = tt
few_none Difference = omega arith

regroup : (a p q t : List ℕ) → (a ++ (p ++ (40 ∷ q))) ++ t ≡ (a ++ p) ++ (40 ∷ (q ++ t))
regroup a p q t = simp append_assoc

-- the least that an opening bracket begins
sum-fine : Fine (apply (first Sum one))
unfolding Fine
sum-fine = (one-fine, tt)

sum-written : write (apply (first Sum one)) ≡ 40 ∷ (43 ∷ (32 ∷ (49 ∷ (41 ∷ []))))
unfolding write one
sum-written = refl

-- in the next operand
deeper_here : (os : Operands) (d : ℕ) (bs r : List ℕ) → FineAll os → Few (operator_of os) (joined_by os + 1) → bs ≡ 32 ∷ r → Deeply d r → Deeper os d bs
unfolding write Fine
deeper_here os d bs r f k i g = record {
  os' = next os g.e;
  p = 32 ∷ g.p;
  q = g.q;
  rest = g.rest;
  fine = (f, g.fine);
  few = k;
  written = ap (λ l. write_all os ++ (32 ∷ l)) g.written;
  begins = i ∙ ap (λ l. 32 ∷ l) g.begins;
  at = space_level g.p d g.at;
}

-- behind it
deeper_on : (os : Operands) (d : ℕ) (bs r s : List ℕ) (x : Expr) → Fine x → bs ≡ 32 ∷ r → r ≡ write x ++ s → Deeper (next os x) d s → Deeper os d bs
unfolding write
deeper_on os d bs r s x f i j g = record {
  os' = g.os';
  p = 32 ∷ (write x ++ g.p);
  q = g.q;
  rest = g.rest;
  fine = g.fine;
  few = g.few;
  written = g.written ∙ append_assoc (write_all os) (32 ∷ write x) (g.p ++ (40 ∷ g.q)) ∙ ap (λ l. write_all os ++ (32 ∷ l)) (sym (append_assoc (write x) g.p (40 ∷ g.q)));
  begins = i ∙ ap (λ l. 32 ∷ l) (j ∙ ap (λ l. write x ++ l) g.begins ∙ sym (append_assoc (write x) g.p (40 ∷ g.rest)));
  at = space_level (write x ++ g.p) d (at_closed d (write x) g.p (level x f) g.at);
}

-- in the first operand
deeply_first : (o : Operator) (d : ℕ) (r s : List ℕ) → r ≡ sign o ∷ (32 ∷ s) → (g : Deeply d s) → Completed (first o g.e) → Deeply (suc d) (40 ∷ r)
unfolding write
deeply_first o d r s i g c = record {
  e = c.e;
  p = 40 ∷ (sign o ∷ (32 ∷ g.p));
  q = g.q ++ c.end;
  rest = g.rest;
  fine = c.fine;
  written = c.written ∙ ap (λ l. 40 ∷ (sign o ∷ (32 ∷ l))) (ap (λ l. l ++ c.end) g.written ∙ append_assoc g.p (40 ∷ g.q) c.end);
  begins = ap (λ l. 40 ∷ l) i ∙ ap (λ l. 40 ∷ (sign o ∷ (32 ∷ l))) g.begins;
  at = sign_level o g.p d g.at;
}

-- behind it
deeply_on : (o : Operator) (x : Expr) (d : ℕ) (r s t : List ℕ) → Fine x → r ≡ sign o ∷ (32 ∷ s) → s ≡ write x ++ t → (g : Deeper (first o x) d t) → Completed g.os' → Deeply (suc d) (40 ∷ r)
unfolding write Fine
deeply_on o x d r s t f i j g c = record {
  e = c.e;
  p = write_all (first o x) ++ g.p;
  q = g.q ++ c.end;
  rest = g.rest;
  fine = c.fine;
  written = c.written ∙ ap (λ l. l ++ c.end) g.written ∙ regroup (write_all (first o x)) g.p g.q c.end;
  begins = ap (λ l. 40 ∷ l) (i ∙ ap (λ l. sign o ∷ (32 ∷ l)) j) ∙ ap (λ l. write_all (first o x) ++ l) g.begins ∙ sym (append_assoc (write_all (first o x)) g.p (40 ∷ g.rest));
  at = at_opened d (write_all (first o x)) g.p (level_all (first o x) f) g.at;
}

abbrev Finds : (List ℕ → Reads Expr) → ℕ → Type 0
Finds R d = (bs : List ℕ) → R bs ≡ Err DeepBracket → Deeply d bs

module _ (R : List ℕ → Reads Expr) (d : ℕ) (S : Sound R d) (D : Finds R d) where
  more_deep : (n : ℕ) (os : Operands) (bs : List ℕ) → FineAll os → read_more n R os bs ≡ Err DeepBracket → Deeper os d bs
  unfolding read_more Fine
  more_deep zero os bs f h = absurd (cc)
  more_deep (suc n) os bs f h =
      let w = next_deep (read_next bs) _ _ (next-shallow bs) (λ q. cond-shallow (may_end (operator_of os) (joined_by os)) (Ok (apply os, q)) (Err Misfit) (ok-shallow (apply os, q)) (misfit-shallow {X = Expr × List ℕ})) h in
      let c = chosen_deep (may_go_on (operator_of os) (joined_by os)) _ w.2 in
      let i = next-written Part bs w.0 w.1 in
      ⊎_elim (λ z. deeper_here os d bs w.0 f (went (operator_of os) (joined_by os) c.0) i (D w.0 z))
      (λ z. let s = S w.0 z.0.0 z.0.1 z.1 in
      deeper_on os d bs w.0 z.0.1 z.0.0 s.1.0 i s.0 (more_deep n (next os z.0.0) z.0.1 (f, s.1.0) z.2))
      (then_deep (R w.0) _ c.1)

  inner_deep : (r : List ℕ) → read_inner R r ≡ Err DeepBracket → Deeply (suc d) (40 ∷ r)
  unfolding Fine
  inner_deep r h =
      ⊎_elim (λ z. absurd (operator_shallow r z))
      (λ a. let i = operator_written a.0.0 r a.0.1 a.1 in
      ⊎_elim (λ z. let g = D a.0.1 z in deeply_first a.0.0 d r a.0.1 i g (completed (first a.0.0 g.e) g.fine (few_none a.0.0)))
      (λ z. let s = S a.0.1 z.0.0 z.0.1 z.1 in
      let g = more_deep (length z.0.1) (first a.0.0 z.0.0) z.0.1 s.1.0 z.2 in
      deeply_on a.0.0 z.0.0 d r a.0.1 z.0.1 s.1.0 i s.0 g (completed g.os' g.fine g.few))
      (then_deep (R a.0.1) _ a.2))
      (then_deep (read_operator r) _ h)

pub deep_found : (d : ℕ) → Finds (read_expr d) d
unfolding read_expr
deep_found zero bs h =
    ⊎_elim (λ w. record { e = apply (first Sum one); p = []; q = 43 ∷ (32 ∷ (49 ∷ (41 ∷ []))); rest = w.0; fine = sum-fine; written = sum-written; begins = w.1; at = refl }) (λ k. absurd (leaf-shallow bs k))
    (open_ways bs (λ _. Err DeepBracket) (read_leaf bs) (Err DeepBracket) h)
deep_found (suc d) bs h =
    ⊎_elim (λ w. subst (Deeply (suc d)) (sym w.1) (inner_deep (λ l. read_expr d l) d (expr_sound d) (deep_found d) w.0 w.2)) (λ k. absurd (leaf-shallow bs k))
    (open_ways bs (λ r. read_inner (λ l. read_expr d l) r) (read_leaf bs) (Err DeepBracket) h)
