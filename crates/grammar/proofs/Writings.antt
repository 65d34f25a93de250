-- Rings, orders, terms and lists of parts: exactly what is written is read.
use Rattle.std.proofs.Common.{◌≡◌, ℕ, zero, suc, ◌<◌, ◌≤◌, ◌⊎◌, List, [], ◌∷◌, ◌++◌, map, length, Ok, Err, codes, decimal, Result, sym, refl, ap, ◌∙◌, subst, inl, inr, ⊎_elim, append_assoc, append-nil, arith, length-append}
use lib.ListN.{length-map}
use Rattle.std.proofs.lemmas.Bool.Decides.{nat_tests}
use Rattle.grammar.specs.declared.fault.ReadFault.{ReadFault}
use Rattle.grammar.specs.declared.fault.ReadFault.TheVariants.{Misfit, DeepBracket}
use Rattle.grammar.specs.declared.bytes.Next.{Next}
use Rattle.grammar.specs.declared.bytes.Next.TheVariants.{Part, End}
use Rattle.grammar.specs.declared.forms.RingForm.{RingForm}
use Rattle.grammar.specs.declared.forms.RingForm.TheVariants.{Mod, Int, QPoly}
use Rattle.grammar.specs.Reading.{Reads, and_then, or_else, expect, by_next, read_next, read_parts, read_number, read_generator, read_coefficient}
use Rattle.grammar.specs.FormReader.{read_mod, read_ring, read_weights, read_order, read_term}
use Rattle.grammar.specs.Forms.{OrderChoice, lex, degree, TermForm}
use Rattle.grammar.specs.Grammar.{spaced_parts, write_ring, write_order, write_term, write_generator, Number, All, FineRing, FineOrder, FineTerm}
use Rattle.grammar.proofs.Chains.{linked, expect-written}
use Rattle.grammar.proofs.Leaves.{Exact, Ends, Shallow, misfit-shallow, ok-shallow, then-shallow, number_exact, generator_exact, coefficient_exact}

-- the two ways of a list: its end, or one part more
pub next_ways : {Y : Type 0} (r : Reads Next) (f g : List ℕ → Reads Y) (y : Y × List ℕ) → by_next r f g ≡ Ok y → ((q : List ℕ) × (r ≡ Ok (End, q)) × (f q ≡ Ok y)) ⊎ ((q : List ℕ) × (r ≡ Ok (Part, q)) × (g q ≡ Ok y))
next_ways (Ok (End, q)) f g y h = inl (q, refl, h)
next_ways (Ok (Part, q)) f g y h = inr (q, refl, h)
next_ways (Err e) f g y h = absurd (cc)

abbrev mark : Next → ℕ
mark End = 41
mark Part = 32

pub next-written : (x : Next) (bs q : List ℕ) → read_next bs ≡ Ok (x, q) → bs ≡ mark x ∷ q
next-written x [] q h = absurd (cc)
next-written End (b ∷ bs) q h = grind (arith, nat_tests)
next-written Part (b ∷ bs) q h = grind (arith, nat_tests)

pub by_shallow : {Y : Type 0} (r : Reads Next) (f g : List ℕ → Reads Y) → Shallow r → ((q : List ℕ) → Shallow (f q)) → ((q : List ℕ) → Shallow (g q)) → Shallow (by_next r f g)
by_shallow (Ok (End, q)) f g h k l = k q
by_shallow (Ok (Part, q)) f g h k l = l q
by_shallow {Y} (Err Misfit) f g h k l = misfit-shallow {X = Y × List ℕ}
by_shallow (Err DeepBracket) f g h k l = λ _. h refl

pub next-shallow : (bs : List ℕ) → Shallow (read_next bs)
next-shallow [] h = absurd (cc)
next-shallow (b ∷ bs) h = grind (arith, nat_tests)

pub expect-shallow : (w bs : List ℕ) → Shallow (expect w bs)
expect-shallow [] bs h = absurd (cc)
expect-shallow (c ∷ w) [] h = absurd (cc)
expect-shallow (c ∷ w) (b ∷ bs) h = let i = expect-shallow w bs in grind (arith, nat_tests)

pub or_shallow : {X Y : Type 0} (r : Result X ReadFault) (f : X → Result Y ReadFault) (g : Result Y ReadFault) → ((x : X) → Shallow (f x)) → Shallow g → Shallow (or_else r f g)
or_shallow (Ok x) f g h k = h x
or_shallow (Err e) f g h k = k

pub or_ways : {X Y : Type 0} (r : Result X ReadFault) (f : X → Result Y ReadFault) (g s : Result Y ReadFault) → or_else r f g ≡ s → ((x : X) × (r ≡ Ok x) × (f x ≡ s)) ⊎ (g ≡ s)
or_ways (Ok x) f g s h = inl (x, refl, h)
or_ways (Err e) f g s h = inr h

-- each part takes a byte at least
parts_length : (ps : List (List ℕ)) → length ps ≤ length (spaced_parts ps)
parts_length [] = omega arith
parts_length (p ∷ ps) = omega (arith, parts_length ps, length-append p (spaced_parts ps))

module _ {X : Type 0} (R : List ℕ → Reads X) (W : X → List ℕ) (P : X → Type 0) (exact : Exact R W P) where
  pub parts_end : (ys : List X) (rest : List ℕ) → Ends (spaced_parts (map W ys) ++ (41 ∷ rest))
  parts_end [] rest = refl
  parts_end (y ∷ ys) rest = refl

  pub parts_complete : (n : ℕ) (xs ys : List X) (rest : List ℕ) → length ys < n → All P ys → read_parts n R xs (spaced_parts (map W ys) ++ (41 ∷ rest)) ≡ Ok (xs ++ ys, rest)
  unfolding read_parts
  parts_complete zero xs ys rest h a = absurd (omega arith)
  parts_complete (suc n) xs [] rest h a = ap (λ l. Ok (l, rest)) (sym (append-nil xs))
  parts_complete (suc n) xs (y ∷ ys) rest h a =
      ap (λ l. and_then (R l) (λ p. read_parts n R (xs ++ (p.0 ∷ [])) p.1)) (append_assoc (W y) (spaced_parts (map W ys)) (41 ∷ rest))
      ∙ ap (λ r. and_then r (λ p. read_parts n R (xs ++ (p.0 ∷ [])) p.1)) (exact.complete y (spaced_parts (map W ys) ++ (41 ∷ rest)) a.0 (parts_end ys rest))
      ∙ parts_complete n (xs ++ (y ∷ [])) ys rest (omega arith) a.1
      ∙ ap (λ l. Ok (l, rest)) (append_assoc xs (y ∷ []) ys)

  -- the parts ys were read behind xs
  abbrev pub Parted : ℕ → List X → List ℕ → List X → List ℕ → Type 0
  Parted n xs bs zs rest = (ys : List X) × (zs ≡ xs ++ ys) × (bs ≡ spaced_parts (map W ys) ++ (41 ∷ rest)) × All P ys × (length ys < n)

  pub parts_sound : (n : ℕ) (xs : List X) (bs : List ℕ) (zs : List X) (rest : List ℕ) → read_parts n R xs bs ≡ Ok (zs, rest) → Parted n xs bs zs rest
  unfolding read_parts
  parts_sound zero xs bs zs rest h = absurd (cc)
  parts_sound (suc n) xs bs zs rest h =
      ⊎_elim
      (λ w.
      let q : ◌≡◌ {A = List X × List ℕ} (xs, w.0) (zs, rest) = cc w.2 in
      ([], sym (ap (λ (p : List X × List ℕ). p.0) q) ∙ sym (append-nil xs), next-written End bs w.0 w.1 ∙ ap (λ (p : List X × List ℕ). 41 ∷ p.1) q, tt, omega arith))
      (λ w.
      let l = linked (R w.0) (λ p. read_parts n R (xs ++ (p.0 ∷ [])) p.1) (zs, rest) w.2 in
      let s = exact.sound w.0 l.0.0 l.0.1 l.1 in
      let t = parts_sound n (xs ++ (l.0.0 ∷ [])) l.0.1 zs rest l.2 in (
        l.0.0 ∷ t.0,
        t.1 ∙ append_assoc xs (l.0.0 ∷ []) t.0,
        next-written Part bs w.0 w.1 ∙ ap (λ x. 32 ∷ x) (s.0 ∙ ap (λ x. W l.0.0 ++ x) t.2 ∙ sym (append_assoc (W l.0.0) (spaced_parts (map W t.0)) (41 ∷ rest))),
        (s.1, t.3),
        omega (arith, t.4),
      ))
      (next_ways (read_next bs) _ _ (zs, rest) h)

  pub parts_shallow : (n : ℕ) (xs : List X) (bs : List ℕ) → Shallow (read_parts n R xs bs)
  unfolding read_parts
  parts_shallow zero xs bs = misfit-shallow {X = List X × List ℕ}
  parts_shallow (suc n) xs bs =
      by_shallow (read_next bs) _ _ (next-shallow bs) (λ q. ok-shallow (xs, q))
      (λ q. then-shallow (R q) _ (exact.shallow q) (λ p. parts_shallow n (xs ++ (p.0 ∷ [])) p.1))

  -- as many as there are bytes
  pub all-complete : (ys : List X) (rest : List ℕ) → All P ys → read_parts (length (spaced_parts (map W ys) ++ (41 ∷ rest))) R [] (spaced_parts (map W ys) ++ (41 ∷ rest)) ≡ Ok (ys, rest)
  all-complete ys rest a = parts_complete (length (spaced_parts (map W ys) ++ (41 ∷ rest))) [] ys rest (omega (arith, parts_length (map W ys), length-map ys W, length-append (spaced_parts (map W ys)) (41 ∷ rest))) a

-- what was read as v is what was read as x
pub moved : {X : Type 0} (W : X → List ℕ) (P : X → Type 0) (bs : List ℕ) (v x : X) (q rest : List ℕ) → ◌≡◌ {A = Reads X} (Ok (v, q)) (Ok (x, rest)) → (bs ≡ W v ++ q) × P v → (bs ≡ W x ++ rest) × P x
moved {X} W P bs v x q rest h f =
    let e : ◌≡◌ {A = X × List ℕ} (v, q) (x, rest) = cc in
    subst (λ (p : X × List ℕ). (bs ≡ W p.0 ++ p.1) × P p.0) e f

ring-complete : (r : RingForm) (rest : List ℕ) → FineRing r → Ends rest → read_ring (write_ring r ++ rest) ≡ Ok (r, rest)
ring-complete (Mod m) rest p e =
    let w : write_ring (Mod m) ++ rest ≡ codes "(mod " ++ (decimal m ++ (41 ∷ rest)) = simp append_assoc in
    ap read_ring w ∙ rw (number_exact.complete m (41 ∷ rest) p refl)
ring-complete Int rest p e = refl
ring-complete QPoly rest p e = refl

mod_sound : (bs : List ℕ) (r : RingForm) (rest : List ℕ) → read_mod bs ≡ Ok (r, rest) → (bs ≡ write_ring r ++ rest) × FineRing r
mod_sound bs r rest h =
    let a = linked (expect (codes "(mod ") bs) _ (r, rest) h in
    let b = linked (read_number a.0) _ (r, rest) a.2 in
    let c = linked (expect (codes ")") b.0.1) (λ q. Ok (Mod b.0.0, q)) (r, rest) b.2 in
    let n = number_exact.sound a.0 b.0.0 b.0.1 b.1 in
    let s : codes "(mod " ++ (decimal b.0.0 ++ (41 ∷ c.0)) ≡ write_ring (Mod b.0.0) ++ c.0 = simp append_assoc in
    moved write_ring FineRing bs (Mod b.0.0) r c.0 rest c.2 (
      expect-written (codes "(mod ") bs a.0 a.1 ∙ ap (λ l. codes "(mod " ++ l) (n.0 ∙ ap (λ l. decimal b.0.0 ++ l) (expect-written (codes ")") b.0.1 c.0 c.1)) ∙ s,
      n.1,
    )

ring-sound : (bs : List ℕ) (r : RingForm) (rest : List ℕ) → read_ring bs ≡ Ok (r, rest) → (bs ≡ write_ring r ++ rest) × FineRing r
ring-sound bs r rest h =
    ⊎_elim (λ w. moved write_ring FineRing bs Int r w.0 rest w.2 (expect-written (codes "(int)") bs w.0 w.1, tt))
    (λ k. ⊎_elim (λ w. moved write_ring FineRing bs QPoly r w.0 rest w.2 (expect-written (codes "(qpoly)") bs w.0 w.1, tt)) (mod_sound bs r rest)
    (or_ways (expect (codes "(qpoly)") bs) (λ q. Ok (QPoly, q)) (read_mod bs) (Ok (r, rest)) k))
    (or_ways (expect (codes "(int)") bs) (λ q. Ok (Int, q)) _ (Ok (r, rest)) h)

ring-shallow : (bs : List ℕ) → Shallow (read_ring bs)
ring-shallow bs =
    or_shallow (expect (codes "(int)") bs) (λ q. Ok (Int, q)) _ (λ q. ok-shallow (Int, q))
    (or_shallow (expect (codes "(qpoly)") bs) (λ q. Ok (QPoly, q)) (read_mod bs) (λ q. ok-shallow (QPoly, q))
    (then-shallow (expect (codes "(mod ") bs) _ (expect-shallow (codes "(mod ") bs)
    (λ a. then-shallow (read_number a) _ (number_exact.shallow a)
    (λ p. then-shallow (expect (codes ")") p.1) (λ q. Ok (Mod p.0, q)) (expect-shallow (codes ")") p.1) (λ q. ok-shallow (Mod p.0, q))))))

pub ring_exact : Exact read_ring write_ring FineRing
ring_exact = record { complete = ring-complete; sound = ring-sound; shallow = ring-shallow }

order-complete : (o : OrderChoice) (rest : List ℕ) → FineOrder o → Ends rest → read_order (write_order o ++ rest) ≡ Ok (o, rest)
order-complete lex rest p e = refl
order-complete (degree ws) rest p e =
    let w : write_order (degree ws) ++ rest ≡ codes "(deg" ++ (spaced_parts (map decimal ws) ++ (41 ∷ rest)) = simp append_assoc in
    ap read_order w ∙ ap (λ r. and_then r (λ q. Ok (degree q.0, q.1))) (parts_complete read_number decimal Number number_exact 9 [] ws rest (omega (arith, p.1)) p.0)

order-sound : (bs : List ℕ) (o : OrderChoice) (rest : List ℕ) → read_order bs ≡ Ok (o, rest) → (bs ≡ write_order o ++ rest) × FineOrder o
order-sound bs o rest h =
    ⊎_elim (λ w. moved write_order FineOrder bs lex o w.0 rest w.2 (expect-written (codes "(lex)") bs w.0 w.1, tt))
    (λ k. let a = linked (expect (codes "(deg") bs) _ (o, rest) k in
    let b = linked (read_weights a.0) (λ p. Ok (degree p.0, p.1)) (o, rest) a.2 in
    let n = parts_sound read_number decimal Number number_exact 9 [] a.0 b.0.0 b.0.1 b.1 in
    let s : codes "(deg" ++ (spaced_parts (map decimal n.0) ++ (41 ∷ b.0.1)) ≡ write_order (degree n.0) ++ b.0.1 = simp append_assoc in
    moved write_order FineOrder bs (degree b.0.0) o b.0.1 rest b.2 (
    subst (λ ws. (bs ≡ write_order (degree ws) ++ b.0.1) × FineOrder (degree ws)) (sym n.1)
    (expect-written (codes "(deg") bs a.0 a.1 ∙ ap (λ l. codes "(deg" ++ l) n.2 ∙ s, (n.3, omega (arith, n.4)))))
    (or_ways (expect (codes "(lex)") bs) (λ q. Ok (lex, q)) _ (Ok (o, rest)) h)

order-shallow : (bs : List ℕ) → Shallow (read_order bs)
order-shallow bs =
    or_shallow (expect (codes "(lex)") bs) (λ q. Ok (lex, q)) _ (λ q. ok-shallow (lex, q))
    (then-shallow (expect (codes "(deg") bs) _ (expect-shallow (codes "(deg") bs)
    (λ a. then-shallow (read_weights a) (λ p. Ok (degree p.0, p.1)) (parts_shallow read_number decimal Number number_exact 9 [] a) (λ p. ok-shallow (degree p.0, p.1))))

pub order_exact : Exact read_order write_order FineOrder
order_exact = record { complete = order-complete; sound = order-sound; shallow = order-shallow }

term-complete : (t : TermForm) (rest : List ℕ) → FineTerm t → Ends rest → read_term (write_term t ++ rest) ≡ Ok (t, rest)
term-complete t rest p e =
    let b = spaced_parts (map write_generator t.generators) ++ (41 ∷ rest) in
    let w : write_term t ++ rest ≡ 40 ∷ (t.coefficient ++ b) = simp append_assoc in
    ap read_term w
    ∙ ap (λ r. and_then r (λ c. and_then (read_parts (length c.1) read_generator [] c.1) (λ g. Ok (record { coefficient = c.0; generators = g.0 }, g.1))))
    (coefficient_exact.complete t.coefficient b p.0 (parts_end read_generator write_generator Number generator_exact t.generators rest))
    ∙ ap (λ r. and_then r (λ g. Ok (record { coefficient = t.coefficient; generators = g.0 }, g.1))) (all-complete read_generator write_generator Number generator_exact t.generators rest p.1)

term-sound : (bs : List ℕ) (t : TermForm) (rest : List ℕ) → read_term bs ≡ Ok (t, rest) → (bs ≡ write_term t ++ rest) × FineTerm t
term-sound bs t rest h =
    let a = linked (expect (codes "(") bs) _ (t, rest) h in
    let b = linked (read_coefficient a.0) _ (t, rest) a.2 in
    let c = linked (read_parts (length b.0.1) read_generator [] b.0.1) (λ g. Ok (record { coefficient = b.0.0; generators = g.0 }, g.1)) (t, rest) b.2 in
    let n = coefficient_exact.sound a.0 b.0.0 b.0.1 b.1 in
    let g = parts_sound read_generator write_generator Number generator_exact (length b.0.1) [] b.0.1 c.0.0 c.0.1 c.1 in
    let s : 40 ∷ (b.0.0 ++ (spaced_parts (map write_generator g.0) ++ (41 ∷ c.0.1))) ≡ write_term (record { coefficient = b.0.0; generators = g.0 }) ++ c.0.1 = simp append_assoc in
    moved write_term FineTerm bs (record { coefficient = b.0.0; generators = c.0.0 }) t c.0.1 rest c.2 (
    subst (λ gs. (bs ≡ write_term (record { coefficient = b.0.0; generators = gs }) ++ c.0.1) × FineTerm (record { coefficient = b.0.0; generators = gs })) (sym g.1)
    (expect-written (codes "(") bs a.0 a.1 ∙ ap (λ l. 40 ∷ l) (n.0 ∙ ap (λ l. b.0.0 ++ l) g.2) ∙ s, (n.1, g.3)))

term-shallow : (bs : List ℕ) → Shallow (read_term bs)
term-shallow bs =
    then-shallow (expect (codes "(") bs) _ (expect-shallow (codes "(") bs)
    (λ a. then-shallow (read_coefficient a) _ (coefficient_exact.shallow a)
    (λ c. then-shallow (read_parts (length c.1) read_generator [] c.1) (λ g. Ok (record { coefficient = c.0; generators = g.0 }, g.1))
    (parts_shallow read_generator write_generator Number generator_exact (length c.1) [] c.1) (λ g. ok-shallow _)))

pub term_exact : Exact read_term write_term FineTerm
term_exact = record { complete = term-complete; sound = term-sound; shallow = term-shallow }
