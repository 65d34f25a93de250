-- What the links of a chain of readers answered.
use Rattle.std.proofs.Common.{◌≡◌, ℕ, suc, ◌+◌, ◌-◌, ◌<◌, Bool, true, false, cond, eqb, List, [], ◌∷◌, ◌++◌, length, Some, None, Ok, Err, Option, Result, sym, refl, ap, arith, length-append}
use Rattle.std.proofs.lemmas.Bool.Decides.{nat_tests}
use Rattle.grammar.specs.declared.fault.ReadFault.{ReadFault}
use Rattle.grammar.specs.declared.fault.ReadFault.TheVariants.{Misfit}
use Rattle.grammar.specs.declared.bytes.Next.TheVariants.{Part}
use Rattle.grammar.specs.Reading.{Reads, and_then, expect, formed, unless_generator, read_atom, read_number, read_spaced_number, read_coefficient, read_next, by_next, read_parts, number_of, generator_of}
use Rattle.grammar.proofs.Operating.{atom_shrinks}

-- an answer of a chain has answers at its links
pub linked : {X Y : Type 0} (r : Result X ReadFault) (f : X → Result Y ReadFault) (y : Y) → and_then r f ≡ Ok y → (x : X) × (r ≡ Ok x) × (f x ≡ Ok y)
linked (Ok x) f y h = (x, refl, h)
linked (Err e) f y h = absurd (cc)

pub chosen : {Y : Type 0} (b : Bool) (r : Result Y ReadFault) (y : Y) → cond b r (Err Misfit) ≡ Ok y → (b ≡ true) × (r ≡ Ok y)
chosen true r y h = (refl, h)
chosen false r y h = absurd (cc)

pub formed_is : {X : Type 0} (o : Option X) (r rest : List ℕ) (x : X) → formed o r ≡ Ok (x, rest) → (o ≡ Some x) × (r ≡ rest)
formed_is {X} (Some y) r rest x h = let q : ◌≡◌ {A = X × List ℕ} (y, r) (x, rest) = cc in (ap (λ (p : X × List ℕ). Some p.0) q, ap (λ (p : X × List ℕ). p.1) q)
formed_is None r rest x h = absurd (cc)

pub unless_is : (o : Option ℕ) (a r x rest : List ℕ) → unless_generator o a r ≡ Ok (x, rest) → (o ≡ None) × (a ≡ x) × (r ≡ rest)
unless_is (Some n) a r x rest h = absurd (cc)
unless_is None a r x rest h = let q : ◌≡◌ {A = List ℕ × List ℕ} (a, r) (x, rest) = cc in (refl, ap (λ (p : List ℕ × List ℕ). p.0) q, ap (λ (p : List ℕ × List ℕ). p.1) q)

pub expect-written : (w bs rest : List ℕ) → expect w bs ≡ Ok rest → bs ≡ w ++ rest
expect-written [] bs rest h = cc
expect-written (c ∷ w) [] rest h = absurd (cc)
expect-written (c ∷ w) (b ∷ bs) rest h = let k = chosen (eqb b c) (expect w bs) rest h in let i = expect-written w bs rest k.1 in grind (arith, nat_tests)

pub expect_shrinks : (w bs rest : List ℕ) → Ok rest ≡ expect w bs → length rest + length w ≡ length bs
expect_shrinks w bs rest h = omega (arith, length-append w rest, ap length (expect-written w bs rest (sym h)))

pub formed_shrinks : {X : Type 0} (f : List ℕ → Option X) (bs rest : List ℕ) (x : X) → Ok (x, rest) ≡ and_then (read_atom bs) (λ p. formed (f p.0) p.1) → length rest < length bs
formed_shrinks f bs rest x h =
    let l = linked (read_atom bs) (λ p. formed (f p.0) p.1) (x, rest) (sym h) in
    omega (arith, atom_shrinks bs l.0.0 l.0.1 (sym l.1), ap length (formed_is (f l.0.0) l.0.1 rest x l.2).1)

pub spaced_shrinks : (bs rest : List ℕ) (n : ℕ) → Ok (n, rest) ≡ read_spaced_number bs → length rest < length bs
spaced_shrinks bs rest n h =
    let l = linked (read_number bs) (λ p. and_then (expect (32 ∷ []) p.1) (λ q. Ok (p.0, q))) (n, rest) (sym h) in
    let k = linked (expect (32 ∷ []) l.0.1) (λ q. Ok (l.0.0, q)) (n, rest) l.2 in
    let q : ◌≡◌ {A = ℕ × List ℕ} (l.0.0, k.0) (n, rest) = cc k.2 in
    omega (arith, formed_shrinks number_of bs l.0.1 l.0.0 (sym l.1), expect_shrinks (32 ∷ []) l.0.1 k.0 (sym k.1), ap (λ (p : ℕ × List ℕ). length p.1) q)

pub coefficient_shrinks : (bs a rest : List ℕ) → Ok (a, rest) ≡ read_coefficient bs → length rest < length bs
coefficient_shrinks bs a rest h =
    let l = linked (read_atom bs) (λ p. unless_generator (generator_of p.0) p.0 p.1) (a, rest) (sym h) in
    omega (arith, atom_shrinks bs l.0.0 l.0.1 (sym l.1), ap length (unless_is (generator_of l.0.0) l.0.0 l.0.1 a rest l.2).2)

-- a part more than a list may have
pub parts_full : {X : Type 0} (R : List ℕ → Reads X) (xs : List X) (bs after more : List ℕ) (x : X) → Ok (Part, after) ≡ read_next bs → Ok (x, more) ≡ R after → read_parts 1 R xs bs ≡ Err Misfit
unfolding read_parts
parts_full R xs bs after more x h k = rw (sym h, sym k)

pub parts_more : {X : Type 0} (R : List ℕ → Reads X) (n i : ℕ) (xs : List X) (bs : List ℕ) → i < n → read_parts (n - i) R xs bs ≡ by_next (read_next bs) (λ q. Ok (xs, q)) (λ r. and_then (R r) (λ p. read_parts (n - (i + 1)) R (xs ++ (p.0 ∷ [])) p.1))
unfolding read_parts
parts_more R n i xs bs h = let e : n - i ≡ suc (n - (i + 1)) = omega arith in ap (λ k. read_parts k R xs bs) e
