-- Numbers, generators and coefficients: exactly what is written is read.
use Rattle.std.proofs.Common.{◌≡◌, ℕ, ◌+◌, ◌<◌, Bool, true, false, cond, eqb, List, [], ◌∷◌, ◌++◌, length, take, drop, Some, None, Ok, Err, decimal, Option, Result, sym, refl, ap, ◌∙◌, subst, one-add, arith}
use Rattle.std.specs.Str.Parse.{AllDigits}
use Rattle.std.proofs.lemmas.Fmt.{decimal_is_IsNumeral, decimal_nonempty}
use Rattle.std.proofs.lemmas.Str.Parse.{digit_from_value}
use Rattle.std.proofs.lemmas.Bool.Decides.{nat_tests}
use Rattle.std.proofs.lemmas.List.{take_at, drop_at, take-append-drop, length-take-le}
use Rattle.grammar.specs.declared.fault.ReadFault.{ReadFault}
use Rattle.grammar.specs.declared.fault.ReadFault.TheVariants.{Misfit, DeepBracket}
use Rattle.grammar.specs.Reading.{Reads, and_then, breaks, atom_length, formed, unless_generator, read_atom, number_of, generator_of, read_number, read_generator, read_coefficient}
use Rattle.grammar.specs.Grammar.{write_generator, plain, Number, Coefficient}
use Rattle.grammar.proofs.Operating.{atom_length_le}
use Rattle.grammar.proofs.Chains.{linked, formed_is, unless_is}
use Rattle.grammar.proofs.Numbers.{number_writes, number-written, number-below}

-- the end of the line, a space or a bracket
abbrev pub Ends : List ℕ → Type 0
Ends [] = Unit {0}
Ends (b ∷ bs) = breaks b ≡ true

-- it does not stop at a deep bracket
abbrev pub Shallow : {X : Type 0} → Result X ReadFault → Type 0
Shallow r = r ≡ Err DeepBracket → ⊥

-- R reads exactly what W writes of the values that P allows
pub record Exact {X : Type 0} (R : List ℕ → Reads X) (W : X → List ℕ) (P : X → Type 0) : Type 0 where
  pub complete : (x : X) (rest : List ℕ) → P x → Ends rest → R (W x ++ rest) ≡ Ok (x, rest)
  pub sound : (bs : List ℕ) (x : X) (rest : List ℕ) → R bs ≡ Ok (x, rest) → (bs ≡ W x ++ rest) × P x
  pub shallow : (bs : List ℕ) → Shallow (R bs)

pub misfit-shallow : {X : Type 0} → Shallow {X = X} (Err Misfit)
misfit-shallow h = absurd (cc)

pub ok-shallow : {X : Type 0} (x : X) → Shallow (Ok x)
ok-shallow x h = absurd (cc)

pub then-shallow : {X Y : Type 0} (r : Result X ReadFault) (f : X → Result Y ReadFault) → Shallow r → ((x : X) → Shallow (f x)) → Shallow (and_then r f)
then-shallow (Ok x) f h k = k x
then-shallow {X} {Y} (Err Misfit) f h k = misfit-shallow {X = Y}
then-shallow (Err DeepBracket) f h k = λ _. h refl

pub cond-shallow : {X : Type 0} (b : Bool) (r s : Result X ReadFault) → Shallow r → Shallow s → Shallow (cond b r s)
cond-shallow true r s h k = h
cond-shallow false r s h k = k

formed-shallow : {X : Type 0} (o : Option X) (rest : List ℕ) → Shallow (formed o rest)
formed-shallow (Some x) rest = ok-shallow (x, rest)
formed-shallow {X} None rest = misfit-shallow {X = X × List ℕ}

unless-shallow : (o : Option ℕ) (a rest : List ℕ) → Shallow (unless_generator o a rest)
unless-shallow (Some x) a rest = misfit-shallow {X = List ℕ × List ℕ}
unless-shallow None a rest = ok-shallow (a, rest)

pub atom_shallow : (bs : List ℕ) → Shallow (read_atom bs)
atom_shallow bs h = grind (arith, nat_tests)

atom_whole : (a rest : List ℕ) → plain a ≡ true → Ends rest → atom_length (a ++ rest) ≡ length a
atom_whole [] [] p e = refl
atom_whole [] (b ∷ rest) p e = rw e
atom_whole (b ∷ a) rest p e = let i = atom_whole a rest in grind (arith, nat_tests)

pub atom_read : (a rest : List ℕ) → plain a ≡ true → 0 < length a → Ends rest → read_atom (a ++ rest) ≡ Ok (a, rest)
atom_read a rest p h e = let n = atom_whole a rest p e in rw (n, take_at a rest (length a) refl, drop_at a rest (length a) refl) (grind (arith, nat_tests))

plain_atom : (bs : List ℕ) → plain (take (atom_length bs) bs) ≡ true
plain_atom [] = refl
plain_atom (b ∷ bs) = go (breaks b) refl (plain_atom bs)
  where
    go : (t : Bool) → t ≡ breaks b → plain (take (atom_length bs) bs) ≡ true → plain (take (cond t 0 (1 + atom_length bs)) (b ∷ bs)) ≡ true
    go true h i = refl
    go false h i = rw (one-add, sym h) i

-- the bytes of a part: not none, and neither space nor bracket
pub record Atom (bs a rest : List ℕ) : Type 0 where
  pub split : bs ≡ a ++ rest
  pub is_plain : plain a ≡ true
  pub some : 0 < length a

atom_taken : (bs : List ℕ) → false ≡ eqb (atom_length bs) 0 → Atom bs (take (atom_length bs) bs) (drop (atom_length bs) bs)
atom_taken bs h =
    let n = length-take-le (atom_length bs) bs (atom_length_le bs) in
    record { split = sym (take-append-drop (atom_length bs) bs); is_plain = plain_atom bs; some = grind (arith, nat_tests) }

abbrev Two : Type 0
Two = List ℕ × List ℕ

pub atom_sound : (bs a rest : List ℕ) → read_atom bs ≡ Ok (a, rest) → Atom bs a rest
atom_sound bs a rest h = go (eqb (atom_length bs) 0) refl h
  where
    go : (t : Bool) → t ≡ eqb (atom_length bs) 0 → cond {A = Reads (List ℕ)} t (Err Misfit) (Ok (take (atom_length bs) bs, drop (atom_length bs) bs)) ≡ Ok (a, rest) → Atom bs a rest
    go true k e = absurd (cc)
    go false k e =
        let q : ◌≡◌ {A = Two} (take (atom_length bs) bs, drop (atom_length bs) bs) (a, rest) = cc in
        subst (λ (p : Two). Atom bs p.0 p.1) q (atom_taken bs k)

digits-plain : (ds : List ℕ) → AllDigits 10 ds → plain ds ≡ true
digits-plain [] h = refl
digits-plain (d ∷ ds) h = let r = digit_from_value d h.0 in let i = digits-plain ds h.1 in grind (arith, nat_tests)

pub decimal_plain : (n : ℕ) → Number n → plain (decimal n) ≡ true
decimal_plain n h = digits-plain (decimal n) (decimal_is_IsNumeral n (omega arith)).0.1

-- a value that an atom may stand for: its writing is an atom, and the only one that stands for it
module _ {X : Type 0} (of : List ℕ → Option X) (W : X → List ℕ) (P : X → Type 0)
    (is_plain : (x : X) → P x → plain (W x) ≡ true) (some : (x : X) → P x → 0 < length (W x)) (back : (x : X) → P x → of (W x) ≡ Some x)
    (written : (a : List ℕ) (x : X) → of a ≡ Some x → (W x ≡ a) × P x) where
  pub formed_exact : Exact (λ bs. and_then (read_atom bs) (λ p. formed (of p.0) p.1)) W P
  formed_exact = record {
    complete = λ x rest p e. ap (λ r. and_then r (λ p. formed (of p.0) p.1)) (atom_read (W x) rest (is_plain x p) (some x p) e) ∙ ap (λ o. formed o rest) (back x p);
    sound = λ bs x rest h.
        let l = linked (read_atom bs) (λ p. formed (of p.0) p.1) (x, rest) h in
        let f = formed_is (of l.0.0) l.0.1 rest x l.2 in
        let w = written l.0.0 x f.0 in
        ((atom_sound bs l.0.0 l.0.1 l.1).split ∙ ap (λ a. a ++ l.0.1) (sym w.0) ∙ ap (λ r. W x ++ r) f.1, w.1);
    shallow = λ bs. then-shallow (read_atom bs) (λ p. formed (of p.0) p.1) (atom_shallow bs) (λ p. formed-shallow (of p.0) p.1);
  }

pub number_exact : Exact read_number decimal Number
number_exact = formed_exact number_of decimal Number decimal_plain (λ n h. decimal_nonempty n (omega arith)) number_writes (λ a n h. (number-written a n h, number-below a n h))

pub generator-written : (a : List ℕ) (n : ℕ) → generator_of a ≡ Some n → (write_generator n ≡ a) × Number n
generator-written [] n h = absurd (cc)
generator-written (b ∷ a) n h = go (eqb b 120) refl h
  where
    go : (t : Bool) → t ≡ eqb b 120 → cond t (number_of a) None ≡ Some n → (write_generator n ≡ b ∷ a) × Number n
    go true k e = let i : b ≡ 120 = grind (arith, nat_tests) in (rw (number-written a n e, i), number-below a n e)
    go false k e = absurd (cc)

pub generator_exact : Exact read_generator write_generator Number
generator_exact = formed_exact generator_of write_generator Number decimal_plain (λ n h. omega arith) number_writes generator-written

-- no generator is no number's
pub no_generator : (a : List ℕ) → ((n : ℕ) → Number n → a ≡ write_generator n → ⊥) → generator_of a ≡ None
no_generator a h = go (generator_of a) refl
  where
    go : (o : Option ℕ) → generator_of a ≡ o → o ≡ None
    go None e = refl
    go (Some n) e = let w = generator-written a n e in absurd (h n w.1 (sym w.0))

pub none_generator : (a : List ℕ) → generator_of a ≡ None → (n : ℕ) → Number n → a ≡ write_generator n → ⊥
none_generator a h n k e = let z : Some n ≡ None = sym (number_writes n k) ∙ ap generator_of (sym e) ∙ h in absurd (cc)

pub coefficient_exact : Exact read_coefficient (λ a. a) Coefficient
coefficient_exact = record {
  complete = λ a rest p e. ap (λ r. and_then r (λ p. unless_generator (generator_of p.0) p.0 p.1)) (atom_read a rest p.0 p.1 e) ∙ ap (λ o. unless_generator o a rest) (no_generator a p.2);
  sound = λ bs a rest h.
      let l = linked (read_atom bs) (λ p. unless_generator (generator_of p.0) p.0 p.1) (a, rest) h in
      let f = unless_is (generator_of l.0.0) l.0.0 l.0.1 a rest l.2 in
      let s = atom_sound bs l.0.0 l.0.1 l.1 in
      (s.split ∙ ap (λ x. x ++ l.0.1) f.1 ∙ ap (λ r. a ++ r) f.2, subst Coefficient f.1 (s.is_plain, s.some, none_generator l.0.0 f.0));
  shallow = λ bs. then-shallow (read_atom bs) (λ p. unless_generator (generator_of p.0) p.0 p.1) (atom_shallow bs) (λ p. unless-shallow (generator_of p.0) p.0 p.1);
}
