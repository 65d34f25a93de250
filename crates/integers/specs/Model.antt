-- The codes of integers: 2a for a ≥ 0 and −2a − 1 for a < 0, where a is at most 2,147,483,647 from 0; written in decimal, with a leading minus.
use Rattle.std.specs.Prelude.{◌≡◌, ℕ, zero, suc, ◌+◌, ◌-◌, ◌*◌, ◌/◌, ◌%◌, ◌<◌, ◌≤◌, Bool, true, false, cond, ◌&&◌, ◌↔◌, List, [], ◌∷◌, length, ℤ, pos, negsuc, Some, None, Option, ◌==◌, nat_le, nat_lt, slice_index, unsigned_abs, refl}
use Rattle.std.proofs.Common.{sym, ap, ap₂, subst, ◌∙◌, arith, lit<, lit≤}
use Rattle.std.proofs.lemmas.Bool.{ltb-true, leb-true, lt-ltb, le-leb, and_parts, and_from, ne_eqb, eqb-true}
use Rattle.coefficients.specs.Coding.{Coding, Writable}
use Rattle.coefficients.specs.Numerals.{numeral, read_numeral}
use Rattle.coefficients.specs.NumeralLaws.{numeral_some, numeral-length, numeral_nonzero, numeral-figure, read_of_numeral, numeral_of_read}
use Rattle.coefficients.specs.Numbering.{Numbering, coding_of}
use Rattle.integers.specs.Ring.{integer_ring}

-- the codes in use are those below 4,294,967,295
abbrev pub code_bound : ℕ
code_bound = 4294967295

-- n, or −n − 1 where the remainder is not 0
abbrev pub signed : ℕ → ℕ → ℤ
signed zero n = pos n
signed (suc d) n = negsuc n

-- the integer that a code means
abbrev pub integer : ℕ → ℤ
integer c = signed (c % 2) (c / 2)

-- the code of an integer
abbrev pub integer_number : ℤ → ℕ
integer_number (pos n) = n * 2
integer_number (negsuc n) = suc (n * 2)

number-signed : (d n c : ℕ) → d < 2 → d + n * 2 ≡ c → integer_number (signed d n) ≡ c
number-signed zero n c h e = omega arith
number-signed (suc d) n c h e = omega arith

pub number-integer : (c : ℕ) → integer_number (integer c) ≡ c
number-integer c = number-signed (c % 2) (c / 2) c (omega arith) (omega arith)

pub integer_of_number : (x : ℤ) → integer (integer_number x) ≡ x
integer_of_number (pos n) = ap₂ signed zero_bit half
  where
    zero_bit : n * 2 % 2 ≡ 0
    zero_bit = omega arith

    half : n * 2 / 2 ≡ n
    half = omega arith
integer_of_number (negsuc n) = ap₂ signed one_bit half
  where
    one_bit : suc (n * 2) % 2 ≡ 1
    one_bit = omega arith

    half : suc (n * 2) / 2 ≡ n
    half = omega arith

-- ---- writings; 45 is the minus sign
abbrev pub written : ℤ → List ℕ
written (pos n) = numeral 10 n
written (negsuc n) = 45 ∷ numeral 10 (suc n)

-- the code of n, and of −n
abbrev pub natural_code : Option ℕ → Option ℕ
natural_code None = None
natural_code (Some n) = cond (nat_le n 2147483647) (Some (n * 2)) None

abbrev pub negative_code : Option ℕ → Option ℕ
negative_code None = None
negative_code (Some n) = cond (nat_lt 0 n && nat_le n 2147483647) (Some (n * 2 - 1)) None

-- the code of what is written
abbrev pub read_integer : List ℕ → Option ℕ
read_integer [] = natural_code (read_numeral 10 [])
read_integer (c ∷ cs) = cond (c == 45) (negative_code (read_numeral 10 cs)) (natural_code (read_numeral 10 (c ∷ cs)))

-- the integers that have codes are those at most 2,147,483,647 from 0
pub near : (x : ℤ) → (integer_number x < code_bound) ↔ (unsigned_abs x ≤ 2147483647)
near (pos n) = (λ h. omega arith, λ h. omega arith)
near (negsuc n) = (λ h. omega arith, λ h. omega arith)

writable-numeral : (n : ℕ) → n ≤ 2147483647 → length (numeral 10 n) ≤ 10
writable-numeral n h = numeral-length 10 (lit≤ tt) 10 n (lit< tt) (omega arith)

pub writable : (x : ℤ) → unsigned_abs x ≤ 2147483647 → Writable (written x)
writable (pos n) h =
    let l = writable-numeral n h in
    record { some = numeral_some 10 (lit≤ tt) n; short = omega arith; nonzero = numeral_nonzero 10 (lit≤ tt) (lit≤ tt) n }
writable (negsuc n) h =
    let l = writable-numeral (suc n) h in
    record { some = omega arith; short = omega arith; nonzero = (lit< tt, lit< tt, numeral_nonzero 10 (lit≤ tt) (lit≤ tt) (suc n)) }

-- a text that begins with no minus sign
read_unsigned : (ds : List ℕ) → 48 ≤ slice_index ds 0 → read_integer ds ≡ natural_code (read_numeral 10 ds)
read_unsigned [] h = refl
read_unsigned (d ∷ ds) h = rw (ne_eqb d 45 (λ e. omega arith))

pub read-written : (x : ℤ) → unsigned_abs x ≤ 2147483647 → read_integer (written x) ≡ Some (integer_number x)
read-written (pos n) h =
    read_unsigned (numeral 10 n) (numeral-figure 10 (lit≤ tt) n)
    ∙ ap natural_code (read_of_numeral 10 (lit≤ tt) n (omega arith))
    ∙ ap (λ t. cond t (Some (n * 2)) None) (le-leb n 2147483647 h)
read-written (negsuc n) h =
    ap negative_code (read_of_numeral 10 (lit≤ tt) (suc n) (omega arith))
    ∙ ap (λ t. cond t (Some (suc n * 2 - 1)) None) (and_from (nat_lt 0 (suc n)) (nat_le (suc n) 2147483647) (lt-ltb 0 (suc n) (omega arith)) (le-leb (suc n) 2147483647 h))
    ∙ ap Some here
  where
    here : suc n * 2 - 1 ≡ suc (n * 2)
    here = omega arith

-- the number whose code was given
some_if : (t : Bool) (k c : ℕ) → cond t (Some k) None ≡ Some c → (t ≡ true) × (k ≡ c)
some_if true k c e = (refl, cc)
some_if false k c e = let z : ◌≡◌ {A = ℕ} 0 1 = cc in absurd (omega arith)

natural_coded : (r : Option ℕ) (c : ℕ) → natural_code r ≡ Some c → (n : ℕ) × (r ≡ Some n) × (n ≤ 2147483647) × (n * 2 ≡ c)
natural_coded None c e = let z : ◌≡◌ {A = ℕ} 0 1 = cc in absurd (omega arith)
natural_coded (Some n) c e = let h = some_if (nat_le n 2147483647) (n * 2) c e in (n, refl, leb-true n 2147483647 h.0, h.1)

negative-coded : (r : Option ℕ) (c : ℕ) → negative_code r ≡ Some c → (n : ℕ) × (r ≡ Some (suc n)) × (suc n ≤ 2147483647) × (suc (n * 2) ≡ c)
negative-coded None c e = let z : ◌≡◌ {A = ℕ} 0 1 = cc in absurd (omega arith)
negative-coded (Some zero) c e = let z : ◌≡◌ {A = ℕ} 0 1 = cc in absurd (omega arith)
negative-coded (Some (suc n)) c e =
    let h = some_if (nat_lt 0 (suc n) && nat_le (suc n) 2147483647) (suc n * 2 - 1) c e in
    let p = and_parts (nat_lt 0 (suc n)) (nat_le (suc n) 2147483647) h.0 in
    (n, refl, leb-true (suc n) 2147483647 p.1, omega (arith, h.1))

-- a code in use that is an integer's, with its writing
written-code : (x : ℤ) (c : ℕ) (bs : List ℕ) → integer_number x ≡ c → unsigned_abs x ≤ 2147483647 → written x ≡ bs → (c < code_bound) × (written (integer c) ≡ bs)
written-code x c bs e h w =
    (subst (λ n. n < code_bound) e ((near x).1 h), ap written (ap integer (sym e) ∙ integer_of_number x) ∙ w)

pub written_read : (bs : List ℕ) (c : ℕ) → read_integer bs ≡ Some c → (c < code_bound) × (written (integer c) ≡ bs)
written_read [] c e = let z : ◌≡◌ {A = ℕ} 0 1 = cc in absurd (omega arith)
written_read (d ∷ ds) c e = go (d == 45) refl e
  where
    go : (t : Bool) → (d == 45) ≡ t → cond t (negative_code (read_numeral 10 ds)) (natural_code (read_numeral 10 (d ∷ ds))) ≡ Some c → (c < code_bound) × (written (integer c) ≡ d ∷ ds)
    go true p e =
        let h = negative-coded (read_numeral 10 ds) c e in
        written-code (negsuc h.0) c (d ∷ ds) h.3 h.2
        (ap₂ (λ (x : ℕ) (xs : List ℕ). x ∷ xs) (sym (eqb-true d 45 p)) (numeral_of_read 10 (lit≤ tt) ds (suc h.0) h.1))
    go false p e =
        let h = natural_coded (read_numeral 10 (d ∷ ds)) c e in
        written-code (pos h.0) c (d ∷ ds) h.3 h.2 (numeral_of_read 10 (lit≤ tt) (d ∷ ds) h.0 h.1)

abbrev pub integer_numbering : Numbering integer_ring
integer_numbering = record {
  bound = code_bound;
  bound_fits = lit≤ tt;
  number = integer_number;
  means = integer;
  number_means = λ c h. number-integer c;
  means_number = integer_of_number;
  number_zero = refl;
  unit = 2;
  number_one = refl;
  unit_below = lit< tt;
  writing = λ c. written (integer c);
  read = read_integer;
  writable = λ c h. writable (integer c) ((near (integer c)).0 (subst (λ n. n < code_bound) (sym (number-integer c)) h));
  read_writing = λ c h.
      read-written (integer c) ((near (integer c)).0 (subst (λ n. n < code_bound) (sym (number-integer c)) h)) ∙ ap Some (number-integer c);
  reads = written_read;
}

abbrev pub integer_coding : Coding
integer_coding = coding_of integer_ring integer_numbering

-- a code is in use where what it means is at most 2,147,483,647 from 0
pub integer_in_use : (c : ℕ) → (integer_coding.used c ≡ true) ↔ (unsigned_abs (integer c) ≤ 2147483647)
integer_in_use c = (
  λ e. (near (integer c)).0 (subst (λ n. n < code_bound) (sym (number-integer c)) (ltb-true c code_bound e)),
  λ h. lt-ltb c code_bound (subst (λ n. n < code_bound) (number-integer c) ((near (integer c)).1 h)),
)
