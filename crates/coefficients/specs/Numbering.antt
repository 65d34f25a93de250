-- The coding of a ring whose elements have numbers: the codes are the numbers below a bound.
use Rattle.std.specs.Prelude.{◌≡◌, ℕ, ◌^◌, ◌<◌, ◌≤◌, Bool, true, false, cond, ◌&&◌, List, Some, None, Ok, Err, Option, nat_lt, refl}
use Rattle.std.proofs.Common.{sym, ap, ◌∙◌, arith}
use Rattle.std.proofs.lemmas.Bool.{ltb-true, ltb-false, lt-ltb}
use Rattle.theory.specs.Ring.{CommutativeRing}
use Rattle.coefficients.specs.declared.fault.RingFault.TheVariants.{NotInUse, NoWriting, NoCode}
use Rattle.coefficients.specs.Coding.{Coding, Answer, Means, Coded, Answers, Reads, Writable}

-- every element has a number, and is what its number means; the numbers below `bound` are the codes in use
pub record Numbering (R : CommutativeRing) : Type 0 where
  pub bound : ℕ
  pub bound_fits : bound ≤ 2 ^ 64
  pub number : R.carrier → ℕ
  pub means : ℕ → R.carrier
  pub number_means : (c : ℕ) → c < bound → number (means c) ≡ c
  pub means_number : (x : R.carrier) → means (number x) ≡ x
  pub number_zero : number R.zero ≡ 0
  pub unit : ℕ
  pub number_one : number R.one ≡ unit
  pub unit_below : unit < bound
  -- one writing for each code, which is read back; nothing else is read
  pub writing : ℕ → List ℕ
  pub read : List ℕ → Option ℕ
  pub writable : (c : ℕ) → c < bound → Writable (writing c)
  pub read_writing : (c : ℕ) → c < bound → read (writing c) ≡ Some c
  pub reads : (bs : List ℕ) (c : ℕ) → read bs ≡ Some c → (c < bound) × (writing c ≡ bs)

-- the code n, if it is below the bound
abbrev pub code_below : ℕ → ℕ → Answer
code_below bound n = cond (nat_lt n bound) (Ok n) (Err NoCode)

-- what an operation answers, by whether its operands are in use
abbrev pub when_in_use : Bool → Answer → Answer
when_in_use ready r = cond ready r (Err NotInUse)

-- the code that was read, if one was
abbrev pub read_answer : Option ℕ → Answer
read_answer (Some c) = Ok c
read_answer None = Err NoWriting

module _ (R : CommutativeRing) (n : Numbering R) where
  abbrev pub used_code : ℕ → Bool
  used_code c = nat_lt c n.bound

  abbrev pub code_of : R.carrier → Answer
  code_of x = code_below n.bound (n.number x)

  pub coded : (x : R.carrier) → Coded R used_code n.means x (code_of x)
  coded x = go (nat_lt (n.number x) n.bound) refl
    where
      go : (t : Bool) → nat_lt (n.number x) n.bound ≡ t → Coded R used_code n.means x (cond t (Ok (n.number x)) (Err NoCode))
      go true p = record { in_use = p; is = n.means_number x }
      go false p = λ c m.
          let l = ltb-true c n.bound m.in_use in
          let e : n.number x ≡ c = ap n.number (sym m.is) ∙ n.number_means c l in
          omega (arith, ltb-false (n.number x) n.bound p, l, e)

  pub answers : (t : Bool) (x : R.carrier) → Answers R used_code n.means t x (when_in_use t (code_of x))
  answers true x = coded x
  answers false x = refl

  pub reading : (bs : List ℕ) (r : Option ℕ) → n.read bs ≡ r → Reads used_code n.writing bs (read_answer r)
  reading bs (Some c) e = let h = n.reads bs c e in (lt-ltb c n.bound h.0, h.1)
  reading bs None e = refl

  pub means_code : (x : R.carrier) (c : ℕ) → n.number x ≡ c → c < n.bound → Means R used_code n.means c x
  means_code x c e h = record { in_use = lt-ltb c n.bound h; is = ap n.means (sym e) ∙ n.means_number x }

  pub distinct : (a b : ℕ) → used_code a ≡ true → used_code b ≡ true → n.means a ≡ n.means b → a ≡ b
  distinct a b p q e = sym (n.number_means a (ltb-true a n.bound p)) ∙ ap n.number e ∙ n.number_means b (ltb-true b n.bound q)

  abbrev pub coding_of : Coding
  coding_of = record {
    ring = R;
    used = used_code;
    means = n.means;
    one = n.unit;
    sum = λ a b. when_in_use (used_code a && used_code b) (code_of (R.add (n.means a) (n.means b)));
    product = λ a b. when_in_use (used_code a && used_code b) (code_of (R.mul (n.means a) (n.means b)));
    negative = λ a. when_in_use (used_code a) (code_of (R.neg (n.means a)));
    writing = n.writing;
    read = λ bs. read_answer (n.read bs);
    zero_code = means_code R.zero 0 n.number_zero (let h : n.unit < n.bound = n.unit_below in omega arith);
    one_code = means_code R.one n.unit n.number_one n.unit_below;
    used_below = λ a p. omega (arith, ltb-true a n.bound p, n.bound_fits);
    distinct = distinct;
    sum_answers = λ a b. answers (used_code a && used_code b) (R.add (n.means a) (n.means b));
    product_answers = λ a b. answers (used_code a && used_code b) (R.mul (n.means a) (n.means b));
    negative_answers = λ a. answers (used_code a) (R.neg (n.means a));
    writable = λ a p. n.writable a (ltb-true a n.bound p);
    read_writing = λ a p. ap read_answer (n.read_writing a (ltb-true a n.bound p));
    reads = λ bs. reading bs (n.read bs) refl;
  }
