-- What a coefficient ring means: a commutative ring, which codes mean which of its elements, and what the operations on codes answer.
use Rattle.std.specs.Prelude.{◌≡◌, ℕ, ◌-◌, ◌^◌, ◌<◌, ◌≤◌, Bool, true, false, cond, ◌&&◌, List, [], ◌∷◌, ◌++◌, length, replicate, Ok, Err, Result}
use Rattle.theory.specs.Ring.{CommutativeRing}
use Rattle.coefficients.specs.declared.fault.RingFault.{RingFault}
use Rattle.coefficients.specs.declared.fault.RingFault.TheVariants.{NotInUse, NoWriting, NoCode}

abbrev pub Answer : Type 0
Answer = Result ℕ RingFault

-- the code c is in use, and means x
pub record Means (R : CommutativeRing) (used : ℕ → Bool) (means : ℕ → R.carrier) (c : ℕ) (x : R.carrier) : Type 0 where
  pub in_use : used c ≡ true
  pub is : means c ≡ x

-- r is the code of x, or says that x has none
abbrev pub Coded : (R : CommutativeRing) (used : ℕ → Bool) (means : ℕ → R.carrier) → R.carrier → Answer → Type 0
Coded R used means x (Ok c) = Means R used means c x
Coded R used means x (Err NoCode) = (c : ℕ) → ¬ Means R used means c x
Coded R used means x (Err NotInUse) = ⊥
Coded R used means x (Err NoWriting) = ⊥

-- what an operation answers whose result in the ring is x: the code of x where its operands are in use, else that one is not
abbrev pub Answers : (R : CommutativeRing) (used : ℕ → Bool) (means : ℕ → R.carrier) → Bool → R.carrier → Answer → Type 0
Answers R used means true x r = Coded R used means x r
Answers R used means false x r = r ≡ Err NotInUse

-- what reading bs answers: the code in use that bs is the writing of, or that it is no writing
abbrev pub Reads : (used : ℕ → Bool) (writing : ℕ → List ℕ) → List ℕ → Answer → Type 0
Reads used writing bs (Ok c) = (used c ≡ true) × (writing c ≡ bs)
Reads used writing bs (Err f) = f ≡ NoWriting

-- bytes other than zero
abbrev pub Nonzero : List ℕ → Type 0
Nonzero [] = Unit {0}
Nonzero (b ∷ bs) = (0 < b) × (b < 256) × Nonzero bs

-- what may be written into 80 bytes and told from the zeros after it
pub record Writable (bs : List ℕ) : Type 0 where
  pub some : 1 ≤ length bs
  pub short : length bs ≤ 80
  pub nonzero : Nonzero bs

pub record Coding : Type 1 where
  pub ring : CommutativeRing
  pub used : ℕ → Bool
  pub means : ℕ → ring.carrier
  pub one : ℕ
  pub sum : ℕ → ℕ → Answer
  pub product : ℕ → ℕ → Answer
  pub negative : ℕ → Answer
  pub writing : ℕ → List ℕ
  pub read : List ℕ → Answer
  -- 0 means zero; a code in use has 64 bits; different ones mean different elements
  pub zero_code : Means ring used means 0 ring.zero
  pub one_code : Means ring used means one ring.one
  pub used_below : (a : ℕ) → used a ≡ true → a < 2 ^ 64
  pub distinct : (a b : ℕ) → used a ≡ true → used b ≡ true → means a ≡ means b → a ≡ b
  -- the operations are the ring's
  pub sum_answers : (a b : ℕ) → Answers ring used means (used a && used b) (ring.add (means a) (means b)) (sum a b)
  pub product_answers : (a b : ℕ) → Answers ring used means (used a && used b) (ring.mul (means a) (means b)) (product a b)
  pub negative_answers : (a : ℕ) → Answers ring used means (used a) (ring.neg (means a)) (negative a)
  -- a code has one writing, which is read back; nothing else is read
  pub writable : (a : ℕ) → used a ≡ true → Writable (writing a)
  pub read_writing : (a : ℕ) → used a ≡ true → read (writing a) ≡ Ok a
  pub reads : (bs : List ℕ) → Reads used writing bs (read bs)

-- how long the writing of a code is, or that it is not in use
abbrev pub write_answer : Coding → ℕ → Answer
write_answer m a = cond (m.used a) (Ok (length (m.writing a))) (Err NotInUse)

-- 80 bytes: the writing, then zeros
abbrev pub filled : List ℕ → List ℕ
filled bs = bs ++ replicate (80 - length bs) 0
