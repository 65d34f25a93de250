-- What the overlap of three generators loads, and what the call answers.
use Rattle.std.specs.Prelude.{ℕ, ◌+◌, Bool, cond, ◌&&◌, List, [], ◌∷◌, ◌++◌, Ok, Err, Result, nat_lt}
use Rattle.coefficients.specs.Coding.{Coding}
use Rattle.orders.specs.Letters.{letters}
use Rattle.orders.specs.Models.{OrderModel}
use Rattle.words.specs.declared.term.Term.{Term}
use Rattle.run.specs.declared.fault.Place.{Place}
use Rattle.run.specs.declared.fault.RunFault.{RunFault}
use Rattle.run.specs.declared.relation.Relation.{Relation}
use Rattle.run.specs.Entries.{Entry}
use Rattle.run.specs.Relations.{relation_of, tail_of}
use Rattle.run.specs.Step.{Outcome}
use Rattle.run.specs.Calls.{Memory, calculate}
use Rattle.relations.specs.Declare.{is_generator}
use Rattle.algebra.specs.declared.fault.CallCause.{CallCause}
use Rattle.algebra.specs.declared.fault.CallCause.TheVariants.{Generator, NotRising}
use Rattle.algebra.specs.declared.fault.AlgebraFault.{AlgebraFault}
use Rattle.algebra.specs.declared.fault.AlgebraFault.TheVariants.{Call, Run}

-- a is 1 for the pair (k, j) and 2 for (j, i); e is 0 for the word of the factor, else the place of the tail term
abbrev pub overlap_place : ℕ → ℕ → Place
overlap_place a e = record { step = 0; a = a; b = 0; e = e }

-- what the tail term of (k, j) at place e gives, times x_i
abbrev pub first_entry : ℕ → ℕ → Term → Entry
first_entry i e t = record { word = letters t.row ++ (i ∷ []); code = Ok t.code; place = overlap_place 1 e }

-- the tail terms of (k, j) times x_i, counted from e
abbrev pub first_tail : ℕ → ℕ → List Term → List Entry
first_tail i e [] = []
first_tail i e (t ∷ ts) = record { word = letters t.row ++ (i ∷ []); code = Ok t.code; place = overlap_place 1 e } ∷ first_tail i (e + 1) ts

-- what that of (j, i) gives, the negative of x_k times it
abbrev pub second_entry : Coding → ℕ → ℕ → Term → Entry
second_entry m k e t = record { word = k ∷ letters t.row; code = m.negative t.code; place = overlap_place 2 e }

-- the negatives of x_k times the tail terms of (j, i)
abbrev pub second_tail : Coding → ℕ → ℕ → List Term → List Entry
second_tail m k e [] = []
second_tail m k e (t ∷ ts) = record { word = k ∷ letters t.row; code = m.negative t.code; place = overlap_place 2 e } ∷ second_tail m k (e + 1) ts

-- c_jk x_j x_k x_i and the tail of (k, j) times x_i
abbrev pub first_half : Relation → ℕ → ℕ → ℕ → List Entry
first_half r i j k = record { word = j ∷ k ∷ i ∷ []; code = Ok r.factor; place = overlap_place 1 0 } ∷ first_tail i 1 (tail_of r)

-- the negatives of c_ij x_k x_i x_j and of x_k times the tail of (j, i)
abbrev pub second_half : Coding → Relation → ℕ → ℕ → ℕ → List Entry
second_half m r i j k = record { word = k ∷ i ∷ j ∷ []; code = m.negative r.factor; place = overlap_place 2 0 } ∷ second_tail m k 1 (tail_of r)

abbrev pub overlap_entries : Coding → List Relation → ℕ → ℕ → ℕ → List Entry
overlap_entries m table i j k = first_half (relation_of table k j) i j k ++ second_half m (relation_of table j i) i j k

-- the fault of a cause at no place
abbrev pub unplaced : CallCause → AlgebraFault
unplaced c = Call (record { cause = c; a = 0; b = 0 })

-- all checks passed
abbrev pub passed : Result (Unit {0}) AlgebraFault
passed = Ok tt

-- r where the test passes, else the fault
abbrev pub check : {A : Type 0} → Bool → CallCause → ℕ → ℕ → Result A AlgebraFault → Result A AlgebraFault
check t f a b r = cond t r (Err (Call (record { cause = f; a = a; b = b })))

abbrev pub by_run : {A : Type 0} → Result A RunFault → Result A AlgebraFault
by_run (Ok x) = Ok x
by_run (Err f) = Err (Run f)

-- three generators that rise
abbrev pub check_triple : {A : Type 0} → ℕ → ℕ → ℕ → ℕ → Result A AlgebraFault → Result A AlgebraFault
check_triple n i j k r =
    check (is_generator n i) Generator 0 0 (check (is_generator n j) Generator 0 0 (check (is_generator n k) Generator 0 0 (check (nat_lt i j && nat_lt j k) NotRising 0 0 r)))

-- the overlap, run
unfoldable pub overlap_run : Coding → OrderModel → Memory → List Relation → ℕ → ℕ → ℕ → Result Outcome RunFault
overlap_run m o mem table i j k = calculate m o table mem (overlap_entries m table i j k)

unfoldable pub overlap_call : Coding → OrderModel → Memory → ℕ → List Relation → ℕ → ℕ → ℕ → Result Outcome AlgebraFault
overlap_call m o mem n table i j k = check_triple n i j k (by_run (overlap_run m o mem table i j k))
