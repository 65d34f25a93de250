-- What a declaration x_j x_i = c x_i x_j + tail comes to: its checks in their order, and the presentation after it.
use Rattle.std.specs.Prelude.{◌≡◌, ℕ, ◌+◌, ◌-◌, Bool, true, false, cond, not, ◌&&◌, List, [], ◌∷◌, length, Some, None, Ok, Err, Option, Result, ◌==◌, nat_le, nat_lt, slice_index_or}
use Rattle.std.specs.Ordering.{is_lt}
use Rattle.coefficients.specs.Coding.{Coding}
use Rattle.coefficients.specs.declared.fault.RingFault.TheVariants.{NotInUse}
use Rattle.orders.specs.Letters.{letters, image, row_places}
use Rattle.orders.specs.Models.{OrderModel, compare_images}
use Rattle.words.specs.Inversions.{standard}
use Rattle.words.specs.Rows.{is_row}
use Rattle.words.specs.declared.term.Term.{Term}
use Rattle.kept.specs.Kept.{compare_terms}
use Rattle.kept.specs.Terms.{nil_term}
use Rattle.run.specs.Relations.{pair_place}
use Rattle.relations.specs.declared.fault.DeclareCause.{DeclareCause}
use Rattle.relations.specs.declared.fault.DeclareCause.TheVariants.{Generator, NotRising, AlreadyDeclared, Coefficient, FactorZero, TailSize, TailNotKept, TailNotBefore}
use Rattle.relations.specs.declared.fault.DeclareFault.{DeclareFault}

-- all checks passed
abbrev pub passed : Result (Unit {0}) DeclareFault
passed = Ok tt

-- the same, or the fault at a term of the tail
abbrev pub at_term : {A : Type 0} → ℕ → Result A DeclareCause → Result A DeclareFault
at_term p (Ok x) = Ok x
at_term p (Err f) = Err (record { cause = f; term = p })

-- r where the test passes, else the fault
abbrev pub check : {A : Type 0} → Bool → DeclareCause → ℕ → Result A DeclareFault → Result A DeclareFault
check b f p r = cond b r (Err (record { cause = f; term = p }))

abbrev pub is_generator : ℕ → ℕ → Bool
is_generator n x = nat_le 1 x && nat_le x n

-- no letter is above n
abbrev pub letters_to : ℕ → List ℕ → Bool
letters_to n [] = true
letters_to n (x ∷ w) = nat_le x n && letters_to n w

-- a row of letters 1 to n, then zeros
abbrev pub is_word : ℕ → List ℕ → Bool
is_word n row = is_row row && letters_to n (letters row)

-- the word of t is below that of the term before, if there is one
abbrev pub below_last : OrderModel → Option Term → Term → Bool
below_last o None t = true
below_last o (Some s) t = is_lt (compare_terms o t s)

-- the image of u is before the image of v
abbrev pub image_before : OrderModel → List ℕ → List ℕ → Bool
image_before o u v = is_lt (compare_images o (image u) (image v))

-- the checks of the term t at place p of a tail, behind the term `last`, then r
abbrev pub check_term : {A : Type 0} → Coding → OrderModel → ℕ → ℕ → ℕ → Option Term → ℕ → Term → Result A DeclareFault → Result A DeclareFault
check_term m o n j i last p t r =
    check (is_word n t.row) Generator p (check (nat_le (length (letters t.row)) 8) TailSize p (check (m.used t.code) (Coefficient NotInUse) p
    (check (not (t.code == 0) && (standard (letters t.row) && below_last o last t)) TailNotKept p
    (check (image_before o (letters t.row) (i ∷ j ∷ [])) TailNotBefore p r))))

abbrev pub check_tail : {A : Type 0} → Coding → OrderModel → ℕ → ℕ → ℕ → Option Term → ℕ → List Term → Result A DeclareFault → Result A DeclareFault
check_tail m o n j i last p [] r = r
check_tail m o n j i last p (t ∷ ts) r = check_term m o n j i last p t (check_tail m o n j i (Some t) (p + 1) ts r)

-- the term before place p of a list, if there is one
abbrev pub last_at : List Term → ℕ → Option Term
last_at ts p = cond (p == 0) None (Some (slice_index_or ts (p - 1) nil_term))

-- every row has all its places
abbrev pub AllFull : List Term → Type 0
AllFull [] = Unit {0}
AllFull (t ∷ ts) = (length t.row ≡ row_places) × AllFull ts

-- the checks of a pair: both generators, j above i, not declared
abbrev pub check_pair : {A : Type 0} → ℕ → List Bool → ℕ → ℕ → Result A DeclareFault → Result A DeclareFault
check_pair n declared j i r =
    check (is_generator n j) Generator 0 (check (is_generator n i) Generator 0 (check (nat_lt i j) NotRising 0 (check (not (slice_index_or declared (pair_place j i) false)) AlreadyDeclared 0 r)))

-- those of the factor and of the number of terms
abbrev pub check_factor : {A : Type 0} → Coding → ℕ → Result A DeclareFault → Result A DeclareFault
check_factor m c r = check (m.used c) (Coefficient NotInUse) 0 (check (not (c == 0)) FactorZero 0 r)

-- those of the relation, whatever was declared
abbrev pub check_relation : Coding → OrderModel → ℕ → ℕ → ℕ → ℕ → List Term → Result (Unit {0}) DeclareFault
check_relation m o n j i c tail = check_factor m c (check (nat_le (length tail) 8) TailSize 0 (check_tail m o n j i None 1 tail passed))

-- whether the declaration is taken, or why not
unfoldable pub declare_answer : Coding → OrderModel → ℕ → List Bool → ℕ → ℕ → ℕ → List Term → Result (Unit {0}) DeclareFault
declare_answer m o n declared j i c tail = check_pair n declared j i (check_relation m o n j i c tail)
