-- How the bytes of a line are read, from the left: a value and the rest, or where the reader stops.
use Rattle.std.specs.Prelude.{◌≡◌, ℕ, zero, suc, ◌+◌, ◌-◌, ◌*◌, ◌<◌, ◌≤◌, Bool, cond, ◌&&◌, ◌||◌, List, [], ◌∷◌, ◌++◌, length, take, drop, Some, None, Ok, Err, Option, Result, ◌==◌, nat_le, nat_lt, slice_index}
use Rattle.std.specs.Borrow.{Bor}
use Rattle.grammar.specs.declared.fault.ReadFault.{ReadFault}
use Rattle.grammar.specs.declared.fault.ReadFault.TheVariants.{Misfit}
use Rattle.grammar.specs.declared.bytes.Next.{Next}
use Rattle.grammar.specs.declared.bytes.Next.TheVariants.{Part, End}
use Rattle.grammar.specs.declared.reading.Reading.{Reading}
use Rattle.grammar.specs.Pieces.{Shown, Added}

abbrev pub Reads : Type 0 → Type 0
Reads X = Result (X × List ℕ) ReadFault

-- what a reader of slices answered, by what its references point to
abbrev pub seen : {X : Type 0} → Result (X × Bor (List ℕ)) ReadFault → Reads X
seen (Ok p) = Ok (p.0, p.1.now)
seen (Err e) = Err e

-- the same, where the value read stands for another
abbrev pub seen_as : {X Y : Type 0} → (X → Y) → Result (X × Bor (List ℕ)) ReadFault → Reads Y
seen_as f (Ok p) = Ok (f p.0, p.1.now)
seen_as f (Err e) = Err e

abbrev pub seen_pair : Result (Bor (List ℕ) × Bor (List ℕ)) ReadFault → Reads (List ℕ)
seen_pair (Ok p) = Ok (p.0.now, p.1.now)
seen_pair (Err e) = Err e

abbrev pub seen_rest : Result (Bor (List ℕ)) ReadFault → Result (List ℕ) ReadFault
seen_rest (Ok p) = Ok p.now
seen_rest (Err e) = Err e

-- the pieces of what was read stand behind those before, and the rest is left; some bytes were taken, as many at least as pieces were added
abbrev pub Left : {X : Type 0} → (X → List Shown) → Reads X → Reading → Reading → Result (Unit {0}) ReadFault → Type 0
Left {X} of spec old new (Ok _) =
    (x : X) × (spec ≡ Ok (x, new.rest.now)) × Added old.pieces.now.items new.pieces.now.items (of x)
    × (length new.pieces.now.items + length new.rest.now ≤ length old.pieces.now.items + length old.rest.now) × (length new.rest.now < length old.rest.now)
Left of spec old new (Err e) = spec ≡ Err e

abbrev pub and_then : {X Y : Type 0} → Result X ReadFault → (X → Result Y ReadFault) → Result Y ReadFault
and_then (Ok x) f = f x
and_then (Err e) f = Err e

abbrev pub or_else : {X Y : Type 0} → Result X ReadFault → (X → Result Y ReadFault) → Result Y ReadFault → Result Y ReadFault
or_else (Ok x) f g = f x
or_else (Err e) f g = g

-- a space or a bracket
abbrev pub breaks : ℕ → Bool
breaks b = b == 32 || (b == 40 || b == 41)

-- how many bytes come before the first space or bracket
abbrev pub atom_length : List ℕ → ℕ
atom_length [] = 0
atom_length (b ∷ bs) = cond (breaks b) 0 (1 + atom_length bs)

-- at least one byte that is neither space nor bracket, up to the next that is
abbrev pub read_atom : List ℕ → Reads (List ℕ)
read_atom bs = cond (atom_length bs == 0) (Err Misfit) (Ok (take (atom_length bs) bs, drop (atom_length bs) bs))

-- exactly these bytes
abbrev pub expect : List ℕ → List ℕ → Result (List ℕ) ReadFault
expect [] bs = Ok bs
expect (c ∷ cs) [] = Err Misfit
expect (c ∷ cs) (b ∷ bs) = cond (b == c) (expect cs bs) (Err Misfit)

abbrev pub number_on : ℕ → List ℕ → Option ℕ
number_on n [] = Some n
number_on n (c ∷ cs) = cond (nat_le 48 c && nat_le c 57) (number_on (n * 10 + (c - 48)) cs) None

-- one to ten digits, no needless zero
abbrev pub number_of : List ℕ → Option ℕ
number_of ds = cond (nat_lt 10 (length ds)) None (cond (length ds == 0) None (cond (slice_index ds 0 == 48 && nat_lt 1 (length ds)) None (number_on 0 ds)))

abbrev pub formed : {X : Type 0} → Option X → List ℕ → Reads X
formed (Some x) rest = Ok (x, rest)
formed None rest = Err Misfit

abbrev pub read_number : List ℕ → Reads ℕ
read_number bs = and_then (read_atom bs) (λ p. formed (number_of p.0) p.1)

-- what was read of an atom: what the atom stands for, by an answer that `gives` allows
abbrev pub Forms : {X : Type 0} → (List ℕ → Option X → Type 0) → Reads (List ℕ) → Result (X × Bor (List ℕ)) ReadFault → Type 0
Forms gives (Ok p) (Ok q) = gives p.0 (Some q.0) × (p.1 ≡ q.1.now)
Forms gives (Ok p) (Err e) = gives p.0 None × (e ≡ Misfit)
Forms gives (Err e) (Ok q) = ⊥
Forms gives (Err e) (Err x) = e ≡ x

-- a number and the space behind it
abbrev pub read_spaced_number : List ℕ → Reads ℕ
read_spaced_number bs = and_then (read_number bs) (λ p. and_then (expect (32 ∷ []) p.1) (λ q. Ok (p.0, q)))

-- x and a number
abbrev pub generator_of : List ℕ → Option ℕ
generator_of [] = None
generator_of (b ∷ bs) = cond (b == 120) (number_of bs) None

abbrev pub read_generator : List ℕ → Reads ℕ
read_generator bs = and_then (read_atom bs) (λ p. formed (generator_of p.0) p.1)

abbrev pub unless_generator : Option ℕ → List ℕ → List ℕ → Reads (List ℕ)
unless_generator (Some n) a rest = Err Misfit
unless_generator None a rest = Ok (a, rest)

-- what is no generator is its own bytes
abbrev pub CoefficientIn : List ℕ → Option (Bor (List ℕ)) → Type 0
CoefficientIn a (Some r) = (generator_of a ≡ None) × (r.now ≡ a)
CoefficientIn a None = (n : ℕ) × (generator_of a ≡ Some n)

abbrev pub read_coefficient : List ℕ → Reads (List ℕ)
read_coefficient bs = and_then (read_atom bs) (λ p. unless_generator (generator_of p.0) p.0 p.1)

-- a closing bracket ends a list, a space goes on to its next part
abbrev pub read_next : List ℕ → Reads Next
read_next [] = Err Misfit
read_next (b ∷ bs) = cond (b == 41) (Ok (End, bs)) (cond (b == 32) (Ok (Part, bs)) (Err Misfit))

abbrev pub by_next : {X : Type 0} → Reads Next → (List ℕ → Reads X) → (List ℕ → Reads X) → Reads X
by_next (Ok (End, bs)) f g = f bs
by_next (Ok (Part, bs)) f g = g bs
by_next (Err e) f g = Err e

-- behind the parts xs, fewer than n parts more, and the bracket that closes the list
unfoldable pub read_parts : {X : Type 0} → ℕ → (List ℕ → Reads X) → List X → List ℕ → Reads (List X)
read_parts zero R xs bs = Err Misfit
read_parts (suc n) R xs bs = by_next (read_next bs) (λ q. Ok (xs, q)) (λ r. and_then (R r) (λ p. read_parts n R (xs ++ (p.0 ∷ [])) p.1))
