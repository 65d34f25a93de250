-- What is known of a search in a list whose words fall.
use Rattle.std.specs.Prelude.{◌≡◌, ℕ, ◌+◌, ◌-◌, ◌<◌, ◌≤◌, ◌⊎◌, cond, List, length, Ok, Err, Result, slice_index_or}
use Rattle.std.specs.declared.cmp.Ordering.TheVariants.{Less, Equal, Greater}
use Rattle.orders.specs.Models.{OrderModel}
use Rattle.words.specs.declared.measured.Measured.{Measured}
use Rattle.words.specs.declared.term.Term.{Term}
use Rattle.std.specs.declared.ops.Range.{Range}
use Rattle.kept.specs.Kept.{compare_terms, place, present}
use Rattle.kept.specs.Terms.{nil_term}

-- a term with the word that was measured
abbrev pub measured_term : Measured → Term
measured_term t = record { row = t.row; code = 0 }

-- the word of t is at p
abbrev pub Found : OrderModel → List Term → ℕ → Term → ℕ → Type 0
Found o work start t p = (start ≤ p) × (p < length work) × (compare_terms o (slice_index_or work p nil_term) t ≡ Equal)

-- what stands before p is greater than t
abbrev pub Passed : OrderModel → List Term → ℕ → Term → ℕ → Type 0
Passed o work start t p = (p ≡ start) ⊎ ((start < p) × (compare_terms o (slice_index_or work (p - 1) nil_term) t ≡ Greater))

-- what stands from p on is less than t
abbrev pub Ahead : OrderModel → List Term → Term → ℕ → Type 0
Ahead o work t p = (p ≡ length work) ⊎ (compare_terms o (slice_index_or work p nil_term) t ≡ Less)

-- the word of t is at a place, or t belongs between two places
abbrev pub Near : OrderModel → List Term → ℕ → Term → Result ℕ (Range ℕ) → Type 0
Near o work start t (Ok p) = Found o work start t p
Near o work start t (Err r) = (start ≤ r.start) × (r.start ≤ r.end) × (r.end ≤ length work) × Passed o work start t r.start × Ahead o work t r.end

-- the word of t is at a place, or t belongs before a place
abbrev pub Settled : OrderModel → List Term → ℕ → Term → Result ℕ ℕ → Type 0
Settled o work start t (Ok p) = Found o work start t p
Settled o work start t (Err p) = (start ≤ p) × (p ≤ length work) × Passed o work start t p × Ahead o work t p

-- in the list xs, whose first term is at the place `start`: where t's word is, or where t belongs
abbrev pub found_place : OrderModel → ℕ → Term → List Term → Result ℕ ℕ
found_place o start t xs = cond (present o t xs) (Ok (start + place o t xs)) (Err (start + place o t xs))
