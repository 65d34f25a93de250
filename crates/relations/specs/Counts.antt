-- Which numbers are a generator count.
use Rattle.std.specs.Prelude.{ℕ, Bool, ◌&&◌, nat_le}
use Rattle.refusals.specs.declared.Refusal.{Refusal}
use Rattle.refusals.specs.Refusals.{plain}
use Rattle.orders.specs.Letters.{letter_count}
use Rattle.relations.specs.declared.count.CountOutOfRange.{CountOutOfRange}

abbrev pub is_count : ℕ → Bool
is_count n = nat_le 1 n && nat_le n letter_count

abbrev pub count_refusal : CountOutOfRange → Refusal
count_refusal f = plain 1 3
