-- The term that stands where there is none: the empty word with code 0.
use Rattle.std.specs.Prelude.{replicate}
use Rattle.orders.specs.Letters.{row_places}
use Rattle.words.specs.declared.term.Term.{Term}

unfoldable pub blank : Term
blank = record { row = replicate row_places 0; code = 0 }
