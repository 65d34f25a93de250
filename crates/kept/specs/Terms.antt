-- Blank places of a memory.
use Rattle.std.specs.Prelude.{ℕ, List, [], replicate}
use Rattle.words.specs.Terms.{blank}
use Rattle.words.specs.declared.term.Term.{Term}

abbrev pub blanks : ℕ → List Term
blanks n = replicate n blank

-- what a read past the end gives
abbrev pub nil_term : Term
nil_term = record { row = []; code = 0 }
