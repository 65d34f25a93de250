use Rattle.std.proofs.Common.{◌≡◌, ◌++◌, drop, vec_items}
use Rattle.answers.specs.Text.{terms_bytes}
use Rattle.answers.proofs.list.push_terms.Given as goal

abbrev pub invariant-loop-term : goal.invariant-loop-term
invariant-loop-term g l =
    vec_items l.out ++ terms_bytes (g.R.Ring.model l.ring) (drop l.term-index l.terms)
    ≡ vec_items l.initial.out ++ terms_bytes (g.R.Ring.model l.ring) l.terms
