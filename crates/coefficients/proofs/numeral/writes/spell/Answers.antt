use Rattle.std.proofs.Common.{ℕ, arith}
use native.Mathlib.Nat.{div-lt_self}
use Rattle.std.proofs.lemmas.List.{length-set}
use Rattle.coefficients.proofs.Spelling.{places-left, rest-falls, zeros-left, digit_more, last_digit}
use Rattle.coefficients.proofs.numeral.writes.spell.Goals as goal

pub loop-rest-smaller : goal.loop-rest-smaller
loop-rest-smaller c = div-lt_self (omega arith) (omega arith)

pub loop-rest-preserved : goal.loop-rest-preserved
loop-rest-preserved c =
    let h = c.loop-rest.invariant in
    let b : ℕ = c.radix-radix.result in
    let rest : ℕ = c.loop-rest.rest in
    let low = places-left b rest c.loop-rest.at (omega arith) (omega arith) h.1 h.3 in (
      simp length-set h.0,
      omega arith,
      omega arith,
      rest-falls b rest c.loop-rest.at (omega arith) low h.3,
      zeros-left c.loop-rest.out c.loop-rest.at _ h.4,
      digit_more b (omega arith) c.loop-rest.out c.loop-rest.at rest _ (omega arith) (omega arith) (omega arith) h.5,
    )

pub returns-clause-bytes : goal.returns-clause-bytes
returns-clause-bytes c =
    let h = c.loop-rest.invariant in
    simp (← c.radix-radix.ensures.value) (last_digit c.radix-radix.result (omega arith) c.loop-rest.out c.loop-rest.at c.loop-rest.rest _ (omega arith) (omega arith) (omega arith) h.4 h.5)
