-- Worked cases of the run: x2 x1 = x1 x2 + 1 over the integers by degree, and x2 x1 = q x1 x2 over q-polynomials by lex.
use Rattle.std.specs.Prelude.{◌≡◌, ℕ, ◌^◌, List, [], ◌∷◌, ◌++◌, replicate, Ok, Err, Result, slice_set}
use Rattle.std.proofs.Common.{lit≤}
use Rattle.coefficients.specs.declared.fault.RingFault.TheVariants.{NoCode}
use Rattle.integers.specs.Model.{integer_coding}
use Rattle.qpolynomials.specs.Model.{qpolynomial_coding}
use Rattle.orders.specs.Models.{lex_model, degree_model}
use Rattle.words.specs.Rows.{row_of}
use Rattle.words.specs.declared.term.Term.{Term}
use Rattle.run.specs.declared.fault.Cause.TheVariants.{Coefficient, WordTooLong, WorkFull, ResultFull}
use Rattle.run.specs.declared.fault.RunFault.{RunFault}
use Rattle.run.specs.declared.relation.Relation.{Relation}
use Rattle.run.specs.Calls.{Memory, calculate, first_entries}
use Rattle.run.specs.Faults.{stepping, at_step}
use Rattle.run.specs.Relations.{pair_place, null}
use Rattle.run.specs.Step.{Outcome}

abbrev pub term : List ℕ → ℕ → Term
term w c = record { row = row_of w; code = c }

-- a table with the relation of x2 x1 alone
abbrev pub table_of : Relation → List Relation
table_of r = slice_set (replicate 64 null) (pair_place 2 1) r

-- x2 x1 = x1 x2 + 1; the integer 1 has the code 2
abbrev pub weyl : List Relation
weyl = table_of (record { factor = 2; count = 1; tail = term [] 2 ∷ []; few = lit≤ tt })

-- x2 x1 = q x1 x2; the polynomial q has the code 2
abbrev pub plane : List Relation
plane = table_of (record { factor = 2; count = 0; tail = []; few = lit≤ tt })

-- x2 x1 = x1 x2 + x2 x2 x2
abbrev pub growing : List Relation
growing = table_of (record { factor = 2; count = 1; tail = term (2 ∷ 2 ∷ 2 ∷ []) 2 ∷ []; few = lit≤ tt })

abbrev pub places : ℕ → ℕ → Memory
places w r = record { work = w; result = r }

-- x2 x2 x1 x1 normalised in the Weyl algebra, in a memory
abbrev pub squares : Memory → Result Outcome RunFault
squares mem = calculate integer_coding (degree_model (replicate 8 1)) weyl mem (first_entries 1 (term (2 ∷ 2 ∷ 1 ∷ 1 ∷ []) 2 ∷ []))

-- x1 x1 x2 x2 + 4 x1 x2 + 2
abbrev pub square_terms : List Term
square_terms = term (1 ∷ 1 ∷ 2 ∷ 2 ∷ []) 2 ∷ term (1 ∷ 2 ∷ []) 8 ∷ term [] 4 ∷ []

-- a twos and b ones normalised in the quantum plane
abbrev pub powers : ℕ → ℕ → Result Outcome RunFault
powers a b = calculate qpolynomial_coding lex_model plane (places 16 16) (first_entries 1 (term (replicate a 2 ++ replicate b 1) 1 ∷ []))

pub record WorkedRuns : Type 0 where
  pub eight_steps : squares (places 16 16) ≡ Ok (record { terms = square_terms; steps = 8 })
  pub three_places : squares (places 3 16) ≡ Ok (record { terms = square_terms; steps = 8 })
  pub two_places : squares (places 2 16) ≡ Err (record { cause = WorkFull; place = stepping 3 2 1 1 })
  pub two_results : squares (places 16 2) ≡ Err (record { cause = ResultFull; place = at_step 8 })
  pub highest_power : powers 9 7 ≡ Ok (record { terms = term (replicate 7 1 ++ replicate 9 2) (2 ^ 63) ∷ []; steps = 64 })
  pub too_high : powers 8 8 ≡ Err (record { cause = Coefficient NoCode; place = stepping 64 2 1 0 })
  pub too_long : calculate integer_coding lex_model growing (places 16 16) (first_entries 1 (term (replicate 31 2 ++ (1 ∷ [])) 2 ∷ []))
      ≡ Err (record { cause = WordTooLong; place = stepping 1 2 1 1 })
