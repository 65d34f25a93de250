-- Worked cases of algebras over the integers: U(sl2), and one whose standard words are not a basis.
use Rattle.std.specs.Prelude.{◌≡◌, ℕ, false, List, [], ◌∷◌, replicate, Ok, Err, Result, slice_set}
use Rattle.std.proofs.Common.{lit≤}
use Rattle.integers.specs.Model.{integer_coding}
use Rattle.orders.specs.Models.{OrderModel, lex_model, degree_model}
use Rattle.words.specs.declared.term.Term.{Term}
use Rattle.run.specs.declared.relation.Relation.{Relation}
use Rattle.run.specs.Relations.{pair_place, null}
use Rattle.run.specs.Step.{Outcome}
use Rattle.relations.specs.declared.fault.DeclareCause.TheVariants.{TailNotBefore}
use Rattle.relations.specs.declared.fault.DeclareFault.{DeclareFault}
use Rattle.relations.specs.Declare.{passed, declare_answer}
use Rattle.algebra.specs.declared.fault.CallCause.TheVariants as cause
use Rattle.algebra.specs.declared.fault.AlgebraFault.{AlgebraFault}
use Rattle.algebra.specs.declared.fault.AlgebraFault.TheVariants.{Call}
use Rattle.algebra.specs.declared.fault.DecideFault.{DecideFault}
use Rattle.algebra.specs.declared.verdict.Verdict.{Verdict}
use Rattle.algebra.specs.declared.verdict.Verdict.TheVariants.{Undecided, Sound, Degenerate}
use Rattle.algebra.specs.Overlaps.{overlap_call}
use Rattle.algebra.specs.Decide.{decide}
use Rattle.algebra.specs.Calls.{normalise, product}
use Rattle.specimens.specs.Runs.{term, places}

-- every letter weighs 1
abbrev pub by_degree : OrderModel
by_degree = degree_model (replicate 8 1)

-- the factor 1, and a tail of one term
abbrev pub with_tail : Term → Relation
with_tail t = record { factor = 2; count = 1; tail = t ∷ []; few = lit≤ tt }

-- x2 x1 = x1 x2 - x3 and x3 x1 = x1 x3 + 2 x1, and x3 x2 = x2 x3 + c x2; the integers -1, 1, -2, 2 have the codes 1, 2, 3, 4
abbrev pub three : ℕ → List Relation
three c =
    slice_set (slice_set (slice_set (replicate 64 null) (pair_place 2 1) (with_tail (term (3 ∷ []) 1))) (pair_place 3 1) (with_tail (term (1 ∷ []) 4)))
    (pair_place 3 2) (with_tail (term (2 ∷ []) c))

-- U(sl2): x3 x2 = x2 x3 - 2 x2
abbrev pub sl2 : List Relation
sl2 = three 3

-- x3 x2 = x2 x3 - x2 in its place
abbrev pub halved : List Relation
halved = three 1

-- the overlap of x1, x2, x3
abbrev pub the_overlap : List Relation → Result Outcome AlgebraFault
the_overlap table = overlap_call integer_coding by_degree (places 16 16) 3 table 1 2 3

abbrev pub the_decision : List Relation → Result Verdict DecideFault
the_decision table = decide integer_coding by_degree (places 16 16) 3 table Undecided

-- a list normalised in the halved algebra, where v is known of it
abbrev pub normalised : Verdict → List Term → Result Outcome AlgebraFault
normalised v ts = normalise integer_coding by_degree (places 16 16) 3 halved v ts

-- x2 times x1 in U(sl2), which is sound
abbrev pub multiplied : Result Outcome AlgebraFault
multiplied = product integer_coding by_degree (places 16 16) 3 sl2 Sound (term (2 ∷ []) 2 ∷ []) (term (1 ∷ []) 2 ∷ [])

-- x2 x1 = x1 x2 + x2 x2 x2, where nothing is declared
abbrev pub cube_declared : OrderModel → Result (Unit {0}) DeclareFault
cube_declared o = declare_answer integer_coding o 2 (replicate 64 false) 2 1 2 (term (2 ∷ 2 ∷ 2 ∷ []) 2 ∷ [])

pub record WorkedAlgebras : Type 0 where
  pub sl2_overlap : the_overlap sl2 ≡ Ok (record { terms = []; steps = 4 })
  pub sl2_sound : the_decision sl2 ≡ Ok Sound
  pub sl2_product : multiplied ≡ Ok (record { terms = term (1 ∷ 2 ∷ []) 2 ∷ term (3 ∷ []) 1 ∷ []; steps = 3 })
  pub halved_overlap : the_overlap halved ≡ Ok (record { terms = term (3 ∷ []) 1 ∷ []; steps = 6 })
  pub halved_degenerate : the_decision halved ≡ Ok (Degenerate 1 2 3)
  pub degenerate_refused : (ts : List Term) → normalised (Degenerate 1 2 3) ts ≡ Err (Call (record { cause = cause.Degenerate; a = 0; b = 0 }))
  pub undecided_refused : (ts : List Term) → normalised Undecided ts ≡ Err (Call (record { cause = cause.Undecided; a = 0; b = 0 }))
  pub cube_not_before : cube_declared by_degree ≡ Err (record { cause = TailNotBefore; term = 1 })
  pub cube_before : cube_declared lex_model ≡ passed
