-- The language of lines: how each form is written, and which forms there are.
use Rattle.std.specs.Prelude.{◌≡◌, ℕ, ◌+◌, ◌^◌, ◌<◌, ◌≤◌, max, Bool, true, not, ◌&&◌, List, [], ◌∷◌, ◌++◌, map, length, codes, decimal, ◌≢◌}
use Rattle.grammar.specs.declared.forms.RingForm.{RingForm}
use Rattle.grammar.specs.declared.forms.RingForm.TheVariants.{Mod, Int, QPoly}
use Rattle.grammar.specs.declared.piece.Operator.{Operator}
use Rattle.grammar.specs.declared.piece.Operator.TheVariants.{Sum, Product, Difference}
use Rattle.grammar.specs.Reading.{breaks}
use Rattle.grammar.specs.Expressions.{Expr, generator, coefficient, apply, Operands, first, next, operator_of, joined_by, write}
use Rattle.grammar.specs.Forms.{OrderChoice, lex, degree, TermForm, Form, algebra, rel, decide, calc}

-- each part behind a space
abbrev pub spaced_parts : List (List ℕ) → List ℕ
spaced_parts [] = []
spaced_parts (p ∷ ps) = 32 ∷ (p ++ spaced_parts ps)

-- a first part and the others, in brackets
abbrev pub in_brackets : List ℕ → List (List ℕ) → List ℕ
in_brackets p ps = 40 ∷ (p ++ (spaced_parts ps ++ (41 ∷ [])))

abbrev pub write_generator : ℕ → List ℕ
write_generator n = 120 ∷ decimal n

abbrev pub write_ring : RingForm → List ℕ
write_ring (Mod m) = in_brackets (codes "mod") (decimal m ∷ [])
write_ring Int = in_brackets (codes "int") []
write_ring QPoly = in_brackets (codes "qpoly") []

abbrev pub write_order : OrderChoice → List ℕ
write_order lex = in_brackets (codes "lex") []
write_order (degree ws) = in_brackets (codes "deg") (map decimal ws)

abbrev pub write_term : TermForm → List ℕ
write_term t = in_brackets t.coefficient (map write_generator t.generators)

unfoldable pub write_form : Form → List ℕ
write_form (algebra n r o) = in_brackets (codes "algebra") (decimal n ∷ (write_ring r ∷ (write_order o ∷ [])))
write_form (rel j i c ts) = in_brackets (codes "rel") (decimal j ∷ (decimal i ∷ (c ∷ map write_term ts)))
write_form decide = in_brackets (codes "decide") []
write_form (calc e) = in_brackets (codes "calc") (write e ∷ [])

-- of at most ten digits
abbrev pub Number : ℕ → Type 0
Number n = n < 10 ^ 10

-- no space and no bracket
abbrev pub plain : List ℕ → Bool
plain [] = true
plain (b ∷ bs) = not (breaks b) && plain bs

-- one byte or more, none of them a space or a bracket, and no generator
abbrev pub Coefficient : List ℕ → Type 0
Coefficient a = (plain a ≡ true) × (0 < length a) × ((n : ℕ) → Number n → a ≢ write_generator n)

-- how many operands may follow the first
abbrev pub Arity : Operator → ℕ → Type 0
Arity Sum k = Unit {0}
Arity Product k = Unit {0}
Arity Difference k = k ≡ 1

-- an expression, however deep its brackets nest
unfoldable mutual
  pub Fine : Expr → Type 0
  Fine (generator n) = Number n
  Fine (coefficient a) = Coefficient a
  Fine (apply os) = FineAll os × Arity (operator_of os) (joined_by os)

  pub FineAll : Operands → Type 0
  FineAll (first o e) = Fine e
  FineAll (next os e) = FineAll os × Fine e

-- how deep its brackets nest
unfoldable mutual
  pub depth : Expr → ℕ
  depth (generator n) = 0
  depth (coefficient a) = 0
  depth (apply os) = depth_all os + 1

  pub depth_all : Operands → ℕ
  depth_all (first o e) = depth e
  depth_all (next os e) = max (depth_all os) (depth e)

abbrev pub All : {X : Type 0} → (X → Type 0) → List X → Type 0
All P [] = Unit {0}
All P (x ∷ xs) = P x × All P xs

abbrev pub FineRing : RingForm → Type 0
FineRing (Mod m) = Number m
FineRing Int = Unit {0}
FineRing QPoly = Unit {0}

abbrev pub FineOrder : OrderChoice → Type 0
FineOrder lex = Unit {0}
FineOrder (degree ws) = All Number ws × (length ws ≤ 8)

abbrev pub FineTerm : TermForm → Type 0
FineTerm t = Coefficient t.coefficient × All Number t.generators

-- a form, however deep the brackets of its expression nest
abbrev pub FineAnyhow : Form → Type 0
FineAnyhow (algebra n r o) = Number n × FineRing r × FineOrder o
FineAnyhow (rel j i c ts) = Number j × Number i × Coefficient c × All FineTerm ts
FineAnyhow decide = Unit {0}
FineAnyhow (calc e) = Fine e

abbrev pub nesting : Form → ℕ
nesting (algebra n r o) = 0
nesting (rel j i c ts) = 0
nesting decide = 0
nesting (calc e) = depth e

abbrev pub FineForm : Form → Type 0
FineForm f = FineAnyhow f × (nesting f ≤ 15)
