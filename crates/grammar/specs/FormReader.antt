-- How a line is read.
use Rattle.std.specs.Prelude.{◌≡◌, ℕ, cond, List, [], ◌∷◌, length, Ok, Err, codes, Result, nat_le}
use Rattle.std.specs.Borrow.{Bor}
use Rattle.grammar.specs.declared.fault.FormFault.{FormFault}
use Rattle.grammar.specs.declared.fault.FormFault.TheVariants.{TooLong, Unreadable}
use Rattle.grammar.specs.declared.fault.ReadFault.{ReadFault}
use Rattle.grammar.specs.declared.forms.RingForm.{RingForm}
use Rattle.grammar.specs.declared.forms.RingForm.TheVariants.{Mod, Int, QPoly}
use Rattle.grammar.specs.declared.line.Line.{Line}
use Rattle.grammar.specs.Faults.{fault_of}
use Rattle.grammar.specs.Reading.{Reads, expect, read_number, read_spaced_number, read_generator, read_coefficient, read_parts, and_then, or_else}
use Rattle.grammar.specs.ExpressionReader.{read_expr}
use Rattle.grammar.specs.Forms.{OrderChoice, lex, degree, TermForm, Form, algebra, rel, decide, calc, Holds}

abbrev pub read_mod : List ℕ → Reads RingForm
read_mod bs = and_then (expect (codes "(mod ") bs) (λ r. and_then (read_number r) (λ p. and_then (expect (codes ")") p.1) (λ q. Ok (Mod p.0, q))))

abbrev pub read_ring : List ℕ → Reads RingForm
read_ring bs = or_else (expect (codes "(int)") bs) (λ r. Ok (Int, r)) (or_else (expect (codes "(qpoly)") bs) (λ r. Ok (QPoly, r)) (read_mod bs))

-- fewer than nine
abbrev pub read_weights : List ℕ → Reads (List ℕ)
read_weights bs = read_parts 9 read_number [] bs

abbrev pub read_order : List ℕ → Reads OrderChoice
read_order bs = or_else (expect (codes "(lex)") bs) (λ r. Ok (lex, r)) (and_then (expect (codes "(deg") bs) (λ r. and_then (read_weights r) (λ p. Ok (degree p.0, p.1))))

-- behind "(algebra "
abbrev pub read_algebra : List ℕ → Reads Form
read_algebra bs =
    and_then (read_spaced_number bs) (λ n. and_then (read_ring n.1) (λ r. and_then (expect (codes " ") r.1) (λ b. and_then (read_order b) (λ o. and_then (expect (codes ")") o.1) (λ q. Ok (algebra n.0 r.0 o.0, q))))))

abbrev pub read_term : List ℕ → Reads TermForm
read_term bs =
    and_then (expect (codes "(") bs) (λ r. and_then (read_coefficient r) (λ c. and_then (read_parts (length c.1) read_generator [] c.1) (λ g. Ok (record { coefficient = c.0; generators = g.0 }, g.1))))

abbrev pub read_terms : List ℕ → Reads (List TermForm)
read_terms bs = read_parts (length bs) read_term [] bs

-- behind "(rel "
abbrev pub read_rel : List ℕ → Reads Form
read_rel bs =
    and_then (read_spaced_number bs) (λ j. and_then (read_spaced_number j.1) (λ i. and_then (read_coefficient i.1) (λ c. and_then (read_terms c.1) (λ t. Ok (rel j.0 i.0 c.0 t.0, t.1)))))

-- behind "(calc ": brackets at most 15 deep
abbrev pub read_calc : List ℕ → Reads Form
read_calc bs = and_then (read_expr 15 bs) (λ e. and_then (expect (codes ")") e.1) (λ q. Ok (calc e.0, q)))

abbrev pub read_decide : List ℕ → Reads Form
read_decide bs = and_then (expect (codes "(decide)") bs) (λ q. Ok (decide, q))

abbrev pub read_any : List ℕ → Reads Form
read_any bs =
    or_else (expect (codes "(algebra ") bs) read_algebra (or_else (expect (codes "(rel ") bs) read_rel (or_else (expect (codes "(calc ") bs) read_calc (read_decide bs)))

-- nothing stands behind the form
abbrev pub whole : Reads Form → Result Form FormFault
whole (Ok (f, [])) = Ok f
whole (Ok (f, b ∷ bs)) = Err Unreadable
whole (Err e) = Err (fault_of e)

-- the form that a line holds
unfoldable pub read_form : List ℕ → Result Form FormFault
read_form bs = cond (nat_le (length bs) 1000) (whole (read_any bs)) (Err TooLong)

-- what a reader of a form answered: the form is the one that was to be read, or the fault is
abbrev pub Held : Reads Form → Result (Line × Bor (List ℕ)) ReadFault → Type 0
Held spec (Ok p) = (f : Form) × (spec ≡ Ok (f, p.1.now)) × Holds p.0 f
Held spec (Err e) = spec ≡ Err e

abbrev pub Answered : Result Form FormFault → Result Line FormFault → Type 0
Answered spec (Ok line) = (f : Form) × (spec ≡ Ok f) × Holds line f
Answered spec (Err e) = spec ≡ Err e
