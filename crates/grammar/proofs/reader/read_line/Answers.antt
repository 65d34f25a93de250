use Rattle.std.proofs.Common.{◌≡◌, ℕ, true, false, eqb, List, [], ◌∷◌, length, Ok, Err, refl, ap, ◌∙◌, arith, rules}
use Rattle.std.proofs.lemmas.Bool.Decides.{nat_tests}
use Rattle.grammar.specs.declared.fault.FormFault.TheVariants.{Unreadable}
use Rattle.grammar.specs.Forms.{Form}
use Rattle.grammar.specs.FormReader.{whole}
use Rattle.grammar.proofs.Lengths.{long, short}
use Rattle.grammar.proofs.reader.read_line.Goals as goal

pub returns-then-line-gt-LINE_LENGTH : goal.returns-then-line-gt-LINE_LENGTH
returns-then-line-gt-LINE_LENGTH c = long c.args.line.now (omega arith)

pub returns-in_err-read : goal.returns-in_err-read
returns-in_err-read c =
    let h = short c.args.line.now (omega arith) ∙ ap whole c.in_err-read.ensures in
    search rules

-- nothing stands behind the form, or something does
nothing : (f : Form) (rest : List ℕ) → true ≡ eqb (length rest) 0 → whole (Ok (f, rest)) ≡ Ok f
nothing f [] h = refl
nothing f (b ∷ rest) h = grind (arith, nat_tests)

something : (f : Form) (rest : List ℕ) → false ≡ eqb (length rest) 0 → whole (Ok (f, rest)) ≡ Err Unreadable
something f [] h = grind (arith, nat_tests)
something f (b ∷ rest) h = refl

pub returns-then-not-is_empty : goal.returns-then-not-is_empty
returns-then-not-is_empty c =
    let h = c.in_ok-read.ensures in
    short c.args.line.now (omega arith) ∙ ap whole h.1 ∙ something h.0 c.in_ok-read.rest.now c.if-not-is_empty.ensures

pub returns : goal.returns
returns c =
    let h = c.in_ok-read.ensures in
    (h.0, short c.args.line.now (omega arith) ∙ ap whole h.1 ∙ nothing h.0 c.in_ok-read.rest.now c.if-not-is_empty.ensures, h.2)
