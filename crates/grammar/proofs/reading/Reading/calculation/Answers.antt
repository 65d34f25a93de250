use Rattle.std.proofs.Common.{◌≡◌, ℕ, List, Ok, codes, sym, refl}
use Rattle.grammar.specs.Reading.{expect}
use Rattle.grammar.specs.Expressions.{Expr}
use Rattle.grammar.specs.ExpressionReader.{read_expr}
use Rattle.grammar.specs.Forms.{calc}
use Rattle.grammar.specs.FormReader.{read_calc}
use Rattle.grammar.specs.Pieces.{postfix}
use Rattle.grammar.proofs.Operating.{added_alone}
use Rattle.grammar.proofs.reading.Reading.calculation.Goals as goal

reads : (s a rest : List ℕ) (e : Expr) → read_expr 15 s ≡ Ok (e, a) → Ok rest ≡ expect (codes ")") a → read_calc s ≡ Ok (calc e, rest)
reads s a rest e h k = rw (h, sym k)

pub returns : goal.returns
returns c =
    let h = c.in_ok-expression.ensures in (
      calc h.0,
      reads c.args.self.rest.now c.expression.new.self.rest.now c.in_ok-rest.rest.now h.0 h.1 c.in_ok-rest.ensures,
      (h.0, refl, added_alone _ _ _ (postfix h.0) c.requires h.2 c.as_slice.ensures.value),
    )
