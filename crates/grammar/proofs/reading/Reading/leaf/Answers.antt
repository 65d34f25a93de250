use Rattle.std.proofs.Common.{◌++◌, [], ◌∷◌, map, length, Ok, sym, ap, ◌∙◌, length-append, arith}
use Rattle.grammar.specs.Pieces.{shown}
use Rattle.grammar.specs.Reading.{and_then}
use Rattle.grammar.specs.ExpressionReader.{leaf}
use Rattle.grammar.proofs.Operating.{postfix-leaf, atom_shrinks, added_one}
use Rattle.grammar.proofs.reading.Reading.leaf.Goals as goal

pub returns : goal.returns
returns c =
    let h = c.in_ok-a.ensures in
    let s = atom_shrinks c.args.self.now.rest.now c.in_ok-a.a.now c.in_ok-a.rest.now h in
    let k = c.keep.ensures in
    let n = ap length k.pieces ∙ length-append c.args.self.now.pieces.now.items _ in
    let r = ap length k.rest in (
      leaf c.in_ok-a.a.now,
      sym (ap (λ x. and_then x (λ q. Ok (leaf q.0, q.1))) h) ∙ ap (λ x. Ok (leaf c.in_ok-a.a.now, x)) (sym k.rest),
      added_one _ _ c.leaf_of_atom.result k.pieces ∙ ap (λ x. map shown c.args.self.now.pieces.now.items ++ x) (ap (λ x. x ∷ []) c.leaf_of_atom.ensures ∙ sym (postfix-leaf c.in_ok-a.a.now)),
      omega arith,
      omega arith,
    )
