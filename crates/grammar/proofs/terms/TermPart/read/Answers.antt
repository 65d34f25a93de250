use Rattle.std.proofs.Common.{◌≡◌, ℕ, List, [], ◌∷◌, ◌++◌, map, length, Ok, Err, codes, Result, sym, ap, ◌∙◌, length-append, arith, Bor}
use Rattle.std.specs.List.{flat_map}
use Rattle.std.proofs.lemmas.List.Concat.{flat_map_single}
use Rattle.grammar.specs.declared.fault.ReadFault.{ReadFault}
use Rattle.grammar.specs.declared.reading.Reading.{Reading}
use Rattle.grammar.specs.declared.piece.Piece.TheVariants.{Coefficient}
use Rattle.grammar.specs.Reading.{Left, expect, read_coefficient, read_generator, read_parts}
use Rattle.grammar.specs.Forms.{one_term}
use Rattle.grammar.specs.FormReader.{read_term}
use Rattle.grammar.specs.Pieces.{shown, a_generator, a_coefficient}
use Rattle.grammar.proofs.Chains.{expect_shrinks, coefficient_shrinks}
use Rattle.grammar.proofs.Operating.{added_on, added_one}
use Rattle.grammar.proofs.terms.TermPart.read.Goals as goal

module _ (inner after : List ℕ) (a : Bor (List ℕ)) (old mid new : Reading)
    (opened : Ok inner ≡ expect (codes "(") old.rest.now) (first : Ok (a.now, after) ≡ read_coefficient inner)
    (stored : mid.pieces.now.items ≡ old.pieces.now.items ++ (Coefficient a ∷ [])) (behind : mid.rest.now ≡ after) where
  whole : (r : Result (Unit {0}) ReadFault) → Left (flat_map (λ n. a_generator n ∷ [])) (read_parts (length mid.rest.now) read_generator [] mid.rest.now) mid new r → Left one_term (read_term old.rest.now) old new r
  whole (Ok _) (gs, e, s, room, less) =
      let o = expect_shrinks (codes "(") old.rest.now inner opened in
      let f = coefficient_shrinks inner a.now after first in
      let l = ap length stored ∙ length-append old.pieces.now.items _ in
      let b = ap length behind in (
        record { coefficient = a.now; generators = gs },
        rw (sym opened, sym first, sym behind, e),
        added_on _ _ _ (a_coefficient a.now ∷ []) (map a_generator gs) (added_one _ _ (Coefficient a) stored) (s ∙ ap (λ x. map shown mid.pieces.now.items ++ x) (flat_map_single a_generator gs)),
        omega arith,
        omega arith,
      )
  whole (Err x) e = rw (sym opened, sym first, sym behind, e)

pub returns : goal.returns
returns c =
    whole c.in_ok-inner.inner.now c.in_ok-c.rest.now c.in_ok-c.c c.args.line.now c.keep.new.self c.parts.new.self
    c.in_ok-inner.ensures c.in_ok-c.ensures c.keep.ensures.pieces c.keep.ensures.rest _ c.parts.ensures
