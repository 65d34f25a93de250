use Rattle.std.proofs.Common.{◌≡◌, ℕ, ◌≤◌, List, [], ◌∷◌, ◌++◌, length, Ok, sym, ap, ◌∙◌, refl, arith}
use Rattle.std.specs.List.{flat_map}
use Rattle.grammar.specs.Reading.{read_spaced_number, read_coefficient}
use Rattle.grammar.specs.Forms.{TermForm, rel, one_term, term_pieces}
use Rattle.grammar.specs.FormReader.{read_rel, read_terms}
use Rattle.grammar.proofs.Operating.{added_alone}
use Rattle.grammar.proofs.Chains.{spaced_shrinks, coefficient_shrinks}
use Rattle.grammar.proofs.reading.Reading.relation.Goals as goal

module _ (s a b c f : List ℕ) (j i : ℕ) (x : Ok (j, a) ≡ read_spaced_number s) (y : Ok (i, b) ≡ read_spaced_number a) (z : Ok (f, c) ≡ read_coefficient b) where
  reads : (ts : List TermForm) (rest : List ℕ) → read_terms c ≡ Ok (ts, rest) → read_rel s ≡ Ok (rel j i f ts, rest)
  reads ts rest w = rw (sym x, sym y, sym z, w)

  shrinks : length c ≤ length s
  shrinks = omega (arith, spaced_shrinks s a j x, spaced_shrinks a b i y, coefficient_shrinks b f c z)

-- the pieces of terms are those of each, one after another
terms_flat : (ts : List TermForm) → term_pieces ts ≡ flat_map one_term ts
terms_flat [] = refl
terms_flat (t ∷ ts) = ap (λ l. one_term t ++ l) (terms_flat ts)

pub invariant_of-self : goal.invariant_of-self
invariant_of-self c =
    let k = shrinks c.args.self.rest.now c.in_ok-j.a.now c.in_ok-i.b.now c.in_ok-factor.c.now c.in_ok-factor.factor.now c.in_ok-j.j c.in_ok-i.i
    c.in_ok-j.ensures c.in_ok-i.ensures c.in_ok-factor.ensures in
    omega (arith, c.args.self.room)

pub returns : goal.returns
returns c =
    let h = c.in_ok-parts.ensures in (
      rel c.in_ok-j.j c.in_ok-i.i c.in_ok-factor.factor.now h.0,
      reads c.args.self.rest.now c.in_ok-j.a.now c.in_ok-i.b.now c.in_ok-factor.c.now c.in_ok-factor.factor.now c.in_ok-j.j c.in_ok-i.i
          c.in_ok-j.ensures c.in_ok-i.ensures c.in_ok-factor.ensures h.0 c.parts.new.self.rest.now h.1,
      (h.0, refl, added_alone _ _ _ (flat_map one_term h.0) c.requires h.2 c.as_slice.ensures.value ∙ sym (terms_flat h.0)),
    )
