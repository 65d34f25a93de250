-- The parts of a list, one by one.
use Rattle.std.proofs.Common.{◌≡◌, ℕ, zero, suc, ◌+◌, ◌-◌, ◌<◌, ◌≤◌, List, [], ◌∷◌, ◌++◌, map, length, Ok, Err, sym, ap, ◌∙◌, append-nil, arith}
use Rattle.std.specs.List.{flat_map}
use Rattle.std.proofs.lemmas.Grind.{flat_map-append}
use Rattle.grammar.specs.declared.fault.ReadFault.{ReadFault}
use Rattle.grammar.specs.declared.bytes.Next.{Next}
use Rattle.grammar.specs.declared.bytes.Next.TheVariants.{Part, End}
use Rattle.grammar.specs.declared.piece.Piece.{Piece}
use Rattle.grammar.specs.Reading.{Reads, and_then, read_next, read_parts}
use Rattle.grammar.specs.Pieces.{Shown, shown, Added}
use Rattle.grammar.proofs.Nesting.{next_shrinks}
use Rattle.grammar.proofs.Operating.{added_on}

module _ {X : Type 0} (R : List ℕ → Reads X) (xs : List X) where
  pub parts_none : (n : ℕ) (bs : List ℕ) (x : ReadFault) → length bs ≤ n → Err x ≡ read_next bs → read_parts n R xs bs ≡ Err x
  unfolding read_parts
  parts_none zero [] x h e = cc
  parts_none zero (b ∷ bs) x h e = absurd (omega arith)
  parts_none (suc n) bs x h e = rw (sym e)

  pub parts_end : (n : ℕ) (x : Next) (bs rest : List ℕ) → length bs ≤ n → x ≡ End → Ok (x, rest) ≡ read_next bs → read_parts n R xs bs ≡ Ok (xs, rest)
  unfolding read_parts
  parts_end zero x bs rest h i e = let s = next_shrinks x bs rest e in absurd (omega arith)
  parts_end (suc n) x bs rest h i e = rw (sym e, i)

  pub parts_part : (n : ℕ) (x : Next) (bs rest : List ℕ) → length bs ≤ n → x ≡ Part → Ok (x, rest) ≡ read_next bs → read_parts n R xs bs ≡ and_then (R rest) (λ p. read_parts (n - 1) R (xs ++ (p.0 ∷ [])) p.1)
  unfolding read_parts
  parts_part zero x bs rest h i e = let s = next_shrinks x bs rest e in absurd (omega arith)
  parts_part (suc n) x bs rest h i e = let z : n ≡ suc n - 1 = omega arith in rw (sym e, i) (ap (λ m. and_then (R rest) (λ p. read_parts m R (xs ++ (p.0 ∷ [])) p.1)) z)

-- what a turn of the loop over parts keeps
pub record Listing {X : Type 0} (R : List ℕ → Reads X) (of : X → List Shown) (bs : List ℕ) (old new : List Piece) (rest : List ℕ) : Type 0 where
  pub fuel : ℕ
  pub xs : List X
  pub enough : length rest ≤ fuel
  pub goes : read_parts fuel R xs rest ≡ read_parts (length bs) R [] bs
  pub stored : Added old new (flat_map of xs)
  pub room : length new + length rest ≤ length old + length bs
  pub no_longer : length rest ≤ length bs

-- a turn of the loop over parts, by what comes next
module _ {X : Type 0} {R : List ℕ → Reads X} {of : X → List Shown} {bs rest : List ℕ} {old new : List Piece} (g : Listing R of bs old new rest) where
  pub listing_fault : (x : ReadFault) → Err x ≡ read_next rest → read_parts (length bs) R [] bs ≡ Err x
  listing_fault x e = sym g.goes ∙ parts_none R g.xs g.fuel rest x g.enough e

  pub listing_end : (x : Next) (after : List ℕ) → x ≡ End → Ok (x, after) ≡ read_next rest → (ys : List X) × (read_parts (length bs) R [] bs ≡ Ok (ys, after)) × Added old new (flat_map of ys) × (length new + length after ≤ length old + length bs) × (length after < length bs)
  listing_end x after i e =
      let k = next_shrinks x rest after e in
      (g.xs, sym g.goes ∙ parts_end R g.xs g.fuel x rest after g.enough i e, g.stored, omega (arith, g.room), omega (arith, g.no_longer))

  listing_part : (x : Next) (after : List ℕ) → x ≡ Part → Ok (x, after) ≡ read_next rest → read_parts (length bs) R [] bs ≡ and_then (R after) (λ p. read_parts (g.fuel - 1) R (g.xs ++ (p.0 ∷ [])) p.1)
  listing_part x after i e = sym g.goes ∙ parts_part R g.xs g.fuel x rest after g.enough i e

  pub listing_stops : (x : Next) (after : List ℕ) (y : ReadFault) → x ≡ Part → Ok (x, after) ≡ read_next rest → R after ≡ Err y → read_parts (length bs) R [] bs ≡ Err y
  listing_stops x after y i e h = listing_part x after i e ∙ ap (λ r. and_then r (λ p. read_parts (g.fuel - 1) R (g.xs ++ (p.0 ∷ [])) p.1)) h

  pub listing_again : (x : Next) (after more : List ℕ) (y : X) (last : List Piece) → x ≡ Part → Ok (x, after) ≡ read_next rest → R after ≡ Ok (y, more) → Added new last (of y) → length last + length more ≤ length new + length after → length more < length after → Listing R of bs old last more
  listing_again x after more y last i e h s room less =
      let k = next_shrinks x rest after e in
      record {
        fuel = g.fuel - 1;
        xs = g.xs ++ (y ∷ []);
        enough = omega (arith, g.enough);
        goes = sym (listing_part x after i e ∙ ap (λ r. and_then r (λ p. read_parts (g.fuel - 1) R (g.xs ++ (p.0 ∷ [])) p.1)) h);
        stored = added_on old new last (flat_map of g.xs) (of y) g.stored s ∙ ap (λ l. map shown old ++ l) (sym (flat_map-append of g.xs (y ∷ []) ∙ ap (λ l. flat_map of g.xs ++ l) (append-nil (of y))));
        room = omega (arith, g.room);
        no_longer = omega (arith, g.no_longer);
      }
