use Rattle.std.proofs.Common.{◌≡◌, ℕ, [], ◌∷◌, Ok, Some}
use Rattle.run.specs.Entries.{Entry, row_entry}
use Rattle.run.specs.Relations.{relation_of, tail_of}
use Rattle.run.specs.declared.entry.Entry.{Entry as RowEntry}
use Rattle.algebra.specs.Overlaps.{overlap_place, first_entry}
use Rattle.algebra.proofs.Overlapping.{first-each}
use Rattle.algebra.proofs.overlap.load_first.Goals as goal

pub returns : goal.returns
returns g c =
    let m = g.R.Ring.model c.args.rules.now.ring in
    let i : ℕ = c.args.triple.i.number in
    let j : ℕ = c.args.triple.j.number in
    let k : ℕ = c.args.triple.k.number in
    let r = relation_of c.args.rules.now.table k j in
    let w : Entry = record { word = j ∷ k ∷ i ∷ []; code = Ok r.factor; place = overlap_place 1 0 } in
    let x : RowEntry = record { row = Some c.row_of.result; code = Ok c.factor.result; place = c.place_of.result } in
    let same : x ≡ row_entry w = cc in
    rw (c.of_letters-relation.ensures, first-each i 1 (tail_of r)) at (c.load_half.ensures w (first_entry i) same (λ p t r e. e))
