-- The worked cases of algebras, by computing.
use Rattle.std.proofs.Common.{refl}
use Rattle.orders.specs.Letters.{image}
use Rattle.kept.specs.Kept.{compare_terms}
use Rattle.run.specs.Entries.{add_entry}
use Rattle.run.specs.Pieces.{around}
use Rattle.run.specs.Relations.{relation_of, tail_of}
use Rattle.run.specs.Step.{entries_at, step_of}
use Rattle.run.specs.Calls.{step_limit, calculate}
use Rattle.relations.specs.Declare.{declare_answer}
use Rattle.algebra.specs.Overlaps.{overlap_run, overlap_call}
use Rattle.algebra.specs.Decide.{triples, decide}
use Rattle.algebra.specs.Calls.{normalise, product}
use Rattle.specimens.specs.Algebras.{WorkedAlgebras}

pub worked_algebras : WorkedAlgebras
unfolding image compare_terms add_entry around relation_of tail_of entries_at step_of step_limit calculate declare_answer overlap_run overlap_call triples decide normalise product
worked_algebras = record {
  sl2_overlap = refl;
  sl2_sound = refl;
  sl2_product = refl;
  halved_overlap = refl;
  halved_degenerate = refl;
  degenerate_refused = λ ts. refl;
  undecided_refused = λ ts. refl;
  cube_not_before = refl;
  cube_before = refl;
}
