-- The worked cases, by computing.
use Rattle.std.proofs.Common.{refl}
use Rattle.orders.specs.Letters.{image}
use Rattle.qpolynomials.specs.Product.{scaled, times_bits, times}
use Rattle.kept.specs.Kept.{compare_terms}
use Rattle.run.specs.Entries.{add_entry}
use Rattle.run.specs.Pieces.{around}
use Rattle.run.specs.Relations.{relation_of, tail_of}
use Rattle.run.specs.Step.{entries_at, step_of}
use Rattle.run.specs.Calls.{step_limit, calculate}
use Rattle.specimens.specs.Runs.{WorkedRuns}

pub worked_runs : WorkedRuns
unfolding image scaled times_bits times compare_terms add_entry around relation_of tail_of entries_at step_of step_limit calculate
worked_runs = record {
  eight_steps = refl;
  three_places = refl;
  two_places = refl;
  two_results = refl;
  highest_power = refl;
  too_high = refl;
  too_long = refl;
}
