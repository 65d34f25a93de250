use Rattle.std.proofs.Common.{◌≡◌}
use Rattle.algebra.specs.Scans.{in_list}
use Rattle.algebra.proofs.Checking.{scan_from}
use Rattle.algebra.proofs.scan.check_list.Given as goal

abbrev pub invariant-loop-p : goal.invariant-loop-p
invariant-loop-p g l =
    let from = scan_from (in_list l.side) (g.R.Ring.model l.presentation.rules.ring) l.presentation.count.n l.list in
    from l.p ≡ from 0
