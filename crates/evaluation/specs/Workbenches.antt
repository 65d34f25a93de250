-- Where a workbench calculates, and what its calls leave as it was.
use Rattle.std.specs.Prelude.{◌≡◌, length}
use Rattle.coefficients.specs.Coding.{Coding}
use Rattle.orders.specs.Models.{OrderModel}
use Rattle.evaluation.specs.declared.workbench.Workbench.{Workbench}
use Rattle.evaluation.specs.Working.{Setting, setting}

-- its algebra, with its places of work memory
abbrev pub place : {R O : Type 0} {kr : _} {ko : _} → (R → Coding) → (O → OrderModel) → Workbench R O kr ko → Setting
place rings orders b = setting rings orders (length b.work.now) b.algebra.now

-- the algebra, and how many places the memories have
pub record Same {R O : Type 0} {kr : _} {ko : _} (before after : Workbench R O kr ko) : Type 0 where
  pub algebra : after.algebra.now ≡ before.algebra.now
  pub work : length after.work.now ≡ length before.work.now
  pub out : length after.out.now ≡ length before.out.now
