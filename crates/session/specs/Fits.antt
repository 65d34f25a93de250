-- The tag of a session says what is beside it.
use Rattle.std.specs.Prelude.{Bool, true, false}
use Rattle.session.specs.declared.state.Tag.{Tag}
use Rattle.session.specs.declared.state.Tag.TheVariants.{Start, Declaring, Calculating}
use Rattle.session.specs.declared.state.Stage.{Stage}
use Rattle.session.specs.declared.state.Stage.TheVariants.{Empty, Open, Closed}

abbrev pub fits : Tag → Stage → Bool
fits Start Empty = true
fits Start (Open a) = false
fits Start (Closed a) = false
fits Declaring Empty = false
fits Declaring (Open a) = true
fits Declaring (Closed a) = false
fits Calculating Empty = false
fits Calculating (Open a) = false
fits Calculating (Closed a) = true
