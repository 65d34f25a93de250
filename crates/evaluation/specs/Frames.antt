-- The terms of a frame.
use Rattle.std.specs.Prelude.{List, take}
use Rattle.words.specs.declared.term.Term.{Term}
use Rattle.evaluation.specs.declared.frame.Frame.{Frame}

unfoldable pub frame_terms : Frame → List Term
frame_terms f = take f.count f.terms
