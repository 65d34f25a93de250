-- What a draft of a tail holds.
use Rattle.std.specs.Prelude.{vec_items}
use Rattle.words.specs.Spelled.{spelled}
use Rattle.evaluation.specs.declared.tail.draft.Draft.{Draft as Held}
use Rattle.evaluation.specs.Tails.{Draft}

abbrev pub drafted : Held → Draft
drafted d = record { done = vec_items d.done; code = d.code; word = spelled d.word }
