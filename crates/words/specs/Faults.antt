-- What the refusals of this crate say.
use Rattle.refusals.specs.declared.Refusal.{Refusal}
use Rattle.refusals.specs.Refusals.{plain}
use Rattle.words.specs.declared.word.WordFault.{WordFault}
use Rattle.words.specs.declared.word.WordFault.TheVariants.{NoWord, BadLetter, TooLong}

abbrev pub refusal_of : WordFault → Refusal
refusal_of NoWord = plain 2 3
refusal_of BadLetter = plain 2 3
refusal_of TooLong = plain 11 2
