-- What the answers of the code stand for.
use Rattle.answers.specs.Answers as told
use Rattle.answers.specs.declared.text.Report.TheVariants.{Opened, Declared, Decided}
use Rattle.evaluation.specs.Frames.{frame_terms}
use Rattle.session.specs.declared.answer.Answer.{Answer}
use Rattle.session.specs.declared.answer.Answer.TheVariants.{Reported, Listed}

abbrev pub answer_of : Answer → told.Answer
answer_of (Reported Opened) = told.opened
answer_of (Reported Declared) = told.declared
answer_of (Reported (Decided v)) = told.decided v
answer_of (Listed k f) = told.list k (frame_terms f)
