use Rattle.std.proofs.Common.{◌≡◌, List, ℕ, ◌++◌, drop}
use Rattle.std.specs.Fmt.{HasWritten, IsPlainFormatter}
use Rattle.orders.specs.Letters.{letters}
use Rattle.answers.specs.Text.{letters_bytes}
use Rattle.answers.proofs.list.LettersDisplay.fmt.Given as goal

abbrev pub invariant-loop-x : goal.invariant-loop-x
invariant-loop-x g l =
    IsPlainFormatter l.initial.f → (done : List ℕ) × HasWritten g.W.Write.write_str_gives l.initial.f done l.f
    × (done ++ letters_bytes (letters (drop l.x-index l.self.0.now)) ≡ letters_bytes (letters l.self.0.now))
