-- Lists of terms are told apart by their bytes.
use Rattle.std.specs.Prelude.{◌≡◌, ℕ, ◌↔◌, List}
use Rattle.coefficients.specs.Coding.{Coding}
use Rattle.words.specs.declared.term.Term.{Term}
use Rattle.normal_forms.specs.Terms.{AreTerms}
use Rattle.answers.specs.Text.{list_bytes}

-- lists of terms, with words in rows and codes in use, have equal bytes exactly where they are equal
abbrev pub ToldApart : Coding → Type 0
ToldApart m = (n : ℕ) (ts us : List Term) → AreTerms m n ts → AreTerms m n us → (list_bytes m ts ≡ list_bytes m us) ↔ (ts ≡ us)
