-- The terms of a tail as a declaration takes them.
use Rattle.std.specs.Prelude.{◌≡◌, ℕ, List, [], ◌∷◌, ◌++◌, Ok, Err, vec_items, Result, Vec}
use Rattle.std.specs.declared.alloc.Global.{Global}
use Rattle.coefficients.specs.Coding.{Coding}
use Rattle.words.specs.declared.term.Term.{Term}
use Rattle.words.specs.Growth.{grown}
use Rattle.grammar.specs.declared.fault.FormFault.TheVariants.{Unreadable}
use Rattle.grammar.specs.Forms.{TermForm}
use Rattle.grammar.specs.Pieces.{Shown, a_generator, a_coefficient, a_join}
use Rattle.answers.specs.declared.fault.ScriptFault.{ScriptFault}
use Rattle.answers.specs.declared.fault.ScriptFault.TheVariants.{Form}
use Rattle.answers.specs.declared.failure.Failure.{Failure}
use Rattle.answers.specs.declared.failure.Failure.TheVariants.{Refused, Memory}
use Rattle.evaluation.specs.Coefficients.{and_then, by_ring}
use Rattle.evaluation.specs.Working.{by_word, term_of}

-- the word w with these letters behind it
abbrev pub grown_by : List ℕ → List ℕ → Result (List ℕ) ScriptFault
grown_by w [] = Ok w
grown_by w (x ∷ xs) = and_then (by_word (grown w x)) (λ v. grown_by v xs)

-- the coefficient read, then the word grown
abbrev pub made_term : Coding → TermForm → Result Term ScriptFault
made_term m t = and_then (by_ring (m.read t.coefficient)) (λ c. and_then (grown_by [] t.generators) (λ w. Ok (term_of w c)))

abbrev pub made_terms : Coding → List TermForm → Result (List Term) ScriptFault
made_terms m [] = Ok []
made_terms m (t ∷ ts) = and_then (made_term m t) (λ x. and_then (made_terms m ts) (λ xs. Ok (x ∷ xs)))

-- what stands of a tail while its pieces are taken: the terms before the last, and the last, which may still grow
pub record Draft : Type 0 where
  pub done : List Term
  pub code : ℕ
  pub word : List ℕ

abbrev pub all_terms : Draft → List Term
all_terms d = d.done ++ term_of d.word d.code ∷ []

-- a generator makes the last word grow, a coefficient begins the next term
abbrev pub taken : Coding → Draft → Shown → Result Draft ScriptFault
taken m d (a_generator x) = and_then (by_word (grown d.word x)) (λ w. Ok (record { done = d.done; code = d.code; word = w }))
taken m d (a_coefficient a) = and_then (by_ring (m.read a)) (λ c. Ok (record { done = all_terms d; code = c; word = [] }))
taken m d (a_join o) = Err (Form Unreadable)

unfoldable pub all_taken : Coding → Draft → List Shown → Result (List Term) ScriptFault
all_taken m d [] = Ok (all_terms d)
all_taken m d (p ∷ ps) = and_then (taken m d p) (λ e. all_taken m e ps)

-- the terms of a tail from its pieces
abbrev pub tail_of : Coding → List Shown → Result (List Term) ScriptFault
tail_of m [] = Ok []
tail_of m (a_generator x ∷ ps) = Err (Form Unreadable)
tail_of m (a_coefficient a ∷ ps) = and_then (by_ring (m.read a)) (λ c. all_taken m (record { done = []; code = c; word = [] }) ps)
tail_of m (a_join o ∷ ps) = Err (Form Unreadable)

-- the terms, or why the line is refused; where memory runs out nothing is said
abbrev pub Made : Result (List Term) ScriptFault → Result (Vec Term Global) Failure → Type 0
Made want (Ok v) = want ≡ Ok (vec_items v)
Made want (Err (Refused e)) = want ≡ Err e
Made want (Err (Memory a)) = Unit {0}

-- and likewise of a draft that has taken a piece
abbrev pub Grown : Result Draft ScriptFault → Draft → Result (Unit {0}) Failure → Type 0
Grown want d (Ok u) = want ≡ Ok d
Grown want d (Err (Refused e)) = want ≡ Err e
Grown want d (Err (Memory a)) = Unit {0}
