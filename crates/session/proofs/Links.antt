-- The links of a declaration: what each of its calls answers settles the rest.
use Rattle.std.proofs.Common.{◌≡◌, ℕ, Bool, List, map, Ok, Err, Result, sym, refl, ap, arith}
use Rattle.answers.specs.declared.fault.ScriptFault.{ScriptFault}
use Rattle.evaluation.specs.Coefficients.{and_then}
use Rattle.words.specs.declared.term.Term.{Term}
use Rattle.run.specs.declared.relation.Relation.{Relation}
use Rattle.relations.specs.Declare.{declare_answer}
use Rattle.relations.specs.Presentations.{declared_table, with_pair}
use Rattle.relations.specs.declared.fault.DeclareFault.{DeclareFault}
use Rattle.choices.specs.declared.ring.AnyRing.{AnyRing}
use Rattle.choices.specs.declared.order.AnyOrder.{AnyOrder}
use Rattle.choices.specs.Rings.{ring_model}
use Rattle.choices.specs.Orders.{order_model}
use Rattle.grammar.specs.Forms.{TermForm}
use Rattle.answers.specs.declared.fault.ScriptFault.TheVariants.{Declare}
use Rattle.evaluation.specs.Coefficients.{by_ring, all_read}
use Rattle.evaluation.specs.Tails.{made_terms}
use Rattle.session.specs.State.{State, declaring}
use Rattle.session.specs.Turns.{wrapped, declaration}
use Rattle.session.specs.Results.{first_read, Comes}
use Rattle.session.specs.State.{open_state}
use Rattle.relations.specs.declared.open.Open.{Open}
use Rattle.relations.specs.Presentations.{Declares}
use Rattle.evaluation.specs.Tails.{Made}
use Rattle.answers.specs.declared.failure.Failure.{Failure}
use Rattle.answers.specs.declared.failure.Failure.TheVariants.{Refused, Memory}

module _ {A B C E : Type 0} (x : Result A ScriptFault) (y : Result (Unit {0}) ScriptFault) (z : Result B ScriptFault) (w : E → ScriptFault) (g : A → B → Result (Unit {0}) E) (h : A → B → C) where
  -- the factor's code, where all coefficients are read
  abbrev pub code_first : Result A ScriptFault
  code_first = and_then x (λ a. and_then y (λ _. Ok a))

  -- all coefficients, then the terms, then the code, then the declaration
  abbrev pub in_order : Result C ScriptFault
  in_order = and_then (and_then x (λ _. y)) (λ _. and_then z (λ b. and_then x (λ a. and_then (wrapped w (g a b)) (λ _. Ok (h a b)))))

cannot : {A E : Type 0} {X : Type 0} (a : A) (e : E) → ◌≡◌ {A = Result A E} (Ok a) (Err e) → X
cannot a e p = let z : ◌≡◌ {A = ℕ} 0 1 = cc in absurd (omega arith)

module _ {A B C E : Type 0} (z : Result B ScriptFault) (w : E → ScriptFault) (g : A → B → Result (Unit {0}) E) (h : A → B → C) where
  pub unread : (x : Result A ScriptFault) (y : Result (Unit {0}) ScriptFault) (e : ScriptFault) → Err e ≡ code_first x y z w g h → in_order x y z w g h ≡ Err e
  unread (Err f) y e p = let q : f ≡ e = cc in ap Err q
  unread (Ok a) (Err f) e p = let q : f ≡ e = cc in ap Err q
  unread (Ok a) (Ok u) e p = cannot a e (sym p)

  pub unmade : (x : Result A ScriptFault) (y : Result (Unit {0}) ScriptFault) (a : A) (e : ScriptFault) → Ok a ≡ code_first x y z w g h → z ≡ Err e → in_order x y z w g h ≡ Err e
  unmade (Err f) y a e p q = cannot a f p
  unmade (Ok b) (Err f) a e p q = cannot a f p
  unmade (Ok b) (Ok u) a e p q = rw q

module _ {A B C E : Type 0} (w : E → ScriptFault) (g : A → B → Result (Unit {0}) E) (h : A → B → C) where
  pub undeclared : (x : Result A ScriptFault) (y : Result (Unit {0}) ScriptFault) (z : Result B ScriptFault) (a : A) (b : B) (f : E)
      → Ok a ≡ code_first x y z w g h → z ≡ Ok b → Err f ≡ g a b → in_order x y z w g h ≡ Err (w f)
  undeclared (Err e) y z a b f p q r = cannot a e p
  undeclared (Ok c) (Err e) z a b f p q r = cannot a e p
  undeclared (Ok c) (Ok u) z a b f p q r =
      let s : a ≡ c = cc in
      rw (q, sym s, sym r)

  pub declares : (x : Result A ScriptFault) (y : Result (Unit {0}) ScriptFault) (z : Result B ScriptFault) (a : A) (b : B)
      → Ok a ≡ code_first x y z w g h → z ≡ Ok b → Ok tt ≡ g a b → in_order x y z w g h ≡ Ok (h a b)
  declares (Err e) y z a b p q r = cannot a e p
  declares (Ok c) (Err e) z a b p q r = cannot a e p
  declares (Ok c) (Ok u) z a b p q r =
      let s : a ≡ c = cc in
      rw (q, sym s, sym r)

module _ (k : AnyRing) (o : AnyOrder) (n : ℕ) (table : List Relation) (pairs : List Bool) (j i : ℕ) (c : List ℕ) (ts : List TermForm) where
  abbrev factor : Result ℕ ScriptFault
  factor = by_ring ((ring_model k).read c)

  abbrev others : Result (Unit {0}) ScriptFault
  others = all_read (ring_model k) (map (λ (t : TermForm). t.coefficient) ts)

  abbrev tails : Result (List Term) ScriptFault
  tails = made_terms (ring_model k) ts

  abbrev read_first : Result ℕ ScriptFault
  read_first = first_read (ring_model k) c (map (λ (t : TermForm). t.coefficient) ts)

  abbrev answer : ℕ → List Term → Result (Unit {0}) DeclareFault
  answer a tail = declare_answer (ring_model k) (order_model o) n pairs j i a tail

  abbrev after : ℕ → List Term → State
  after a tail = declaring k o n (declared_table table j i a tail) (with_pair pairs j i)

  pub not_read : (e : ScriptFault) → Err e ≡ read_first → declaration k o n table pairs j i c ts ≡ Err e
  not_read e p = unread tails Declare answer after factor others e p

  pub not_made : (a : ℕ) (e : ScriptFault) → Ok a ≡ read_first → tails ≡ Err e → declaration k o n table pairs j i c ts ≡ Err e
  not_made a e p q = unmade tails Declare answer after factor others a e p q

  pub not_declared : (a : ℕ) (tail : List Term) (f : DeclareFault) → Ok a ≡ read_first → tails ≡ Ok tail → Err f ≡ answer a tail → declaration k o n table pairs j i c ts ≡ Err (Declare f)
  not_declared a tail f p q r = undeclared Declare answer after factor others tails a tail f p q r

  pub is_declared : (a : ℕ) (tail : List Term) → Ok a ≡ read_first → tails ≡ Ok tail → Ok tt ≡ answer a tail → declaration k o n table pairs j i c ts ≡ Ok (after a tail)
  is_declared a tail p q r = declares Declare answer after factor others tails a tail p q r

  pub tail_fails : (a : ℕ) (f : Failure) (s : State) → Ok a ≡ read_first → Made tails (Err f) → Comes (declaration k o n table pairs j i c ts) s s (Err f)
  tail_fails a (Refused e) s p q = (not_made a e p q, refl)
  tail_fails a (Memory m) s p q = tt

-- what an open algebra stands for after a declaration
pub next_state : {kr : _} {ko : _} (a b : Open AnyRing AnyOrder kr ko) (j i c : ℕ) (tail : List Term) → b.presentation.rules.ring ≡ a.presentation.rules.ring
    → b.presentation.rules.order ≡ a.presentation.rules.order → b.presentation.count ≡ a.presentation.count
    → b.presentation.rules.table ≡ declared_table a.presentation.rules.table j i c tail
    → Declares j i c tail a.presentation.rules.table a.declared b.presentation.rules.table b.declared
    → declaring a.presentation.rules.ring a.presentation.rules.order a.presentation.count.n (declared_table a.presentation.rules.table j i c tail) (with_pair a.declared j i) ≡ open_state b
next_state a b j i c tail p q r t d = λ u. declaring (sym p u) (sym q u) (sym r u).n (sym t u) (sym d.declared_is u)
