-- Laws that follow from those of a commutative ring.
use mathlib.Core.Path.{◌≡◌, sym, ap, ap₂, ◌∙◌}
pub use Rattle.theory.specs.Ring.{CommutativeRing, add_assoc, add_comm, add-zero, add-neg, mul_assoc, mul_comm, mul-one, mul-add}

module _ (R : CommutativeRing) where
  open R use {carrier, add, mul, neg, zero, one}

  pub zero-add : (a : carrier) → add zero a ≡ a
  zero-add a = add_comm R zero a ∙ add-zero R a

  pub one-mul : (a : carrier) → mul one a ≡ a
  one-mul a = mul_comm R one a ∙ mul-one R a

  pub add_left : (a b c : carrier) → add a (add b c) ≡ add b (add a c)
  add_left a b c = sym (add_assoc R a b c) ∙ ap (λ x. add x c) (add_comm R a b) ∙ add_assoc R b a c

  pub mul_left : (a b c : carrier) → mul a (mul b c) ≡ mul b (mul a c)
  mul_left a b c = sym (mul_assoc R a b c) ∙ ap (λ x. mul x c) (mul_comm R a b) ∙ mul_assoc R b a c

  pub add_swap : (a b c d : carrier) → add (add a b) (add c d) ≡ add (add a c) (add b d)
  add_swap a b c d = simp (add_assoc R, add_left)

  pub add-mul : (a b c : carrier) → mul (add a b) c ≡ add (mul a c) (mul b c)
  add-mul a b c = mul_comm R (add a b) c ∙ mul-add R c a b ∙ ap₂ add (mul_comm R c a) (mul_comm R c b)

  -- b may be taken off again
  pub cancel : (a b : carrier) → add (add a b) (neg b) ≡ a
  cancel a b = add_assoc R a b (neg b) ∙ ap (add a) (add-neg R b) ∙ add-zero R a

  pub add_cancel : (a b c : carrier) → add a c ≡ add b c → a ≡ b
  add_cancel a b c e = sym (cancel a c) ∙ ap (λ x. add x (neg c)) e ∙ cancel b c

  pub neg-add_self : (a : carrier) → add (neg a) a ≡ zero
  neg-add_self a = add_comm R (neg a) a ∙ add-neg R a

  pub add-neg-left : (a b : carrier) → add a (add (neg a) b) ≡ b
  add-neg-left a b = sym (add_assoc R a (neg a) b) ∙ ap (λ x. add x b) (add-neg R a) ∙ zero-add b

  pub eq_of_sub : (a b : carrier) → add a (neg b) ≡ zero → a ≡ b
  eq_of_sub a b e = add_cancel a b (neg b) (e ∙ sym (add-neg R b))

  pub mul-zero : (a : carrier) → mul a zero ≡ zero
  mul-zero a = add_cancel (mul a zero) zero (mul a zero) (sym (mul-add R a zero zero) ∙ ap (mul a) (add-zero R zero) ∙ sym (zero-add (mul a zero)))

  pub zero-mul : (a : carrier) → mul zero a ≡ zero
  zero-mul a = mul_comm R zero a ∙ mul-zero a

  pub neg-zero : neg zero ≡ zero
  neg-zero = sym (zero-add (neg zero)) ∙ add-neg R zero

  pub neg-neg : (a : carrier) → neg (neg a) ≡ a
  neg-neg a = add_cancel (neg (neg a)) a (neg a) (neg-add_self (neg a) ∙ sym (add-neg R a))

  pub neg-add : (a b : carrier) → neg (add a b) ≡ add (neg a) (neg b)
  neg-add a b =
      add_cancel (neg (add a b)) (add (neg a) (neg b)) (add a b)
      (neg-add_self (add a b) ∙ sym (add_swap (neg a) (neg b) a b ∙ ap (λ x. add x (add (neg b) b)) (neg-add_self a) ∙ zero-add (add (neg b) b) ∙ neg-add_self b))

  pub neg-mul : (a b : carrier) → mul (neg a) b ≡ neg (mul a b)
  neg-mul a b =
      add_cancel (mul (neg a) b) (neg (mul a b)) (mul a b)
      (sym (add-mul (neg a) a b) ∙ ap (λ x. mul x b) (neg-add_self a) ∙ zero-mul b ∙ sym (neg-add_self (mul a b)))

  pub mul-neg : (a b : carrier) → mul a (neg b) ≡ neg (mul a b)
  mul-neg a b = mul_comm R a (neg b) ∙ neg-mul b a ∙ ap neg (mul_comm R b a)

  pub neg-one-mul : (a : carrier) → mul (neg one) a ≡ neg a
  neg-one-mul a = neg-mul one a ∙ ap neg (one-mul a)
