-- Commutative rings with 1 ≠ 0. The laws are mathlib's record of the laws of a commutative ring. Equality of elements need not be decidable.
use Rattle.std.specs.Prelude.{◌≡◌}
use Rattle.std.proofs.Common.{sym, ap, ap₂, ◌∙◌}
use mathlib.Mathlib.Algebra.Group.Defs.{IsAddCommMonoid}
use mathlib.Mathlib.Algebra.Ring.Defs.{IsCommRing}

pub record CommutativeRing : Type 1 where
  pub carrier : Type 0
  pub add : carrier → carrier → carrier
  pub mul : carrier → carrier → carrier
  pub zero : carrier
  pub neg : carrier → carrier
  pub one : carrier
  pub laws : IsCommRing carrier add mul zero neg one
  pub one≢zero : ¬ (one ≡ zero)

-- mathlib's record from the eight laws that say it all
module _ {A : Type 0} (add mul : A → A → A) (zero : A) (neg : A → A) (one : A)
    (is_set : IsSet A)
    (add_assoc : (a b c : A) → add (add a b) c ≡ add a (add b c))
    (add_comm : (a b : A) → add a b ≡ add b a)
    (add-zero : (a : A) → add a zero ≡ a)
    (add-neg : (a : A) → add a (neg a) ≡ zero)
    (mul_assoc : (a b c : A) → mul (mul a b) c ≡ mul a (mul b c))
    (mul_comm : (a b : A) → mul a b ≡ mul b a)
    (mul-one : (a : A) → mul a one ≡ a)
    (mul-add : (a b c : A) → mul a (add b c) ≡ add (mul a b) (mul a c)) where
  zero-add : (a : A) → add zero a ≡ a
  zero-add a = add_comm zero a ∙ add-zero a

  cancelled : (a b : A) → add (add a b) (neg b) ≡ a
  cancelled a b = add_assoc a b (neg b) ∙ ap (add a) (add-neg b) ∙ add-zero a

  mul-zero : (a : A) → mul a zero ≡ zero
  mul-zero a =
      sym (cancelled (mul a zero) (mul a zero))
      ∙ ap (λ x. add x (neg (mul a zero))) (sym (mul-add a zero zero) ∙ ap (mul a) (add-zero zero))
      ∙ add-neg (mul a zero)

  add-mul : (a b c : A) → mul (add a b) c ≡ add (mul a c) (mul b c)
  add-mul a b c = mul_comm (add a b) c ∙ mul-add c a b ∙ ap₂ add (mul_comm c a) (mul_comm c b)

  pub laws_of : IsCommRing A add mul zero neg one
  laws_of = record {
    is_ring = record {
      is_semiring = record {
        is_non_unital_semiring = record {
          is_non_unital_non_assoc_semiring = record {
            is_add_comm_monoid = record {
              is_add_monoid = record {
                is_add_semigroup = record { is_set = is_set; add_assoc = add_assoc };
                zero-add = zero-add;
                add-zero = add-zero;
              };
              add_comm = add_comm;
            };
            left_distrib = mul-add;
            right_distrib = add-mul;
            zero-mul = λ a. mul_comm zero a ∙ mul-zero a;
            mul-zero = mul-zero;
          };
          mul_assoc = mul_assoc;
        };
        one-mul = λ a. mul_comm one a ∙ mul-one a;
        mul-one = mul-one;
      };
      neg-add_cancel = λ a. add_comm (neg a) a ∙ add-neg a;
    };
    mul_comm = mul_comm;
  }

-- the laws by short names
module _ (R : CommutativeRing) where
  open R use {carrier, add, mul, zero, neg, one, laws}

  abbrev additive : IsAddCommMonoid carrier add zero
  additive = laws.is_ring.is_semiring.is_non_unital_semiring.is_non_unital_non_assoc_semiring.is_add_comm_monoid

  pub is_set : IsSet carrier
  is_set = additive.is_add_monoid.is_add_semigroup.is_set

  pub add_assoc : (a b c : carrier) → add (add a b) c ≡ add a (add b c)
  add_assoc = additive.is_add_monoid.is_add_semigroup.add_assoc

  pub add_comm : (a b : carrier) → add a b ≡ add b a
  add_comm = additive.add_comm

  pub add-zero : (a : carrier) → add a zero ≡ a
  add-zero = additive.is_add_monoid.add-zero

  pub add-neg : (a : carrier) → add a (neg a) ≡ zero
  add-neg a = add_comm a (neg a) ∙ laws.is_ring.neg-add_cancel a

  pub mul_assoc : (a b c : carrier) → mul (mul a b) c ≡ mul a (mul b c)
  mul_assoc = laws.is_ring.is_semiring.is_non_unital_semiring.mul_assoc

  pub mul_comm : (a b : carrier) → mul a b ≡ mul b a
  mul_comm = laws.mul_comm

  pub mul-one : (a : carrier) → mul a one ≡ a
  mul-one = laws.is_ring.is_semiring.mul-one

  pub mul-add : (a b c : carrier) → mul a (add b c) ≡ add (mul a b) (mul a c)
  mul-add = laws.is_ring.is_semiring.is_non_unital_semiring.is_non_unital_non_assoc_semiring.left_distrib
