-- The ring of residues modulo m.
use Rattle.std.specs.Prelude.{◌≡◌, ℕ, ◌+◌, ◌-◌, ◌*◌, ◌/◌, ◌%◌, ◌<◌, ◌≤◌}
use Rattle.std.proofs.Common.{sym, ap, ◌∙◌, mod-lt, mod-eq_of_lt, div-add-mod', add_assoc, add_comm, add-zero, add-mul, mul-add, mul_assoc, mul_comm, mul-one, arith}
use mathlib.Core.HLevel.{hedberg}
use Rattle.std.proofs.Math.Nat.{mod_self, zero-mod, mod-add-mod, add-mod-mod, mul-add-mod_self_right}
use native.Mathlib.Fin
use Rattle.std.proofs.Math.Decide.{Fin-discrete}
use Rattle.theory.specs.Ring.{CommutativeRing, laws_of}

-- a class of numbers that leave the same remainder, by that remainder
abbrev pub Class : ℕ → Type 0
Class m = (x : ℕ) × (x < m)

-- the class of a number
abbrev pub class : (m : ℕ) → 2 ≤ m → ℕ → Class m
class m h a = (a % m, mod-lt a (omega arith))

mul_right_comm : (a b c : ℕ) → a * b * c ≡ a * c * b
mul_right_comm a b c = mul_assoc a b c ∙ ap (λ (x : ℕ). a * x) (mul_comm b c) ∙ sym (mul_assoc a c b)

mod_mul_mod : (a b m : ℕ) → (a % m * b) % m ≡ (a * b) % m
mod_mul_mod a b m =
    sym (mul-add-mod_self_right (a / m * b) m (a % m * b))
    ∙ ap (λ (x : ℕ). (x + a % m * b) % m) (mul_right_comm (a / m) b m)
    ∙ ap (λ (x : ℕ). x % m) (sym (add-mul (a / m * m) (a % m) b) ∙ ap (λ (x : ℕ). x * b) (div-add-mod' a m))

mul_mod_mod : (a b m : ℕ) → (a * (b % m)) % m ≡ (a * b) % m
mul_mod_mod a b m = ap (λ (x : ℕ). x % m) (mul_comm a (b % m)) ∙ mod_mul_mod b a m ∙ ap (λ (x : ℕ). x % m) (mul_comm b a)

module _ (m : ℕ) (h : 2 ≤ m) where
  abbrev pub plus : Class m → Class m → Class m
  plus x y = class m h (x.0 + y.0)

  abbrev pub times : Class m → Class m → Class m
  times x y = class m h (x.0 * y.0)

  abbrev pub minus : Class m → Class m
  minus x = class m h (m - x.0)

  pub plus_assoc : (a b c : Class m) → plus (plus a b) c ≡ plus a (plus b c)
  plus_assoc a b c = Fin.val_path (mod-add-mod (a.0 + b.0) m c.0 ∙ ap (λ (x : ℕ). x % m) (add_assoc a.0 b.0 c.0) ∙ sym (add-mod-mod a.0 (b.0 + c.0) m))

  pub plus_comm : (a b : Class m) → plus a b ≡ plus b a
  plus_comm a b = ap (class m h) (add_comm a.0 b.0)

  pub plus-zero : (a : Class m) → plus a (class m h 0) ≡ a
  plus-zero a = Fin.val_path (add-mod-mod a.0 0 m ∙ ap (λ (x : ℕ). x % m) (add-zero a.0) ∙ mod-eq_of_lt a.1)

  pub plus-minus : (a : Class m) → plus a (minus a) ≡ class m h 0
  plus-minus a = Fin.val_path (add-mod-mod a.0 (m - a.0) m ∙ ap (λ (x : ℕ). x % m) whole ∙ mod_self m ∙ sym (zero-mod m))
    where
      whole : a.0 + (m - a.0) ≡ m
      whole = let l : a.0 < m = a.1 in omega arith

  pub times_assoc : (a b c : Class m) → times (times a b) c ≡ times a (times b c)
  times_assoc a b c = Fin.val_path (mod_mul_mod (a.0 * b.0) c.0 m ∙ ap (λ (x : ℕ). x % m) (mul_assoc a.0 b.0 c.0) ∙ sym (mul_mod_mod a.0 (b.0 * c.0) m))

  pub times_comm : (a b : Class m) → times a b ≡ times b a
  times_comm a b = ap (class m h) (mul_comm a.0 b.0)

  pub times-one : (a : Class m) → times a (class m h 1) ≡ a
  times-one a = Fin.val_path (mul_mod_mod a.0 1 m ∙ ap (λ (x : ℕ). x % m) (mul-one a.0) ∙ mod-eq_of_lt a.1)

  pub times-plus : (a b c : Class m) → times a (plus b c) ≡ plus (times a b) (times a c)
  times-plus a b c = Fin.val_path (mul_mod_mod a.0 (b.0 + c.0) m ∙ ap (λ (x : ℕ). x % m) (mul-add a.0 b.0 c.0)
      ∙ sym (mod-add-mod (a.0 * b.0) m (times a c).0 ∙ add-mod-mod (a.0 * b.0) (a.0 * c.0) m))

  pub one_not_zero : ¬ (class m h 1 ≡ class m h 0)
  one_not_zero e = let p : ◌≡◌ {A = ℕ} 1 0 = sym (mod-eq_of_lt h) ∙ ap (λ (x : Class m). x.0) e ∙ zero-mod m in omega arith

  abbrev pub residue_ring : CommutativeRing
  residue_ring = record {
    carrier = Class m;
    add = plus;
    mul = times;
    zero = class m h 0;
    neg = minus;
    one = class m h 1;
    laws = laws_of plus times (class m h 0) minus (class m h 1) (hedberg (Fin-discrete m)) plus_assoc plus_comm plus-zero plus-minus times_assoc times_comm times-one times-plus;
    one≢zero = one_not_zero;
  }
