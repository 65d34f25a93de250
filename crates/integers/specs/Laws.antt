-- The product of integers is associative and distributes over the sum.
use Rattle.std.specs.Prelude.{◌≡◌, zero, suc, ℤ, pos, negsuc, ◌+ℤ◌, ◌-ℤ◌, ◌*ℤ◌, neg_ℤ}
use Rattle.std.proofs.Common.{sym, ap, ap₂, ◌∙◌}
use Rattle.std.proofs.Math.IntN.{suc_ℤ, pred_ℤ, +ℤ_assoc, +ℤ_comm, +ℤ_idl, +ℤ_invl, suc_ℤ-+ℤ, pred_ℤ-+ℤ, +ℤ-neg_ℤ_cancel, *ℤ_comm, zero-*ℤ, suc_ℤ-*ℤ, pred_ℤ-*ℤ}

-- induction by one more and one less
up_down : (P : ℤ → Type 0) → P (pos 0) → ((k : ℤ) → P k → P (suc_ℤ k)) → ((k : ℤ) → P k → P (pred_ℤ k)) → (k : ℤ) → P k
up_down P z s p (pos zero) = z
up_down P z s p (pos (suc n)) = s (pos n) (up_down P z s p (pos n))
up_down P z s p (negsuc zero) = p (pos zero) z
up_down P z s p (negsuc (suc n)) = p (negsuc n) (up_down P z s p (negsuc n))

last_two : (x y z : ℤ) → (x +ℤ y) +ℤ z ≡ (x +ℤ z) +ℤ y
last_two x y z = +ℤ_assoc x y z ∙ ap (λ (t : ℤ). x +ℤ t) (+ℤ_comm y z) ∙ sym (+ℤ_assoc x z y)

pub add_*ℤ : (a b c : ℤ) → (a +ℤ b) *ℤ c ≡ a *ℤ c +ℤ b *ℤ c
add_*ℤ a b c = up_down (λ (a : ℤ). (a +ℤ b) *ℤ c ≡ a *ℤ c +ℤ b *ℤ c)
    (ap (λ (t : ℤ). t *ℤ c) (+ℤ_idl b) ∙ sym (ap (λ (t : ℤ). t +ℤ b *ℤ c) (zero-*ℤ c) ∙ +ℤ_idl (b *ℤ c)))
    (λ a ih. ap (λ (t : ℤ). t *ℤ c) (suc_ℤ-+ℤ a b) ∙ suc_ℤ-*ℤ (a +ℤ b) c ∙ ap (λ (t : ℤ). t +ℤ c) ih
    ∙ last_two (a *ℤ c) (b *ℤ c) c ∙ ap (λ (t : ℤ). t +ℤ b *ℤ c) (sym (suc_ℤ-*ℤ a c)))
    (λ a ih. ap (λ (t : ℤ). t *ℤ c) (pred_ℤ-+ℤ a b) ∙ pred_ℤ-*ℤ (a +ℤ b) c ∙ ap (λ (t : ℤ). t -ℤ c) ih
    ∙ last_two (a *ℤ c) (b *ℤ c) (neg_ℤ c) ∙ ap (λ (t : ℤ). t +ℤ b *ℤ c) (sym (pred_ℤ-*ℤ a c)))
    a

pub *ℤ-add : (a b c : ℤ) → a *ℤ (b +ℤ c) ≡ a *ℤ b +ℤ a *ℤ c
*ℤ-add a b c = *ℤ_comm a (b +ℤ c) ∙ add_*ℤ b c a ∙ ap₂ (λ (x y : ℤ). x +ℤ y) (*ℤ_comm b a) (*ℤ_comm c a)

pub negℤ_*ℤ : (b c : ℤ) → neg_ℤ b *ℤ c ≡ neg_ℤ (b *ℤ c)
negℤ_*ℤ b c =
    sym (+ℤ-neg_ℤ_cancel (neg_ℤ b *ℤ c) (b *ℤ c))
    ∙ ap (λ (t : ℤ). t -ℤ b *ℤ c) (sym (add_*ℤ (neg_ℤ b) b c) ∙ ap (λ (t : ℤ). t *ℤ c) (+ℤ_invl b) ∙ zero-*ℤ c)
    ∙ +ℤ_idl (neg_ℤ (b *ℤ c))

pub *ℤ-assoc : (a b c : ℤ) → (a *ℤ b) *ℤ c ≡ a *ℤ (b *ℤ c)
*ℤ-assoc a b c = up_down (λ (a : ℤ). (a *ℤ b) *ℤ c ≡ a *ℤ (b *ℤ c))
    (ap (λ (t : ℤ). t *ℤ c) (zero-*ℤ b) ∙ zero-*ℤ c ∙ sym (zero-*ℤ (b *ℤ c)))
    (λ a ih. ap (λ (t : ℤ). t *ℤ c) (suc_ℤ-*ℤ a b) ∙ add_*ℤ (a *ℤ b) b c ∙ ap (λ (t : ℤ). t +ℤ b *ℤ c) ih ∙ sym (suc_ℤ-*ℤ a (b *ℤ c)))
    (λ a ih. ap (λ (t : ℤ). t *ℤ c) (pred_ℤ-*ℤ a b) ∙ add_*ℤ (a *ℤ b) (neg_ℤ b) c ∙ ap₂ (λ (x y : ℤ). x +ℤ y) ih (negℤ_*ℤ b c) ∙ sym (pred_ℤ-*ℤ a (b *ℤ c)))
    a
