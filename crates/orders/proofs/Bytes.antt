-- Comparing two numbers is comparing their bytes.
use Rattle.std.proofs.Common.{◌≡◌, ℕ, ◌^◌, ◌<◌, Less, Greater, sym, ◌∙◌, ⊎_elim, rules}
use Rattle.std.specs.Ordering.{nat_cmp}
use Rattle.std.proofs.lemmas.Bool.{cases_order}
use Rattle.orders.specs.Orders.{first_difference}
use Rattle.orders.specs.Images.{bytes}

below : (x y : ℕ) → x < 2 ^ 64 → y < 2 ^ 64 → x < y → first_difference (bytes 8 x) (bytes 8 y) ≡ Less
below x y p q h = search rules

above : (x y : ℕ) → x < 2 ^ 64 → y < 2 ^ 64 → y < x → first_difference (bytes 8 x) (bytes 8 y) ≡ Greater
above x y p q h = search rules

pub bytes_compare : (x y : ℕ) → x < 2 ^ 64 → y < 2 ^ 64 → nat_cmp x y ≡ first_difference (bytes 8 x) (bytes 8 y)
bytes_compare x y p q = ⊎_elim
    (λ e. search rules)
    (⊎_elim (λ h. search rules ∙ sym (below x y p q h)) (λ h. search rules ∙ sym (above x y p q h)))
    (cases_order x y)
