-- Equivalences put together.
use Rattle.std.specs.Prelude.{◌↔◌}

pub iff_refl : {A : Type 0} → (A ↔ A)
iff_refl = ((λ a. a), (λ a. a))

pub iff_both : {A B C D : Type 0} → (A ↔ B) → (C ↔ D) → ((A × C) ↔ (B × D))
iff_both h k = ((λ a. (h.0 a.0, k.0 a.1)), (λ b. (h.1 b.0, k.1 b.1)))
