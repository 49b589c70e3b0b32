-- Truth values that are joined, turned or compared, and statements that imply each other.
use Rattle.std.proofs.Common.{◌≡◌, Bool, true, false, refl, sym}

pub bool_same : (p q : Bool) → (p ≡ true → q ≡ true) → (q ≡ true → p ≡ true) → p ≡ q
bool_same true q f g = sym (f refl)
bool_same false true f g = g refl
bool_same false false f g = refl
