-- Truth values that are joined, turned or compared, and statements that imply each other.
use Rattle.std.proofs.Common.{◌≡◌, Bool, true, false, ◌||◌, refl, ◌⊎◌, inl, inr, ◌&&◌, arith, sym, ◌∙◌}
use Rattle.std.specs.Prelude.{if◌then◌else◌, ◌↔◌}

pub or_cases : (a b : Bool) → (a || b) ≡ true → (a ≡ true) ⊎ (b ≡ true)
or_cases true b h = inl refl
or_cases false b h = inr h

pub left_true : (a b : Bool) → (a && b) ≡ true → a ≡ true
left_true true b both = refl
left_true false b both = both

pub right_true : (a b : Bool) → (a && b) ≡ true → b ≡ true
right_true true b both = both
right_true false b both = grind (arith)

pub never : (b : Bool) → b ≡ false → b ≡ true → ⊥
never b e g = cc

-- what a test answers, and the branch that is then taken
pub if_true : {A : Type 0} (b : Bool) (x y : A) → b ≡ true → (if b then x else y) ≡ x
if_true b x y e = rw e refl

pub if_false : {A : Type 0} (b : Bool) (x y : A) → b ≡ false → (if b then x else y) ≡ y
if_false b x y e = rw e refl

pub not_both : (b : Bool) → b ≡ true → b ≡ false → ⊥
not_both b e f = let bad : true ≡ false = sym e ∙ f in cc

pub iff_trans : {A B C : Type 0} → (A ↔ B) → (B ↔ C) → (A ↔ C)
iff_trans h k = ((λ a. k.0 (h.0 a)), (λ c. h.1 (k.1 c)))

pub iff_sym : {A B : Type 0} → (A ↔ B) → (B ↔ A)
iff_sym h = (h.1, h.0)

pub or_false : (a : Bool) → (a || false) ≡ a
or_false true = refl
or_false false = refl

pub or_grouped : (a b c : Bool) → (a || (b || c)) ≡ ((a || b) || c)
or_grouped true b c = refl
or_grouped false b c = refl

pub or_assoc : (a b c : Bool) → ((a || b) || c) ≡ (a || (b || c))
or_assoc true b c = refl
or_assoc false b c = refl
