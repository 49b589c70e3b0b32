-- What formulas over variables with known values ask.
use Rattle.std.proofs.Common.{◌≡◌, ℕ, Bool, true, ◌&&◌, List, [], ◌∷◌, ◌++◌, length, Option, Some, refl, sym, subst}
use Rattle.std.specs.Prelude.{slice_get, ◌↔◌}
use Rattle.smv_language.specs.declared.expr.Op.TheVariants as op
use Rattle.smv_language.specs.Values.{Value, truth, Values, one, opposite}
use Rattle.smv_language.specs.Evaluate.{gives_within, gives_applied, gives_not}
use Rattle.smv_flat_laws.proofs.Lists.{get_end}
use Rattle.smv_flat_laws.proofs.Conditions.{MayBe, within_iff}

-- `in` with one value on the left holds where it is one of those on the right
pub within_any : (a b : Option Values) (x : Value) → a ≡ Some (one x) → (MayBe (gives_within a b) (truth true) ↔ MayBe b x)
within_any a b x e = subst (λ o. MayBe (gives_within o b) (truth true) ↔ MayBe b x) (sym e) (within_iff b x)

pub gives_and : (a b : Option Values) (x y : Bool) → a ≡ Some (one (truth x)) → b ≡ Some (one (truth y)) → gives_applied op.And a b ≡ Some (one (truth (x && y)))
gives_and a b x y e g = rw (e, g) refl

pub gives_opposite : (a : Option Values) (x : Bool) → a ≡ Some (one (truth x)) → gives_not a ≡ Some (one (truth (opposite x)))
gives_opposite a x e = rw e refl

-- the last of a list, where its number is known
pub get_last : {A : Type 0} (xs : List A) (x : A) (n : ℕ) → length xs ≡ n → slice_get (xs ++ x ∷ []) n ≡ Some x
get_last xs x n e = subst (λ k. slice_get (xs ++ x ∷ []) k ≡ Some x) e (get_end xs x)

pub truth_same : (a b : Bool) → truth a ≡ truth b → a ≡ b
truth_same a b e = cc
