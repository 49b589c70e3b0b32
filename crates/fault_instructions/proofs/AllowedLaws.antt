-- The tests of the code are those of the definitions.
use Rattle.std.proofs.Common.{◌≡◌, ◌↔◌, ℕ, ◌+◌, ◌<◌, Bool, true, List, ◌∷◌, length, get_or, drop, refl, ◌∙◌, ap, subst}
use Rattle.std.specs.Prelude.{ℤ, IsTrue, ◌||◌}
use Rattle.std.specs.List.{list_any}
use Rattle.std.proofs.lemmas.List.{drop_more}
use Rattle.std.proofs.lemmas.Bool.Decides.{Decides-int_eq}
use Rattle.std.specs.Ordering.{int_eq}
use Rattle.smv_language.specs.declared.program.Member.{Member}
use Rattle.smv_language.specs.declared.program.Member.TheVariants as member
use Rattle.smv_language.specs.Language.{Text, Value, symbol, same_value, same_int, same_text, is_member, value_of_member}
use Rattle.smv_language.specs.Values.{truth, number}
use Rattle.smv_language.proofs.ValueLaws.{same_text_refl, same_int_equal, same_value_refl}
use Rattle.smv_language.proofs.OneTree.{same_text_equal}
use Rattle.base_values.proofs.BoolLaws.{bool_same}

-- a member that is the value, or a later one
member_first : (m : Member) (ms : List Member) (v : Value) → is_member (m ∷ ms) v ≡ (same_value (value_of_member m) v || is_member ms v)
member_first (member.Number n) ms (truth b) = refl
member_first (member.Number n) ms (number k) = refl
member_first (member.Number n) ms (symbol y) = refl
member_first (member.Symbol z) ms (truth b) = refl
member_first (member.Symbol z) ms (number k) = refl
member_first (member.Symbol z) ms (symbol y) = refl

pub member_more : (ms : List Member) (v : Value) (i : ℕ) (d : Member) → i < length ms →
    is_member (drop i ms) v ≡ (same_value (value_of_member (get_or ms i d)) v || is_member (drop (i + 1) ms) v)
member_more ms v i d h = ap (λ ns. is_member ns v) (drop_more ms i d h) ∙ member_first (get_or ms i d) (drop (i + 1) ms) v

-- an element that passes, or a later one
pub any_more : {A : Type 0} (p : A → Bool) (xs : List A) (i : ℕ) (d : A) → i < length xs → list_any p (drop i xs) ≡ (p (get_or xs i d) || list_any p (drop (i + 1) xs))
any_more p xs i d h = ap (list_any p) (drop_more xs i d h)

-- a test of two texts
pub same_text_test : (b : Bool) (x y : Text) → (IsTrue b ↔ (x ≡ y)) → b ≡ same_text x y
same_text_test b x y h = bool_same b (same_text x y) (λ e. subst (λ z. same_text x z ≡ true) (h.0 e) (same_text_refl x)) (λ e. h.1 (same_text_equal x y e))

-- a test of two numbers
pub same_int_test : (x y : ℤ) → int_eq x y ≡ same_int x y
same_int_test x y =
    bool_same (int_eq x y) (same_int x y) (λ e. subst (λ z. same_int x z ≡ true) ((Decides-int_eq x y).0 e) (same_value_refl (number x))) (λ e. subst (λ z. int_eq x z ≡ true) (same_int_equal x y e) ((Decides-int_eq x x).1 refl))
