-- What the templates of the effects and modes give, over leaves that give the slice's values.
use Rattle.std.proofs.Common.{◌≡◌, ◌≢◌, ◌⊎◌, inl, inr, ◌↔◌, ℕ, suc, arith, Bool, true, false, List, [], ◌∷◌, Some, None, refl, sym, ap, subst, eqb-true}
use Rattle.std.specs.Prelude.{nat_abs, ℤ, pos, negsuc, nat_eq, ◌-ℤ◌, IsTrue, if◌then◌else◌, codes, ◌||◌}
use Rattle.smv_language.specs.declared.expr.Op.TheVariants as op
use Rattle.smv_language.specs.declared.program.Member.{Member}
use Rattle.smv_language.specs.declared.program.Member.TheVariants as member
use Rattle.smv_language.specs.Language.{binary, negate, Text, Path, DeclaredTree, boolean, range, members, instance, Value, symbol, Values, no_value, one, from_to, either, has, same_value, same_int, opposite, apply, same_text, Leaves, evaluate, evaluate_trees, Each, in_domain, is_member, value_of_member}
use Rattle.smv_language.specs.Tree.{number as is_number}
use Rattle.smv_language.specs.Values.{truth, number}
use Rattle.smv_language.proofs.ValueLaws.{same_text_refl, same_value_equal, same_value_refl}
use Rattle.fault_instructions.specs.AddedNames.{ModeState, mode_symbol}
use Rattle.fault_instructions.specs.Templates.{number_tree, value_tree, member_trees, domain_tree}
use Rattle.fault_instructions.specs.Types.{IsUniform, IsNumberMember, IsSymbolMember}
use Rattle.fault_instructions.proofs.AddedNameLaws.{mode_symbol_same, nominal_symbol_same}
use Rattle.smv_language.proofs.OneTree.{same_text_equal}
use Rattle.smv_language.proofs.BoolLaws.{or_cases}
use Rattle.base_values.proofs.BoolLaws.{bool_same}
use Rattle.base_values.specs.declared.limits.TheConstants.{GREATEST_NUMBER}
use Rattle.fault_instructions.specs.EffectLaw.{stands_at}

pub one_has : (a x : Value) → IsTrue (has (one a) x) ↔ (x ≡ a)
one_has a x = ((λ h. sym (same_value_equal a x h)), (λ e. subst (λ y. same_value a y ≡ true) (sym e) (same_value_refl a)))

pub same_state : (s : Text) (st : ModeState) (m : Text) → m ≢ codes "nominal" → same_text (mode_symbol s st) (mode_symbol s (Some m)) ≡ stands_at st m
same_state s None m h = bool_same _ _ (λ e. absurd (h (nominal_symbol_same s m (same_text_equal _ _ e)))) (λ e. cc)
same_state s (Some n) m h =
    bool_same _ _ (λ e. subst (λ k. same_text n k ≡ true) (mode_symbol_same s n m (same_text_equal _ _ e)) (same_text_refl n))
    (λ e. subst (λ k. same_text (mode_symbol s (Some n)) (mode_symbol s (Some k)) ≡ true) (same_text_equal _ _ e) (same_text_refl (mode_symbol s (Some n))))

-- a number's tree gives it
negative_number : (n : ℕ) → pos 0 -ℤ pos (suc n) ≡ negsuc n
negative_number n = grind arith

pub number_value : (now next : Leaves Path) (z : ℤ) → evaluate now next (number_tree z) ≡ Some (one (number z))
number_value now next (pos n) = refl
number_value now next (negsuc n) = go (nat_eq n (nat_abs GREATEST_NUMBER)) refl
  where
    go : (b : Bool) → nat_eq n (nat_abs GREATEST_NUMBER) ≡ b →
        evaluate now next (if b then binary op.Minus (negate (is_number GREATEST_NUMBER)) (is_number (pos 1)) else negate (is_number (pos (suc n)))) ≡ Some (one (number (negsuc n)))
    go true e = ap (λ k. Some (one (number (negsuc k)))) (sym (eqb-true n (nat_abs GREATEST_NUMBER) e))
    go false e = ap (λ z. Some (one (number z))) (negative_number n)

-- the values of a domain
abbrev pub members_values : List Member → Values
members_values [] = no_value
members_values (m ∷ ms) = either (one (value_of_member m)) (members_values ms)

abbrev pub domain_values : DeclaredTree → Values
domain_values boolean = either (one (truth false)) (either (one (truth true)) no_value)
domain_values (range lo hi) = from_to lo hi
domain_values (members ms) = members_values ms
domain_values (instance m actuals) = no_value

members_have : (ms : List Member) (x : Value) → has (members_values ms) x ≡ is_member ms x
members_have [] x = refl
members_have (member.Number n ∷ ms) (truth b) = members_have ms (truth b)
members_have (member.Number n ∷ ms) (number k) = ap (λ b. same_int n k || b) (members_have ms (number k))
members_have (member.Number n ∷ ms) (symbol y) = members_have ms (symbol y)
members_have (member.Symbol z ∷ ms) (truth b) = members_have ms (truth b)
members_have (member.Symbol z ∷ ms) (number k) = members_have ms (number k)
members_have (member.Symbol z ∷ ms) (symbol y) = ap (λ b. same_text z y || b) (members_have ms (symbol y))

pub domain_has : (type : DeclaredTree) (x : Value) → has (domain_values type) x ≡ in_domain type x
domain_has boolean (truth true) = refl
domain_has boolean (truth false) = refl
domain_has boolean (number n) = refl
domain_has boolean (symbol y) = refl
domain_has (range lo hi) x = refl
domain_has (members ms) x = members_have ms x
domain_has (instance m actuals) x = refl

abbrev pub MemberLeaves : Leaves Path → List Member → Type 0
MemberLeaves now ms = Each (λ d. (x : Text) → d ≡ member.Symbol x → now (x ∷ []) ≡ Some (one (symbol x))) ms

members_give : (now next : Leaves Path) (ms : List Member) → MemberLeaves now ms → evaluate_trees now next (member_trees ms) ≡ Some (members_values ms)
members_give now next [] h = refl
members_give now next (member.Number n ∷ ms) h = rw (number_value now next n, members_give now next ms h.1) refl
members_give now next (member.Symbol x ∷ ms) h = rw (h.0 x refl, members_give now next ms h.1) refl

pub domain_value : (now next : Leaves Path) (type : DeclaredTree) → ((ms : List Member) → type ≡ members ms → MemberLeaves now ms) → evaluate now next (domain_tree type) ≡ Some (domain_values type)
domain_value now next boolean h = refl
domain_value now next (range lo hi) h = refl
domain_value now next (members ms) h = members_give now next ms (h ms refl)
domain_value now next (instance m actuals) h = refl

member_leaf : (now : Leaves Path) (ms : List Member) (y : Text) → is_member ms (symbol y) ≡ true → MemberLeaves now ms → now (y ∷ []) ≡ Some (one (symbol y))
member_leaf now [] y h l = cc
member_leaf now (member.Number n ∷ ms) y h l = member_leaf now ms y h l.1
member_leaf now (member.Symbol z ∷ ms) y h l = go (or_cases _ _ h) (λ m. member_leaf now ms y m l.1)
  where
    go : (same_text z y ≡ true) ⊎ (is_member ms (symbol y) ≡ true) → (is_member ms (symbol y) ≡ true → now (y ∷ []) ≡ Some (one (symbol y))) → now (y ∷ []) ≡ Some (one (symbol y))
    go (inl e) more = l.0 y (ap member.Symbol (same_text_equal z y e))
    go (inr m) more = more m

-- a value of the domain, as a constant
pub constant_gives : (now next : Leaves Path) (type : DeclaredTree) (c : Value) → IsTrue (in_domain type c) → ((ms : List Member) → type ≡ members ms → MemberLeaves now ms) →
    evaluate now next (value_tree c) ≡ Some (one c)
constant_gives now next type (truth b) h l = refl
constant_gives now next type (number n) h l = number_value now next n
constant_gives now next boolean (symbol y) h l = cc
constant_gives now next (range lo hi) (symbol y) h l = cc
constant_gives now next (members ms) (symbol y) h l = member_leaf now ms y h (l ms refl)
constant_gives now next (instance m actuals) (symbol y) h l = cc

-- values of one uniform domain are of one class, so that they can be compared
numbers_only : (ms : List Member) (x : Value) → Each IsNumberMember ms → is_member ms x ≡ true → (n : ℤ) × (x ≡ number n)
numbers_only [] x u h = cc
numbers_only (member.Number n ∷ ms) (truth b) u h = numbers_only ms (truth b) u.1 h
numbers_only (member.Number n ∷ ms) (number k) u h = (k, refl)
numbers_only (member.Number n ∷ ms) (symbol y) u h = numbers_only ms (symbol y) u.1 h
numbers_only (member.Symbol z ∷ ms) x u h = absurd u.0

symbols_only : (ms : List Member) (x : Value) → Each IsSymbolMember ms → is_member ms x ≡ true → (y : Text) × (x ≡ symbol y)
symbols_only [] x u h = cc
symbols_only (member.Symbol z ∷ ms) (truth b) u h = symbols_only ms (truth b) u.1 h
symbols_only (member.Symbol z ∷ ms) (number k) u h = symbols_only ms (number k) u.1 h
symbols_only (member.Symbol z ∷ ms) (symbol y) u h = (y, refl)
symbols_only (member.Number n ∷ ms) x u h = absurd u.0

abbrev pub Compares : Value → Value → Type 0
Compares a b = (apply op.Equal a b ≡ Some (truth (same_value a b))) × (apply op.Differs a b ≡ Some (truth (opposite (same_value a b))))

pub compared : (type : DeclaredTree) (a b : Value) → IsUniform type → IsTrue (in_domain type a) → IsTrue (in_domain type b) → Compares a b
compared boolean (truth a) (truth b) u h k = (refl, refl)
compared boolean (truth a) (number b) u h k = cc
compared boolean (truth a) (symbol b) u h k = cc
compared boolean (number a) b u h k = cc
compared boolean (symbol a) b u h k = cc
compared (range lo hi) (number a) (number b) u h k = (refl, refl)
compared (range lo hi) (number a) (truth b) u h k = cc
compared (range lo hi) (number a) (symbol b) u h k = cc
compared (range lo hi) (truth a) b u h k = cc
compared (range lo hi) (symbol a) b u h k = cc
compared (members ms) a b (inl u) h k =
    let x : (n : ℤ) × (a ≡ number n) = numbers_only ms a u h in let y : (n : ℤ) × (b ≡ number n) = numbers_only ms b u k in rw (x.1, y.1) (refl, refl)
compared (members ms) a b (inr u) h k =
    let x : (n : Text) × (a ≡ symbol n) = symbols_only ms a u h in let y : (n : Text) × (b ≡ symbol n) = symbols_only ms b u k in rw (x.1, y.1) (refl, refl)
compared (instance m actuals) a b u h k = cc
