-- A domain has the values of its type.
use Rattle.std.proofs.Common.{◌≡◌, ◌↔◌, ◌⊎◌, ⊎_elim, ℕ, zero, suc, Bool, true, false, ◌||◌, List, [], ◌∷◌, ◌++◌, Some, option_map, IsTrue, Contains, refl, sym, ap, ◌∙◌, subst, ℤ}
use Rattle.std.specs.Prelude.{flat_map, map, slice_get}
use Rattle.std.proofs.lemmas.Option.{slice_get-map, same_Some}
use Rattle.smv_language.specs.declared.program.Member.{Member}
use Rattle.smv_language.specs.declared.program.Member.TheVariants as member
use Rattle.smv_language.specs.Language.{Text, DeclaredTree, boolean, range, members, instance, declared_tree, same_text, in_domain, is_member, Value, symbol, same_int, is_between, at_most, variable_tree, model_tree}
use Rattle.smv_language.specs.Values.{truth, number}
use Rattle.smv_language.proofs.ValueLaws.{same_text_refl, same_int_equal, at_most_from, no_truth, not_less}
use Rattle.base_values.specs.declared.domain.Domain.TheVariants as domain
use Rattle.base_values.specs.declared.value.Value.{Value as AValue}
use Rattle.base_values.specs.declared.value.Value.TheVariants as value
use Rattle.base_values.specs.Domains.{Has}
use Rattle.smv_type_laws.specs.ExpressionKinds.{number_class, symbol_class, mixed_enum, double_member, rule_if, unless_class, unlike_first, wide}
use Rattle.smv_type_laws.specs.Costs.{symbol_number}
use Rattle.smv_type_laws.proofs.Parts.{none_first, none_second}
use Rattle.smv_type_laws.specs.DeclaredKinds.{member_kind, has_double, judged_declared}
use Rattle.smv_types.specs.Types.{numbers_in, symbols_in, members_domain, domain_of, StandsFor, HasValuesOf, variable_domain, AreValuesOf}
use Rattle.smv_type_laws.specs.Models.{breaches_at, variable_breaches, IsTyped}
use Rattle.base_values.specs.declared.domain.Domain.{Domain}
use Rattle.smv_language.specs.declared.model.FlatModel.{FlatModel}
use Rattle.smv_language.specs.declared.model.Variable.{Variable}
use Rattle.smv_lexer.proofs.SignLemmas.{both_true}
use Rattle.smv_language.proofs.OneTree.{same_text_equal}
use Rattle.std.proofs.lemmas.Bool.{or_left, or_right as or_true}
use Rattle.smv_type_laws.proofs.Typed.{none_at as no_rules}
use Rattle.smv_type_laws.proofs.LeastLaws.{same_int_self as int_itself}
use Rattle.smv_language.proofs.ListLaws.{contains_later, contains_cases}
use Rattle.base_values.proofs.ListLaws.{none_contained, contains_here}

-- Numbers among members.
number_there : (ms : List Member) (n : ℤ) → Contains (numbers_in ms) n → is_member ms (number n) ≡ true
number_there [] n c = absurd (none_contained n c)
number_there (member.Number k ∷ ms) n c =
    ⊎_elim (λ (e : k ≡ n). or_left (same_int k n) (is_member ms (number n)) (subst (λ x. same_int k x ≡ true) e (int_itself k))) (λ d. or_true (same_int k n) (is_member ms (number n)) (number_there ms n d)) (contains_cases n k (numbers_in ms) c)
number_there (member.Symbol x ∷ ms) n c = number_there ms n c

number_found : (ms : List Member) (n : ℤ) → is_member ms (number n) ≡ true → Contains (numbers_in ms) n
number_found [] n e = cc
number_found (member.Number k ∷ ms) n e = by (same_int k n) refl e (λ f. number_found ms n f)
  where
    by : (b : Bool) → same_int k n ≡ b → (b || is_member ms (number n)) ≡ true → (is_member ms (number n) ≡ true → Contains (numbers_in ms) n) → Contains (k ∷ numbers_in ms) n
    by true f g more = subst (Contains (k ∷ numbers_in ms)) (same_int_equal k n f) (contains_here k (numbers_in ms))
    by false f g more = contains_later n k (numbers_in ms) (more g)
number_found (member.Symbol x ∷ ms) n e = number_found ms n e

-- Symbols among members.
named : (symbols : List Text) (y x : Text) → slice_get symbols (symbol_number symbols y) ≡ Some x → y ≡ x
named [] y x e = cc
named (t ∷ symbols) y x e = by (same_text t y) refl e (λ f. named symbols y x f)
  where
    by : (b : Bool) → same_text t y ≡ b → slice_get (t ∷ symbols) (elim b [ true ↦ 0 | false ↦ suc (symbol_number symbols y) ]) ≡ Some x → (slice_get symbols (symbol_number symbols y) ≡ Some x → y ≡ x) → y ≡ x
    by true f g more = let same : t ≡ x = cc in sym (same_text_equal t y f) ∙ same
    by false f g more = more g

symbol_there : (symbols : List Text) (ms : List Member) (i : ℕ) (x : Text) → slice_get symbols i ≡ Some x → Contains (symbols_in symbols ms) i → is_member ms (symbol x) ≡ true
symbol_there symbols [] i x at c = absurd (none_contained i c)
symbol_there symbols (member.Number n ∷ ms) i x at c = symbol_there symbols ms i x at c
symbol_there symbols (member.Symbol y ∷ ms) i x at c =
    ⊎_elim
    (λ (e : symbol_number symbols y ≡ i). or_left (same_text y x) (is_member ms (symbol x)) (subst (λ z. same_text y z ≡ true) (named symbols y x (ap (slice_get symbols) e ∙ at)) (same_text_refl y)))
    (λ d. or_true (same_text y x) (is_member ms (symbol x)) (symbol_there symbols ms i x at d)) (contains_cases i (symbol_number symbols y) (symbols_in symbols ms) c)

symbol_found : (symbols : List Text) (ms : List Member) (i : ℕ) (x : Text) → symbol_number symbols x ≡ i → is_member ms (symbol x) ≡ true → Contains (symbols_in symbols ms) i
symbol_found symbols [] i x number_is e = cc
symbol_found symbols (member.Number n ∷ ms) i x number_is e = symbol_found symbols ms i x number_is e
symbol_found symbols (member.Symbol y ∷ ms) i x number_is e = by (same_text y x) refl e (λ f. symbol_found symbols ms i x number_is f)
  where
    by : (b : Bool) → same_text y x ≡ b → (b || is_member ms (symbol x)) ≡ true → (is_member ms (symbol x) ≡ true → Contains (symbols_in symbols ms) i) → Contains (symbol_number symbols y ∷ symbols_in symbols ms) i
    by true f g more = subst (Contains (symbol_number symbols y ∷ symbols_in symbols ms)) (ap (symbol_number symbols) (same_text_equal y x f) ∙ number_is) (contains_here (symbol_number symbols y) (symbols_in symbols ms))
    by false f g more = contains_later i (symbol_number symbols y) (symbols_in symbols ms) (more g)

-- Members of one class.
no_symbol : (ms : List Member) (x : Text) → flat_map (unless_class number_class mixed_enum) (map member_kind ms) ≡ [] → is_member ms (symbol x) ≡ false
no_symbol [] x e = refl
no_symbol (member.Number n ∷ ms) x e = no_symbol ms x e
no_symbol (member.Symbol y ∷ ms) x e = cc

no_number : (ms : List Member) (n : ℤ) → flat_map (unless_class symbol_class mixed_enum) (map member_kind ms) ≡ [] → is_member ms (number n) ≡ false
no_number [] n e = refl
no_number (member.Number k ∷ ms) n e = cc
no_number (member.Symbol x ∷ ms) n e = no_number ms n e

never : {P : Type 0} (b : Bool) → b ≡ false → (P → ⊥) → P ↔ IsTrue b
never b e none = ((λ p. absurd (none p)), λ t. let both : true ≡ false = sym t ∙ e in cc)

numbers_has : (symbols : List Text) (ms : List Member) → flat_map (unless_class number_class mixed_enum) (map member_kind ms) ≡ [] →
    (v : AValue) (w : Value) → StandsFor symbols v w → Has (domain.Numbers (numbers_in ms)) v ↔ IsTrue (is_member ms w)
numbers_has symbols ms e (value.Bool b) (truth c) s = never (is_member ms (truth c)) (no_truth ms c) (λ x. x)
numbers_has symbols ms e (value.Num n) (number k) s =
    subst (λ z. Has (domain.Numbers (numbers_in ms)) (value.Num n) ↔ IsTrue (is_member ms (number z))) s (number_there ms n, number_found ms n)
numbers_has symbols ms e (value.Sym i) (symbol x) s = never (is_member ms (symbol x)) (no_symbol ms x e) (λ x. x)
numbers_has symbols ms e (value.Bool b) (number k) s = absurd s
numbers_has symbols ms e (value.Bool b) (symbol x) s = absurd s
numbers_has symbols ms e (value.Num n) (truth c) s = absurd s
numbers_has symbols ms e (value.Num n) (symbol x) s = absurd s
numbers_has symbols ms e (value.Sym i) (truth c) s = absurd s
numbers_has symbols ms e (value.Sym i) (number k) s = absurd s

symbols_has : (symbols : List Text) (ms : List Member) → flat_map (unless_class symbol_class mixed_enum) (map member_kind ms) ≡ [] →
    (v : AValue) (w : Value) → StandsFor symbols v w → Has (domain.Symbols (symbols_in symbols ms)) v ↔ IsTrue (is_member ms w)
symbols_has symbols ms e (value.Bool b) (truth c) s = never (is_member ms (truth c)) (no_truth ms c) (λ x. x)
symbols_has symbols ms e (value.Num n) (number k) s = never (is_member ms (number k)) (no_number ms k e) (λ x. x)
symbols_has symbols ms e (value.Sym i) (symbol x) s = (symbol_there symbols ms i x s.0, symbol_found symbols ms i x s.1)
symbols_has symbols ms e (value.Bool b) (number k) s = absurd s
symbols_has symbols ms e (value.Bool b) (symbol x) s = absurd s
symbols_has symbols ms e (value.Num n) (truth c) s = absurd s
symbols_has symbols ms e (value.Num n) (symbol x) s = absurd s
symbols_has symbols ms e (value.Sym i) (truth c) s = absurd s
symbols_has symbols ms e (value.Sym i) (number k) s = absurd s

unlike_none : (ms : List Member) → (judged_declared (members ms)).broken ≡ [] → unlike_first mixed_enum (map member_kind ms) ≡ []
unlike_none ms e =
    none_first (unlike_first mixed_enum (map member_kind ms)) _ (none_first (unlike_first mixed_enum (map member_kind ms) ++ (rule_if (has_double ms) double_member ++ flat_map (λ k. wide k.interval) (map member_kind ms))) [] e)

members_has : (symbols : List Text) (ms : List Member) → (judged_declared (members ms)).broken ≡ [] →
    (v : AValue) (w : Value) → StandsFor symbols v w → Has (members_domain symbols ms) v ↔ IsTrue (is_member ms w)
members_has symbols [] e v w s = symbols_has symbols [] refl v w s
members_has symbols (member.Number n ∷ ms) e v w s = numbers_has symbols (member.Number n ∷ ms) (unlike_none (member.Number n ∷ ms) e) v w s
members_has symbols (member.Symbol x ∷ ms) e v w s = symbols_has symbols (member.Symbol x ∷ ms) (unlike_none (member.Symbol x ∷ ms) e) v w s

range_has : (symbols : List Text) (lo hi : ℤ) (v : AValue) (w : Value) → StandsFor symbols v w → Has (domain.Range lo hi) v ↔ IsTrue (is_between lo hi w)
range_has symbols lo hi (value.Num n) (number k) s =
    subst (λ z. Has (domain.Range lo hi) (value.Num n) ↔ IsTrue (is_between lo hi (number z))) s (
      (λ h. let a : at_most lo n ≡ true = at_most_from lo n h.0 in let b : at_most n hi ≡ true = at_most_from n hi h.1 in rw (a, b) refl),
      λ t. let e = both_true (at_most lo n) (at_most n hi) t in (not_less lo n e.0, not_less n hi e.1),
    )
range_has symbols lo hi (value.Bool b) (truth c) s = never false refl (λ x. x)
range_has symbols lo hi (value.Sym i) (symbol x) s = never false refl (λ x. x)
range_has symbols lo hi (value.Bool b) (number k) s = absurd s
range_has symbols lo hi (value.Bool b) (symbol x) s = absurd s
range_has symbols lo hi (value.Num n) (truth c) s = absurd s
range_has symbols lo hi (value.Num n) (symbol x) s = absurd s
range_has symbols lo hi (value.Sym i) (truth c) s = absurd s
range_has symbols lo hi (value.Sym i) (number k) s = absurd s

boolean_has : (symbols : List Text) (v : AValue) (w : Value) → StandsFor symbols v w → Has domain.Boolean v ↔ IsTrue (in_domain boolean w)
boolean_has symbols (value.Bool b) (truth c) s = ((λ _. refl), λ _. tt)
boolean_has symbols (value.Num n) (number k) s = never false refl (λ x. x)
boolean_has symbols (value.Sym i) (symbol x) s = never false refl (λ x. x)
boolean_has symbols (value.Bool b) (number k) s = absurd s
boolean_has symbols (value.Bool b) (symbol x) s = absurd s
boolean_has symbols (value.Num n) (truth c) s = absurd s
boolean_has symbols (value.Num n) (symbol x) s = absurd s
boolean_has symbols (value.Sym i) (truth c) s = absurd s
boolean_has symbols (value.Sym i) (number k) s = absurd s

-- the domain of a type whose declaration breaks no rule has its values
has_values : (symbols : List Text) (d : DeclaredTree) → (judged_declared d).broken ≡ [] → HasValuesOf symbols d (domain_of symbols d)
has_values symbols boolean e is v w s = boolean_has symbols v w s
has_values symbols (range lo hi) e is v w s = range_has symbols lo hi v w s
has_values symbols (members ms) e is v w s = members_has symbols ms e v w s
has_values symbols (instance m actuals) e is v w s = absurd is

variable_right : (vs : List Variable) (i : ℕ) (x : Variable) → slice_get vs i ≡ Some x → variable_breaches (map variable_tree vs) ≡ [] → (judged_declared (declared_tree x.declared)).broken ≡ []
variable_right [] i x at e = cc
variable_right (v ∷ vs) zero x at e =
    let same : v ≡ x = cc in
    subst (λ (y : Variable). (judged_declared (declared_tree y.declared)).broken ≡ []) same
    (no_rules v.«instance» v.item (judged_declared (declared_tree v.declared)).broken (none_first (breaches_at v.«instance» v.item (judged_declared (declared_tree v.declared)).broken) (variable_breaches (map variable_tree vs)) e))
variable_right (v ∷ vs) (suc i) x at e = variable_right vs i x at (none_second (breaches_at v.«instance» v.item (judged_declared (declared_tree v.declared)).broken) (variable_breaches (map variable_tree vs)) e)

-- the domain of a variable of a typed model has the values of its type
pub typed_values : (m : FlatModel) → IsTyped (model_tree m) → (i : ℕ) (d : Domain) → slice_get (map (variable_domain m.symbols) m.variables) i ≡ Some d → AreValuesOf m i d
typed_values m typed i d at x is =
    let told : slice_get (map (variable_domain m.symbols) m.variables) i ≡ Some (variable_domain m.symbols x) = slice_get-map (variable_domain m.symbols) m.variables i ∙ ap (option_map (variable_domain m.symbols)) is in
    let same : variable_domain m.symbols x ≡ d = same_Some _ _ (sym told ∙ at) in
    let right = variable_right m.variables i x is (none_first (variable_breaches (model_tree m).variables) _ typed.kept) in
    subst (HasValuesOf m.symbols (declared_tree x.declared)) same (has_values m.symbols (declared_tree x.declared) right)
