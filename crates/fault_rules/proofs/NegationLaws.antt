-- What the tests of negations say.
use Rattle.std.proofs.Common.{refl, ◌≡◌, ℕ, ◌+◌, ◌<◌, drop, length, get_or, ap, Bool, true, false, ◌&&◌, Option, Some, None, List, [], ◌∷◌, map, All, arith}
use Rattle.std.specs.Prelude.{ℤ, if◌then◌else◌}
use Rattle.std.specs.List.{list_all}
use Rattle.std.proofs.lemmas.List.{drop_more}
use Rattle.std.proofs.lemmas.List.Elements.{All-cons, All-nil, All-head, All-tail}
use Rattle.smv_language.specs.declared.program.Member.{Member}
use Rattle.smv_language.specs.declared.program.Member.TheVariants as member
use Rattle.smv_language.specs.declared.program.Module.{Module}
use Rattle.smv_language.specs.Language.{same_text, Text, DeclaredTree, boolean, range, members, instance, DeclTree, DefineTree, SectionTree, var, ivar, frozen as frozen_section, define, constants, assign, init, invar, trans, module_tree, Value, symbol, Role, state, input, frozen_role, Kind, kind_declared, kind_in_decls, kind_in_defines, kind_in_sections, kind_after_formals, formal_from}
use Rattle.smv_language.specs.Values.{truth, number}
use Rattle.smv_language.specs.Scope.{a_define}
use Rattle.fault_instructions.specs.declared.instructions.ModeRule.{ModeRule}
use Rattle.fault_instructions.specs.declared.instructions.Slice.{Slice}
use Rattle.fault_instructions.specs.declared.instructions.Extension.{Extension}
use Rattle.fault_instructions.specs.Instructions.{EffectTree, plain, of_constant, of_expression, of_number, of_numbers, effect_tree, mode_tree, slice_tree, extension_tree}
use Rattle.fault_instructions.specs.Numbers.{HasNegation, ValueHasNegation, MemberHasNegation, EffectHasNegations, TypeHasNegations}
use Rattle.fault_instructions.specs.KindTypes.{type_of_kind}
use Rattle.fault_instructions.specs.WeaveNumbers.{ModeHasNegations, SliceHasNegations, ExtensionHasNegations, ModuleHasNegations}
use Rattle.fault_rules.specs.Negations.{has_negation, member_negates, declared_negates, decl_negates, section_negates, module_negates, value_negates, effect_negates, mode_negates, slice_negates, extension_negates}
use Rattle.smv_language.proofs.BoolLaws.{left_true, right_true}

-- a test of each element, one element on
pub all_more : {A : Type 0} (test : A → Bool) (xs : List A) (i : ℕ) (d : A) → i < length xs → list_all test (drop i xs) ≡ (test (get_or xs i d) && list_all test (drop (i + 1) xs))
all_more test xs i d h = ap (list_all test) (drop_more xs i d h)

pub mapped_more : {A B : Type 0} (f : A → B) (test : B → Bool) (xs : List A) (i : ℕ) (d : A) → i < length xs →
    list_all test (map f (drop i xs)) ≡ (test (f (get_or xs i d)) && list_all test (map f (drop (i + 1) xs)))
mapped_more f test xs i d h = ap (λ ys. list_all test (map f ys)) (drop_more xs i d h)

number_has : (n : ℤ) → has_negation n ≡ true → HasNegation n
number_has n h = grind arith

-- a test of each, and what it says of one
each_has : {A B : Type 0} (f : A → B) (test : B → Bool) (P : A → Type 0) → ((a : A) → test (f a) ≡ true → P a) → (xs : List A) → list_all test (map f xs) ≡ true → All P xs
each_has f test P one [] h = All-nil P
each_has f test P one (x ∷ xs) h =
    All-cons P x xs (one x (left_true (test (f x)) (list_all test (map f xs)) h)) (each_has f test P one xs (right_true (test (f x)) (list_all test (map f xs)) h))

all_have : {A : Type 0} (test : A → Bool) (P : A → Type 0) → ((a : A) → test a ≡ true → P a) → (xs : List A) → list_all test xs ≡ true → All P xs
all_have test P one [] h = All-nil P
all_have test P one (x ∷ xs) h = All-cons P x xs (one x (left_true (test x) (list_all test xs) h)) (all_have test P one xs (right_true (test x) (list_all test xs) h))

member_has : (m : Member) → member_negates m ≡ true → MemberHasNegation m
member_has (member.Number n) h = number_has n h
member_has (member.Symbol x) h = tt

type_has : (d : DeclaredTree) → declared_negates d ≡ true → TypeHasNegations d
type_has boolean h = tt
type_has (range lo hi) h = (number_has lo (left_true (has_negation lo) (has_negation hi) h), number_has hi (right_true (has_negation lo) (has_negation hi) h))
type_has (members ms) h = all_have member_negates MemberHasNegation member_has ms h
type_has (instance m actuals) h = tt

declared_has : (role : Role) (d : DeclaredTree) → declared_negates d ≡ true → TypeHasNegations (type_of_kind (kind_declared role d))
declared_has role boolean h = tt
declared_has role (range lo hi) h = type_has (range lo hi) h
declared_has role (members ms) h = type_has (members ms) h
declared_has role (instance m actuals) h = tt

decls_have : (role : Role) (ds : List DeclTree) (x : Text) (otherwise : Kind) → list_all decl_negates ds ≡ true → TypeHasNegations (type_of_kind otherwise) →
    TypeHasNegations (type_of_kind (kind_in_decls role ds x otherwise))
decls_have role [] x otherwise h k = k
decls_have role (d ∷ ds) x otherwise h k =
    by_name (same_text d.name x) (declared_has role d.what (left_true (decl_negates d) (list_all decl_negates ds) h)) (decls_have role ds x otherwise (right_true (decl_negates d) (list_all decl_negates ds) h) k)
  where
    by_name : (b : Bool) → TypeHasNegations (type_of_kind (kind_declared role d.what)) → TypeHasNegations (type_of_kind (kind_in_decls role ds x otherwise)) →
        TypeHasNegations (type_of_kind (if b then kind_declared role d.what else kind_in_decls role ds x otherwise))
    by_name true one rest = one
    by_name false one rest = rest

defines_have : (ds : List DefineTree) (x : Text) (otherwise : Kind) → TypeHasNegations (type_of_kind otherwise) → TypeHasNegations (type_of_kind (kind_in_defines ds x otherwise))
defines_have [] x otherwise k = k
defines_have (d ∷ ds) x otherwise k = by_name (same_text d.name x) (defines_have ds x otherwise k)
  where
    by_name : (b : Bool) → TypeHasNegations (type_of_kind (kind_in_defines ds x otherwise)) →
        TypeHasNegations (type_of_kind (if b then a_define d.value else kind_in_defines ds x otherwise))
    by_name true rest = tt
    by_name false rest = rest

sections_have : (ss : List SectionTree) (x : Text) → list_all section_negates ss ≡ true → TypeHasNegations (type_of_kind (kind_in_sections ss x))
sections_have [] x h = tt
sections_have (var ds ∷ ss) x h =
    decls_have state ds x (kind_in_sections ss x) (left_true (list_all decl_negates ds) (list_all section_negates ss) h) (sections_have ss x (right_true (list_all decl_negates ds) (list_all section_negates ss) h))
sections_have (ivar ds ∷ ss) x h =
    decls_have input ds x (kind_in_sections ss x) (left_true (list_all decl_negates ds) (list_all section_negates ss) h) (sections_have ss x (right_true (list_all decl_negates ds) (list_all section_negates ss) h))
sections_have (frozen_section ds ∷ ss) x h =
    decls_have frozen_role ds x (kind_in_sections ss x) (left_true (list_all decl_negates ds) (list_all section_negates ss) h) (sections_have ss x (right_true (list_all decl_negates ds) (list_all section_negates ss) h))
sections_have (define ds ∷ ss) x h = defines_have ds x (kind_in_sections ss x) (sections_have ss x h)
sections_have (constants xs ∷ ss) x h = sections_have ss x h
sections_have (assign list ∷ ss) x h = sections_have ss x h
sections_have (init e ∷ ss) x h = sections_have ss x h
sections_have (invar e ∷ ss) x h = sections_have ss x h
sections_have (trans e ∷ ss) x h = sections_have ss x h

module_has : (m : Module) → module_negates (module_tree m) ≡ true → ModuleHasNegations m
module_has m h x = by_formal (formal_from 0 m.formals x) (sections_have (module_tree m).sections x h)
  where
    by_formal : (o : Option ℕ) → TypeHasNegations (type_of_kind (kind_in_sections (module_tree m).sections x)) →
        TypeHasNegations (type_of_kind (kind_after_formals o (kind_in_sections (module_tree m).sections x)))
    by_formal None k = k
    by_formal (Some i) k = tt

pub modules_have : (ms : List Module) → list_all module_negates (map module_tree ms) ≡ true → All ModuleHasNegations ms
modules_have ms h = each_has module_tree module_negates ModuleHasNegations module_has ms h

value_has : (c : Value) → value_negates c ≡ true → ValueHasNegation c
value_has (truth b) h = tt
value_has (number n) h = number_has n h
value_has (symbol x) h = tt

effect_has : (e : EffectTree) → effect_negates e ≡ true → EffectHasNegations e
effect_has (plain k) h = tt
effect_has (of_constant k c) h = value_has c h
effect_has (of_expression k e) h = tt
effect_has (of_number k n) h = number_has n h
effect_has (of_numbers k m n) h = (number_has m (left_true (has_negation m) (has_negation n) h), number_has n (right_true (has_negation m) (has_negation n) h))

mode_has : (m : ModeRule) → mode_negates (mode_tree m) ≡ true → ModeHasNegations m
mode_has m h = effect_has (effect_tree m.effect) h

slice_has : (s : Slice) → list_all mode_negates (map mode_tree s.modes) ≡ true → SliceHasNegations s
slice_has s h = each_has mode_tree mode_negates ModeHasNegations mode_has s.modes h

extension_has : (x : Extension) → list_all slice_negates (map slice_tree x.slices) ≡ true → ExtensionHasNegations x
extension_has x h = each_has slice_tree slice_negates SliceHasNegations slice_has x.slices h

pub extensions_have : (xs : List Extension) → list_all extension_negates (map extension_tree xs) ≡ true → All ExtensionHasNegations xs
extensions_have xs h = each_has extension_tree extension_negates ExtensionHasNegations extension_has xs h

-- and the other way round: what has a negation passes the test
has_number : (n : ℤ) → HasNegation n → has_negation n ≡ true
has_number n h = grind arith

both_hold : (a b : Bool) → a ≡ true → b ≡ true → (a && b) ≡ true
both_hold true b h k = k
both_hold false b h k = h

each_negates : {A B : Type 0} (f : A → B) (test : B → Bool) (P : A → Type 0) → ((a : A) → P a → test (f a) ≡ true) → (xs : List A) → All P xs → list_all test (map f xs) ≡ true
each_negates f test P one [] all = refl
each_negates f test P one (x ∷ xs) all =
    both_hold (test (f x)) (list_all test (map f xs)) (one x (All-head P x xs all)) (each_negates f test P one xs (All-tail P x xs all))

value_negates_if : (c : Value) → ValueHasNegation c → value_negates c ≡ true
value_negates_if (truth b) h = refl
value_negates_if (number n) h = has_number n h
value_negates_if (symbol x) h = refl

effect_negates_if : (e : EffectTree) → EffectHasNegations e → effect_negates e ≡ true
effect_negates_if (plain k) h = refl
effect_negates_if (of_constant k c) h = value_negates_if c h
effect_negates_if (of_expression k e) h = refl
effect_negates_if (of_number k n) h = has_number n h
effect_negates_if (of_numbers k m n) h = both_hold (has_negation m) (has_negation n) (has_number m h.0) (has_number n h.1)

mode_negates_if : (m : ModeRule) → ModeHasNegations m → mode_negates (mode_tree m) ≡ true
mode_negates_if m h = effect_negates_if (effect_tree m.effect) h

slice_negates_if : (s : Slice) → SliceHasNegations s → list_all mode_negates (map mode_tree s.modes) ≡ true
slice_negates_if s h = each_negates mode_tree mode_negates ModeHasNegations mode_negates_if s.modes h

extension_negates_if : (x : Extension) → ExtensionHasNegations x → list_all slice_negates (map slice_tree x.slices) ≡ true
extension_negates_if x h = each_negates slice_tree slice_negates SliceHasNegations slice_negates_if x.slices h

pub extensions_negate : (xs : List Extension) → All ExtensionHasNegations xs → list_all extension_negates (map extension_tree xs) ≡ true
extensions_negate xs h = each_negates extension_tree extension_negates ExtensionHasNegations extension_negates_if xs h
