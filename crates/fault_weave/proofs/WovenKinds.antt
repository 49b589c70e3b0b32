-- What names are in a woven module.
use Rattle.std.proofs.Common.{◌≡◌, ◌⊎◌, inl, inr, ℕ, Bool, true, false, List, [], ◌∷◌, ◌++◌, Option, Some, None, refl, sym, ◌∙◌, ap, subst}
use Rattle.std.specs.Prelude.{map, flat_map, option_map, if◌then◌else◌}
use Rattle.smv_language.specs.Language.{Text, DeclaredTree, boolean, range, members, instance, DeclTree, DefineTree, SectionTree, var, ivar, frozen, define, constants, assign, init, invar, trans, ModuleTree, ProgramTree, IsType, same_text, Role, state, Kind, a_formal, a_variable, an_instance, undeclared, find_module, formal_from, kind_declared, kind_in_decls, kind_in_defines, kind_in_sections, kind_after_formals, kind_in, module_of_kind, actual_of_kind}
use Rattle.smv_language.specs.Scope.{a_define}
use Rattle.fault_instructions.specs.declared.instructions.Start.{Start}
use Rattle.fault_instructions.specs.declared.instructions.Start.TheVariants.{Nominal, Any}
use Rattle.fault_instructions.specs.Instructions.{EffectTree, ModeTree, SliceTree, InstructionTree, is_affected}
use Rattle.fault_instructions.specs.AddedNames.{own_name, mode_variable}
use Rattle.fault_weave.specs.WovenProgram.{mode_type, start_rules, mode_rules, slice_sections, woven_section, added_sections, woven_module, woven}
use Rattle.fault_instructions.specs.KindTypes.{type_of_kind}
use Rattle.fault_instructions.specs.Templates.{rules, rule_trees, first_trees}
use Rattle.fault_instructions.specs.Weavable.{Among}
use Rattle.smv_language.proofs.OneTree.{same_text_equal}
use Rattle.fault_instructions.specs.declared.effects.EffectRule.{EffectRule}
use Rattle.fault_instructions.specs.declared.effects.EffectRule.TheVariants.{NotOwn, AsBefore, AsEntered, Falling}
use Rattle.fault_instructions.specs.Effects.{rule_of}

abbrev pub kind_or : Kind → Kind → Kind
kind_or undeclared k = k
kind_or (a_formal i) k = a_formal i
kind_or (a_variable role what) k = a_variable role what
kind_or (a_define e) k = a_define e
kind_or (an_instance m actuals) k = an_instance m actuals

kind_declared_or : (role : Role) (what : DeclaredTree) (k : Kind) → kind_declared role what ≡ kind_or (kind_declared role what) k
kind_declared_or role boolean k = refl
kind_declared_or role (range lo hi) k = refl
kind_declared_or role (members ms) k = refl
kind_declared_or role (instance m actuals) k = refl

decls_or : (role : Role) (ds : List DeclTree) (x : Text) (a b : Kind) → kind_in_decls role ds x (kind_or a b) ≡ kind_or (kind_in_decls role ds x a) b
decls_or role [] x a b = refl
decls_or role (d ∷ ds) x a b = go (same_text d.name x) (decls_or role ds x a b)
  where
    go : (t : Bool) → kind_in_decls role ds x (kind_or a b) ≡ kind_or (kind_in_decls role ds x a) b →
        (if t then kind_declared role d.what else kind_in_decls role ds x (kind_or a b)) ≡ kind_or (if t then kind_declared role d.what else kind_in_decls role ds x a) b
    go true h = kind_declared_or role d.what b
    go false h = h

defines_or : (ds : List DefineTree) (x : Text) (a b : Kind) → kind_in_defines ds x (kind_or a b) ≡ kind_or (kind_in_defines ds x a) b
defines_or [] x a b = refl
defines_or (d ∷ ds) x a b = go (same_text d.name x) (defines_or ds x a b)
  where
    go : (t : Bool) → kind_in_defines ds x (kind_or a b) ≡ kind_or (kind_in_defines ds x a) b →
        (if t then a_define d.value else kind_in_defines ds x (kind_or a b)) ≡ kind_or (if t then a_define d.value else kind_in_defines ds x a) b
    go true h = refl
    go false h = h

pub sections_or : (affected : Text → Bool) (ss ts : List SectionTree) (x : Text) →
    kind_in_sections (map (woven_section affected) ss ++ ts) x ≡ kind_or (kind_in_sections ss x) (kind_in_sections ts x)
sections_or affected [] ts x = refl
sections_or affected (var ds ∷ ss) ts x = ap (kind_in_decls _ ds x) (sections_or affected ss ts x) ∙ decls_or _ ds x (kind_in_sections ss x) (kind_in_sections ts x)
sections_or affected (ivar ds ∷ ss) ts x = ap (kind_in_decls _ ds x) (sections_or affected ss ts x) ∙ decls_or _ ds x (kind_in_sections ss x) (kind_in_sections ts x)
sections_or affected (frozen ds ∷ ss) ts x = ap (kind_in_decls _ ds x) (sections_or affected ss ts x) ∙ decls_or _ ds x (kind_in_sections ss x) (kind_in_sections ts x)
sections_or affected (define ds ∷ ss) ts x = ap (kind_in_defines ds x) (sections_or affected ss ts x) ∙ defines_or ds x (kind_in_sections ss x) (kind_in_sections ts x)
sections_or affected (constants xs ∷ ss) ts x = sections_or affected ss ts x
sections_or affected (assign xs ∷ ss) ts x = sections_or affected ss ts x
sections_or affected (init e ∷ ss) ts x = sections_or affected ss ts x
sections_or affected (invar e ∷ ss) ts x = sections_or affected ss ts x
sections_or affected (trans e ∷ ss) ts x = sections_or affected ss ts x

formals_or : (o : Option ℕ) (a b : Kind) → kind_after_formals o (kind_or a b) ≡ kind_or (kind_after_formals o a) b
formals_or None a b = refl
formals_or (Some i) a b = refl

pub kind_woven : (i : InstructionTree) (m : ModuleTree) (x : Text) →
    kind_in (woven_module i m) x ≡ kind_or (kind_in m x) (kind_in_sections (added_sections i m) x)
kind_woven i m x =
    ap (kind_after_formals (formal_from 0 m.formals x)) (sections_or (is_affected i m.name) m.sections (added_sections i m) x)
    ∙ formals_or (formal_from 0 m.formals x) (kind_in_sections m.sections x) (kind_in_sections (added_sections i m) x)

-- rule sections declare nothing
rule_kind : (r : Option EffectRule) (slice mode target : Text) (ts : List SectionTree) (x : Text) → kind_in_sections (rule_trees r slice mode target ++ ts) x ≡ kind_in_sections ts x
rule_kind None slice mode target ts x = refl
rule_kind (Some NotOwn) slice mode target ts x = refl
rule_kind (Some AsBefore) slice mode target ts x = refl
rule_kind (Some AsEntered) slice mode target ts x = refl
rule_kind (Some (Falling d f)) slice mode target ts x = refl

first_kind : (r : Option EffectRule) (slice mode target : Text) (ts : List SectionTree) (x : Text) → kind_in_sections (first_trees r slice mode target ++ ts) x ≡ kind_in_sections ts x
first_kind None slice mode target ts x = refl
first_kind (Some NotOwn) slice mode target ts x = refl
first_kind (Some AsBefore) slice mode target ts x = refl
first_kind (Some AsEntered) slice mode target ts x = refl
first_kind (Some (Falling d f)) slice mode target ts x = refl

start_kind : (start : Start) (e : EffectTree) (slice mode target : Text) (ts : List SectionTree) (x : Text) → kind_in_sections (start_rules start e slice mode target ++ ts) x ≡ kind_in_sections ts x
start_kind Nominal e slice mode target ts x = refl
start_kind Any e slice mode target ts x = first_kind (rule_of e) slice mode target ts x

append_append : (xs ys zs : List SectionTree) → (xs ++ ys) ++ zs ≡ xs ++ (ys ++ zs)
append_append [] ys zs = refl
append_append (x ∷ xs) ys zs = ap (λ l. x ∷ l) (append_append xs ys zs)

mode_kind : (start : Start) (e : EffectTree) (slice mode target : Text) (ts : List SectionTree) (x : Text) → kind_in_sections (mode_rules start e slice mode target ++ ts) x ≡ kind_in_sections ts x
mode_kind start e slice mode target ts x =
    ap (λ l. kind_in_sections l x) (append_append (rules e slice mode target) (start_rules start e slice mode target) ts)
    ∙ rule_kind (rule_of e) slice mode target (start_rules start e slice mode target ++ ts) x
    ∙ start_kind start e slice mode target ts x

rules_kind : (start : Start) (slice target : Text) (modes : List ModeTree) (ts : List SectionTree) (x : Text) →
    kind_in_sections (flat_map (λ m. mode_rules start m.effect slice m.name target) modes ++ ts) x ≡ kind_in_sections ts x
rules_kind start slice target [] ts x = refl
rules_kind start slice target (m ∷ ms) ts x =
    ap (λ l. kind_in_sections l x) (append_append (mode_rules start m.effect slice m.name target) (flat_map (λ m. mode_rules start m.effect slice m.name target) ms) ts)
    ∙ mode_kind start m.effect slice m.name target (flat_map (λ m. mode_rules start m.effect slice m.name target) ms ++ ts) x
    ∙ rules_kind start slice target ms ts x

-- what the sections of a slice say of a name
pub slice_kind : (m : ModuleTree) (s : SliceTree) (ts : List SectionTree) (x : Text) →
    kind_in_sections (slice_sections m s ++ ts) x
    ≡ (if same_text (own_name s.target) x then kind_declared state (type_of_kind (kind_in m s.target))
    else (if same_text (mode_variable s.name) x then a_variable state (mode_type s) else kind_in_sections ts x))
slice_kind m s ts x =
    ap (λ k. if same_text (own_name s.target) x then kind_declared state (type_of_kind (kind_in m s.target))
    else (if same_text (mode_variable s.name) x then a_variable state (mode_type s) else k)) (rules_kind s.start s.name s.target s.modes ts x)

-- the name is added by the slice, or by no slice of the list
abbrev pub IsAddedBy : SliceTree → Text → Type 0
IsAddedBy s x = (own_name s.target ≡ x) ⊎ (mode_variable s.name ≡ x)

abbrev pub Adds : List SliceTree → Text → Type 0
Adds ss x = (s : SliceTree) × Among ss s × IsAddedBy s x

pub added_or_not : (m : ModuleTree) (ss : List SliceTree) (x : Text) → (kind_in_sections (flat_map (slice_sections m) ss) x ≡ undeclared) ⊎ Adds ss x
added_or_not m [] x = inl refl
added_or_not m (s ∷ ss) x = go (same_text (own_name s.target) x) refl (same_text (mode_variable s.name) x) refl (added_or_not m ss x)
  where
    go : (a : Bool) → same_text (own_name s.target) x ≡ a → (b : Bool) → same_text (mode_variable s.name) x ≡ b →
        ((kind_in_sections (flat_map (slice_sections m) ss) x ≡ undeclared) ⊎ Adds ss x) →
        (kind_in_sections (flat_map (slice_sections m) (s ∷ ss)) x ≡ undeclared) ⊎ Adds (s ∷ ss) x
    go true ea b eb h = inr (s, inl refl, inl (same_text_equal _ _ ea))
    go false ea true eb h = inr (s, inl refl, inr (same_text_equal _ _ eb))
    go false ea false eb (inl e) = inl (slice_kind m s (flat_map (slice_sections m) ss) x ∙ rw (ea, eb) e)
    go false ea false eb (inr adds) = inr (adds.0, inr adds.1, adds.2)

pub find_woven : (q : ProgramTree) (i : InstructionTree) (x : Text) → find_module (woven q i) x ≡ option_map (woven_module i) (find_module q x)
find_woven [] i x = refl
find_woven (m ∷ q) i x = go (same_text m.name x) (find_woven q i x)
  where
    go : (t : Bool) → find_module (woven q i) x ≡ option_map (woven_module i) (find_module q x) →
        (if t then Some (woven_module i m) else find_module (woven q i) x) ≡ option_map (woven_module i) (if t then Some m else find_module q x)
    go true h = refl
    go false h = h

-- no instance, formal or define
abbrev pub IsPlain : Kind → Type 0
IsPlain undeclared = Unit {0}
IsPlain (a_variable role what) = Unit {0}
IsPlain (a_formal i) = ⊥
IsPlain (a_define e) = ⊥
IsPlain (an_instance m actuals) = ⊥

pub plain_no_module : (w : ProgramTree) (k : Kind) → IsPlain k → module_of_kind w k ≡ None
plain_no_module w undeclared h = refl
plain_no_module w (a_variable role what) h = refl
plain_no_module w (a_formal i) h = absurd h
plain_no_module w (a_define e) h = absurd h
plain_no_module w (an_instance m actuals) h = absurd h

pub plain_no_actual : (k : Kind) → IsPlain k → (j : ℕ) → actual_of_kind k j ≡ None
plain_no_actual undeclared h j = refl
plain_no_actual (a_variable role what) h j = refl
plain_no_actual (a_formal i) h j = absurd h
plain_no_actual (a_define e) h j = absurd h
plain_no_actual (an_instance m actuals) h j = absurd h

finite_plain : (type : DeclaredTree) → IsType type → IsPlain (kind_declared state type)
finite_plain boolean h = tt
finite_plain (range lo hi) h = tt
finite_plain (members ms) h = tt
finite_plain (instance m actuals) h = absurd h

pub added_plain : (m : ModuleTree) (ss : List SliceTree) (x : Text) →
    ((s : SliceTree) → Among ss s → IsType (type_of_kind (kind_in m s.target))) → IsPlain (kind_in_sections (flat_map (slice_sections m) ss) x)
added_plain m [] x h = tt
added_plain m (s ∷ ss) x h =
    subst IsPlain (sym (slice_kind m s (flat_map (slice_sections m) ss) x))
    (go (same_text (own_name s.target) x) (same_text (mode_variable s.name) x) (added_plain m ss x (λ s' a. h s' (inr a))))
  where
    go : (a b : Bool) → IsPlain (kind_in_sections (flat_map (slice_sections m) ss) x) →
        IsPlain (if a then kind_declared state (type_of_kind (kind_in m s.target))
        else (if b then a_variable state (mode_type s) else kind_in_sections (flat_map (slice_sections m) ss) x))
    go true b e = finite_plain _ (h s (inl refl))
    go false true e = tt
    go false false e = e
