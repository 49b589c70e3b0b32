-- The rules that are tried at each item, and which of them an item breaks.
use Rattle.std.specs.Prelude.{Bool, true, false, ◌||◌, ◌&&◌, List, [], ◌∷◌, ◌++◌, Option, Some, None, map, flat_map, if◌then◌else◌}
use Rattle.std.specs.List.{list_any}
use Rattle.smv_language.specs.declared.program.Member.{Member}
use Rattle.smv_language.specs.declared.program.Member.TheVariants as member
use Rattle.smv_language.specs.Language.{Text, DeclaredTree, boolean, range, members, instance, DeclTree, DefineTree, SectionTree, var, ivar}
use Rattle.smv_language.specs.Language.{frozen, define, constants, assign, init, invar, trans, ModuleTree, ProgramTree, same_text, is_among}
use Rattle.smv_language.specs.Language.{state, input, frozen_role, Kind, a_formal, a_variable, an_instance, undeclared, find_module}
use Rattle.smv_language.specs.Language.{is_missing, kind_at, is_symbol_of_type, opposite}
use Rattle.smv_language.specs.Scope.{a_define}
use Rattle.fault_instructions.specs.Instructions.{ModeTree}
use Rattle.fault_instructions.specs.AddedNames.{own_name, mode_variable, mode_symbol}
use Rattle.fault_instructions.specs.Effects.{fault_of}
use Rattle.fault_instructions.specs.declared.fault.EffectFault.{EffectFault}
use Rattle.fault_instructions.specs.KindTypes.{type_of_kind}
use Rattle.fault_rules.specs.Sites.{OwnedSlice, Site, an_extension, a_slice, a_mode}
use Rattle.fault_rules.specs.declared.fault.InstructionRule.{InstructionRule}
use Rattle.fault_rules.specs.declared.fault.InstructionRule.TheVariants.{NoSuchModule, NoSuchVariable, NotAStateVariable, DoubleSlice}
use Rattle.fault_rules.specs.declared.fault.InstructionRule.TheVariants.{DoubleMode, VariableTaken, Effect, NameTaken}

-- what the target of a slice is in the slice's module
abbrev pub target_kind : ProgramTree → OwnedSlice → Kind
target_kind p o = kind_at (find_module p o.owner) o.slice.target

-- no declared name; a formal is none
abbrev pub is_not_declared : Kind → Bool
is_not_declared undeclared = true
is_not_declared (a_formal i) = true
is_not_declared (a_variable role type) = false
is_not_declared (a_define e) = false
is_not_declared (an_instance m actuals) = false

-- a variable of a VAR section
abbrev pub is_state_variable : Kind → Bool
is_state_variable (a_variable state type) = true
is_state_variable (a_variable input type) = false
is_state_variable (a_variable frozen_role type) = false
is_state_variable (a_define e) = false
is_state_variable (an_instance m actuals) = false
is_state_variable (a_formal i) = false
is_state_variable undeclared = false

-- an earlier slice has the name
abbrev pub is_slice_name : List OwnedSlice → Text → Bool
is_slice_name before x = list_any (λ o. same_text o.slice.name x) before

-- an earlier mode of the slice has the name
abbrev pub is_mode_name : List ModeTree → Text → Bool
is_mode_name earlier x = list_any (λ m. same_text m.name x) earlier

-- the same variable of the same module
abbrev pub is_affected_already : List OwnedSlice → OwnedSlice → Bool
is_affected_already before o = list_any (λ b. same_text b.owner o.owner && same_text b.slice.target o.slice.target) before

-- The names of the program: of modules, formals, what is declared, and symbols.
abbrev pub is_name_of_decls : List DeclTree → Text → Bool
is_name_of_decls ds x = list_any (λ d. same_text d.name x || is_symbol_of_type d.what x) ds

-- a definition has the name
abbrev pub is_name_of_defines : List DefineTree → Text → Bool
is_name_of_defines ds x = list_any (λ d. same_text d.name x) ds

-- the section declares or lists the name
abbrev pub is_name_of_section : Text → SectionTree → Bool
is_name_of_section x (var ds) = is_name_of_decls ds x
is_name_of_section x (ivar ds) = is_name_of_decls ds x
is_name_of_section x (frozen ds) = is_name_of_decls ds x
is_name_of_section x (define ds) = is_name_of_defines ds x
is_name_of_section x (constants xs) = is_among xs x
is_name_of_section x (assign list) = false
is_name_of_section x (init e) = false
is_name_of_section x (invar e) = false
is_name_of_section x (trans e) = false

-- the module has the name, or one in it has
abbrev pub is_name_of_module : Text → ModuleTree → Bool
is_name_of_module x m = same_text m.name x || (is_among m.formals x || list_any (is_name_of_section x) m.sections)

-- some module has the name, or one in it has
abbrev pub is_program_name : ProgramTree → Text → Bool
is_program_name p x = list_any (is_name_of_module x) p

-- The names that items add. Those of own values stand apart: two own values may have one name, in two modules.
abbrev pub state_names : Text → List ModeTree → List Text
state_names s modes = mode_variable s ∷ mode_symbol s None ∷ map (λ m. mode_symbol s (Some m.name)) modes

-- the names that earlier slices add for their states
abbrev pub states_before : List OwnedSlice → List Text
states_before before = flat_map (λ o. state_names o.slice.name o.slice.modes) before

-- the names of own values that earlier slices add
abbrev pub owns_before : List OwnedSlice → List Text
owns_before before = map (λ o. own_name o.slice.target) before

-- a name is taken: by the program, by a state of an earlier item, or by an own value
abbrev pub is_taken : ProgramTree → List Text → List Text → Text → Bool
is_taken p states owns x = is_program_name p x || (is_among states x || is_among owns x)

-- a formal, or declared
abbrev pub is_known : Kind → Bool
is_known undeclared = false
is_known (a_formal i) = true
is_known (a_variable role type) = true
is_known (a_define e) = true
is_known (an_instance n actuals) = true

-- the text is a name of the module
abbrev pub is_local : Option ModuleTree → Text → Bool
is_local m x = is_known (kind_at m x)

-- the member is a symbol that is a name of the module
abbrev pub is_local_member : Option ModuleTree → Member → Bool
is_local_member m (member.Number n) = false
is_local_member m (member.Symbol x) = is_local m x

-- a symbol of the type is a name of the module
abbrev pub hides_symbol : Option ModuleTree → DeclaredTree → Bool
hides_symbol m boolean = false
hides_symbol m (range lo hi) = false
hides_symbol m (members ms) = list_any (is_local_member m) ms
hides_symbol m (instance n actuals) = false

-- the slice's item adds the names of its own value, of its state and of nominal
abbrev pub slice_adds_taken : ProgramTree → List OwnedSlice → OwnedSlice → Bool
slice_adds_taken p before o =
    is_taken p (states_before before) [] (own_name o.slice.target)
    || (is_taken p (states_before before) (owns_before (before ++ o ∷ [])) (mode_variable o.slice.name)
    || is_taken p (states_before before) (owns_before (before ++ o ∷ [])) (mode_symbol o.slice.name None))

-- the mode's item adds its symbol, after the names of its slice and of the modes before it
abbrev pub mode_adds_taken : ProgramTree → List OwnedSlice → OwnedSlice → List ModeTree → ModeTree → Bool
mode_adds_taken p before o earlier m =
    is_taken p (states_before before
    ++ state_names o.slice.name earlier) (owns_before (before ++ o ∷ [])) (mode_symbol o.slice.name (Some m.name))

-- whether a rule is broken, and the rule
abbrev pub effect_rules : Option EffectFault → List (Bool × InstructionRule)
effect_rules None = []
effect_rules (Some fault) = (true, Effect fault) ∷ []

-- the rules at an item, in their order
abbrev pub rules_at : ProgramTree → Site → List (Bool × InstructionRule)
rules_at p (an_extension owner) = (is_missing (find_module p owner), NoSuchModule) ∷ []
rules_at p (a_slice before o) =
    (is_not_declared (target_kind p o), NoSuchVariable) ∷ (opposite (is_state_variable (target_kind p o)), NotAStateVariable)
    ∷ (is_slice_name before o.slice.name, DoubleSlice)
    ∷ (is_affected_already before o, VariableTaken)
    ∷ (slice_adds_taken p before o || hides_symbol (find_module p o.owner) (type_of_kind (target_kind p o)), NameTaken)
    ∷ []
rules_at p (a_mode before o earlier m) =
    (is_mode_name earlier m.name, DoubleMode)
    ∷ (effect_rules (fault_of m.effect (type_of_kind (target_kind p o))) ++ (mode_adds_taken p before o earlier m, NameTaken) ∷ [])

-- the first rule of a list that is broken
abbrev pub first_of : List (Bool × InstructionRule) → Option InstructionRule
first_of [] = None
first_of (r ∷ rs) = if r.0 then Some r.1 else first_of rs

-- the first rule that an item breaks
abbrev pub broken_at : ProgramTree → Site → Option InstructionRule
broken_at p site = first_of (rules_at p site)
