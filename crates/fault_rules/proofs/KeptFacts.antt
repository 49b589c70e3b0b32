-- What it says of an item that it breaks no rule.
use Rattle.std.proofs.Common.{◌≡◌, ◌≢◌, inl, inr, ℕ, Bool, true, false, List, [], ◌∷◌, ◌++◌, Option, Some, None, map, refl, sym, ◌∙◌, ap, subst}
use Rattle.std.specs.Prelude.{if◌then◌else◌, ◌||◌, codes}
use Rattle.std.specs.List.{list_any}
use Rattle.std.proofs.lemmas.List.{append_assoc}
use Rattle.smv_language.specs.declared.program.Member.{Member}
use Rattle.smv_language.specs.declared.program.Member.TheVariants as member
use Rattle.smv_language.specs.Language.{Text, DeclaredTree, boolean, range, members, instance, DeclTree, DefineTree, SectionTree, var, ivar, frozen as frozen_section, define, constants, assign, init, invar, trans, ModuleTree, ProgramTree, IsType, same_text, is_among, Place, Role, state, input, frozen_role, Kind, a_formal, a_variable, an_instance, undeclared, find_module, kind_in, kind_in_decls, kind_in_defines, kind_in_sections, kind_after_formals, formal_from, kind_declared, kind_at, module_at, module_of_kind, IsInstance, Each, AtSome, in_domain, opposite}
use Rattle.smv_language.specs.Scope.{a_define}
use Rattle.fault_instructions.specs.Instructions.{EffectTree, ModeTree, SliceTree}
use Rattle.fault_instructions.specs.AddedNames.{ModeState, own_name, mode_variable, mode_symbol}
use Rattle.fault_instructions.specs.AllowedEffects.{constant_fault, is_of_kind, demand_fault}
use Rattle.fault_instructions.specs.Types.{IsKnown, Meets}
use Rattle.fault_instructions.specs.declared.fault.EffectFault.{EffectFault}
use Rattle.fault_instructions.specs.KindTypes.{type_of_kind}
use Rattle.fault_instructions.specs.Weavable.{Among, IsFreeMember, SymbolsAreFree, IsAllowed, IsReadableEffect}
use Rattle.fault_instructions.proofs.OwnNames.{own_not_mode}
use Rattle.fault_rules.specs.Sites.{OwnedSlice, a_slice, a_mode}
use Rattle.fault_rules.specs.declared.fault.InstructionRule.{InstructionRule}
use Rattle.fault_rules.specs.declared.fault.InstructionRule.TheVariants.{NoSuchVariable, NotAStateVariable, DoubleSlice, DoubleMode, VariableTaken, NameTaken}
use Rattle.fault_rules.specs.Rules.{target_kind, is_not_declared, is_state_variable, is_slice_name, is_mode_name, is_affected_already, is_program_name, state_names, states_before, owns_before, is_taken, is_known, is_local_member, hides_symbol, slice_adds_taken, mode_adds_taken, effect_rules, first_of, broken_at}
use Rattle.fault_rules.proofs.ProgramNames.{among_not}
use Rattle.fault_rules.proofs.KeptItems.{among_left, among_right, among_map, IsKeptSlice, ModeAfter, mode_at}
use Rattle.std.proofs.lemmas.Bool.{or_parts as or_false}
use Rattle.smv_language.proofs.ProgramLaws.{found_named}
use Rattle.fault_instructions.specs.EffectForms.{Demand, no_demand, one_of_its, truth_values, two_values, a_range}
use Rattle.fault_instructions.specs.Effects.{row, fault_of}

first_none : (b : Bool) (r : InstructionRule) (rs : List (Bool × InstructionRule)) → first_of ((b, r) ∷ rs) ≡ None → (b ≡ false) × (first_of rs ≡ None)
first_none true r rs h = cc
first_none false r rs h = (refl, h)

effect_none : (f : Option EffectFault) (rs : List (Bool × InstructionRule)) → first_of (effect_rules f ++ rs) ≡ None → (f ≡ None) × (first_of rs ≡ None)
effect_none None rs h = (refl, h)
effect_none (Some fault) rs h = cc

-- of five rules none is broken
five_kept : (a b c d e : Bool) →
    first_of ((a, NoSuchVariable) ∷ (b, NotAStateVariable) ∷ (c, DoubleSlice) ∷ (d, VariableTaken) ∷ (e, NameTaken) ∷ []) ≡ None → (b ≡ false) × ((c ≡ false) × ((d ≡ false) × (e ≡ false)))
five_kept a b c d e h =
    let after_a = first_none a NoSuchVariable ((b, NotAStateVariable) ∷ (c, DoubleSlice) ∷ (d, VariableTaken) ∷ (e, NameTaken) ∷ []) h in
    let after_b = first_none b NotAStateVariable ((c, DoubleSlice) ∷ (d, VariableTaken) ∷ (e, NameTaken) ∷ []) after_a.1 in
    let after_c = first_none c DoubleSlice ((d, VariableTaken) ∷ (e, NameTaken) ∷ []) after_b.1 in
    let after_d = first_none d VariableTaken ((e, NameTaken) ∷ []) after_c.1 in
    let after_e = first_none e NameTaken [] after_d.1 in
    (after_b.0, (after_c.0, (after_d.0, after_e.0)))

-- a slice's item
pub record SliceKept (p : ProgramTree) (before : List OwnedSlice) (o : OwnedSlice) : Type 0 where
  pub is_state : opposite (is_state_variable (target_kind p o)) ≡ false
  pub name : is_slice_name before o.slice.name ≡ false
  pub target : is_affected_already before o ≡ false
  pub own : is_taken p (states_before before) [] (own_name o.slice.target) ≡ false
  pub switch : is_taken p (states_before before) (owns_before (before ++ o ∷ [])) (mode_variable o.slice.name) ≡ false
  pub nominal : is_taken p (states_before before) (owns_before (before ++ o ∷ [])) (mode_symbol o.slice.name None) ≡ false
  pub symbols : hides_symbol (find_module p o.owner) (type_of_kind (target_kind p o)) ≡ false

pub slice_facts : (p : ProgramTree) (before : List OwnedSlice) (o : OwnedSlice) → broken_at p (a_slice before o) ≡ None → SliceKept p before o
slice_facts p before o h =
    let rules = five_kept (is_not_declared (target_kind p o)) (opposite (is_state_variable (target_kind p o))) (is_slice_name before o.slice.name) (is_affected_already before o)
    (slice_adds_taken p before o || hides_symbol (find_module p o.owner) (type_of_kind (target_kind p o))) h in
    let names = or_false (slice_adds_taken p before o) (hides_symbol (find_module p o.owner) (type_of_kind (target_kind p o))) rules.1.1.1 in
    let added = or_false (is_taken p (states_before before) [] (own_name o.slice.target))
    (is_taken p (states_before before) (owns_before (before ++ o ∷ [])) (mode_variable o.slice.name) || is_taken p (states_before before) (owns_before (before ++ o ∷ [])) (mode_symbol o.slice.name None)) names.0 in
    let states = or_false (is_taken p (states_before before) (owns_before (before ++ o ∷ [])) (mode_variable o.slice.name))
    (is_taken p (states_before before) (owns_before (before ++ o ∷ [])) (mode_symbol o.slice.name None)) added.1 in
    record { is_state = rules.0; name = rules.1.0; target = rules.1.1.0; own = added.0; switch = states.0; nominal = states.1; symbols = names.1 }

-- a mode's item
pub record ModeKept (p : ProgramTree) (before : List OwnedSlice) (o : OwnedSlice) (earlier : List ModeTree) (m : ModeTree) : Type 0 where
  pub name : is_mode_name earlier m.name ≡ false
  pub effect : fault_of m.effect (type_of_kind (target_kind p o)) ≡ None
  pub symbol : mode_adds_taken p before o earlier m ≡ false

pub mode_facts : (p : ProgramTree) (before : List OwnedSlice) (o : OwnedSlice) (earlier : List ModeTree) (m : ModeTree) → broken_at p (a_mode before o earlier m) ≡ None →
    ModeKept p before o earlier m
mode_facts p before o earlier m h =
    let after_name = first_none (is_mode_name earlier m.name) DoubleMode (effect_rules (fault_of m.effect (type_of_kind (target_kind p o))) ++ (mode_adds_taken p before o earlier m, NameTaken) ∷ []) h in
    let after_effect = effect_none (fault_of m.effect (type_of_kind (target_kind p o))) ((mode_adds_taken p before o earlier m, NameTaken) ∷ []) after_name.1 in
    record { name = after_name.0; effect = after_effect.0; symbol = (first_none (mode_adds_taken p before o earlier m) NameTaken [] after_effect.1).0 }

-- a name that is not taken
pub record IsFree (p : ProgramTree) (states owns : List Text) (x : Text) : Type 0 where
  pub program : is_program_name p x ≡ false
  pub states_not : Among states x → ⊥
  pub owns_not : Among owns x → ⊥

pub free : (p : ProgramTree) (states owns : List Text) (x : Text) → is_taken p states owns x ≡ false → IsFree p states owns x
free p states owns x h =
    let first = or_false (is_program_name p x) (is_among states x || is_among owns x) h in
    let second = or_false (is_among states x) (is_among owns x) first.1 in
    record { program = first.0; states_not = among_not states x second.0; owns_not = among_not owns x second.1 }

-- the mode of a state
pub known_mode : (ms : List ModeTree) (name : Text) → AtSome (λ m. m.name ≡ name) ms → (m : ModeTree) × Among ms m × (m.name ≡ name)
known_mode [] name a = absurd a
known_mode (m ∷ ms) name (inl e) = (m, inl refl, e)
known_mode (m ∷ ms) name (inr a) = let found = known_mode ms name a in (found.0, inr found.1, found.2)

pub state_among : (s : SliceTree) (st : ModeState) → IsKnown s st → Among (state_names s.name s.modes) (mode_symbol s.name st)
state_among s None known = inr (inl refl)
state_among s (Some name) known =
    let found : (m : ModeTree) × Among s.modes m × (m.name ≡ name) = known_mode s.modes name known in
    inr (inr (subst (λ x. Among (map (λ m. mode_symbol s.name (Some m.name)) s.modes) (mode_symbol s.name (Some x))) found.2 (among_map (λ m. mode_symbol s.name (Some m.name)) s.modes found.0 found.1)))

-- the symbol of a state of a slice that breaks no rule
pub record SymbolKept (p : ProgramTree) (before : List OwnedSlice) (o : OwnedSlice) (st : ModeState) : Type 0 where
  pub program : is_program_name p (mode_symbol o.slice.name st) ≡ false
  pub states_not : Among (states_before before) (mode_symbol o.slice.name st) → ⊥
  pub owns_not : Among (owns_before (before ++ o ∷ [])) (mode_symbol o.slice.name st) → ⊥
  pub switch_not : mode_symbol o.slice.name st ≢ mode_variable o.slice.name

pub symbol_kept : (p : ProgramTree) (before : List OwnedSlice) (o : OwnedSlice) (st : ModeState) → IsKeptSlice p before o → IsKnown o.slice st → SymbolKept p before o st
symbol_kept p before o None kept known =
    let f : IsFree p (states_before before) (owns_before (before ++ o ∷ [])) (mode_symbol o.slice.name None) =
    free p (states_before before) (owns_before (before ++ o ∷ [])) (mode_symbol o.slice.name None) (slice_facts p before o kept.0).nominal in
    record { program = f.program; states_not = f.states_not; owns_not = f.owns_not; switch_not = own_not_mode o.slice.name o.slice.name }
symbol_kept p before o (Some name) kept known =
    let found : (m : ModeTree) × Among o.slice.modes m × (m.name ≡ name) = known_mode o.slice.modes name known in
    let at : ModeAfter p before o [] found.0 = mode_at p before o [] o.slice.modes found.0 kept.1 found.1 in
    let f : IsFree p (states_before before ++ state_names o.slice.name at.earlier) (owns_before (before ++ o ∷ [])) (mode_symbol o.slice.name (Some found.0.name)) =
    free p (states_before before ++ state_names o.slice.name at.earlier) (owns_before (before ++ o ∷ [])) (mode_symbol o.slice.name (Some found.0.name))
    (mode_facts p before o at.earlier found.0 at.kept).symbol in
    subst (λ x. SymbolKept p before o (Some x)) found.2 (record {
      program = f.program;
      states_not = λ a. f.states_not (among_left (states_before before) (state_names o.slice.name at.earlier) (mode_symbol o.slice.name (Some found.0.name)) a);
      owns_not = f.owns_not;
      switch_not = λ e. f.states_not (among_right (states_before before) (state_names o.slice.name at.earlier) (mode_symbol o.slice.name (Some found.0.name)) (inl (sym e)));
    })

-- a mode of a slice that breaks no rule is not called nominal
pub not_nominal : (p : ProgramTree) (before : List OwnedSlice) (o : OwnedSlice) (earlier : List ModeTree) (m : ModeTree) → ModeKept p before o earlier m → m.name ≢ codes "nominal"
not_nominal p before o earlier m kept e =
    let f : IsFree p (states_before before ++ state_names o.slice.name earlier) (owns_before (before ++ o ∷ [])) (mode_symbol o.slice.name (Some m.name)) =
    free p (states_before before ++ state_names o.slice.name earlier) (owns_before (before ++ o ∷ [])) (mode_symbol o.slice.name (Some m.name)) kept.symbol in
    let same : mode_symbol o.slice.name None ≡ mode_symbol o.slice.name (Some m.name) = sym (append_assoc o.slice.name (codes "#") (codes "nominal")) ∙ ap (λ x. mode_symbol o.slice.name (Some x)) (sym e) in
    f.states_not (among_right (states_before before) (state_names o.slice.name earlier) (mode_symbol o.slice.name (Some m.name)) (inr (inl same)))

-- a variable of a VAR section
pub state_type : (k : Kind) → opposite (is_state_variable k) ≡ false → (type : DeclaredTree) × (k ≡ a_variable state type)
state_type (a_variable state type) h = (type, refl)
state_type (a_variable input type) h = cc
state_type (a_variable frozen_role type) h = cc
state_type (a_define e) h = cc
state_type (an_instance m actuals) h = cc
state_type (a_formal i) h = cc
state_type undeclared h = cc

-- the type of a variable has finitely many values
finite_declared : (role role' : Role) (what type : DeclaredTree) → kind_declared role what ≡ a_variable role' type → IsType type
finite_declared role role' boolean type e = subst IsType (ap type_of_kind e) tt
finite_declared role role' (range lo hi) type e = subst IsType (ap type_of_kind e) tt
finite_declared role role' (members ms) type e = subst IsType (ap type_of_kind e) tt
finite_declared role role' (instance m actuals) type e = cc

module _ (x : Text) (role' : Role) (type : DeclaredTree) where
  finite_decls : (role : Role) (ds : List DeclTree) (otherwise : Kind) → kind_in_decls role ds x otherwise ≡ a_variable role' type → (otherwise ≡ a_variable role' type → IsType type) → IsType type
  finite_decls role [] otherwise e more = more e
  finite_decls role (d ∷ ds) otherwise e more = go (same_text d.name x) e (λ q. finite_decls role ds otherwise q more)
    where
      go : (b : Bool) → (if b then kind_declared role d.what else kind_in_decls role ds x otherwise) ≡ a_variable role' type → (kind_in_decls role ds x otherwise ≡ a_variable role' type → IsType type) → IsType type
      go true e more = finite_declared role role' d.what type e
      go false e more = more e

  finite_defines : (ds : List DefineTree) (otherwise : Kind) → kind_in_defines ds x otherwise ≡ a_variable role' type → (otherwise ≡ a_variable role' type → IsType type) → IsType type
  finite_defines [] otherwise e more = more e
  finite_defines (d ∷ ds) otherwise e more = go (same_text d.name x) e (λ q. finite_defines ds otherwise q more)
    where
      go : (b : Bool) → (if b then a_define d.value else kind_in_defines ds x otherwise) ≡ a_variable role' type → (kind_in_defines ds x otherwise ≡ a_variable role' type → IsType type) → IsType type
      go true e more = cc
      go false e more = more e

  finite_sections : (ss : List SectionTree) → kind_in_sections ss x ≡ a_variable role' type → IsType type
  finite_sections [] e = cc
  finite_sections (var ds ∷ ss) e = finite_decls state ds (kind_in_sections ss x) e (finite_sections ss)
  finite_sections (ivar ds ∷ ss) e = finite_decls input ds (kind_in_sections ss x) e (finite_sections ss)
  finite_sections (frozen_section ds ∷ ss) e = finite_decls frozen_role ds (kind_in_sections ss x) e (finite_sections ss)
  finite_sections (define ds ∷ ss) e = finite_defines ds (kind_in_sections ss x) e (finite_sections ss)
  finite_sections (constants xs ∷ ss) e = finite_sections ss e
  finite_sections (assign xs ∷ ss) e = finite_sections ss e
  finite_sections (init t ∷ ss) e = finite_sections ss e
  finite_sections (invar t ∷ ss) e = finite_sections ss e
  finite_sections (trans t ∷ ss) e = finite_sections ss e

  pub finite_type : (m : ModuleTree) → kind_in m x ≡ a_variable role' type → IsType type
  finite_type m e = go (formal_from 0 m.formals x) e
    where
      go : (o : Option ℕ) → kind_after_formals o (kind_in_sections m.sections x) ≡ a_variable role' type → IsType type
      go None e = finite_sections m.sections e
      go (Some n) e = cc

-- no symbol of the type is a name of the module
unknown : (k : Kind) → is_known k ≡ false → k ≡ undeclared
unknown undeclared h = refl
unknown (a_formal i) h = cc
unknown (a_variable role type) h = cc
unknown (a_define e) h = cc
unknown (an_instance n actuals) h = cc

free_member : (m : ModuleTree) (c : Member) → is_local_member (Some m) c ≡ false → IsFreeMember m c
free_member m (member.Number n) h = tt
free_member m (member.Symbol x) h = unknown (kind_in m x) h

free_members : (m : ModuleTree) (cs : List Member) → list_any (is_local_member (Some m)) cs ≡ false → Each (IsFreeMember m) cs
free_members m [] h = tt
free_members m (c ∷ cs) h =
    let parts = or_false (is_local_member (Some m) c) (list_any (is_local_member (Some m)) cs) h in
    (free_member m c parts.0, free_members m cs parts.1)

pub free_symbols : (m : ModuleTree) (type : DeclaredTree) → hides_symbol (Some m) type ≡ false → SymbolsAreFree m type
free_symbols m boolean h = tt
free_symbols m (range lo hi) h = tt
free_symbols m (members ms) h = free_members m ms h
free_symbols m (instance n actuals) h = tt

-- an effect that is refused for nothing may stand at the variable
pub constant_within : (a b : Bool) → constant_fault a b ≡ None → b ≡ true
constant_within false b h = cc
constant_within true true h = refl
constant_within true false h = cc

-- a demand that is broken nowhere is met
demand_met : (d : Demand) (type : DeclaredTree) → demand_fault d type ≡ None → Meets d type
demand_met no_demand type h = tt
demand_met (one_of_its c) type h = constant_within (is_of_kind type c) (in_domain type c) h
demand_met two_values type h = tt
demand_met truth_values boolean h = tt
demand_met truth_values (range lo hi) h = cc
demand_met truth_values (members ms) h = cc
demand_met truth_values (instance n actuals) h = cc
demand_met (a_range passes) (range lo hi) h = tt
demand_met (a_range passes) boolean h = cc
demand_met (a_range passes) (members ms) h = cc
demand_met (a_range passes) (instance n actuals) h = cc

pub effect_allowed : (p : ProgramTree) (at : Place) (m : ModuleTree) (e : EffectTree) (type : DeclaredTree) → fault_of e type ≡ None → IsReadableEffect p at e → IsAllowed p at m e type
effect_allowed p at m e type h r = (demand_met (row e).demand type h, r)

named_found : (p : ProgramTree) (x : Text) (m : ModuleTree) → find_module p x ≡ Some m → find_module p m.name ≡ Some m
named_found p x m h = subst (λ y. find_module p y ≡ Some m) (sym (found_named p x m h)) h

pub instance_found : (p : ProgramTree) (at : Place) (m : ModuleTree) → IsInstance p at m → find_module p m.name ≡ Some m
instance_found p [] m h = named_found p (codes "main") m h
instance_found p (x ∷ at) m h = go (kind_at (module_at p at) x) h
  where
    go : (k : Kind) → module_of_kind p k ≡ Some m → find_module p m.name ≡ Some m
    go (an_instance n actuals) h = named_found p n m h
    go (a_formal i) h = cc
    go (a_variable role type) h = cc
    go (a_define e) h = cc
    go undeclared h = cc
