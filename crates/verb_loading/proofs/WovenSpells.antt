-- The text of a woven program spells it.
use Rattle.std.proofs.Common.{◌≢◌, ◌+◌, ℕ, suc, ℤ, pos, negsuc, Bool, true, false, List, [], ◌∷◌, ◌++◌, Option, Some, None, map, flat_map, refl, arith}
use Rattle.std.specs.Prelude.{nat_abs, nat_eq, if◌then◌else◌}
use Rattle.base_values.specs.declared.limits.TheConstants.{GREATEST_NUMBER}
use Rattle.smv_language.specs.declared.expr.Op.TheVariants as op
use Rattle.smv_language.specs.declared.program.Member.{Member}
use Rattle.smv_language.specs.declared.program.Member.TheVariants as member
use Rattle.smv_language.specs.Language.{Trees, Branches, leaf, not_of, negate, next_of, binary, choice, case_of, set_of, span, no_tree, tree_then, no_branch, branch_then, trees_from, Text, Path, Formula, DeclaredTree, boolean, range, members, instance, DeclTree, DefineTree, AssignmentTree, SectionTree, var, ivar, frozen as frozen_section, define, constants, assign, init, invar, trans, ModuleTree, ProgramTree, Value, symbol, Role, state, input, frozen_role, Kind, a_formal, a_variable, an_instance, undeclared, formal_from, kind_declared, kind_in_decls, kind_in_defines, kind_in_sections, kind_after_formals, kind_in, same_text, Each, value_of_member, program_text, BytesSpellProgram, IsName, AreNames, IsSmall, IsEnd, IsWritable, AreWritable, AreWritableBranches, IsWritableMember, IsWritableType, IsWritableDeclared, IsWritableDecl, IsWritableTyped, IsWritableAssignment, IsWritableSection, IsWritableModule, IsWritableProgram, IsPlain}
use Rattle.smv_language.specs.Tree.{truth, number as is_number}
use Rattle.smv_language.specs.Values.{truth as a_truth, number}
use Rattle.smv_language.specs.Scope.{a_define}
use Rattle.smv_language.proofs.Spelled.{program_writable}
use Rattle.smv_language.proofs.ProgramSpells.{program_spells}
use Rattle.fault_instructions.specs.declared.instructions.Dynamics.{Dynamics}
use Rattle.fault_instructions.specs.declared.instructions.Dynamics.TheVariants.{Permanent, Transient}
use Rattle.fault_instructions.specs.declared.instructions.Start.{Start}
use Rattle.fault_instructions.specs.declared.instructions.Start.TheVariants.{Nominal, Any}
use Rattle.fault_instructions.specs.Instructions.{EffectTree, ModeTree, SliceTree, ExtensionTree, InstructionTree, slices_from, slices_of, is_affected}
use Rattle.fault_instructions.specs.SpellsInstructions.{BytesSpellInstructions}
use Rattle.fault_instructions.specs.AddedNames.{own_name, mode_variable, mode_symbol}
use Rattle.fault_instructions.specs.Templates.{named, number_tree, value_tree, member_trees, domain_tree, clipped_tree, branch, stands, stands_next, rules, branch_tree, rule_trees, first_trees}
use Rattle.fault_weave.specs.WovenProgram.{start_tree, start_rules, mode_rules, mode_branches, set_one, guard_formula, entries_from, entries, stay_branch, moves_tree, read_tree, slice_rules, slice_sections, tree_map_both, trees_map_both, branches_map_both, rename, same_path, woven_assignment, woven_section, added_sections, woven_module, woven}
use Rattle.fault_instructions.specs.KindTypes.{type_of_kind}
use Rattle.fault_instructions.proofs.AmongLaws.{each_append, each_map}
use Rattle.verb_loading.proofs.AddedNames.{own_is_name, mode_variable_is_name, nominal_is_name, symbol_is_name}
use Rattle.fault_instructions.specs.WritableInstructions.{IsWritableEffect, IsWritableGuard, IsWritableMode, IsWritableSlice, IsWritableExtension, IsWritableInstructions}
use Rattle.fault_instructions.proofs.SpelledInstructions.{instructions_writable}
use Rattle.sat_encoding_laws.proofs.SetLaws.{each_kept}
use Rattle.cut_text_laws.proofs.FlatNames.{type_declared}
use Rattle.fault_instructions.specs.declared.effects.EffectRule.{EffectRule}
use Rattle.fault_instructions.specs.declared.effects.EffectRule.TheVariants.{NotOwn, AsBefore, AsEntered, Falling}
use Rattle.fault_instructions.specs.EffectForms.{Branch, the_constant, the_formula, the_opposite, the_sum, any_value}
use Rattle.fault_instructions.specs.Effects.{branch_of, rule_of}
use Rattle.fault_instructions.proofs.EffectRows.{BranchHolds, NumbersHold, row_law}

-- a single name can be written
pub one_name : (x : Text) → IsName x → IsWritable (named x)
one_name x h = (λ e. cc, (h, tt))

only_one : (x : Text) → IsName x → IsWritable (set_one x)
only_one x h = (λ e. cc, (one_name x h, tt))

each_of_all : {A B : Type 0} (P : B → Type 0) (Q : A → Type 0) (f : A → List B) → ((a : A) → Q a → Each P (f a)) → (xs : List A) → Each Q xs → Each P (flat_map f xs)
each_of_all P Q f each [] h = tt
each_of_all P Q f each (x ∷ xs) h = (each_append P (f x) (flat_map f xs)).1 (each x h.0, each_of_all P Q f each xs h.1)

either : {A : Type 0} (P : A → Type 0) (b : Bool) (x y : A) → P x → P y → P (if b then x else y)
either P true x y h g = h
either P false x y h g = g

-- the types of variables
abbrev IsTyped : Kind → Type 0
IsTyped (a_variable role type) = IsWritableType type
IsTyped _ = Unit {0}

typed_type : (k : Kind) → IsTyped k → IsWritableType (type_of_kind k)
typed_type (a_variable role type) h = h
typed_type (a_formal i) h = tt
typed_type (a_define e) h = tt
typed_type (an_instance m actuals) h = tt
typed_type undeclared h = tt

declared_typed : (role : Role) (d : DeclaredTree) → IsWritableDeclared d → IsTyped (kind_declared role d)
declared_typed role boolean h = tt
declared_typed role (range lo hi) h = h
declared_typed role (members ms) h = h
declared_typed role (instance m actuals) h = tt

type_typed : (role : Role) (d : DeclaredTree) → IsWritableType d → IsTyped (kind_declared role d)
type_typed role boolean h = tt
type_typed role (range lo hi) h = h
type_typed role (members ms) h = h
type_typed role (instance m actuals) h = tt

decls_typed : (role : Role) (ds : List DeclTree) (x : Text) (k : Kind) → Each (λ d. IsTyped (kind_declared role d.what)) ds → IsTyped k → IsTyped (kind_in_decls role ds x k)
decls_typed role [] x k h g = g
decls_typed role (d ∷ ds) x k h g = either IsTyped (same_text d.name x) (kind_declared role d.what) (kind_in_decls role ds x k) h.0 (decls_typed role ds x k h.1 g)

defines_typed : (ds : List DefineTree) (x : Text) (k : Kind) → IsTyped k → IsTyped (kind_in_defines ds x k)
defines_typed [] x k g = g
defines_typed (d ∷ ds) x k g = either IsTyped (same_text d.name x) (a_define d.value) (kind_in_defines ds x k) tt (defines_typed ds x k g)

sections_typed : (ss : List SectionTree) (x : Text) → Each IsWritableSection ss → IsTyped (kind_in_sections ss x)
sections_typed [] x h = tt
sections_typed (var ds ∷ ss) x h =
    decls_typed state ds x (kind_in_sections ss x) (each_kept IsWritableDecl (λ d. IsTyped (kind_declared state d.what)) (λ d w. declared_typed state d.what w.1) ds h.0) (sections_typed ss x h.1)
sections_typed (ivar ds ∷ ss) x h =
    decls_typed input ds x (kind_in_sections ss x) (each_kept IsWritableTyped (λ d. IsTyped (kind_declared input d.what)) (λ d w. type_typed input d.what w.1) ds h.0) (sections_typed ss x h.1)
sections_typed (frozen_section ds ∷ ss) x h =
    decls_typed frozen_role ds x (kind_in_sections ss x) (each_kept IsWritableTyped (λ d. IsTyped (kind_declared frozen_role d.what)) (λ d w. type_typed frozen_role d.what w.1) ds h.0) (sections_typed ss x h.1)
sections_typed (define ds ∷ ss) x h = defines_typed ds x (kind_in_sections ss x) (sections_typed ss x h.1)
sections_typed (constants xs ∷ ss) x h = sections_typed ss x h.1
sections_typed (assign list ∷ ss) x h = sections_typed ss x h.1
sections_typed (init e ∷ ss) x h = sections_typed ss x h.1
sections_typed (invar e ∷ ss) x h = sections_typed ss x h.1
sections_typed (trans e ∷ ss) x h = sections_typed ss x h.1

after_formals_typed : (formal : Option ℕ) (k : Kind) → IsTyped k → IsTyped (kind_after_formals formal k)
after_formals_typed None k h = h
after_formals_typed (Some i) k h = tt

type_is_writable : (m : ModuleTree) (x : Text) → IsWritableModule m → IsWritableType (type_of_kind (kind_in m x))
type_is_writable m x h = typed_type (kind_in m x) (after_formals_typed (formal_from 0 m.formals x) (kind_in_sections m.sections x) (sections_typed m.sections x h.2))

-- the templates
number_by : (b : Bool) (n : ℕ) → IsSmall (n + 1) →
    IsWritable (if b then binary op.Minus (negate (is_number GREATEST_NUMBER)) (is_number (pos 1)) else negate (is_number (pos (suc n))))
number_by true n h = (omega arith, omega arith)
number_by false n h = omega (arith, h)

number_writable : (n : ℤ) → IsEnd n → IsWritable (number_tree n)
number_writable (pos n) h = h
number_writable (negsuc n) h = number_by (nat_eq n (nat_abs GREATEST_NUMBER)) n h

value_writable : (c : Value) → IsPlain c → IsWritable (value_tree c)
value_writable (a_truth b) h = tt
value_writable (number n) h = number_writable n h
value_writable (symbol x) h = one_name x h

member_writable : (m : Member) → IsWritableMember m → IsWritable (value_tree (value_of_member m))
member_writable (member.Number n) h = number_writable n h
member_writable (member.Symbol x) h = one_name x h

members_writable : (ms : List Member) → Each IsWritableMember ms → AreWritable (member_trees ms)
members_writable [] h = tt
members_writable (m ∷ ms) h = (member_writable m h.0, members_writable ms h.1)

members_some : (ms : List Member) → ms ≢ [] → member_trees ms ≢ no_tree
members_some [] some e = some refl
members_some (m ∷ ms) some e = cc

domain_writable : (t : DeclaredTree) → IsWritableType t → IsWritable (domain_tree t)
domain_writable boolean h = (λ e. cc, (tt, (tt, tt)))
domain_writable (range lo hi) h = h
domain_writable (members ms) h = (members_some ms h.0, members_writable ms h.1)
domain_writable (instance m actuals) h = absurd h

clipped_writable : (t : DeclaredTree) (e : Formula) → IsWritableType t → IsWritable e → IsWritable (clipped_tree t e)
clipped_writable boolean e h w = w
clipped_writable (range lo hi) e h w =
    let low = number_writable lo h.0 in
    let high = number_writable hi h.1 in
    ((w, high), high, ((w, low), low, w))
clipped_writable (members ms) e h w = w
clipped_writable (instance m actuals) e h w = w

branch_writable : (b : Branch) (t : DeclaredTree) (x : Text) → BranchHolds IsPlain IsWritable IsEnd b → IsWritableType t → IsName x → IsWritable (branch_tree b t x)
branch_writable (the_constant c) t x h w named_x = value_writable c h
branch_writable (the_formula e) t x h w named_x = h
branch_writable the_opposite t x h w named_x = one_name (own_name x) (own_is_name x named_x.1)
branch_writable (the_sum d) t x h w named_x =
    clipped_writable t (binary op.Plus (named (own_name x)) (number_tree d)) w (one_name (own_name x) (own_is_name x named_x.1), number_writable d h)
branch_writable any_value t x h w named_x = domain_writable t w

module _ (slice : Text) (named_slice : IsName slice) where
  states : IsWritable (named (mode_variable slice))
  states = one_name (mode_variable slice) (mode_variable_is_name slice named_slice.1)

  nominal : IsName (mode_symbol slice None)
  nominal = nominal_is_name slice named_slice.1

  symbol_named : (mode : Text) → IsName mode → IsName (mode_symbol slice (Some mode))
  symbol_named mode h = symbol_is_name slice mode named_slice.1 h.1

  standing : (mode : Text) → IsName mode → IsWritable (stands slice mode)
  standing mode h = (states, one_name (mode_symbol slice (Some mode)) (symbol_named mode h))

  standing_next : (mode : Text) → IsName mode → IsWritable (stands_next slice mode)
  standing_next mode h = (states, one_name (mode_symbol slice (Some mode)) (symbol_named mode h))

  rules_writable : (r : Option EffectRule) (mode x : Text) → NumbersHold IsEnd r → IsName mode → IsName x → Each IsWritableSection (rule_trees r slice mode x)
  rules_writable None mode x h g w = tt
  rules_writable (Some NotOwn) mode x h g w = ((standing mode g, (one_name x w, one_name (own_name x) (own_is_name x w.1))), tt)
  rules_writable (Some AsBefore) mode x h g w = ((standing_next mode g, (one_name x w, one_name x w)), tt)
  rules_writable (Some AsEntered) mode x h g w = (((standing mode g, standing_next mode g), (one_name x w, one_name x w)), tt)
  rules_writable (Some (Falling d f)) mode x h g w =
      let less : IsWritable (binary op.Minus (named x) (number_tree d)) = (one_name x w, number_writable d h.0) in
      let floor = number_writable f h.1 in
      ((standing_next mode g, (one_name x w, ((less, floor), less, floor))), tt)

  first_rules_writable : (r : Option EffectRule) (mode x : Text) → NumbersHold IsEnd r → IsName mode → IsName x → Each IsWritableSection (first_trees r slice mode x)
  first_rules_writable None mode x h g w = tt
  first_rules_writable (Some NotOwn) mode x h g w = tt
  first_rules_writable (Some AsBefore) mode x h g w = ((standing mode g, (one_name x w, one_name (own_name x) (own_is_name x w.1))), tt)
  first_rules_writable (Some AsEntered) mode x h g w = tt
  first_rules_writable (Some (Falling d f)) mode x h g w =
      let less : IsWritable (binary op.Minus (named (own_name x)) (number_tree d)) = (one_name (own_name x) (own_is_name x w.1), number_writable d h.0) in
      let floor = number_writable f h.1 in
      ((standing mode g, (one_name x w, ((less, floor), less, floor))), tt)

  start_rules_writable : (start : Start) (f : EffectTree) (mode x : Text) → IsWritableEffect f → IsName mode → IsName x → Each IsWritableSection (start_rules start f slice mode x)
  start_rules_writable Nominal f mode x h g w = tt
  start_rules_writable Any f mode x h g w = first_rules_writable (rule_of f) mode x ((row_law f).holds _ _ _ h).1 g w

  mode_rules_writable : (start : Start) (f : EffectTree) (mode x : Text) → IsWritableEffect f → IsName mode → IsName x → Each IsWritableSection (mode_rules start f slice mode x)
  mode_rules_writable start f mode x h g w =
      (each_append IsWritableSection (rules f slice mode x) (start_rules start f slice mode x)).1 (rules_writable (rule_of f) mode x ((row_law f).holds _ _ _ h).1 g w, start_rules_writable start f mode x h g w)

  -- the states that a slice may start in
  state_trees_writable : (ms : List ModeTree) → Each IsWritableMode ms → AreWritable (trees_from (map (λ m. named (mode_symbol slice (Some m.name))) ms))
  state_trees_writable [] h = tt
  state_trees_writable (m ∷ ms) h = (one_name (mode_symbol slice (Some m.name)) (symbol_named m.name h.0.0), state_trees_writable ms h.1)

  start_writable : (start : Start) (ms : List ModeTree) → Each IsWritableMode ms → IsWritable (start_tree slice start ms)
  start_writable Nominal ms h = one_name (mode_symbol slice None) nominal
  start_writable Any ms h = (λ e. cc, (one_name (mode_symbol slice None) nominal, state_trees_writable ms h))

  mode_branches_writable : (f : ModeTree → Formula) (last : Formula) → ((m : ModeTree) → IsWritableMode m → IsWritable (f m)) → IsWritable last →
      (ms : List ModeTree) → Each IsWritableMode ms → AreWritableBranches (mode_branches slice f last ms)
  mode_branches_writable f last each w [] h = (tt, w, tt)
  mode_branches_writable f last each w (m ∷ ms) h = (standing m.name h.0.0, each m h.0, mode_branches_writable f last each w ms h.1)

  mode_branches_some : (f : ModeTree → Formula) (last : Formula) (ms : List ModeTree) → mode_branches slice f last ms ≢ no_branch
  mode_branches_some f last [] e = cc
  mode_branches_some f last (m ∷ ms) e = cc

  guard_writable : (g : Option Formula) → IsWritableGuard g → IsWritable (guard_formula g)
  guard_writable None h = tt
  guard_writable (Some g) h = h

  entries_from_writable : (so_far : Formula) (ms : List ModeTree) → IsWritable so_far → Each IsWritableMode ms → IsWritable (entries_from slice so_far ms)
  entries_from_writable so_far [] w h = w
  entries_from_writable so_far (m ∷ ms) w h =
      entries_from_writable (binary op.Union so_far (choice (guard_formula m.guard) (set_one (mode_symbol slice (Some m.name))) (set_one (mode_symbol slice None)))) ms
      (w, (guard_writable m.guard h.0.3, only_one (mode_symbol slice (Some m.name)) (symbol_named m.name h.0.0), only_one (mode_symbol slice None) nominal)) h.1

  stay_writable : (d : Dynamics) (mode : Text) → IsName mode → IsWritable (stay_branch slice d mode)
  stay_writable Permanent mode h = one_name (mode_symbol slice (Some mode)) (symbol_named mode h)
  stay_writable Transient mode h = (λ e. cc, (one_name (mode_symbol slice (Some mode)) (symbol_named mode h), (one_name (mode_symbol slice None) nominal, tt)))

  symbols_writable : (ms : List ModeTree) → Each IsWritableMode ms → Each IsWritableMember (map (λ m. member.Symbol (mode_symbol slice (Some m.name))) ms)
  symbols_writable [] h = tt
  symbols_writable (m ∷ ms) h = (symbol_named m.name h.0.0, symbols_writable ms h.1)

-- the sections of a slice
module _ (s : SliceTree) (h : IsWritableSlice s) where
  moves_writable : IsWritable (moves_tree s)
  moves_writable =
      let f : ModeTree → Formula = λ m. stay_branch s.name m.dynamics m.name in (
        mode_branches_some s.name h.0 f (entries s.name s.modes) s.modes,
        mode_branches_writable s.name h.0 f (entries s.name s.modes) (λ m w. stay_writable s.name h.0 m.dynamics m.name w.0)
            (entries_from_writable s.name h.0 (set_one (mode_symbol s.name None)) s.modes (only_one (mode_symbol s.name None) (nominal s.name h.0)) h.3) s.modes h.3,
      )

  read_writable : (t : DeclaredTree) → IsWritableType t → IsWritable (read_tree t s)
  read_writable t w =
      let f : ModeTree → Formula = λ m. branch m.effect t s.target in (
        mode_branches_some s.name h.0 f (named (own_name s.target)) s.modes,
        mode_branches_writable s.name h.0 f (named (own_name s.target)) (λ m g. branch_writable (branch_of m.effect) t s.target ((row_law m.effect).holds _ _ _ g.2).0 w h.1)
            (one_name (own_name s.target) (own_is_name s.target h.1.1)) s.modes h.3,
      )

  state_named : IsName (mode_variable s.name)
  state_named = mode_variable_is_name s.name h.0.1

  slice_rules_writable : Each IsWritableSection (slice_rules s)
  slice_rules_writable =
      each_of_all IsWritableSection IsWritableMode (λ m. mode_rules s.start m.effect s.name m.name s.target) (λ m g. mode_rules_writable s.name h.0 s.start m.effect m.name s.target g.2 g.0 h.1) s.modes h.3

  slice_writable : (m : ModuleTree) → IsWritableModule m → Each IsWritableSection (slice_sections m s)
  slice_writable m w =
      let type = type_is_writable m s.target w in (
        (
          (own_is_name s.target h.1.1, type_declared (type_of_kind (kind_in m s.target)) type),
          ((state_named, (λ e. cc, (nominal s.name h.0, symbols_writable s.name h.0 s.modes h.3))), tt),
        ),
        (
          (
            (λ e. cc, (state_named, tt), start_writable s.name h.0 s.start s.modes h.3),
            (
              (λ e. cc, (state_named, tt), moves_writable),
              ((λ e. cc, (h.1, tt), read_writable (type_of_kind (kind_in m s.target)) type), tt),
            ),
          ),
          slice_rules_writable,
        ),
      )

-- renaming
module _ (affected : Text → Bool) where
  renamed_by : (b : Bool) (x : Text) → IsName x → AreNames (if b then own_name x ∷ [] else x ∷ [])
  renamed_by true x h = (own_is_name x h.1, tt)
  renamed_by false x h = (h, tt)

  renamed_some_by : (b : Bool) (x : Text) → (if b then own_name x ∷ [] else x ∷ []) ≢ []
  renamed_some_by true x e = cc
  renamed_some_by false x e = cc

  rename_names : (p : Path) → AreNames p → AreNames (rename affected p)
  rename_names [] h = h
  rename_names (x ∷ []) h = renamed_by (affected x) x h.0
  rename_names (x ∷ y ∷ p) h = h

  rename_some : (p : Path) → p ≢ [] → rename affected p ≢ []
  rename_some [] some e = some refl
  rename_some (x ∷ []) some e = renamed_some_by (affected x) x e
  rename_some (x ∷ y ∷ p) some e = cc

abbrev Keeps : (Path → Path) → Type 0
Keeps f = (p : Path) → IsWritable (leaf p) → IsWritable (leaf (f p))

mutual
  mapped_writable : (f g : Path → Path) → Keeps f → Keeps g → (e : Formula) → IsWritable e → IsWritable (tree_map_both f g e)
  mapped_writable f g kf kg (truth b) h = tt
  mapped_writable f g kf kg (is_number n) h = h
  mapped_writable f g kf kg (leaf l) h = kf l h
  mapped_writable f g kf kg (not_of a) h = mapped_writable f g kf kg a h
  mapped_writable f g kf kg (negate a) h = mapped_writable f g kf kg a h
  mapped_writable f g kf kg (next_of a) h = mapped_writable g g kg kg a h
  mapped_writable f g kf kg (binary o a b) h = (mapped_writable f g kf kg a h.0, mapped_writable f g kf kg b h.1)
  mapped_writable f g kf kg (choice c a b) h = (mapped_writable f g kf kg c h.0, mapped_writable f g kf kg a h.1, mapped_writable f g kf kg b h.2)
  mapped_writable f g kf kg (case_of bs) h = (branches_some f g bs h.0, mapped_branches f g kf kg bs h.1)
  mapped_writable f g kf kg (set_of ts) h = (trees_some f g ts h.0, mapped_trees f g kf kg ts h.1)
  mapped_writable f g kf kg (span lo hi) h = h

  mapped_trees : (f g : Path → Path) → Keeps f → Keeps g → (ts : Trees Path) → AreWritable ts → AreWritable (trees_map_both f g ts)
  mapped_trees f g kf kg no_tree h = tt
  mapped_trees f g kf kg (tree_then t ts) h = (mapped_writable f g kf kg t h.0, mapped_trees f g kf kg ts h.1)

  mapped_branches : (f g : Path → Path) → Keeps f → Keeps g → (bs : Branches Path) → AreWritableBranches bs → AreWritableBranches (branches_map_both f g bs)
  mapped_branches f g kf kg no_branch h = tt
  mapped_branches f g kf kg (branch_then c a bs) h = (mapped_writable f g kf kg c h.0, mapped_writable f g kf kg a h.1, mapped_branches f g kf kg bs h.2)

  trees_some : (f g : Path → Path) (ts : Trees Path) → ts ≢ no_tree → trees_map_both f g ts ≢ no_tree
  trees_some f g no_tree some e = some refl
  trees_some f g (tree_then t ts) some e = cc

  branches_some : (f g : Path → Path) (bs : Branches Path) → bs ≢ no_branch → branches_map_both f g bs ≢ no_branch
  branches_some f g no_branch some e = some refl
  branches_some f g (branch_then c a bs) some e = cc

keeps_rename : (affected : Text → Bool) → Keeps (rename affected)
keeps_rename affected p h = (rename_some affected p h.0, rename_names affected p h.1)

keeps_same : Keeps same_path
keeps_same p h = h

assignment_woven : (affected : Text → Bool) (a : AssignmentTree) → IsWritableAssignment a → IsWritableAssignment (woven_assignment affected a)
assignment_woven affected a h = (rename_some affected a.target h.0, rename_names affected a.target h.1, h.2)

section_woven : (affected : Text → Bool) (s : SectionTree) → IsWritableSection s → IsWritableSection (woven_section affected s)
section_woven affected (var ds) h = h
section_woven affected (ivar ds) h = h
section_woven affected (frozen_section ds) h = h
section_woven affected (define ds) h = h
section_woven affected (constants xs) h = h
section_woven affected (assign list) h =
    (each_map IsWritableAssignment (woven_assignment affected) list).1 (each_kept IsWritableAssignment (λ a. IsWritableAssignment (woven_assignment affected a)) (assignment_woven affected) list h)
section_woven affected (init e) h = mapped_writable (rename affected) same_path (keeps_rename affected) keeps_same e h
section_woven affected (invar e) h = h
section_woven affected (trans e) h = mapped_writable same_path (rename affected) keeps_same (keeps_rename affected) e h

-- the slices of a module
slices_writable : (xs : List ExtensionTree) (m : Text) → Each IsWritableExtension xs → Each IsWritableSlice (slices_from xs m)
slices_writable [] m h = tt
slices_writable (x ∷ xs) m h =
    either (Each IsWritableSlice) (same_text x.of_module m) (x.slices ++ slices_from xs m) (slices_from xs m)
    ((each_append IsWritableSlice x.slices (slices_from xs m)).1 (h.0.1, slices_writable xs m h.1)) (slices_writable xs m h.1)

module_woven : (i : InstructionTree) → IsWritableInstructions i → (m : ModuleTree) → IsWritableModule m → IsWritableModule (woven_module i m)
module_woven i h m w =
    let affected = is_affected i m.name in
    let old = (each_map IsWritableSection (woven_section affected) m.sections).1
    (each_kept IsWritableSection (λ s. IsWritableSection (woven_section affected s)) (section_woven affected) m.sections w.2) in
    let added = each_of_all IsWritableSection IsWritableSlice (slice_sections m) (λ s g. slice_writable s g m w) (slices_of i m.name) (slices_writable i.extensions m.name h.1) in
    (w.0, w.1, (each_append IsWritableSection (map (woven_section affected) m.sections) (added_sections i m)).1 (old, added))

pub woven_writable : (p : ProgramTree) (i : InstructionTree) → IsWritableProgram p → IsWritableInstructions i → IsWritableProgram (woven p i)
woven_writable p i w h = (each_map IsWritableModule (woven_module i) p).1 (each_kept IsWritableModule (λ m. IsWritableModule (woven_module i m)) (module_woven i h) p w)

-- the text of what is woven from two texts spells it
pub woven_text_spells : (model_bytes fault_bytes : List ℕ) (p : ProgramTree) (i : InstructionTree) → BytesSpellProgram model_bytes p → BytesSpellInstructions fault_bytes i →
    BytesSpellProgram (program_text (woven p i)) (woven p i)
woven_text_spells model_bytes fault_bytes p i model faults = program_spells (woven p i) (woven_writable p i (program_writable model_bytes p model) (instructions_writable fault_bytes i faults))
