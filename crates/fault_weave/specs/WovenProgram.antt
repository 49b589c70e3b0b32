-- The program that a weave makes: renamed targets and occurrences, and added sections for each slice.
use Rattle.std.specs.Prelude.{Bool, true, false, List, [], ◌∷◌, ◌++◌, Option, Some, None, map, flat_map, if◌then◌else◌}
use Rattle.smv_language.specs.declared.expr.Op.TheVariants as op
use Rattle.smv_language.specs.declared.program.Member.{Member}
use Rattle.smv_language.specs.declared.program.Member.TheVariants as member
use Rattle.smv_language.specs.declared.program.Moment.TheVariants.{Always, First, After}
use Rattle.smv_language.specs.Language.{Tree, Trees, Branches, leaf, not_of, negate, next_of, binary, choice, case_of, set_of, span}
use Rattle.smv_language.specs.Language.{no_tree, tree_then, no_branch, branch_then, trees_from, Text, Path, Formula, DeclaredTree, members}
use Rattle.smv_language.specs.Language.{DeclTree, AssignmentTree, SectionTree, var, ivar, frozen as frozen_section, define, constants}
use Rattle.smv_language.specs.Language.{assign, init, invar, trans, ModuleTree, ProgramTree, kind_in, same_text}
use Rattle.smv_language.specs.Tree.{truth as is_truth, number as is_number}
use Rattle.fault_instructions.specs.declared.instructions.Dynamics.{Dynamics}
use Rattle.fault_instructions.specs.declared.instructions.Dynamics.TheVariants.{Permanent, Transient}
use Rattle.fault_instructions.specs.declared.instructions.Start.{Start}
use Rattle.fault_instructions.specs.declared.instructions.Start.TheVariants.{Nominal, Any}
use Rattle.fault_instructions.specs.Instructions.{EffectTree, ModeTree, SliceTree, ExtensionTree, InstructionTree, slices_of, is_affected}
use Rattle.fault_instructions.specs.AddedNames.{own_name, mode_variable, mode_symbol}
use Rattle.fault_instructions.specs.Templates.{named, branch, stands, rules, first_rules}
use Rattle.fault_instructions.specs.KindTypes.{type_of_kind}

-- for each mode the branch "the mode stands: what f gives of it", and a last branch
abbrev pub mode_branches : Text → (ModeTree → Formula) → Formula → List ModeTree → Branches Path
mode_branches slice f last [] = branch_then (is_truth true) last no_branch
mode_branches slice f last (m ∷ ms) = branch_then (stands slice m.name) (f m) (mode_branches slice f last ms)

-- the states that a slice may start in: nominal, or the set of nominal and the modes in order
abbrev pub start_tree : Text → Start → List ModeTree → Formula
start_tree slice Nominal modes = named (mode_symbol slice None)
start_tree slice Any modes = set_of (trees_from (named (mode_symbol slice None) ∷ map (λ m. named (mode_symbol slice (Some m.name))) modes))

-- the set of one state
abbrev pub set_one : Text → Formula
set_one x = set_of (tree_then (named x) no_tree)

-- the guard; TRUE where none is written
abbrev pub guard_formula : Option Formula → Formula
guard_formula None = is_truth true
guard_formula (Some g) = g

-- nominal, and for each mode that mode where its guard is true
abbrev pub entries_from : Text → Formula → List ModeTree → Formula
entries_from slice so_far [] = so_far
entries_from slice so_far (m ∷ ms) =
    entries_from slice (binary op.Union so_far
    (choice (guard_formula m.guard) (set_one (mode_symbol slice (Some m.name))) (set_one (mode_symbol slice None)))) ms

-- from nominal: it stays, or enters a mode whose guard is TRUE
abbrev pub entries : Text → List ModeTree → Formula
entries slice modes = entries_from slice (set_one (mode_symbol slice None)) modes

-- from a mode: a permanent one stays, and a transient one may return
abbrev pub stay_branch : Text → Dynamics → Text → Formula
stay_branch slice Permanent mode = named (mode_symbol slice (Some mode))
stay_branch slice Transient mode =
    set_of (tree_then (named (mode_symbol slice (Some mode))) (tree_then (named (mode_symbol slice None)) no_tree))

-- the next state, by cases on the state that stands
abbrev pub moves_tree : SliceTree → Formula
moves_tree s = case_of (mode_branches s.name (λ m. stay_branch s.name m.dynamics m.name) (entries s.name s.modes) s.modes)

-- the read value, by cases on the state that stands
abbrev pub read_tree : DeclaredTree → SliceTree → Formula
read_tree type s = case_of (mode_branches s.name (λ m. branch m.effect type s.target) (named (own_name s.target)) s.modes)

-- the type of the state: nominal, and the modes in order
abbrev pub mode_type : SliceTree → DeclaredTree
mode_type s = members (member.Symbol (mode_symbol s.name None) ∷ map (λ m. member.Symbol (mode_symbol s.name (Some m.name))) s.modes)

-- the variables that a slice adds: the own value, and the state
abbrev pub slice_variables : DeclaredTree → SliceTree → List DeclTree
slice_variables type s = record { name = own_name s.target; what = type } ∷ record { name = mode_variable s.name; what = mode_type s } ∷ []

-- what a slice assigns: the first state, the next one, and the read value
abbrev pub slice_assignments : DeclaredTree → SliceTree → List AssignmentTree
slice_assignments type s =
    record { when = First; target = mode_variable s.name ∷ []; value = start_tree s.name s.start s.modes } ∷
    record { when = After; target = mode_variable s.name ∷ []; value = moves_tree s } ∷
    record { when = Always; target = s.target ∷ []; value = read_tree type s } ∷ []

-- the first rule sections of a mode, where its slice may start in it
abbrev pub start_rules : Start → EffectTree → Text → Text → Text → List SectionTree
start_rules Nominal e slice mode x = []
start_rules Any e slice mode x = first_rules e slice mode x

-- the rule sections of a mode, and behind them its first ones
abbrev pub mode_rules : Start → EffectTree → Text → Text → Text → List SectionTree
mode_rules start e slice mode x = rules e slice mode x ++ start_rules start e slice mode x

-- the rule sections of the modes of a slice, in order
abbrev pub slice_rules : SliceTree → List SectionTree
slice_rules s = flat_map (λ m. mode_rules s.start m.effect s.name m.name s.target) s.modes

-- the sections of a slice of a module
abbrev pub slice_sections : ModuleTree → SliceTree → List SectionTree
slice_sections m s =
    var (slice_variables (type_of_kind (kind_in m s.target)) s) ∷ assign (slice_assignments (type_of_kind (kind_in m s.target)) s)
    ∷ slice_rules s

-- a tree with the leaves outside `next` and those under it changed
abbrev mutual
  pub tree_map_both : {L M : Type 0} → (L → M) → (L → M) → Tree L → Tree M
  tree_map_both f g (is_truth b) = is_truth b
  tree_map_both f g (is_number n) = is_number n
  tree_map_both f g (leaf l) = leaf (f l)
  tree_map_both f g (not_of a) = not_of (tree_map_both f g a)
  tree_map_both f g (negate a) = negate (tree_map_both f g a)
  tree_map_both f g (next_of a) = next_of (tree_map_both g g a)
  tree_map_both f g (binary o a b) = binary o (tree_map_both f g a) (tree_map_both f g b)
  tree_map_both f g (choice c a b) = choice (tree_map_both f g c) (tree_map_both f g a) (tree_map_both f g b)
  tree_map_both f g (case_of bs) = case_of (branches_map_both f g bs)
  tree_map_both f g (set_of ts) = set_of (trees_map_both f g ts)
  tree_map_both f g (span lo hi) = span lo hi

  pub trees_map_both : {L M : Type 0} → (L → M) → (L → M) → Trees L → Trees M
  trees_map_both f g no_tree = no_tree
  trees_map_both f g (tree_then t ts) = tree_then (tree_map_both f g t) (trees_map_both f g ts)

  pub branches_map_both : {L M : Type 0} → (L → M) → (L → M) → Branches L → Branches M
  branches_map_both f g no_branch = no_branch
  branches_map_both f g (branch_then c a bs) = branch_then (tree_map_both f g c) (tree_map_both f g a) (branches_map_both f g bs)

-- an affected variable as a single name becomes the name of its own value
abbrev pub rename : (Text → Bool) → Path → Path
rename affected [] = []
rename affected (x ∷ []) = if affected x then own_name x ∷ [] else x ∷ []
rename affected (x ∷ y ∷ path) = x ∷ y ∷ path

-- a path as it is
abbrev pub same_path : Path → Path
same_path path = path

-- renamed, or left as it is
abbrev pub renaming : Bool → (Text → Bool) → Path → Path
renaming true affected = rename affected
renaming false affected = same_path

-- an assignment to the own value, where a slice affects the variable; its value reads
abbrev pub woven_assignment : (Text → Bool) → AssignmentTree → AssignmentTree
woven_assignment affected a = record { when = a.when; target = rename affected a.target; value = a.value }

-- a section with the names of own values where its kind has them
abbrev pub woven_section : (Text → Bool) → SectionTree → SectionTree
woven_section affected (var ds) = var ds
woven_section affected (ivar ds) = ivar ds
woven_section affected (frozen_section ds) = frozen_section ds
woven_section affected (define ds) = define ds
woven_section affected (constants xs) = constants xs
woven_section affected (assign list) = assign (map (woven_assignment affected) list)
woven_section affected (init e) = init (tree_map_both (rename affected) same_path e)
woven_section affected (invar e) = invar e
woven_section affected (trans e) = trans (tree_map_both same_path (rename affected) e)

-- the extension's slices, where it is one of the module
abbrev pub own_slices : ExtensionTree → Text → List SliceTree
own_slices x m = if same_text x.of_module m then x.slices else []

-- the sections of the module's slices, in the order of the file
abbrev pub added_sections : InstructionTree → ModuleTree → List SectionTree
added_sections i m = flat_map (slice_sections m) (slices_of i m.name)

-- a module with what its slices add
abbrev pub woven_module : InstructionTree → ModuleTree → ModuleTree
woven_module i m = record {
  name = m.name;
  formals = m.formals;
  sections = map (woven_section (is_affected i m.name)) m.sections ++ added_sections i m;
}

-- the same, as a word that is opened by name
unfoldable pub woven_tree : InstructionTree → ModuleTree → ModuleTree
woven_tree i m = woven_module i m

-- the program woven with the instructions
abbrev pub woven : ProgramTree → InstructionTree → ProgramTree
woven p i = map (woven_module i) p
