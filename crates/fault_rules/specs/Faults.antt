-- The first broken rule, item by item, and what the items so far have left behind.
use Rattle.std.specs.Prelude.{◌≡◌, ◌≢◌, ℕ, ◌+◌, Bool, ◌||◌, List, [], ◌∷◌, ◌++◌, Option, Some, None, map, flat_map, length}
use Rattle.smv_language.specs.Language.{Text, DeclaredTree, ProgramTree, program_tree, declared_tree, find_module, same_text, is_among}
use Rattle.fault_instructions.specs.declared.instructions.Slice.{Slice}
use Rattle.fault_instructions.specs.Instructions.{ModeTree, SliceTree, ExtensionTree, slice_tree}
use Rattle.fault_instructions.specs.AddedNames.{own_name, mode_variable, mode_symbol}
use Rattle.fault_instructions.specs.Effects.{fault_of}
use Rattle.fault_rules.specs.Sites.{OwnedSlice, owned, Site, an_extension, slice_sites}
use Rattle.fault_rules.specs.Rules.{first_of, effect_rules, is_program_name, is_taken, hides_symbol, states_before, owns_before, broken_at}
use Rattle.fault_rules.specs.Names.{program_names}
use Rattle.fault_rules.specs.KeyedLists.{is_pair_among, with_text, with_texts, with_pairs, with_entries}
use Rattle.fault_rules.specs.Locals.{LocalTree, formal, variable, other, scopes_of, scopes_in}
use Rattle.fault_rules.specs.declared.fault.InstructionRule.{InstructionRule}
use Rattle.fault_rules.specs.declared.fault.InstructionRule.TheVariants.{NoSuchVariable, NotAStateVariable, DoubleSlice, VariableTaken}
use Rattle.fault_rules.specs.declared.fault.InstructionRule.TheVariants.{DoubleMode, NameTaken, OutOfMemory}
use Rattle.fault_rules.specs.declared.fault.RuleFault.{RuleFault}
use Rattle.fault_rules.specs.declared.modules.KnownProgram.{KnownProgram}
use Rattle.fault_rules.specs.declared.modes.JudgedSlice.{JudgedSlice}
use Rattle.fault_rules.specs.declared.placed.Placed.{Placed}
use Rattle.fault_rules.specs.declared.items.MetItems.{MetItems}
use Rattle.fault_rules.specs.declared.items.SliceNames.{SliceNames}

-- a rule that is broken at an item, or what comes later
abbrev pub fault_at : Option InstructionRule → ℕ → Option RuleFault → Option RuleFault
fault_at None n later = later
fault_at (Some rule) n later = Some (record { rule = rule; item = n })

-- the first rule that is broken at items after a number of others
abbrev pub first_fault : (Site → Option InstructionRule) → ℕ → List Site → Option RuleFault
first_fault told n [] = None
first_fault told n (site ∷ sites) = fault_at (told site) (n + 1) (first_fault told (n + 1) sites)

-- the slices of an EXTENSION, each with its module
abbrev pub owned_slices : ExtensionTree → List OwnedSlice
owned_slices x = map (owned x.of_module) x.slices

-- the slices of a file, each with its module
abbrev pub file_slices : List ExtensionTree → List OwnedSlice
file_slices xs = flat_map owned_slices xs

-- the items of an EXTENSION
abbrev pub sites_of : List OwnedSlice → ExtensionTree → List Site
sites_of before x = an_extension x.of_module ∷ slice_sites before x.of_module x.slices

-- the rule that a target breaks, by what it is in its module
abbrev pub target_rule : Option LocalTree → Option InstructionRule
target_rule None = Some NoSuchVariable
target_rule (Some formal) = Some NoSuchVariable
target_rule (Some (variable type)) = None
target_rule (Some other) = Some NotAStateVariable

-- the rule that a slice breaks after those on its target
abbrev pub slice_rule : Bool → Bool → Bool → Bool → Option InstructionRule
slice_rule double affected taken hides = first_of ((double, DoubleSlice) ∷ (affected, VariableTaken) ∷ (taken || hides, NameTaken) ∷ [])

-- the names that a slice adds
abbrev pub names_of : SliceTree → SliceNames
names_of s = record { own = own_name s.target; switch = mode_variable s.name; nominal = mode_symbol s.name None }

-- a name is taken, by the program, by a state, or by an own value of these or this one
abbrev pub is_taken_with : ProgramTree → List Text → List Text → Text → Text → Bool
is_taken_with p states owns own x = is_program_name p x || (is_among states x || (is_among owns x || same_text own x))

-- one of a slice's names is taken
abbrev pub adds_taken : ProgramTree → List Text → List Text → SliceNames → Bool
adds_taken p states owns names =
    (is_program_name p names.own || is_among states names.own)
    || (is_taken_with p states owns names.own names.switch || is_taken_with p states owns names.own names.nominal)

-- the rule that a mode breaks, where names of states and of own values are taken and earlier modes have names
abbrev pub mode_rule : ProgramTree → List Text → Text → DeclaredTree → List Text → List Text → ModeTree → Option InstructionRule
mode_rule p owns s type states names m =
    first_of ((is_among names m.name, DoubleMode)
    ∷ (effect_rules (fault_of m.effect type) ++ (is_taken p states owns (mode_symbol s (Some m.name)), NameTaken) ∷ []))

-- the first rule that modes break
abbrev pub mode_faults : ProgramTree → List Text → Text → DeclaredTree → List Text → List Text → ℕ → List ModeTree → Option RuleFault
mode_faults p owns s type states names n [] = None
mode_faults p owns s type states names n (m ∷ ms) =
    fault_at (mode_rule p owns s type states names m) (n
    + 1) (mode_faults p owns s type (with_text states (mode_symbol s (Some m.name))) (with_text names m.name) (n + 1) ms)

-- the first rule that a mode breaks, after these states and modes
abbrev pub rule_of : JudgedSlice → List Text → List Text → ModeTree → Option InstructionRule
rule_of judged states names m =
    mode_rule (program_tree judged.known.now.program.now) judged.owns.now judged.slice.now.name (declared_tree judged.declared.now) states
    names m

-- the first fault of modes, after the item of this number
abbrev pub faults_of : JudgedSlice → List Text → List Text → ℕ → List ModeTree → Option RuleFault
faults_of judged states names n ms =
    mode_faults (program_tree judged.known.now.program.now) judged.owns.now judged.slice.now.name (declared_tree judged.declared.now)
    states names n ms

-- the symbols of modes
abbrev pub mode_symbols : Text → List ModeTree → List Text
mode_symbols s ms = map (λ m. mode_symbol s (Some m.name)) ms

-- a slice of the code with its module
abbrev pub placed_tree : Placed → OwnedSlice
placed_tree placed = owned placed.owner.now (slice_tree placed.slice.now)

-- the program of which this is known
abbrev pub program_known : KnownProgram → ProgramTree
program_known known = program_tree known.program.now

-- what is known of a program is what the program has
pub record IsKnown (known : KnownProgram) : Type 0 where
  pub scopes : scopes_in known ≡ with_entries [] (scopes_of (program_tree known.program.now))
  pub names : known.names ≡ with_texts [] (program_names (program_tree known.program.now))

-- the slices so far
abbrev pub slices_in : MetItems → List OwnedSlice
slices_in met = map placed_tree met.placed.items

-- the rule that a slice of the module breaks after those on its target, after the items so far, where its variable is declared so
abbrev pub later_rule : ProgramTree → MetItems → Text → Slice → SliceNames → DeclaredTree → Option InstructionRule
later_rule p met owner s names type =
    slice_rule (is_among met.slices s.name) (is_pair_among met.targets (
      owner,
      s.target,
    )) (adds_taken p met.states met.owns names) (hides_symbol (find_module p owner) type)

-- the name of a slice
abbrev pub slice_name : OwnedSlice → Text
slice_name o = o.slice.name

-- the variable that a slice affects, with its module
abbrev pub target_pair : OwnedSlice → Text × Text
target_pair o = (o.owner, o.slice.target)

-- the names, slices and variables that are met are those of the slices so far
pub record IsMet (met : MetItems) : Type 0 where
  pub states : met.states ≡ with_texts [] (states_before (slices_in met))
  pub owns : met.owns ≡ with_texts [] (owns_before (slices_in met))
  pub slices : met.slices ≡ with_texts [] (map slice_name (slices_in met))
  pub targets : met.targets ≡ with_pairs [] (map target_pair (slices_in met))

-- items after this number break no rule, and they are met with their slices
pub record IsTaken (p : ProgramTree) (n : ℕ) (old new : MetItems) (sites : List Site) (slices : List OwnedSlice) : Type 0 where
  pub kept : first_fault (broken_at p) n sites ≡ None
  pub last : new.last ≡ n + length sites
  pub slices_are : slices_in new ≡ slices_in old ++ slices
  pub met : IsMet new

-- what is left of items and slices comes to what all of them come to
pub record IsLeft (p : ProgramTree) (old now : MetItems) (all left : List Site) (slices slices_left : List OwnedSlice) : Type 0 where
  pub faults : first_fault (broken_at p) now.last left ≡ first_fault (broken_at p) old.last all
  pub last : now.last + length left ≡ old.last + length all
  pub slices_are : slices_in now ++ slices_left ≡ slices_in old ++ slices
  pub met : IsMet now

-- the fault is the first that is broken at items after this number, or memory was wanting
abbrev pub IsFirstAfter : ProgramTree → ℕ → List Site → RuleFault → Type 0
IsFirstAfter p n sites fault = fault.rule ≢ OutOfMemory → first_fault (broken_at p) n sites ≡ Some fault
