-- The fault of modules and of their names, told module by module and name by name.
use Rattle.std.specs.Prelude.{◌≡◌, ℕ, suc, ◌+◌, Bool, true, false, ◌&&◌, List, [], ◌∷◌, ◌++◌, length, map, Option, Some, None, codes}
use Rattle.std.specs.Prelude.{IfSome, slice_get}
use Rattle.std.specs.Borrow.{Bor}
use Rattle.smv_language.specs.Language.{Text, ModuleTree, program_tree, module_tree, find_module, same_text, is_among, EachBoth}
use Rattle.smv_flat_laws.specs.Items.{Item as ItemOf, NumberedModule, modules_of, numbered_items, items_of, items_named}
use Rattle.smv_flat_laws.specs.Rules.{Rule, main_has_parameters, double_module, double_name, has_formals, is_module_among, names_of_item}
use Rattle.smv_flat_laws.specs.Rules.{is_name_again}
use Rattle.smv_scope.specs.ItemTree.{counted_from, item_tree}
use Rattle.smv_scope.specs.Faults.{rule_of}
use Rattle.smv_scope.specs.SceneTree.{HasNames, named, module_entries}
use Rattle.smv_scope.specs.declared.fault.FlatFault.{FlatFault}
use Rattle.smv_scope.specs.declared.items.Numbered.{Numbered}
use Rattle.smv_scope.specs.declared.modules.ModuleNames.{ModuleNames}
use Rattle.smv_scope.specs.declared.modules.Modules.{Modules}

-- a rule and the item that breaks it, if one does
abbrev pub Told : Type 0
Told = Option (Rule × ℕ)

-- the rule at an item, where it is broken
abbrev pub told_if : Bool → Rule → ℕ → Told
told_if true rule item = Some (rule, item)
told_if false rule item = None

-- the first fault, or else the one after it
abbrev pub told_first : Told → Told → Told
told_first (Some fault) rest = Some fault
told_first None rest = rest

-- the fault is the one that is told, or want of memory
abbrev pub IsTold : Told → FlatFault → Type 0
IsTold o f = IfSome (rule_of f.rule) (λ rule. o ≡ Some (rule, f.item))

-- the names that have entries
abbrev pub texts_of : {V : Type 0} → List (Text × V) → List Text
texts_of es = map (λ e. e.0) es

-- a formal that was seen before
abbrev pub formals_told : ℕ → List Text → List Text → Told
formals_told header seen [] = None
formals_told header seen (x ∷ xs) = told_first (told_if (is_among seen x) double_name header) (formals_told header (seen ++ x ∷ []) xs)

-- an item whose name was seen before
abbrev pub items_told : List Text → List (ℕ × ItemOf) → Told
items_told seen [] = None
items_told seen (i ∷ is) =
    told_first (told_if (is_name_again seen (names_of_item i.1)) double_name i.0) (items_told (seen ++ names_of_item i.1) is)

-- a module `main` with formals, a module whose name a module before it has
abbrev pub header_told : List ModuleTree → ℕ → ModuleTree → Told
header_told before header m =
    told_first (told_if (same_text m.name (codes "main") && has_formals m.formals) main_has_parameters header)
    (told_if (is_module_among before m.name) double_module header)

-- the first name of a module that stands twice, from its formals on
abbrev pub names_told : ℕ → ModuleTree → Told
names_told header m = told_first (formals_told header [] m.formals) (items_told m.formals (counted_from (suc header) (items_of m)))

-- the first rule that a module breaks after others: by its header, then by its names
abbrev pub module_told : List ModuleTree → ℕ → ModuleTree → Told
module_told before header m = told_first (header_told before header m) (names_told header m)

-- the modules after some, from the number of the first one's header on
abbrev pub modules_told : ℕ → List ModuleTree → List ModuleTree → Told
modules_told n before [] = None
modules_told n before (m ∷ ms) = told_first (module_told before n m) (modules_told (n + suc (length (items_of m))) (before ++ m ∷ []) ms)

-- the number of the header that comes after these modules
abbrev pub next_header : ℕ → List ModuleTree → ℕ
next_header n [] = n
next_header n (m ∷ ms) = next_header (n + suc (length (items_of m))) ms

-- an item of the code without its number
abbrev pub item_of_numbered : Numbered → ItemOf
item_of_numbered n = item_tree n.item

-- the module of these names
abbrev pub tree_of_names : ModuleNames → ModuleTree
tree_of_names n = module_tree n.«module».now

-- the modules that were read
abbrev pub trees_read : Modules → List ModuleTree
trees_read ms = map tree_of_names ms.list.items

-- the tables have the modules that were read, whose last item is known
pub record AreRead (ms : Modules) (last : ℕ) : Type 0 where
  pub list : EachBoth HasNames (modules_of (trees_read ms)) ms.list.items
  pub places : named ms.places.entries ≡ module_entries 0 (trees_read ms)
  pub next : suc last ≡ next_header 1 (trees_read ms)

-- the module after those that were read is read too
pub record IsReadAfter (old : Modules) (m : ModuleTree) (new : Modules) (last : ℕ) : Type 0 where
  pub read : AreRead new last
  pub added : trees_read new ≡ trees_read old ++ m ∷ []
  pub program : new.program ≡ old.program
  pub main : new.main ≡ old.main

-- the module at a place, which is the first of its name
pub record IsModuleAt (ms : Modules) (x : Text) (place : ℕ) (names : ModuleNames) : Type 0 where
  pub tree : NumberedModule
  pub is : slice_get (modules_of (program_tree ms.program.now)) place ≡ Some tree
  pub named : find_module (program_tree ms.program.now) x ≡ Some tree.tree
  pub items : items_named (program_tree ms.program.now) x ≡ numbered_items tree
  pub has : HasNames tree names
  pub listed : slice_get ms.list.items place ≡ Some names

-- the first module of a name with its place, or that there is none
abbrev pub IsFirstModule : Modules → Text → Option (ℕ × Bor ModuleNames) → Type 0
IsFirstModule ms x None = find_module (program_tree ms.program.now) x ≡ None
IsFirstModule ms x (Some found) = IsModuleAt ms x found.0 found.1.now
