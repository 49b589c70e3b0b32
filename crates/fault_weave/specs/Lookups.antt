-- What look-ups in a module find: the type of the variable that a name declares, which is the boolean type
-- where the name declares something else, and whether a slice affects a variable.
use Rattle.std.specs.Prelude.{Bool, ◌&&◌, List, [], ◌∷◌, Option, Some, None, if◌then◌else◌}
use Rattle.smv_language.specs.Language.{same_text, Text, DeclaredTree, boolean, range, members, instance, DeclTree, DefineTree, SectionTree}
use Rattle.smv_language.specs.Language.{var, ivar, frozen, define, constants, assign, init, invar, trans}
use Rattle.fault_instructions.specs.Instructions.{ExtensionTree, is_target}

-- the type of a variable; an instance counts as boolean
abbrev pub variable_type : DeclaredTree → DeclaredTree
variable_type boolean = boolean
variable_type (range lo hi) = range lo hi
variable_type (members ms) = members ms
variable_type (instance m actuals) = boolean

-- of the first declaration of the name
abbrev pub type_in_decls : List DeclTree → Text → Option DeclaredTree
type_in_decls [] x = None
type_in_decls (d ∷ ds) x = if same_text d.name x then Some (variable_type d.what) else type_in_decls ds x

-- boolean, where the name is that of a definition
abbrev pub type_in_defines : List DefineTree → Text → Option DeclaredTree
type_in_defines [] x = None
type_in_defines (d ∷ ds) x = if same_text d.name x then Some boolean else type_in_defines ds x

-- of the section, where it declares the name
unfoldable pub type_in_section : SectionTree → Text → Option DeclaredTree
type_in_section (var ds) x = type_in_decls ds x
type_in_section (ivar ds) x = type_in_decls ds x
type_in_section (frozen ds) x = type_in_decls ds x
type_in_section (define ds) x = type_in_defines ds x
type_in_section (constants xs) x = None
type_in_section (assign list) x = None
type_in_section (init e) x = None
type_in_section (invar e) x = None
type_in_section (trans e) x = None

-- the first, where there is one
abbrev pub first_type : Option DeclaredTree → DeclaredTree → DeclaredTree
first_type None otherwise = otherwise
first_type (Some type) otherwise = type

-- the extension is one of the module, and one of its slices affects the variable
unfoldable pub affects : ExtensionTree → Text → Text → Bool
affects e m x = same_text e.of_module m && is_target e.slices x
