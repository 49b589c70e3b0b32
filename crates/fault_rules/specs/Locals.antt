-- What names are in their modules, as far as instructions ask.
use Rattle.std.specs.Prelude.{List, [], ◌++◌, Option, Some, None, map, flat_map}
use Rattle.smv_language.specs.Language.{Text, DeclaredTree, boolean, range, members, instance, DeclTree, DefineTree, SectionTree, var, ivar}
use Rattle.smv_language.specs.Language.{frozen, define, constants, assign, init, invar, trans, ModuleTree, ProgramTree, declared_tree}
use Rattle.smv_language.specs.Language.{state, input, frozen_role, Kind, a_formal, a_variable, an_instance, undeclared, first_with}
use Rattle.smv_language.specs.Scope.{a_define}
use Rattle.fault_rules.specs.KeyedLists.{with_entries}
use Rattle.fault_rules.specs.declared.modules.LocalName.{LocalName}
use Rattle.fault_rules.specs.declared.modules.LocalName.TheVariants as local
use Rattle.fault_rules.specs.declared.modules.ModuleScope.{ModuleScope}
use Rattle.fault_rules.specs.declared.modules.KnownProgram.{KnownProgram}

-- a formal, a variable of a VAR section, or something else that is declared
pub data LocalTree : Type 0 where
  formal : LocalTree
  variable : DeclaredTree → LocalTree
  other : LocalTree

-- what a name is, as the code has it
abbrev pub local_tree : LocalName → LocalTree
local_tree local.Formal = formal
local_tree (local.Variable what) = variable (declared_tree what.now)
local_tree local.Other = other

-- what a name of this kind is
abbrev pub seen_kind : Kind → Option LocalTree
seen_kind undeclared = None
seen_kind (a_formal i) = Some formal
seen_kind (a_variable state type) = Some (variable type)
seen_kind (a_variable input type) = Some other
seen_kind (a_variable frozen_role type) = Some other
seen_kind (a_define e) = Some other
seen_kind (an_instance m actuals) = Some other

-- what a declaration of a VAR section makes of its name
abbrev pub declared_local : DeclaredTree → LocalTree
declared_local boolean = variable boolean
declared_local (range lo hi) = variable (range lo hi)
declared_local (members ms) = variable (members ms)
declared_local (instance m actuals) = other

-- the entry of a formal
abbrev pub formal_entry : Text → Text × LocalTree
formal_entry x = (x, formal)

-- the entry of a declaration of a VAR section
abbrev pub variable_entry : DeclTree → Text × LocalTree
variable_entry d = (d.name, declared_local d.what)

-- the entry of another declaration
abbrev pub other_entry : DeclTree → Text × LocalTree
other_entry d = (d.name, other)

-- the entry of a definition
abbrev pub define_entry : DefineTree → Text × LocalTree
define_entry d = (d.name, other)

-- the names that a section declares
abbrev pub section_locals : SectionTree → List (Text × LocalTree)
section_locals (var ds) = map variable_entry ds
section_locals (ivar ds) = map other_entry ds
section_locals (frozen ds) = map other_entry ds
section_locals (define ds) = map define_entry ds
section_locals (constants xs) = []
section_locals (assign list) = []
section_locals (init e) = []
section_locals (invar e) = []
section_locals (trans e) = []

-- the names of a module, in written order
abbrev pub locals_of : ModuleTree → List (Text × LocalTree)
locals_of m = map formal_entry m.formals ++ flat_map section_locals m.sections

-- the modules of a program with their names, of which the first of a name counts
abbrev pub scope_of : ModuleTree → Text × List (Text × LocalTree)
scope_of m = (m.name, with_entries [] (locals_of m))

-- the names of each module, by its name
abbrev pub scopes_of : ProgramTree → List (Text × List (Text × LocalTree))
scopes_of p = map scope_of p

-- what the code keeps of a module
abbrev pub locals_in : ModuleScope → List (Text × LocalTree)
locals_in s = map (λ e. (e.0.now, local_tree e.1)) s.locals.entries

-- what the code keeps of all modules
abbrev pub scopes_in : KnownProgram → List (Text × List (Text × LocalTree))
scopes_in k = map (λ e. (e.0.now, locals_in e.1)) k.scopes.entries

-- what a name is in a scope, where there is one
abbrev pub local_in : Option (List (Text × LocalTree)) → Text → Option LocalTree
local_in None x = None
local_in (Some scope) x = first_with scope x
