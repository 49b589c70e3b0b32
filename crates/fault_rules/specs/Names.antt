-- The names of a program: of modules, formals, what is declared, and symbols.
use Rattle.std.specs.Prelude.{List, [], ◌∷◌, ◌++◌, map, flat_map}
use Rattle.smv_language.specs.declared.program.Member.{Member}
use Rattle.smv_language.specs.declared.program.Member.TheVariants as member
use Rattle.smv_language.specs.ProgramTree.{Text, DeclaredTree, boolean, range, members, instance, DeclTree, DefineTree, SectionTree, var}
use Rattle.smv_language.specs.ProgramTree.{ivar, frozen, define, constants, assign, init, invar, trans, ModuleTree, ProgramTree}

-- the member, if it is a symbol
abbrev pub member_names : Member → List Text
member_names (member.Number n) = []
member_names (member.Symbol x) = x ∷ []

-- the symbols of a type
abbrev pub type_names : DeclaredTree → List Text
type_names boolean = []
type_names (range lo hi) = []
type_names (members ms) = flat_map member_names ms
type_names (instance m actuals) = []

-- the name of a declaration, and the symbols of its type
abbrev pub decl_names : DeclTree → List Text
decl_names d = d.name ∷ type_names d.what

-- the name of a definition
abbrev pub define_name : DefineTree → Text
define_name d = d.name

-- the names that a section declares or lists
abbrev pub section_names : SectionTree → List Text
section_names (var ds) = flat_map decl_names ds
section_names (ivar ds) = flat_map decl_names ds
section_names (frozen ds) = flat_map decl_names ds
section_names (define ds) = map define_name ds
section_names (constants xs) = xs
section_names (assign list) = []
section_names (init e) = []
section_names (invar e) = []
section_names (trans e) = []

-- the name of a module and those in it
abbrev pub module_names : ModuleTree → List Text
module_names m = m.name ∷ (m.formals ++ flat_map section_names m.sections)

-- the names of all modules
abbrev pub program_names : ProgramTree → List Text
program_names p = flat_map module_names p
