-- A program as contracts see it: its tree alone, with no pointer in it.
use Rattle.std.specs.Prelude.{ℕ, ℤ, List, map}
use Rattle.smv_language.specs.declared.program.Moment.{Moment}
use Rattle.smv_language.specs.declared.program.Member.{Member}
use Rattle.smv_language.specs.declared.program.Declared.{Declared}
use Rattle.smv_language.specs.declared.program.Declared.TheVariants as declared
use Rattle.smv_language.specs.declared.program.Decl.{Decl}
use Rattle.smv_language.specs.declared.program.Define.{Define}
use Rattle.smv_language.specs.declared.program.Assignment.{Assignment}
use Rattle.smv_language.specs.declared.program.Section.{Section}
use Rattle.smv_language.specs.declared.program.Section.TheVariants as section
use Rattle.smv_language.specs.declared.program.Module.{Module}
use Rattle.smv_language.specs.declared.program.Program.{Program}
use Rattle.smv_language.specs.Tree.{Tree}
use Rattle.smv_language.specs.ExpressionTree.{tree_of}

-- a text, and names joined by dots
abbrev pub Text : Type 0
Text = List ℕ

-- the parts of a dotted name
abbrev pub Path : Type 0
Path = List Text

-- a written expression
abbrev pub Formula : Type 0
Formula = Tree Path

-- a type, or an instance of a module with its actuals
pub data DeclaredTree : Type 0 where
  boolean : DeclaredTree
  range : ℤ → ℤ → DeclaredTree
  members : List Member → DeclaredTree
  instance : Text → List Formula → DeclaredTree

-- a type, and no instance
abbrev pub IsType : DeclaredTree → Type 0
IsType (instance m actuals) = ⊥
IsType _ = Unit {0}

-- a name and what it is declared to be
pub record DeclTree : Type 0 where
  pub name : Text
  pub what : DeclaredTree

-- a name and the expression that it stands for
pub record DefineTree : Type 0 where
  pub name : Text
  pub value : Formula

-- an assignment
pub record AssignmentTree : Type 0 where
  pub when : Moment
  pub target : Path
  pub value : Formula

-- a section
pub data SectionTree : Type 0 where
  var : List DeclTree → SectionTree
  ivar : List DeclTree → SectionTree
  frozen : List DeclTree → SectionTree
  define : List DefineTree → SectionTree
  constants : List Text → SectionTree
  assign : List AssignmentTree → SectionTree
  init : Formula → SectionTree
  invar : Formula → SectionTree
  trans : Formula → SectionTree

-- a module
pub record ModuleTree : Type 0 where
  pub name : Text
  pub formals : List Text
  pub sections : List SectionTree

-- a program
abbrev pub ProgramTree : Type 0
ProgramTree = List ModuleTree

-- what a name is declared to be, without pointers
abbrev pub declared_tree : Declared → DeclaredTree
declared_tree declared.Boolean = boolean
declared_tree (declared.Range lo hi) = range lo hi
declared_tree (declared.Members ms) = members ms
declared_tree (declared.Instance m actuals) = instance m (map tree_of actuals)

-- a declaration, without pointers
abbrev pub decl_tree : Decl → DeclTree
decl_tree d = record { name = d.name; what = declared_tree d.what }

-- a define, without pointers
abbrev pub define_tree : Define → DefineTree
define_tree d = record { name = d.name; value = tree_of d.value }

-- an assignment, without pointers
abbrev pub assignment_tree : Assignment → AssignmentTree
assignment_tree a = record { when = a.when; target = a.target; value = tree_of a.value }

-- a section, without pointers
abbrev pub section_tree : Section → SectionTree
section_tree (section.Var ds) = var (map decl_tree ds)
section_tree (section.Ivar ds) = ivar (map decl_tree ds)
section_tree (section.Frozen ds) = frozen (map decl_tree ds)
section_tree (section.Define ds) = define (map define_tree ds)
section_tree (section.Constants xs) = constants xs
section_tree (section.Assign xs) = assign (map assignment_tree xs)
section_tree (section.Init e) = init (tree_of e)
section_tree (section.Invar e) = invar (tree_of e)
section_tree (section.Trans e) = trans (tree_of e)

-- a module, without pointers
abbrev pub module_tree : Module → ModuleTree
module_tree m = record { name = m.name; formals = m.formals; sections = map section_tree m.sections }

-- a program, without pointers
abbrev pub program_tree : Program → ProgramTree
program_tree p = map module_tree p.modules
