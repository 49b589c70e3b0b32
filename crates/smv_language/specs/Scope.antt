-- The instances of a program, and what a name means at one.
use Rattle.std.specs.Prelude.{◌≡◌, ℕ, zero, suc, Bool, true, false, List, [], ◌∷◌, ◌++◌, Option, Some, None, codes, ◌||◌, if◌then◌else◌}
use Rattle.smv_language.specs.declared.program.Member.{Member}
use Rattle.smv_language.specs.declared.program.Member.TheVariants as member
use Rattle.smv_language.specs.Tree.{leaf}
use Rattle.smv_language.specs.ProgramTree.{Text, Path, Formula, DeclaredTree, boolean, range, members, instance, DeclTree, DefineTree}
use Rattle.smv_language.specs.ProgramTree.{SectionTree, var, ivar, frozen, define, constants, assign, init, invar, trans, ModuleTree}
use Rattle.smv_language.specs.ProgramTree.{ProgramTree}
use Rattle.smv_language.specs.Texts.{same_text, is_among}

-- An instance is named by the names of its declarations from the innermost to `main`'s, and `main` by none.
abbrev pub Place : Type 0
Place = List Text

-- what kind of variable: of the state, an input, or frozen
pub data Role : Type 0 where
  state : Role
  input : Role
  frozen_role : Role

-- what a name is in its module
pub data Kind : Type 0 where
  a_formal : ℕ → Kind
  a_variable : Role → DeclaredTree → Kind
  a_define : Formula → Kind
  an_instance : Text → List Formula → Kind
  undeclared : Kind

-- the first module of this name
abbrev pub find_module : ProgramTree → Text → Option ModuleTree
find_module [] x = None
find_module (m ∷ ms) x = if same_text m.name x then Some m else find_module ms x

-- there is no such module
abbrev pub is_missing : Option ModuleTree → Bool
is_missing None = true
is_missing (Some m) = false

-- the place of a formal, counted on from a number
abbrev pub formal_from : ℕ → List Text → Text → Option ℕ
formal_from i [] x = None
formal_from i (y ∷ ys) x = if same_text y x then Some i else formal_from (suc i) ys x

-- what a declaration makes of its name
abbrev pub kind_declared : Role → DeclaredTree → Kind
kind_declared role (instance m actuals) = an_instance m actuals
kind_declared role boolean = a_variable role boolean
kind_declared role (range lo hi) = a_variable role (range lo hi)
kind_declared role (members ms) = a_variable role (members ms)

-- what the first declaration of a name makes of it
abbrev pub kind_in_decls : Role → List DeclTree → Text → Kind → Kind
kind_in_decls role [] x otherwise = otherwise
kind_in_decls role (d ∷ ds) x otherwise = if same_text d.name x then kind_declared role d.what else kind_in_decls role ds x otherwise

-- what the first define of a name makes of it
abbrev pub kind_in_defines : List DefineTree → Text → Kind → Kind
kind_in_defines [] x otherwise = otherwise
kind_in_defines (d ∷ ds) x otherwise = if same_text d.name x then a_define d.value else kind_in_defines ds x otherwise

-- what the first section that declares a name makes of it
abbrev pub kind_in_sections : List SectionTree → Text → Kind
kind_in_sections [] x = undeclared
kind_in_sections (var ds ∷ ss) x = kind_in_decls state ds x (kind_in_sections ss x)
kind_in_sections (ivar ds ∷ ss) x = kind_in_decls input ds x (kind_in_sections ss x)
kind_in_sections (frozen ds ∷ ss) x = kind_in_decls frozen_role ds x (kind_in_sections ss x)
kind_in_sections (define ds ∷ ss) x = kind_in_defines ds x (kind_in_sections ss x)
kind_in_sections (constants xs ∷ ss) x = kind_in_sections ss x
kind_in_sections (assign xs ∷ ss) x = kind_in_sections ss x
kind_in_sections (init e ∷ ss) x = kind_in_sections ss x
kind_in_sections (invar e ∷ ss) x = kind_in_sections ss x
kind_in_sections (trans e ∷ ss) x = kind_in_sections ss x

-- a formal goes before what is declared
abbrev pub kind_after_formals : Option ℕ → Kind → Kind
kind_after_formals (Some i) otherwise = a_formal i
kind_after_formals None otherwise = otherwise

-- a formal first, then what is declared
abbrev pub kind_in : ModuleTree → Text → Kind
kind_in m x = kind_after_formals (formal_from 0 m.formals x) (kind_in_sections m.sections x)

-- the module of which this is an instance
abbrev pub module_of_kind : ProgramTree → Kind → Option ModuleTree
module_of_kind p (an_instance m actuals) = find_module p m
module_of_kind p _ = None

-- what a name is in the module of an instance
abbrev pub kind_at : Option ModuleTree → Text → Kind
kind_at (Some m) x = kind_in m x
kind_at None x = undeclared

-- the module of an instance; none where there is no such instance
abbrev pub module_at : ProgramTree → Place → Option ModuleTree
module_at p [] = find_module p (codes "main")
module_at p (x ∷ at) = module_of_kind p (kind_at (module_at p at) x)

-- the actual at a place
abbrev pub nth_formula : List Formula → ℕ → Option Formula
nth_formula [] i = None
nth_formula (e ∷ es) zero = Some e
nth_formula (e ∷ es) (suc i) = nth_formula es i

-- an actual of an instance
abbrev pub actual_of_kind : Kind → ℕ → Option Formula
actual_of_kind (an_instance m actuals) i = nth_formula actuals i
actual_of_kind _ i = None

-- the symbols: the members of types and those of CONSTANTS
abbrev pub is_symbol_of_members : List Member → Text → Bool
is_symbol_of_members [] x = false
is_symbol_of_members (member.Number n ∷ ms) x = is_symbol_of_members ms x
is_symbol_of_members (member.Symbol y ∷ ms) x = same_text y x || is_symbol_of_members ms x

-- the text is a member of the type
abbrev pub is_symbol_of_type : DeclaredTree → Text → Bool
is_symbol_of_type (members ms) x = is_symbol_of_members ms x
is_symbol_of_type _ x = false

-- the text is a member of one of the types
abbrev pub is_symbol_of_decls : List DeclTree → Text → Bool
is_symbol_of_decls [] x = false
is_symbol_of_decls (d ∷ ds) x = is_symbol_of_type d.what x || is_symbol_of_decls ds x

-- the text is a symbol of one of the sections
abbrev pub is_symbol_of_sections : List SectionTree → Text → Bool
is_symbol_of_sections [] x = false
is_symbol_of_sections (var ds ∷ ss) x = is_symbol_of_decls ds x || is_symbol_of_sections ss x
is_symbol_of_sections (ivar ds ∷ ss) x = is_symbol_of_decls ds x || is_symbol_of_sections ss x
is_symbol_of_sections (frozen ds ∷ ss) x = is_symbol_of_decls ds x || is_symbol_of_sections ss x
is_symbol_of_sections (constants xs ∷ ss) x = is_among xs x || is_symbol_of_sections ss x
is_symbol_of_sections (_ ∷ ss) x = is_symbol_of_sections ss x

-- the text is a symbol of the program
abbrev pub is_symbol : ProgramTree → Text → Bool
is_symbol [] x = false
is_symbol (m ∷ ms) x = is_symbol_of_sections m.sections x || is_symbol ms x

-- a definition is a define of an instance by its name, or an actual of an instance by its number
pub data Key : Type 0 where
  define_key : Place → Text → Key
  actual_key : Place → ℕ → Key

-- what a dotted name means: a variable of an instance, the expression of a define or an actual with its
-- definition and the instance at which it is written, an instance, or a symbol
pub data Meaning : Type 0 where
  a_variable_at : Place → Text → Meaning
  an_expression_at : Key → Place → Formula → Meaning
  an_instance_at : Place → Meaning
  a_symbol : Text → Meaning

-- a look-up at an instance
abbrev pub LookUp : Type 0
LookUp = Place → Path → Option Meaning

-- an expression that is a name alone
abbrev pub plain_name : Formula → Option Path
plain_name (leaf name) = Some name
plain_name _ = None

-- an actual that is no plain name has no further part, and a leaf with no part means nothing
abbrev pub whole_actual : Key → Place → Formula → Path → Option Meaning
whole_actual key caller e [] = Some (an_expression_at key caller e)
whole_actual key caller e (x ∷ rest) = None

-- through an actual that is a name, the look-up goes on in the caller
abbrev pub through_plain : LookUp → Key → Place → Formula → Option Path → Path → Option Meaning
through_plain look key caller e (Some []) rest = None
through_plain look key caller e (Some (x ∷ name)) rest = look caller (x ∷ (name ++ rest))
through_plain look key caller e None rest = whole_actual key caller e rest

-- at a formal: the rest is looked up at the actual, in the caller's instance
abbrev pub through_actual : LookUp → Key → Place → Option Formula → Path → Option Meaning
through_actual look key caller None rest = None
through_actual look key caller (Some e) rest = through_plain look key caller e (plain_name e) rest

-- at a formal of an instance; main has no caller and so no actual
abbrev pub through_formal : LookUp → ProgramTree → Place → ℕ → Path → Option Meaning
through_formal look p [] i rest = None
through_formal look p (own ∷ caller) i rest =
    through_actual look (actual_key (own ∷ caller) i) caller (actual_of_kind (kind_at (module_at p caller) own) i) rest

-- the meaning of a name by what its first part is
abbrev pub by_kind : LookUp → ProgramTree → Place → Kind → Text → Path → Option Meaning
by_kind look p at (a_formal i) x rest = through_formal look p at i rest
by_kind look p at (a_variable role what) x [] = Some (a_variable_at at x)
by_kind look p at (a_define e) x [] = Some (an_expression_at (define_key at x) at e)
by_kind look p at (an_instance m actuals) x [] = Some (an_instance_at (x ∷ at))
by_kind look p at (an_instance m actuals) x (y ∷ rest) = look (x ∷ at) (y ∷ rest)
by_kind look p at undeclared x [] = if is_symbol p x then Some (a_symbol x) else None
by_kind look p at _ x _ = None

-- the meaning of a name, found in at most n steps from name to name
abbrev pub means_in : ℕ → ProgramTree → LookUp
means_in zero p at name = None
means_in (suc n) p at [] = None
means_in (suc n) p at (x ∷ rest) = by_kind (means_in n p) p at (kind_at (module_at p at) x) x rest

-- what a name means at an instance
abbrev pub Means : ProgramTree → Place → Path → Meaning → Type 0
Means p at name meaning = (n : ℕ) × (means_in n p at name ≡ Some meaning)
