-- The programs that can be written: every name is a name, every number fits, and what is listed is not empty.
use Rattle.std.specs.Prelude.{◌≢◌, []}
use Rattle.smv_language.specs.declared.program.Member.{Member}
use Rattle.smv_language.specs.declared.program.Member.TheVariants as member
use Rattle.smv_language.specs.ProgramTree.{DeclaredTree, boolean, range, members, instance, DeclTree, DefineTree, AssignmentTree}
use Rattle.smv_language.specs.ProgramTree.{SectionTree, var, ivar, frozen, define, constants, assign, init, invar, trans, ModuleTree}
use Rattle.smv_language.specs.ProgramTree.{ProgramTree}
use Rattle.smv_language.specs.Values.{Value, truth, number, symbol}
use Rattle.smv_language.specs.PrintedTokens.{IsName, AreNames, IsEnd, IsWritable}
use Rattle.smv_language.specs.Trace.{Each}

-- a value
abbrev pub IsPlain : Value → Type 0
IsPlain (truth b) = Unit {0}
IsPlain (number n) = IsEnd n
IsPlain (symbol x) = IsName x

-- a member of a type
abbrev pub IsWritableMember : Member → Type 0
IsWritableMember (member.Number n) = IsEnd n
IsWritableMember (member.Symbol x) = IsName x

-- a type, and no instance
abbrev pub IsWritableType : DeclaredTree → Type 0
IsWritableType boolean = Unit {0}
IsWritableType (range lo hi) = IsEnd lo × IsEnd hi
IsWritableType (members ms) = (ms ≢ []) × Each IsWritableMember ms
IsWritableType (instance m actuals) = ⊥

-- a type, or an instance whose actuals can be written
abbrev pub IsWritableDeclared : DeclaredTree → Type 0
IsWritableDeclared (instance m actuals) = IsName m × Each IsWritable actuals
IsWritableDeclared boolean = Unit {0}
IsWritableDeclared (range lo hi) = IsEnd lo × IsEnd hi
IsWritableDeclared (members ms) = (ms ≢ []) × Each IsWritableMember ms

-- a declaration of a state variable or an instance
abbrev pub IsWritableDecl : DeclTree → Type 0
IsWritableDecl d = IsName d.name × IsWritableDeclared d.what

-- a declaration of an input or of a frozen variable
abbrev pub IsWritableTyped : DeclTree → Type 0
IsWritableTyped d = IsName d.name × IsWritableType d.what

-- a define
abbrev pub IsWritableDefine : DefineTree → Type 0
IsWritableDefine d = IsName d.name × IsWritable d.value

-- an assignment to a name
abbrev pub IsWritableAssignment : AssignmentTree → Type 0
IsWritableAssignment a = (a.target ≢ []) × AreNames a.target × IsWritable a.value

-- a section
abbrev pub IsWritableSection : SectionTree → Type 0
IsWritableSection (var ds) = Each IsWritableDecl ds
IsWritableSection (ivar ds) = Each IsWritableTyped ds
IsWritableSection (frozen ds) = Each IsWritableTyped ds
IsWritableSection (define ds) = Each IsWritableDefine ds
IsWritableSection (constants xs) = (xs ≢ []) × Each IsName xs
IsWritableSection (assign list) = Each IsWritableAssignment list
IsWritableSection (init e) = IsWritable e
IsWritableSection (invar e) = IsWritable e
IsWritableSection (trans e) = IsWritable e

-- a module
abbrev pub IsWritableModule : ModuleTree → Type 0
IsWritableModule m = IsName m.name × Each IsName m.formals × Each IsWritableSection m.sections

-- a program
abbrev pub IsWritableProgram : ProgramTree → Type 0
IsWritableProgram p = Each IsWritableModule p
