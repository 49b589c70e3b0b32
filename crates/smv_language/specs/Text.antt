-- The text of expressions and programs, as bytes.
use Rattle.std.specs.Prelude.{ℤ, true, false, List, [], ◌∷◌, ◌++◌, map, codes}
use Rattle.std.specs.Fmt.{signed_decimal}
use Rattle.smv_language.specs.declared.expr.Op.{Op}
use Rattle.smv_language.specs.declared.expr.Op.TheVariants as op
use Rattle.smv_language.specs.declared.program.Member.{Member}
use Rattle.smv_language.specs.declared.program.Member.TheVariants as member
use Rattle.smv_language.specs.declared.program.Moment.{Moment}
use Rattle.smv_language.specs.declared.program.Moment.TheVariants.{Always, First, After}
use Rattle.smv_language.specs.Tree.{Tree, Trees, Branches, truth, number, leaf, not_of, negate, next_of, binary, choice, case_of, set_of}
use Rattle.smv_language.specs.Tree.{span, no_tree, tree_then, no_branch, branch_then}
use Rattle.smv_language.specs.ProgramTree.{Text, Path, DeclaredTree, boolean, range, members, instance, DeclTree, DefineTree}
use Rattle.smv_language.specs.ProgramTree.{AssignmentTree, SectionTree, var, ivar, frozen, define, constants, assign, init, invar, trans}
use Rattle.smv_language.specs.ProgramTree.{ModuleTree, ProgramTree}

-- an operator with a space on each side
abbrev pub op_text : Op → Text
op_text op.Times = codes " * "
op_text op.Over = codes " / "
op_text op.Mod = codes " mod "
op_text op.Plus = codes " + "
op_text op.Minus = codes " - "
op_text op.Union = codes " union "
op_text op.Within = codes " in "
op_text op.Equal = codes " = "
op_text op.Differs = codes " != "
op_text op.Less = codes " < "
op_text op.Greater = codes " > "
op_text op.AtMost = codes " <= "
op_text op.AtLeast = codes " >= "
op_text op.And = codes " & "
op_text op.Or = codes " | "
op_text op.Xor = codes " xor "
op_text op.Xnor = codes " xnor "
op_text op.Iff = codes " <-> "
op_text op.Implies = codes " -> "

-- each text after the same mark
abbrev pub each_after : Text → List Text → Text
each_after mark [] = []
each_after mark (x ∷ xs) = mark ++ (x ++ each_after mark xs)

-- texts with a mark between
abbrev pub joined : Text → List Text → Text
joined mark [] = []
joined mark (x ∷ xs) = x ++ each_after mark xs

-- arguments, with a comma and a space between
abbrev pub commas : List Text → Text
commas xs = joined (codes ", ") xs

-- names, with dots between
abbrev pub dotted_text : Path → Text
dotted_text p = joined (codes ".") p

-- a number to another
abbrev pub span_text : ℤ → ℤ → Text
span_text lo hi = signed_decimal lo ++ (codes ".." ++ signed_decimal hi)

-- a span stands in parentheses where a minus stands before it, since that minus would be read as the
-- sign of its first number
abbrev pub after_minus : {L : Type 0} → Tree L → Text → Text
after_minus (span lo hi) text = codes "(" ++ (text ++ codes ")")
after_minus _ text = text

-- an expression: atoms are bare, and every other expression stands in parentheses
abbrev mutual
  pub text_of : Tree Path → Text
  text_of (truth true) = codes "TRUE"
  text_of (truth false) = codes "FALSE"
  text_of (number n) = signed_decimal n
  text_of (leaf p) = dotted_text p
  text_of (not_of a) = codes "(!" ++ (text_of a ++ codes ")")
  text_of (negate a) = codes "(-" ++ (after_minus a (text_of a) ++ codes ")")
  text_of (next_of a) = codes "next(" ++ (text_of a ++ codes ")")
  text_of (binary o a b) = codes "(" ++ (text_of a ++ (op_text o ++ (text_of b ++ codes ")")))
  text_of (choice c a b) = codes "(" ++ (text_of c ++ (codes " ? " ++ (text_of a ++ (codes " : " ++ (text_of b ++ codes ")")))))
  text_of (case_of bs) = codes "case " ++ (branches_text bs ++ codes "esac")
  text_of (set_of ts) = codes "{" ++ (commas (trees_texts ts) ++ codes "}")
  text_of (span lo hi) = span_text lo hi

  -- the texts of the members of a set
  pub trees_texts : Trees Path → List Text
  trees_texts no_tree = []
  trees_texts (tree_then t ts) = text_of t ∷ trees_texts ts

  -- the branches of a case, each with a space at its end
  pub branches_text : Branches Path → Text
  branches_text no_branch = []
  branches_text (branch_then c a bs) = text_of c ++ (codes " : " ++ (text_of a ++ (codes "; " ++ branches_text bs)))

-- what follows a name in parentheses; nothing where there is none
abbrev pub in_brackets : List Text → Text
in_brackets [] = []
in_brackets (x ∷ xs) = codes "(" ++ (commas (x ∷ xs) ++ codes ")")

-- a member of a type
abbrev pub member_text : Member → Text
member_text (member.Number n) = signed_decimal n
member_text (member.Symbol x) = x

-- a type, or an instance
abbrev pub declared_text : DeclaredTree → Text
declared_text boolean = codes "boolean"
declared_text (range lo hi) = span_text lo hi
declared_text (members ms) = codes "{" ++ (commas (map member_text ms) ++ codes "}")
declared_text (instance m actuals) = m ++ in_brackets (map text_of actuals)

-- the target of an assignment, by the moments of which it speaks
abbrev pub target_text : Moment → Path → Text
target_text Always x = dotted_text x
target_text First x = codes "init(" ++ (dotted_text x ++ codes ")")
target_text After x = codes "next(" ++ (dotted_text x ++ codes ")")

-- an item stands on a line after two spaces, and a semicolon ends it
abbrev pub line : Text → Text
line item = codes "  " ++ (item ++ codes ";\n")

-- a declaration
abbrev pub decl_line : DeclTree → Text
decl_line d = line (d.name ++ (codes " : " ++ declared_text d.what))

-- a define
abbrev pub define_line : DefineTree → Text
define_line d = line (d.name ++ (codes " := " ++ text_of d.value))

-- an assignment
abbrev pub assignment_line : AssignmentTree → Text
assignment_line a = line (target_text a.when a.target ++ (codes " := " ++ text_of a.value))

-- texts, one after another
abbrev pub all_of : List Text → Text
all_of [] = []
all_of (x ∷ xs) = x ++ all_of xs

-- the names of a section of constants on one line; none where there is no name
abbrev pub constants_text : List Text → Text
constants_text [] = []
constants_text (x ∷ xs) = line (commas (x ∷ xs))

-- a section: its word on a line of its own, then its items
abbrev pub section_text : SectionTree → Text
section_text (var ds) = codes "VAR\n" ++ all_of (map decl_line ds)
section_text (ivar ds) = codes "IVAR\n" ++ all_of (map decl_line ds)
section_text (frozen ds) = codes "FROZENVAR\n" ++ all_of (map decl_line ds)
section_text (define ds) = codes "DEFINE\n" ++ all_of (map define_line ds)
section_text (constants xs) = codes "CONSTANTS\n" ++ constants_text xs
section_text (assign list) = codes "ASSIGN\n" ++ all_of (map assignment_line list)
section_text (init e) = codes "INIT\n" ++ line (text_of e)
section_text (invar e) = codes "INVAR\n" ++ line (text_of e)
section_text (trans e) = codes "TRANS\n" ++ line (text_of e)

-- a module: its first line, then its sections in order
abbrev pub module_text : ModuleTree → Text
module_text m = codes "MODULE " ++ (m.name ++ (in_brackets m.formals ++ (codes "\n" ++ all_of (map section_text m.sections))))

-- a program: its modules in order
abbrev pub program_text : ProgramTree → Text
program_text p = all_of (map module_text p)
