-- What the second pass reads of a program, part by part, and what it leaves.
use Rattle.std.specs.Prelude.{ℕ, zero, suc, Bool, true, false, List, [], ◌∷◌, length, ◌||◌, if◌then◌else◌}
use Rattle.smv_language.specs.declared.program.Member.{Member}
use Rattle.smv_language.specs.declared.program.Member.TheVariants as member
use Rattle.smv_language.specs.declared.program.Moment.{Moment}
use Rattle.smv_language.specs.declared.program.Moment.TheVariants.{Always, First, After}
use Rattle.smv_language.specs.Language.{Text, Path, Formula, DeclaredTree, boolean, range, members, instance, DeclTree, DefineTree}
use Rattle.smv_language.specs.Language.{AssignmentTree, SectionTree, var, ivar, frozen, define, constants, assign, init, invar, trans}
use Rattle.smv_language.specs.Language.{ModuleTree, ProgramTree, Lexeme}
use Rattle.smv_expression_reader.specs.Marks.{is_section}
use Rattle.smv_expression_reader.specs.SecondPass.{Read, got, int_at, none, and_then, mark_at, rest_of, has_next, expect_at, name_at}
use Rattle.smv_expression_reader.specs.SecondPass.{expr_at, next_expr, each_at, some_at, past_semicolon}
use Rattle.smv_expression_reader.specs.declared.mark.Mark.{Mark}
use Rattle.smv_expression_reader.specs.declared.mark.Mark.TheVariants as mark

-- a name behind a dot or a comma
abbrev pub next_name : List Lexeme → Read Text
next_name ts = name_at (rest_of ts)

-- a name with dots
abbrev pub dotted_at : List Lexeme → Read Path
dotted_at ts = some_at (has_next mark.Dot) name_at next_name ts

-- names with commas between
abbrev pub names_at : List Lexeme → Read (List Text)
names_at ts = some_at (has_next mark.Comma) name_at next_name ts

-- a symbol or a number
abbrev pub member_at : List Lexeme → Read Member
member_at ts = if has_next mark.Name ts then and_then (name_at ts) (λ x r. got (member.Symbol x) r) else and_then (int_at ts)
    (λ n r. got (member.Number n) r)

-- a member behind a comma
abbrev pub next_member : List Lexeme → Read Member
next_member ts = member_at (rest_of ts)

-- members with commas between
abbrev pub members_at : List Lexeme → Read (List Member)
members_at ts = some_at (has_next mark.Comma) member_at next_member ts

-- members in braces, behind what opens them
abbrev pub braced_at : List Lexeme → Read DeclaredTree
braced_at ts = and_then (members_at ts) (λ ms r. and_then (expect_at mark.CloseBrace r) (λ _ s. got (members ms) s))

-- two numbers with dots between
abbrev pub range_at : List Lexeme → Read DeclaredTree
range_at ts = and_then (int_at ts) (λ lo r. and_then (expect_at mark.Dots r) (λ _ s. and_then (int_at s) (λ hi q. got (range lo hi) q)))

-- the type of a variable
abbrev pub type_at : List Lexeme → Read DeclaredTree
type_at ts = if has_next mark.Boolean ts then got boolean (rest_of ts) else
    (if has_next mark.OpenBrace ts then braced_at (rest_of ts) else range_at ts)

-- expressions with commas between
abbrev pub commas_at : List Lexeme → Read (List Formula)
commas_at ts = some_at (has_next mark.Comma) expr_at next_expr ts

-- what a reader reads, and the parenthesis behind it
abbrev pub closed_at : {A : Type 0} → (List Lexeme → Read A) → List Lexeme → Read A
closed_at inner ts = and_then (inner ts) (λ a r. and_then (expect_at mark.Close r) (λ _ s. got a s))

-- none, or some in parentheses
abbrev pub bracketed_at : {A : Type 0} → (List Lexeme → Read (List A)) → List Lexeme → Read (List A)
bracketed_at inner ts =
    if has_next mark.Open ts then (if has_next mark.Close (rest_of ts) then got [] (rest_of (rest_of ts)) else closed_at inner (rest_of ts)) else
    got [] ts

-- a module with its actuals
abbrev pub instance_at : List Lexeme → Read DeclaredTree
instance_at ts = and_then (name_at ts) (λ m r. and_then (bracketed_at commas_at r) (λ es s. got (instance m es) s))

-- an instance or a type
abbrev pub declared_at : List Lexeme → Read DeclaredTree
declared_at ts = if has_next mark.Name ts then instance_at ts else type_at ts

-- a name and what it is declared as, which a reader reads
abbrev pub decl_at : (List Lexeme → Read DeclaredTree) → List Lexeme → Read DeclTree
decl_at what ts =
    and_then (name_at ts)
    (λ x r. and_then (expect_at mark.Colon r)
    (λ _ s. and_then (what s) (λ d q. and_then (expect_at mark.Semicolon q) (λ _ z. got (record { name = x; what = d }) z))))

-- declarations, as long as a name stands next
abbrev pub decls_at : (List Lexeme → Read DeclaredTree) → List Lexeme → Read (List DeclTree)
decls_at what ts = each_at (has_next mark.Name) (decl_at what) (length ts) ts

-- an expression, and the semicolon behind it
abbrev pub value_at : List Lexeme → Read Formula
value_at ts = and_then (expr_at ts) (λ e r. and_then (expect_at mark.Semicolon r) (λ _ s. got e s))

-- a name and its value
abbrev pub define_at : List Lexeme → Read DefineTree
define_at ts = and_then (name_at ts) (λ x r. and_then (expect_at mark.Becomes r) (λ _ s. and_then (value_at s) (λ e q. got (record {
  name = x;
  value = e;
}) q)))

-- defines, as long as a name stands next
abbrev pub defines_at : List Lexeme → Read (List DefineTree)
defines_at ts = each_at (has_next mark.Name) define_at (length ts) ts

-- the moment of an assignment, and what stands behind its word
abbrev pub moment_at : List Lexeme → Moment
moment_at ts = if has_next mark.First ts then First else (if has_next mark.After ts then After else Always)

-- behind `init` or `next`
abbrev pub past_moment : List Lexeme → List Lexeme
past_moment ts = if has_next mark.First ts then rest_of ts else (if has_next mark.After ts then rest_of ts else ts)

-- a name in parentheses
abbrev pub opened_at : List Lexeme → Read Path
opened_at ts = and_then (expect_at mark.Open ts) (λ _ r. closed_at dotted_at r)

-- what is assigned for a moment
abbrev pub target_at : Moment → List Lexeme → Read Path
target_at Always ts = dotted_at ts
target_at First ts = opened_at ts
target_at After ts = opened_at ts

-- a target and its value
abbrev pub assignment_at : List Lexeme → Read AssignmentTree
assignment_at ts =
    and_then (target_at (moment_at ts) (past_moment ts))
    (λ d r. and_then (expect_at mark.Becomes r) (λ _ s. and_then (value_at s) (λ e q. got (record {
      when = moment_at ts;
      target = d;
      value = e;
    }) q)))

-- whether an assignment begins here
abbrev pub begins_assignment : List Lexeme → Bool
begins_assignment ts = has_next mark.Name ts || (has_next mark.First ts || has_next mark.After ts)

-- assignments, as long as another begins
abbrev pub assigns_at : List Lexeme → Read (List AssignmentTree)
assigns_at ts = each_at begins_assignment assignment_at (length ts) ts

-- names, and the semicolon behind them
abbrev pub constants_at : List Lexeme → Read (List Text)
constants_at ts = and_then (names_at ts) (λ xs r. and_then (expect_at mark.Semicolon r) (λ _ s. got xs s))

-- an expression, and a semicolon where one stands behind it
abbrev pub formula_at : List Lexeme → Read Formula
formula_at ts = and_then (expr_at ts) (λ e r. got e (past_semicolon r))

-- what stands behind a section that is passed over
abbrev pub past_skipped : List Lexeme → List Lexeme
past_skipped [] = []
past_skipped (t ∷ ts) = if is_section t then t ∷ ts else past_skipped ts

-- what follows the word of a section
abbrev pub section_at : Mark → List Lexeme → Read SectionTree
section_at mark.Var ts = and_then (decls_at declared_at ts) (λ ds r. got (var ds) r)
section_at mark.Ivar ts = and_then (decls_at type_at ts) (λ ds r. got (ivar ds) r)
section_at mark.Frozen ts = and_then (decls_at type_at ts) (λ ds r. got (frozen ds) r)
section_at mark.Define ts = and_then (defines_at ts) (λ ds r. got (define ds) r)
section_at mark.Constants ts = and_then (constants_at ts) (λ xs r. got (constants xs) r)
section_at mark.Assign ts = and_then (assigns_at ts) (λ xs r. got (assign xs) r)
section_at mark.Init ts = and_then (formula_at ts) (λ e r. got (init e) r)
section_at mark.Invar ts = and_then (formula_at ts) (λ e r. got (invar e) r)
section_at mark.Trans ts = and_then (formula_at ts) (λ e r. got (trans e) r)
section_at c ts = none

-- the mark is the word of a section that is not passed over
abbrev pub is_kept : Mark → Bool
is_kept mark.Var = true
is_kept mark.Ivar = true
is_kept mark.Frozen = true
is_kept mark.Define = true
is_kept mark.Constants = true
is_kept mark.Assign = true
is_kept mark.Init = true
is_kept mark.Invar = true
is_kept mark.Trans = true
is_kept c = false

-- sections one after another, without those that are passed over, at most so many
abbrev pub sections_at : ℕ → List Lexeme → Read (List SectionTree)
sections_at zero ts = got [] ts
sections_at (suc n) ts =
    if has_next mark.Skipped ts then sections_at n (past_skipped (rest_of ts)) else
    (if is_kept (mark_at ts) then and_then (section_at (mark_at ts) (rest_of ts)) (λ a r. and_then (sections_at n r) (λ more s. got (a
    ∷ more) s)) else got [] ts)

-- what follows the word of a module
abbrev pub module_at : List Lexeme → Read ModuleTree
module_at ts =
    and_then (name_at ts)
    (λ x r. and_then (bracketed_at names_at r) (λ fs s. and_then (sections_at (length s) s) (λ ss q. got (record {
      name = x;
      formals = fs;
      sections = ss;
    }) q)))

-- a module behind its word
abbrev pub next_module : List Lexeme → Read ModuleTree
next_module ts = module_at (rest_of ts)

-- modules one after another
abbrev pub program_at : List Lexeme → Read ProgramTree
program_at ts = each_at (has_next mark.Module) next_module (length ts) ts
