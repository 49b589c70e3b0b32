-- A short text of a program is within the depths where no expression of the program is too high.
use Rattle.std.proofs.Common.{ℕ, ◌*◌, ◌≤◌, arith, List, [], ◌∷◌, ◌++◌, length, length-append}
use Rattle.base_values.specs.declared.limits.TheConstants.{MOST_HEIGHT, MOST_NESTED}
use Rattle.smv_lexer.specs.declared.token.TokenKind.TheVariants as k
use Rattle.smv_language.specs.Language.{height_of, Formula, DeclaredTree, boolean, range, members, instance, DeclTree, DefineTree, AssignmentTree, SectionTree, var, ivar, frozen, define, constants, assign, init, invar, trans, ModuleTree, ProgramTree, Each, Lexeme, sign, SpellsMany, no_more, one_more, SpellsCommas, last_one, one_comma, SpellsBracketed, no_brackets, brackets, SpellsExpr, SpellsFormula, open_ended, ended, SpellsDeclared, is_type, is_instance, is_empty_instance, SpellsDecl, declares, SpellsDefine, defines, SpellsAssignment, assigns, SpellsSection, a_var, an_ivar, a_frozen, some_constants, an_assign, an_init, an_invar, a_trans, SpellsSections, no_section, a_section, skipped, SpellsModule, a_module}
use Rattle.smv_language.specs.SpellsProgram.{a_define}
use Rattle.smv_expression_reader.specs.ExpressionDepths.{Spelling, AreWithin, spelling, in_formula, in_many}
use Rattle.smv_model_reader.specs.ProgramDepths.{in_commas, in_actual, in_actuals, in_declared, in_decl, in_define, in_assignment, in_section, in_sections, in_module, HasProgramDepths}
use Rattle.fault_generator_laws.proofs.Short.{spelling_long, lexemes_short}

-- no expression is higher than the limit
abbrev pub IsLow : Formula → Type 0
IsLow e = height_of e ≤ MOST_HEIGHT

abbrev IsLowDeclared : DeclaredTree → Type 0
IsLowDeclared (instance m actuals) = Each IsLow actuals
IsLowDeclared boolean = Unit {0}
IsLowDeclared (range lo hi) = Unit {0}
IsLowDeclared (members ms) = Unit {0}

abbrev pub IsLowDecl : DeclTree → Type 0
IsLowDecl d = IsLowDeclared d.what

abbrev IsLowDefine : DefineTree → Type 0
IsLowDefine d = IsLow d.value

abbrev IsLowAssignment : AssignmentTree → Type 0
IsLowAssignment a = IsLow a.value

abbrev IsLowSection : SectionTree → Type 0
IsLowSection (var ds) = Each IsLowDecl ds
IsLowSection (ivar ds) = Unit {0}
IsLowSection (frozen ds) = Unit {0}
IsLowSection (define ds) = Each IsLowDefine ds
IsLowSection (constants xs) = Unit {0}
IsLowSection (assign list) = Each IsLowAssignment list
IsLowSection (init e) = IsLow e
IsLowSection (invar e) = IsLow e
IsLowSection (trans e) = IsLow e

abbrev IsLowModule : ModuleTree → Type 0
IsLowModule m = Each IsLowSection m.sections

abbrev pub IsLowProgram : ProgramTree → Type 0
IsLowProgram p = Each IsLowModule p

-- as short a text
abbrev pub IsShort : List Lexeme → Type 0
IsShort ts = length ts ≤ 2 * MOST_NESTED

pub within_both : (xs ys : List Spelling) → AreWithin xs → AreWithin ys → AreWithin (xs ++ ys)
within_both [] ys h k = k
within_both (x ∷ xs) ys h k = (h.0, within_both xs ys h.1 k)

front_short : (ts us : List Lexeme) → IsShort (ts ++ us) → IsShort ts
front_short ts us h = omega (arith, h, length-append ts us)

pub back_short : (ts us : List Lexeme) → IsShort (ts ++ us) → IsShort us
back_short ts us h = omega (arith, h, length-append ts us)

expr_within : (ts : List Lexeme) (e : Formula) (p : SpellsExpr ts e) → IsShort ts → IsLow e → AreWithin (spelling p ∷ [])
expr_within ts e p short low = (record { low = low; flat = omega (arith, spelling_long p, short) }, tt)

formula_within : (ts : List Lexeme) (e : Formula) (p : SpellsFormula ts e) → IsShort ts → IsLow e → AreWithin (in_formula p ∷ [])
formula_within ts e (open_ended p) short low = expr_within ts e p short low
formula_within ts e (ended {ts = us} p) short low = expr_within us e p (front_short us (sign k.Semicolon ∷ []) short) low

pub many_within : {A : Type 0} (One : List Lexeme → A → Type 0) (within : (ts : List Lexeme) (a : A) → One ts a → List Spelling) (Low : A → Type 0) →
    ((ts : List Lexeme) (a : A) (p : One ts a) → IsShort ts → Low a → AreWithin (within ts a p)) → {ts : List Lexeme} {list : List A} (p : SpellsMany One ts list) → IsShort ts → Each Low list →
    AreWithin (in_many One within p)
many_within One within Low each no_more short low = tt
many_within One within Low each (one_more {ts = ts} {us = us} {a = a} p q) short low =
    within_both (within ts a p) (in_many One within q) (each ts a p (front_short ts us short) low.0) (many_within One within Low each q (back_short ts us short) low.1)

actuals_within : {ts : List Lexeme} {es : List Formula} (p : SpellsCommas SpellsExpr ts es) → IsShort ts → Each IsLow es → AreWithin (in_commas SpellsExpr in_actual p)
actuals_within (last_one {ts = ts} {a = e} p) short low = expr_within ts e p short low.0
actuals_within (one_comma {ts = ts} {us = us} {a = e} p q) short low =
    within_both (in_actual ts e p) (in_commas SpellsExpr in_actual q) (expr_within ts e p (front_short ts (sign k.Comma ∷ us) short) low.0)
    (actuals_within q (omega (arith, back_short ts (sign k.Comma ∷ us) short)) low.1)

bracketed_within : {ts : List Lexeme} {es : List Formula} (p : SpellsBracketed SpellsExpr ts es) → IsShort ts → Each IsLow es → AreWithin (in_actuals p)
bracketed_within no_brackets short low = tt
bracketed_within (brackets {ts = ts} p) short low = actuals_within p (front_short ts (sign k.Close ∷ []) (omega (arith, short))) low

declared_within : (ts : List Lexeme) (d : DeclaredTree) (p : SpellsDeclared ts d) → IsShort ts → IsLowDeclared d → AreWithin (in_declared ts d p)
declared_within ts d (is_type p) short low = tt
declared_within ts d (is_instance m p) short low = bracketed_within p (omega (arith, short)) low
declared_within ts d (is_empty_instance m) short low = tt

decl_within : (ts : List Lexeme) (d : DeclTree) (p : SpellsDecl SpellsDeclared ts d) → IsShort ts → IsLowDecl d → AreWithin (in_decl SpellsDeclared in_declared ts d p)
decl_within ts d (declares {ts = us} {t = t} n p) short low = declared_within us t p (front_short us (sign k.Semicolon ∷ []) (omega (arith, short))) low

define_within : (ts : List Lexeme) (d : DefineTree) (p : SpellsDefine ts d) → IsShort ts → IsLowDefine d → AreWithin (in_define ts d p)
define_within ts d (defines {ts = us} {e = e} n p) short low = expr_within us e p (front_short us (sign k.Semicolon ∷ []) (omega (arith, short))) low

assignment_within : (ts : List Lexeme) (a : AssignmentTree) (p : SpellsAssignment ts a) → IsShort ts → IsLowAssignment a → AreWithin (in_assignment ts a p)
assignment_within ts a (assigns {xs = xs} {ts = us} {e = e} target p) short low =
    expr_within us e p (front_short us (sign k.Semicolon ∷ []) (omega (arith, back_short xs (sign k.Becomes ∷ (us ++ sign k.Semicolon ∷ [])) short))) low

section_within : (ts : List Lexeme) (s : SectionTree) (p : SpellsSection ts s) → IsShort ts → IsLowSection s → AreWithin (in_section p)
section_within ts s (a_var p) short low = many_within (SpellsDecl SpellsDeclared) (in_decl SpellsDeclared in_declared) IsLowDecl decl_within p (omega (arith, short)) low
section_within ts s (an_ivar p) short low = tt
section_within ts s (a_frozen p) short low = tt
section_within ts s (a_define p) short low = many_within SpellsDefine in_define IsLowDefine define_within p (omega (arith, short)) low
section_within ts s (some_constants p) short low = tt
section_within ts s (an_assign p) short low = many_within SpellsAssignment in_assignment IsLowAssignment assignment_within p (omega (arith, short)) low
section_within ts s (an_init {ts = us} {e = e} p) short low = formula_within us e p (omega (arith, short)) low
section_within ts s (an_invar {ts = us} {e = e} p) short low = formula_within us e p (omega (arith, short)) low
section_within ts s (a_trans {ts = us} {e = e} p) short low = formula_within us e p (omega (arith, short)) low

sections_within : {ts : List Lexeme} {ss : List SectionTree} (p : SpellsSections ts ss) → IsShort ts → Each IsLowSection ss → AreWithin (in_sections p)
sections_within no_section short low = tt
sections_within (a_section {ts = ts} {us = us} {s = s} p q) short low =
    within_both (in_section p) (in_sections q) (section_within ts s p (front_short ts us short) low.0) (sections_within q (back_short ts us short) low.1)
sections_within (skipped x ts {us = us} h none q) short low = sections_within q (back_short ts us (omega (arith, short))) low

module_within : (ts : List Lexeme) (m : ModuleTree) (p : SpellsModule ts m) → IsShort ts → IsLowModule m → AreWithin (in_module ts m p)
module_within ts m (a_module {fs = fs} {ts = us} n formals p) short low = sections_within p (back_short fs us (omega (arith, short))) low

pub short_has_depths : (bytes : List ℕ) (p : ProgramTree) → length bytes ≤ 2 * MOST_NESTED → IsLowProgram p → HasProgramDepths bytes p
short_has_depths bytes p short low tokens split spelled = many_within SpellsModule in_module IsLowModule module_within spelled (omega (arith, lexemes_short bytes tokens split, short)) low
