-- The expressions in a program, as it is spelled, and whether they are too deep.
use Rattle.std.specs.Prelude.{ℕ, List, [], ◌∷◌, ◌++◌}
use Rattle.smv_lexer.specs.declared.token.Token.{Token}
use Rattle.smv_lexer.specs.Tokens.{HasTokens}
use Rattle.smv_language.specs.Language.{Formula, DeclaredTree, DeclTree, DefineTree, AssignmentTree, SectionTree, ModuleTree, ProgramTree}
use Rattle.smv_language.specs.Language.{Lexeme, lexemes_of, SpellsCommas, last_one, one_comma, SpellsBracketed, no_brackets, brackets}
use Rattle.smv_language.specs.Language.{SpellsExpr, SpellsDeclared, is_type, is_instance, is_empty_instance, SpellsDecl, declares}
use Rattle.smv_language.specs.Language.{SpellsDefine, defines, SpellsAssignment, assigns, SpellsSection, a_var, an_ivar, a_frozen}
use Rattle.smv_language.specs.Language.{some_constants, an_assign, an_init, an_invar, a_trans, SpellsSections, no_section, a_section}
use Rattle.smv_language.specs.Language.{skipped, SpellsModule, a_module, SpellsProgram, BytesSpellProgram}
use Rattle.smv_language.specs.SpellsProgram.{a_define}
use Rattle.smv_expression_reader.specs.ExpressionDepths.{Spelling, AreWithin, spelling, in_formula, in_many}

-- those of parts with commas between
abbrev pub in_commas : {A : Type 0} (One : List Lexeme → A → Type 0) (within : (ts : List Lexeme) (a : A) → One ts a →
    List Spelling) {ts : List Lexeme} {list : List A} →
    SpellsCommas One ts list → List Spelling
in_commas One within (last_one {ts} {a} p) = within ts a p
in_commas One within (one_comma {ts} {us} {a} p q) = within ts a p ++ in_commas One within q

-- the expression of an actual
abbrev pub in_actual : (ts : List Lexeme) (e : Formula) → SpellsExpr ts e → List Spelling
in_actual ts e p = spelling p ∷ []

-- those of the actuals of an instance
abbrev pub in_actuals : {ts : List Lexeme} {es : List Formula} → SpellsBracketed SpellsExpr ts es → List Spelling
in_actuals no_brackets = []
in_actuals (brackets p) = in_commas SpellsExpr in_actual p

-- those of what a name is declared as
abbrev pub in_declared : (ts : List Lexeme) (d : DeclaredTree) → SpellsDeclared ts d → List Spelling
in_declared ts d (is_type p) = []
in_declared ts d (is_instance m p) = in_actuals p
in_declared ts d (is_empty_instance m) = []

-- those of a declaration
abbrev pub in_decl : (What : List Lexeme → DeclaredTree → Type 0) (within : (ts : List Lexeme) (d : DeclaredTree) → What ts d →
    List Spelling) (ts : List Lexeme) (d : DeclTree) →
    SpellsDecl What ts d → List Spelling
in_decl What within ts d (declares {ts = us} {t} n p) = within us t p

-- the value of a define
abbrev pub in_define : (ts : List Lexeme) (d : DefineTree) → SpellsDefine ts d → List Spelling
in_define ts d (defines n p) = spelling p ∷ []

-- the value of an assignment
abbrev pub in_assignment : (ts : List Lexeme) (a : AssignmentTree) → SpellsAssignment ts a → List Spelling
in_assignment ts a (assigns target p) = spelling p ∷ []

-- the expressions of a section
abbrev pub in_section : {ts : List Lexeme} {s : SectionTree} → SpellsSection ts s → List Spelling
in_section (a_var p) = in_many (SpellsDecl SpellsDeclared) (in_decl SpellsDeclared in_declared) p
in_section (an_ivar p) = []
in_section (a_frozen p) = []
in_section (a_define p) = in_many SpellsDefine in_define p
in_section (some_constants p) = []
in_section (an_assign p) = in_many SpellsAssignment in_assignment p
in_section (an_init p) = in_formula p ∷ []
in_section (an_invar p) = in_formula p ∷ []
in_section (a_trans p) = in_formula p ∷ []

-- those of the sections of a module
abbrev pub in_sections : {ts : List Lexeme} {ss : List SectionTree} → SpellsSections ts ss → List Spelling
in_sections no_section = []
in_sections (a_section p q) = in_section p ++ in_sections q
in_sections (skipped x ts h none q) = in_sections q

-- those of a module
abbrev pub in_module : (ts : List Lexeme) (m : ModuleTree) → SpellsModule ts m → List Spelling
in_module ts m (a_module n fs p) = in_sections p

-- the expressions of a program; what is passed over has none
abbrev pub in_program : {ts : List Lexeme} {p : ProgramTree} → SpellsProgram ts p → List Spelling
in_program p = in_many SpellsModule in_module p

-- each of the expressions of a program is within the depths, as the bytes spell them
abbrev pub HasProgramDepths : List ℕ → ProgramTree → Type 0
HasProgramDepths bytes p = (tokens : List Token) → HasTokens bytes tokens → (spelled : SpellsProgram (lexemes_of bytes tokens) p) →
    AreWithin (in_program spelled)

-- the bytes spell a program, but not each of its expressions within the depths
pub record IsProgramTooDeep (bytes : List ℕ) : Type 0 where
  pub program : ProgramTree
  pub spelled : BytesSpellProgram bytes program
  pub deep : HasProgramDepths bytes program → ⊥
