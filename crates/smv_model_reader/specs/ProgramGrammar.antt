-- The grammar of programs, as one that is read by one lexeme at a time.
use Rattle.std.specs.Prelude.{◌≡◌, ◌⊎◌, refl, Bool, true, false, List, [], ◌∷◌, ◌++◌, Option, Some, None, ◌||◌, codes}
use Rattle.smv_lexer.specs.declared.token.TokenKind.TheVariants as k
use Rattle.smv_language.specs.Language.{Text, Formula, DeclaredTree, DeclTree, DefineTree, AssignmentTree, SectionTree, ProgramTree, Path}
use Rattle.smv_language.specs.Language.{Lexeme, word, num, sign, SpellsInt, SpellsDotted, SpellsMany, SpellsBracketed, SpellsName}
use Rattle.smv_language.specs.Language.{SpellsExpr, SpellsMember, SpellsType, SpellsDeclared, SpellsDecl, SpellsDefine, SpellsAssignment}
use Rattle.smv_language.specs.Language.{SpellsFormals, SpellsSections, SpellsModule, HasNoSection}
use Rattle.smv_language.specs.declared.program.Member.{Member}
use Rattle.smv_expression_reader.specs.Recogniser.{role_of, State, is_whole, is_stuck, start}
use Rattle.smv_expression_reader.specs.Recogniser as machine
use Rattle.smv_expression_reader.specs.Complete.{completion}
use Rattle.smv_expression_reader.specs.Expected as expected
use Rattle.smv_expression_reader.specs.PredictiveReader.{Grammar}
use Rattle.smv_expression_reader.specs.Marks.{mark_of, is_section, is_mark}
use Rattle.smv_expression_reader.specs.Stops.{IsExpression}
use Rattle.smv_expression_reader.specs.declared.mark.Mark.{Mark}
use Rattle.smv_expression_reader.specs.declared.mark.Mark.TheVariants as mark

-- the lexemes that stand alone between others
pub data Single : Type 0 where
  the_name : Single
  the_number : Single
  the_colon : Single
  the_becomes : Single
  the_semicolon : Single
  the_open : Single
  the_close : Single
  the_dots : Single

-- the parts of a program that may still be expected
pub data Sym : Type 0 where
  single : Single → Sym
  formula : (st : State) → is_stuck st ≡ false → Sym
  modules : Sym
  formals : Sym
  first_formal : Sym
  more_formals : Sym
  sections : Sym
  decls : Sym
  type_decls : Sym
  declared : Sym
  type : Sym
  actuals : Sym
  first_actual : Sym
  more_actuals : Sym
  int : Sym
  member : Sym
  more_members : Sym
  defines : Sym
  more_constants : Sym
  assigns : Sym
  more_dots : Sym
  skip : Sym
  last_semicolon : Sym

-- members after the first, each after a comma, up to what closes
pub data Tail (One : List Lexeme → Type 0) (end : Lexeme) : List Lexeme → Type 0 where
  tail_end : Tail One end (end ∷ [])
  tail_more : {xs ys : List Lexeme} → One xs → Tail One end ys → Tail One end (sign k.Comma ∷ (xs ++ ys))

-- the mark of a single lexeme
abbrev pub mark_of_single : Single → Mark
mark_of_single the_name = mark.Name
mark_of_single the_number = mark.Number
mark_of_single the_colon = mark.Colon
mark_of_single the_becomes = mark.Becomes
mark_of_single the_semicolon = mark.Semicolon
mark_of_single the_open = mark.Open
mark_of_single the_close = mark.Close
mark_of_single the_dots = mark.Dots

-- the mark is that of the lexeme
abbrev pub is_single : Single → Mark → Bool
is_single w c = is_mark c (mark_of_single w)

-- the list is some name
abbrev pub IsName : List Lexeme → Type 0
IsName ts = (x : Text) × SpellsName ts x

-- the list is some member of a type
abbrev pub IsMember : List Lexeme → Type 0
IsMember ts = (m : Member) × SpellsMember ts m

-- the list is some formals
abbrev pub IsFormals : List Lexeme → Type 0
IsFormals ts = (xs : List Text) × SpellsFormals ts xs

-- the list is actuals in parentheses, perhaps none
abbrev pub IsActuals : List Lexeme → Type 0
IsActuals ts = (ts ≡ sign k.Open ∷ sign k.Close ∷ []) ⊎ ((es : List Formula) × SpellsBracketed SpellsExpr ts es)

-- which lists a part stands for
abbrev pub spelled : Sym → List Lexeme → Type 0
spelled (single w) ts = (t : Lexeme) × (ts ≡ t ∷ []) × (is_single w (mark_of t) ≡ true)
spelled (formula st h) ts = is_whole (machine.run st ts) ≡ true
spelled modules ts = (p : ProgramTree) × SpellsMany SpellsModule ts p
spelled formals ts = IsFormals ts
spelled first_formal ts = IsFormals (sign k.Open ∷ ts)
spelled more_formals ts = Tail IsName (sign k.Close) ts
spelled sections ts = (ss : List SectionTree) × SpellsSections ts ss
spelled decls ts = (ds : List DeclTree) × SpellsMany (SpellsDecl SpellsDeclared) ts ds
spelled type_decls ts = (ds : List DeclTree) × SpellsMany (SpellsDecl SpellsType) ts ds
spelled declared ts = (d : DeclaredTree) × SpellsDeclared ts d
spelled type ts = (d : DeclaredTree) × SpellsType ts d
spelled actuals ts = IsActuals ts
spelled first_actual ts = IsActuals (sign k.Open ∷ ts)
spelled more_actuals ts = Tail IsExpression (sign k.Close) ts
spelled int ts = (n : _) × SpellsInt ts n
spelled member ts = IsMember ts
spelled more_members ts = Tail IsMember (sign k.CloseBrace) ts
spelled defines ts = (ds : List DefineTree) × SpellsMany SpellsDefine ts ds
spelled more_constants ts = Tail IsName (sign k.Semicolon) ts
spelled assigns ts = (list : List AssignmentTree) × SpellsMany SpellsAssignment ts list
spelled more_dots ts = (ts ≡ []) ⊎ ((us : List Lexeme) × (ts ≡ sign k.Dot ∷ us) × ((p : Path) × SpellsDotted us p))
spelled skip ts = HasNoSection ts
spelled last_semicolon ts = (ts ≡ []) ⊎ (ts ≡ sign k.Semicolon ∷ [])

-- whether it may be nothing
abbrev pub empty : Sym → Bool
empty (formula st h) = is_whole st
empty modules = true
empty formals = true
empty sections = true
empty decls = true
empty type_decls = true
empty actuals = true
empty defines = true
empty assigns = true
empty more_dots = true
empty skip = true
empty last_semicolon = true
empty _ = false

-- a whole expression
abbrev pub expr : Sym
expr = formula start refl

-- an expression in this state before other parts, where it goes on
abbrev pub live : State → List Sym → Option (List Sym)
live = expected.live formula

-- nothing more, where the lexeme fits
abbrev pub alone : Bool → Option (List Sym)
alone true = Some []
alone false = None

-- what is passed over goes on, unless a section begins
abbrev pub passing : Bool → Option (List Sym)
passing true = None
passing false = Some (skip ∷ [])

-- what is still expected of a type after a mark
abbrev pub after_type : Mark → Option (List Sym)
after_type mark.Boolean = Some []
after_type mark.Number = Some (single the_dots ∷ int ∷ [])
after_type mark.Minus = Some (single the_number ∷ single the_dots ∷ int ∷ [])
after_type mark.OpenBrace = Some (member ∷ more_members ∷ [])
after_type _ = None

-- the same of what a name is declared as
abbrev pub after_declared : Mark → Option (List Sym)
after_declared mark.Name = Some (actuals ∷ [])
after_declared c = after_type c

-- the same of a section by its word
abbrev pub after_section : Mark → Option (List Sym)
after_section mark.Var = Some (decls ∷ sections ∷ [])
after_section mark.Ivar = Some (type_decls ∷ sections ∷ [])
after_section mark.Frozen = Some (type_decls ∷ sections ∷ [])
after_section mark.Define = Some (defines ∷ sections ∷ [])
after_section mark.Constants = Some (single the_name ∷ more_constants ∷ sections ∷ [])
after_section mark.Assign = Some (assigns ∷ sections ∷ [])
after_section mark.Init = Some (expr ∷ last_semicolon ∷ sections ∷ [])
after_section mark.Invar = Some (expr ∷ last_semicolon ∷ sections ∷ [])
after_section mark.Trans = Some (expr ∷ last_semicolon ∷ sections ∷ [])
after_section mark.Skipped = Some (skip ∷ sections ∷ [])
after_section _ = None

-- the same of each part whose mark decides
abbrev pub after : Sym → Mark → Option (List Sym)
after modules mark.Module = Some (single the_name ∷ formals ∷ sections ∷ modules ∷ [])
after formals mark.Open = Some (first_formal ∷ [])
after first_formal mark.Close = Some []
after first_formal mark.Name = Some (more_formals ∷ [])
after more_formals mark.Close = Some []
after more_formals mark.Comma = Some (single the_name ∷ more_formals ∷ [])
after sections c = after_section c
after decls mark.Name = Some (single the_colon ∷ declared ∷ single the_semicolon ∷ decls ∷ [])
after type_decls mark.Name = Some (single the_colon ∷ type ∷ single the_semicolon ∷ type_decls ∷ [])
after declared c = after_declared c
after type c = after_type c
after actuals mark.Open = Some (first_actual ∷ [])
after more_actuals mark.Close = Some []
after more_actuals mark.Comma = Some (expr ∷ more_actuals ∷ [])
after int mark.Number = Some []
after int mark.Minus = Some (single the_number ∷ [])
after member mark.Name = Some []
after member mark.Number = Some []
after member mark.Minus = Some (single the_number ∷ [])
after more_members mark.CloseBrace = Some []
after more_members mark.Comma = Some (member ∷ more_members ∷ [])
after defines mark.Name = Some (single the_becomes ∷ expr ∷ single the_semicolon ∷ defines ∷ [])
after more_constants mark.Semicolon = Some []
after more_constants mark.Comma = Some (single the_name ∷ more_constants ∷ [])
after assigns mark.Name = Some (more_dots ∷ single the_becomes ∷ expr ∷ single the_semicolon ∷ assigns ∷ [])
after assigns mark.First =
    Some (single the_open ∷ single the_name ∷ more_dots ∷ single the_close ∷ single the_becomes ∷ expr ∷ single the_semicolon ∷ assigns
    ∷ [])
after assigns mark.After =
    Some (single the_open ∷ single the_name ∷ more_dots ∷ single the_close ∷ single the_becomes ∷ expr ∷ single the_semicolon ∷ assigns
    ∷ [])
after more_dots mark.Dot = Some (single the_name ∷ more_dots ∷ [])
after last_semicolon mark.Semicolon = Some []
after _ _ = None

-- the first actual, or none
abbrev pub after_actual : Mark → Lexeme → Option (List Sym)
after_actual mark.Close t = Some []
after_actual c t = live (machine.step start (role_of t)) (more_actuals ∷ [])

-- what is still expected of a part after a lexeme
abbrev pub next : Sym → Lexeme → Option (List Sym)
next (single w) t = alone (is_single w (mark_of t))
next (formula st h) t = live (machine.step st (role_of t)) []
next first_actual t = after_actual (mark_of t) t
next skip t = passing (is_section t)
next x t = after x (mark_of t)

-- the mark may follow an expression
abbrev pub ends_formula : Mark → Bool
ends_formula mark.Semicolon = true
ends_formula mark.Comma = true
ends_formula mark.Close = true
ends_formula _ = false

-- the mark may follow a dotted name
abbrev pub ends_dots : Mark → Bool
ends_dots mark.Becomes = true
ends_dots mark.Close = true
ends_dots _ = false

-- the mark begins a module
abbrev pub is_word_module : Mark → Bool
is_word_module mark.Module = true
is_word_module _ = false

-- the mark is a semicolon
abbrev pub is_word_semicolon : Mark → Bool
is_word_semicolon mark.Semicolon = true
is_word_semicolon _ = false

-- whether the lexeme may follow the part
abbrev pub follow : Sym → Lexeme → Bool
follow modules t = false
follow sections t = is_word_module (mark_of t)
follow (formula st h) t = ends_formula (mark_of t) || is_section t
follow more_dots t = ends_dots (mark_of t)
follow actuals t = is_word_semicolon (mark_of t)
follow declared t = is_word_semicolon (mark_of t)
follow formals t = is_section t
follow first_formal t = is_section t
follow more_formals t = is_section t
follow decls t = is_section t
follow type_decls t = is_section t
follow defines t = is_section t
follow assigns t = is_section t
follow skip t = is_section t
follow last_semicolon t = is_section t
follow first_actual t = is_word_semicolon (mark_of t)
follow _ t = true

-- a lexeme of this kind
abbrev pub shortest_single : Single → Lexeme
shortest_single the_name = word (codes "x")
shortest_single the_number = num 0 []
shortest_single the_colon = sign k.Colon
shortest_single the_becomes = sign k.Becomes
shortest_single the_semicolon = sign k.Semicolon
shortest_single the_open = sign k.Open
shortest_single the_close = sign k.Close
shortest_single the_dots = sign k.Dots

-- a list that the part stands for
abbrev pub shortest : Sym → List Lexeme
shortest (single w) = shortest_single w ∷ []
shortest (formula st h) = completion st
shortest first_formal = sign k.Close ∷ []
shortest more_formals = sign k.Close ∷ []
shortest declared = word (codes "boolean") ∷ []
shortest type = word (codes "boolean") ∷ []
shortest first_actual = sign k.Close ∷ []
shortest more_actuals = sign k.Close ∷ []
shortest int = num 0 [] ∷ []
shortest member = num 0 [] ∷ []
shortest more_members = sign k.CloseBrace ∷ []
shortest more_constants = sign k.Semicolon ∷ []
shortest _ = []

-- the grammar of programs
abbrev pub programs : Grammar Sym
programs = record { Spelled = spelled; empty = empty; next = next; follow = follow; shortest = shortest }
