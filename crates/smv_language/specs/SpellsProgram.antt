-- Which programs a list of tokens spells: a case for each line of the grammar.
use Rattle.std.specs.Prelude.{◌≡◌, ℤ, true, false, List, [], ◌∷◌, ◌++◌, codes}
use Rattle.smv_lexer.specs.declared.token.TokenKind.TheVariants as k
use Rattle.smv_language.specs.declared.program.Member.{Member}
use Rattle.smv_language.specs.declared.program.Member.TheVariants as member
use Rattle.smv_language.specs.declared.program.Moment.{Moment}
use Rattle.smv_language.specs.declared.program.Moment.TheVariants.{Always, First, After}
use Rattle.smv_language.specs.ProgramTree.{Text, Path, Formula, DeclaredTree, boolean, range, members, instance, DeclTree, DefineTree}
use Rattle.smv_language.specs.ProgramTree.{AssignmentTree, SectionTree, var, ivar, frozen, define, constants, assign, init, invar, trans}
use Rattle.smv_language.specs.ProgramTree.{ModuleTree, ProgramTree}
use Rattle.smv_language.specs.Lexemes.{Lexeme, word, num, sign, is_reserved, section_words}
use Rattle.smv_language.specs.Texts.{is_among}
use Rattle.smv_language.specs.Spells.{at_expr, SpellsInt, SpellsDotted, Spells}

-- a list whose members each are spelled, one after another
pub data SpellsMany {A : Type 0} (One : List Lexeme → A → Type 0) : List Lexeme → List A → Type 0 where
  no_more : SpellsMany One [] []
  one_more : {ts us : List Lexeme} {a : A} {more : List A} → One ts a → SpellsMany One us more → SpellsMany One (ts ++ us) (a ∷ more)

-- one or more, with commas between
pub data SpellsCommas {A : Type 0} (One : List Lexeme → A → Type 0) : List Lexeme → List A → Type 0 where
  last_one : {ts : List Lexeme} {a : A} → One ts a → SpellsCommas One ts (a ∷ [])
  one_comma : {ts us : List Lexeme} {a : A} {more : List A} → One ts a → SpellsCommas One us more →
      SpellsCommas One (ts ++ sign k.Comma ∷ us) (a ∷ more)

-- none, or "(" one or more with commas between ")"
pub data SpellsBracketed {A : Type 0} (One : List Lexeme → A → Type 0) : List Lexeme → List A → Type 0 where
  no_brackets : SpellsBracketed One [] []
  brackets : {ts : List Lexeme} {list : List A} → SpellsCommas One ts list →
      SpellsBracketed One (sign k.Open ∷ (ts ++ sign k.Close ∷ [])) list

-- name
pub data SpellsName : List Lexeme → Text → Type 0 where
  a_name : {x : Text} → is_reserved x ≡ false → SpellsName (word x ∷ []) x

-- expr
abbrev pub SpellsExpr : List Lexeme → Formula → Type 0
SpellsExpr ts e = Spells at_expr ts e

-- member = name | int
pub data SpellsMember : List Lexeme → Member → Type 0 where
  a_symbol : {x : Text} → is_reserved x ≡ false → SpellsMember (word x ∷ []) (member.Symbol x)
  a_number : {ts : List Lexeme} {n : ℤ} → SpellsInt ts n → SpellsMember ts (member.Number n)

-- type = "boolean" | int ".." int | "{" member { "," member } "}"
pub data SpellsType : List Lexeme → DeclaredTree → Type 0 where
  is_boolean : SpellsType (word (codes "boolean") ∷ []) boolean
  is_range : {xs ys : List Lexeme} {lo hi : ℤ} → SpellsInt xs lo → SpellsInt ys hi → SpellsType (xs ++ sign k.Dots ∷ ys) (range lo hi)
  is_members : {ts : List Lexeme} {ms : List Member} → SpellsCommas SpellsMember ts ms →
      SpellsType (sign k.OpenBrace ∷ (ts ++ sign k.CloseBrace ∷ [])) (members ms)

-- type | instance, and instance = name [ "(" [ expr { "," expr } ] ")" ]
pub data SpellsDeclared : List Lexeme → DeclaredTree → Type 0 where
  is_type : {ts : List Lexeme} {t : DeclaredTree} → SpellsType ts t → SpellsDeclared ts t
  is_instance : {m : Text} {ts : List Lexeme} {actuals : List Formula} → is_reserved m ≡ false → SpellsBracketed SpellsExpr ts actuals →
      SpellsDeclared (word m ∷ ts) (instance m actuals)
  is_empty_instance : {m : Text} → is_reserved m ≡ false → SpellsDeclared (word m ∷ sign k.Open ∷ sign k.Close ∷ []) (instance m [])

-- name ":" ( type | instance ) ";", and the same with a type alone
pub data SpellsDecl (What : List Lexeme → DeclaredTree → Type 0) : List Lexeme → DeclTree → Type 0 where
  declares : {x : Text} {ts : List Lexeme} {t : DeclaredTree} → is_reserved x ≡ false → What ts t →
      SpellsDecl What (word x ∷ sign k.Colon ∷ (ts ++ sign k.Semicolon ∷ [])) (record { name = x; what = t })

-- name ":=" expr ";"
pub data SpellsDefine : List Lexeme → DefineTree → Type 0 where
  defines : {x : Text} {ts : List Lexeme} {e : Formula} → is_reserved x ≡ false → SpellsExpr ts e →
      SpellsDefine (word x ∷ sign k.Becomes ∷ (ts ++ sign k.Semicolon ∷ [])) (record { name = x; value = e })

-- target = dotted | "init" "(" dotted ")" | "next" "(" dotted ")"
pub data SpellsTarget : List Lexeme → Moment → Path → Type 0 where
  always : {ts : List Lexeme} {d : Path} → SpellsDotted ts d → SpellsTarget ts Always d
  first : {ts : List Lexeme} {d : Path} → SpellsDotted ts d →
      SpellsTarget (word (codes "init") ∷ sign k.Open ∷ (ts ++ sign k.Close ∷ [])) First d
  after : {ts : List Lexeme} {d : Path} → SpellsDotted ts d →
      SpellsTarget (word (codes "next") ∷ sign k.Open ∷ (ts ++ sign k.Close ∷ [])) After d

-- target ":=" expr ";"
pub data SpellsAssignment : List Lexeme → AssignmentTree → Type 0 where
  assigns : {xs ts : List Lexeme} {when : Moment} {d : Path} {e : Formula} → SpellsTarget xs when d → SpellsExpr ts e →
      SpellsAssignment (xs ++ sign k.Becomes ∷ (ts ++ sign k.Semicolon ∷ [])) (record { when = when; target = d; value = e })

-- expr [ ";" ]
pub data SpellsFormula : List Lexeme → Formula → Type 0 where
  open_ended : {ts : List Lexeme} {e : Formula} → SpellsExpr ts e → SpellsFormula ts e
  ended : {ts : List Lexeme} {e : Formula} → SpellsExpr ts e → SpellsFormula (ts ++ sign k.Semicolon ∷ []) e

-- the words of sections that leave nothing
abbrev pub skipped_words : List Text
skipped_words = codes "CTLSPEC" ∷ codes "SPEC" ∷ codes "LTLSPEC" ∷ codes "PSLSPEC" ∷ codes "INVARSPEC" ∷ codes "COMPUTE" ∷ []

-- tokens that are no section words
abbrev pub HasNoSection : List Lexeme → Type 0
HasNoSection [] = Unit {0}
HasNoSection (word x ∷ ts) = (is_among section_words x ≡ false) × HasNoSection ts
HasNoSection (num n d ∷ ts) = HasNoSection ts
HasNoSection (sign s ∷ ts) = HasNoSection ts

-- section
pub data SpellsSection : List Lexeme → SectionTree → Type 0 where
  a_var : {ts : List Lexeme} {ds : List DeclTree} → SpellsMany (SpellsDecl SpellsDeclared) ts ds →
      SpellsSection (word (codes "VAR") ∷ ts) (var ds)
  an_ivar : {ts : List Lexeme} {ds : List DeclTree} → SpellsMany (SpellsDecl SpellsType) ts ds →
      SpellsSection (word (codes "IVAR") ∷ ts) (ivar ds)
  a_frozen : {ts : List Lexeme} {ds : List DeclTree} → SpellsMany (SpellsDecl SpellsType) ts ds →
      SpellsSection (word (codes "FROZENVAR") ∷ ts) (frozen ds)
  a_define : {ts : List Lexeme} {ds : List DefineTree} → SpellsMany SpellsDefine ts ds →
      SpellsSection (word (codes "DEFINE") ∷ ts) (define ds)
  some_constants : {ts : List Lexeme} {xs : List Text} → SpellsCommas SpellsName ts xs →
      SpellsSection (word (codes "CONSTANTS") ∷ (ts ++ sign k.Semicolon ∷ [])) (constants xs)
  an_assign : {ts : List Lexeme} {list : List AssignmentTree} → SpellsMany SpellsAssignment ts list →
      SpellsSection (word (codes "ASSIGN") ∷ ts) (assign list)
  an_init : {ts : List Lexeme} {e : Formula} → SpellsFormula ts e → SpellsSection (word (codes "INIT") ∷ ts) (init e)
  an_invar : {ts : List Lexeme} {e : Formula} → SpellsFormula ts e → SpellsSection (word (codes "INVAR") ∷ ts) (invar e)
  a_trans : {ts : List Lexeme} {e : Formula} → SpellsFormula ts e → SpellsSection (word (codes "TRANS") ∷ ts) (trans e)

-- { section }, where a skipped section leaves nothing
pub data SpellsSections : List Lexeme → List SectionTree → Type 0 where
  no_section : SpellsSections [] []
  a_section : {ts us : List Lexeme} {s : SectionTree} {ss : List SectionTree} → SpellsSection ts s → SpellsSections us ss →
      SpellsSections (ts ++ us) (s ∷ ss)
  skipped : (x : Text) (ts : List Lexeme) {us : List Lexeme} {ss : List SectionTree} → is_among skipped_words x ≡ true → HasNoSection ts →
      SpellsSections us ss →
      SpellsSections (word x ∷ (ts ++ us)) ss

-- module = "MODULE" name [ "(" [ name { "," name } ] ")" ] { section }
pub data SpellsFormals : List Lexeme → List Text → Type 0 where
  some_formals : {ts : List Lexeme} {xs : List Text} → SpellsBracketed SpellsName ts xs → SpellsFormals ts xs
  empty_formals : SpellsFormals (sign k.Open ∷ sign k.Close ∷ []) []

-- the header and the sections of a module
pub data SpellsModule : List Lexeme → ModuleTree → Type 0 where
  a_module : {x : Text} {fs ts : List Lexeme} {formals : List Text} {ss : List SectionTree} → is_reserved x ≡ false →
      SpellsFormals fs formals → SpellsSections ts ss →
      SpellsModule (word (codes "MODULE") ∷ word x ∷ (fs ++ ts)) (record { name = x; formals = formals; sections = ss })

-- program = { module }
abbrev pub SpellsProgram : List Lexeme → ProgramTree → Type 0
SpellsProgram ts p = SpellsMany SpellsModule ts p

-- one or more expressions, separated by ";", and one more ";" allowed at the end
pub data SpellsExpressions : List Lexeme → List Formula → Type 0 where
  last_expression : {ts : List Lexeme} {e : Formula} → SpellsFormula ts e → SpellsExpressions ts (e ∷ [])
  more_expressions : {ts us : List Lexeme} {e : Formula} {more : List Formula} → SpellsExpr ts e → SpellsExpressions us more →
      SpellsExpressions (ts ++ sign k.Semicolon ∷ us) (e ∷ more)
