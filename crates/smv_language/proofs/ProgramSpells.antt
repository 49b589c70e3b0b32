-- The text of a program spells it.
use Rattle.std.proofs.Common.{◌≡◌, List, [], ◌∷◌, ◌++◌, map, Some, sym, ap, refl, subst, arith, append_assoc}
use Rattle.std.specs.Prelude.{codes}
use Rattle.std.specs.Fmt.{signed_decimal}
use Rattle.std.proofs.lemmas.List.{append-nil}
use Rattle.smv_lexer.specs.declared.token.TokenKind.TheVariants as k
use Rattle.smv_lexer.specs.Tokens.{IsWord}
use Rattle.smv_language.specs.declared.program.Member.{Member}
use Rattle.smv_language.specs.declared.program.Member.TheVariants as member
use Rattle.smv_language.specs.declared.program.Moment.{Moment}
use Rattle.smv_language.specs.declared.program.Moment.TheVariants.{Always, First, After}
use Rattle.smv_language.specs.ProgramTree.{Text, Path, Formula, DeclaredTree, boolean, range, members, instance, DeclTree, DefineTree, AssignmentTree, SectionTree, var, ivar, frozen, define, constants, assign, init, invar, trans, ModuleTree, ProgramTree}
use Rattle.smv_language.specs.Lexemes.{Lexeme, word, sign}
use Rattle.smv_language.specs.SpellsProgram.{SpellsMany, no_more, one_more, SpellsCommas, last_one, one_comma, SpellsBracketed, no_brackets, brackets, SpellsName, a_name, SpellsExpr, SpellsMember, a_symbol, a_number, SpellsType, is_boolean, is_range, is_members, SpellsDeclared, is_type, is_instance, SpellsDecl, declares, SpellsDefine, defines, SpellsTarget, always, first, after, SpellsAssignment, assigns, SpellsFormula, ended, SpellsSection, a_var, an_ivar, a_frozen, a_define, some_constants, an_assign, an_init, an_invar, a_trans, SpellsSections, no_section, a_section, some_formals, SpellsModule, a_module, SpellsProgram}
use Rattle.smv_language.specs.Bytes.{BytesSpellProgram}
use Rattle.smv_language.specs.Text.{each_after, commas, in_brackets, text_of, member_text, declared_text, target_text, line, decl_line, define_line, assignment_line, all_of, section_text, module_text, program_text}
use Rattle.smv_language.specs.PrintedTokens.{printed, printed_path, printed_int, IsName, AreNames, IsWritable}
use Rattle.smv_language.specs.WritableProgram.{IsWritableMember, IsWritableType, IsWritableDeclared, IsWritableDecl, IsWritableTyped, IsWritableDefine, IsWritableAssignment, IsWritableSection, IsWritableModule, IsWritableProgram}
use Rattle.smv_language.specs.Trace.{Each}
use Rattle.smv_language.proofs.Pieces.{Reads, nothing, then, as_lexemes, piece_reads, whole_reads}
use Rattle.smv_language.proofs.TokenTexts.{Ends, blank, line_feed, is_open_brace, is_close_brace, is_comma, is_semicolon, is_dots, is_colon, is_word}
use Rattle.smv_language.proofs.PrintedSpells.{printed_spells, an_expr, int_spells, path_spells}
use Rattle.smv_language.proofs.TextSpells.{at_space, at_open, at_close, at_comma, at_dot, at_semicolon, at_brace, spaced, int_reads, path_reads, brackets_read, text_reads}

-- the text is read as lexemes that spell this
abbrev pub Spelled : {A : Type 0} → (List Lexeme → A → Type 0) → Text → Text → A → Type 0
Spelled One text rest a = (ls : List Lexeme) × Reads text rest ls × One ls a

pub at_line : (rest : Text) → Ends (10 ∷ rest)
at_line rest = record { no_word = refl; no_mark = refl; no_digit = refl }

-- one after another
pub many_spelled : {A : Type 0} (One : List Lexeme → A → Type 0) (shown : A → Text) (Fine : A → Type 0) → ((a : A) (rest : Text) → Fine a → Spelled One (shown a) rest a) →
    (xs : List A) (rest : Text) → Each Fine xs → Spelled (SpellsMany One) (all_of (map shown xs)) rest xs
many_spelled One shown Fine each [] rest h = ([], nothing rest, no_more)
many_spelled One shown Fine each (x ∷ xs) rest h =
    let one = each x (all_of (map shown xs) ++ rest) h.0 in
    let more = many_spelled One shown Fine each xs rest h.1 in
    (one.0 ++ more.0, then (shown x) (all_of (map shown xs)) rest one.0 more.0 one.1 more.1, one_more one.2 more.2)

-- one or more, with commas between
commas_spelled : {A : Type 0} (One : List Lexeme → A → Type 0) (shown : A → Text) (Fine : A → Type 0) → ((a : A) (rest : Text) → Fine a → Ends rest → Spelled One (shown a) rest a) →
    (x : A) (xs : List A) (rest : Text) → Fine x → Each Fine xs → Ends rest → Spelled (SpellsCommas One) (commas (map shown (x ∷ xs))) rest (x ∷ xs)
commas_spelled One shown Fine each x [] rest h hs e =
    let one = each x rest h e in
    (one.0, subst (λ t. Reads t rest one.0) (sym (append-nil (shown x))) one.1, last_one one.2)
commas_spelled One shown Fine each x (y ∷ ys) rest h hs e =
    let more = commas_spelled One shown Fine each y ys rest hs.0 hs.1 e in
    let one = each x ((codes ", " ++ commas (map shown (y ∷ ys))) ++ rest) h (at_comma _) in (
      one.0 ++ sign k.Comma ∷ more.0,
      then (shown x) (codes ", " ++ commas (map shown (y ∷ ys))) rest one.0 (sign k.Comma ∷ more.0) one.1
          (then (codes ",") (codes " " ++ commas (map shown (y ∷ ys))) rest (sign k.Comma ∷ []) more.0 (is_comma _)
          (then (codes " ") (commas (map shown (y ∷ ys))) rest [] more.0 (blank _) more.1)),
      one_comma one.2 more.2,
    )

-- none, or one or more in parentheses
brackets_spelled : {A : Type 0} (One : List Lexeme → A → Type 0) (shown : A → Text) (Fine : A → Type 0) → ((a : A) (rest : Text) → Fine a → Ends rest → Spelled One (shown a) rest a) →
    (xs : List A) (rest : Text) → Each Fine xs → Spelled (SpellsBracketed One) (in_brackets (map shown xs)) rest xs
brackets_spelled One shown Fine each [] rest h = ([], nothing rest, no_brackets)
brackets_spelled One shown Fine each (x ∷ xs) rest h =
    let list = commas_spelled One shown Fine each x xs (codes ")" ++ rest) h.0 h.1 (at_close rest) in
    (sign k.Open ∷ (list.0 ++ sign k.Close ∷ []), brackets_read (commas (map shown (x ∷ xs))) rest list.0 list.1, brackets list.2)

after_brackets : (xs : List Text) (rest : Text) → Ends rest → Ends (in_brackets xs ++ rest)
after_brackets [] rest e = e
after_brackets (x ∷ xs) rest e = at_open _

-- an item on its line
line_reads : (item rest : Text) (ls : List Lexeme) → Reads item (codes ";\n" ++ rest) ls → Reads (line item) rest (ls ++ sign k.Semicolon ∷ [])
line_reads item rest ls r =
    then (codes " ") (codes " " ++ (item ++ codes ";\n")) rest [] (ls ++ sign k.Semicolon ∷ []) (blank _)
    (then (codes " ") (item ++ codes ";\n") rest [] (ls ++ sign k.Semicolon ∷ []) (blank _)
    (then item (codes ";\n") rest ls (sign k.Semicolon ∷ []) r
    (then (codes ";") (codes "\n") rest (sign k.Semicolon ∷ []) [] (is_semicolon _) (line_feed rest))))

name_spelled : (x rest : Text) → IsName x → Ends rest → Spelled SpellsName x rest x
name_spelled x rest h e = (word x ∷ [], is_word x rest h.1 e, a_name h.0)

expr_spelled : (t : Formula) (rest : Text) → IsWritable t → Ends rest → Spelled SpellsExpr (text_of t) rest t
expr_spelled t rest h e = (printed t, text_reads t rest h e, an_expr (printed_spells t h))

member_spelled : (m : Member) (rest : Text) → IsWritableMember m → Ends rest → Spelled SpellsMember (member_text m) rest m
member_spelled (member.Number n) rest h e = (printed_int n, int_reads n rest h e, a_number (int_spells n))
member_spelled (member.Symbol x) rest h e = (word x ∷ [], is_word x rest h.1 e, a_symbol h.0)

type_spelled : (t : DeclaredTree) (rest : Text) → IsWritableType t → Ends rest → Spelled SpellsType (declared_text t) rest t
type_spelled boolean rest h e = (word (codes "boolean") ∷ [], is_word (codes "boolean") rest (refl, (refl, (refl, (refl, (refl, (refl, (refl, tt))))))) e, is_boolean)
type_spelled (range lo hi) rest h e = (
  printed_int lo ++ sign k.Dots ∷ printed_int hi,
  then (signed_decimal lo) (codes ".." ++ signed_decimal hi) rest (printed_int lo) (sign k.Dots ∷ printed_int hi)
      (int_reads lo ((codes ".." ++ signed_decimal hi) ++ rest) h.0 (at_dot _))
      (then (codes "..") (signed_decimal hi) rest (sign k.Dots ∷ []) (printed_int hi) (is_dots (signed_decimal hi ++ rest)) (int_reads hi rest h.1 e)),
  is_range (int_spells lo) (int_spells hi),
)
type_spelled (members []) rest h e = absurd (h.0 refl)
type_spelled (members (m ∷ ms)) rest h e =
    let list = commas_spelled SpellsMember member_text IsWritableMember member_spelled m ms (codes "}" ++ rest) h.1.0 h.1.1 (at_brace rest) in (
      sign k.OpenBrace ∷ (list.0 ++ sign k.CloseBrace ∷ []),
      then (codes "{") (commas (map member_text (m ∷ ms)) ++ codes "}") rest (sign k.OpenBrace ∷ []) (list.0 ++ sign k.CloseBrace ∷ []) (is_open_brace _)
          (then (commas (map member_text (m ∷ ms))) (codes "}") rest list.0 (sign k.CloseBrace ∷ []) list.1 (is_close_brace rest)),
      is_members list.2,
    )
type_spelled (instance m actuals) rest h e = absurd h

typed_declared : (t : DeclaredTree) (rest : Text) → Spelled SpellsType (declared_text t) rest t → Spelled SpellsDeclared (declared_text t) rest t
typed_declared t rest s = (s.0, s.1, is_type s.2)

declared_spelled : (t : DeclaredTree) (rest : Text) → IsWritableDeclared t → Ends rest → Spelled SpellsDeclared (declared_text t) rest t
declared_spelled boolean rest h e = typed_declared boolean rest (type_spelled boolean rest h e)
declared_spelled (range lo hi) rest h e = typed_declared (range lo hi) rest (type_spelled (range lo hi) rest h e)
declared_spelled (members ms) rest h e = typed_declared (members ms) rest (type_spelled (members ms) rest h e)
declared_spelled (instance m actuals) rest h e =
    let list = brackets_spelled SpellsExpr text_of IsWritable expr_spelled actuals rest h.1 in (
      word m ∷ list.0,
      then m (in_brackets (map text_of actuals)) rest (word m ∷ []) list.0 (is_word m (in_brackets (map text_of actuals) ++ rest) h.0.1 (after_brackets (map text_of actuals) rest e)) list.1,
      is_instance h.0.0 list.2,
    )

-- a declaration on its line, whatever may be declared
declares_spelled : (What : List Lexeme → DeclaredTree → Type 0) (d : DeclTree) (rest : Text) → IsName d.name → Spelled What (declared_text d.what) (codes ";\n" ++ rest) d.what →
    Spelled (SpellsDecl What) (decl_line d) rest d
declares_spelled What d rest h s = (
  word d.name ∷ sign k.Colon ∷ (s.0 ++ sign k.Semicolon ∷ []),
  line_reads (d.name ++ (codes " : " ++ declared_text d.what)) rest (word d.name ∷ sign k.Colon ∷ s.0)
      (then d.name (codes " : " ++ declared_text d.what) (codes ";\n" ++ rest) (word d.name ∷ []) (sign k.Colon ∷ s.0) (is_word d.name _ h.1 (at_space _))
      (then (codes " : ") (declared_text d.what) (codes ";\n" ++ rest) (sign k.Colon ∷ []) s.0 (spaced (codes ":") _ (sign k.Colon) (is_colon _)) s.1)),
  declares h.0 s.2,
)

decl_spelled : (d : DeclTree) (rest : Text) → IsWritableDecl d → Spelled (SpellsDecl SpellsDeclared) (decl_line d) rest d
decl_spelled d rest h = declares_spelled SpellsDeclared d rest h.0 (declared_spelled d.what (codes ";\n" ++ rest) h.1 (at_semicolon _))

typed_spelled : (d : DeclTree) (rest : Text) → IsWritableTyped d → Spelled (SpellsDecl SpellsType) (decl_line d) rest d
typed_spelled d rest h = declares_spelled SpellsType d rest h.0 (type_spelled d.what (codes ";\n" ++ rest) h.1 (at_semicolon _))

becomes : (rest : Text) → Reads (codes " := ") rest (sign k.Becomes ∷ [])
becomes rest = spaced (codes ":=") rest (sign k.Becomes) (piece_reads (Some k.Becomes) (codes ":=") (32 ∷ rest) (omega arith) refl)

define_spelled : (d : DefineTree) (rest : Text) → IsWritableDefine d → Spelled SpellsDefine (define_line d) rest d
define_spelled d rest h =
    let e = expr_spelled d.value (codes ";\n" ++ rest) h.1 (at_semicolon _) in (
      word d.name ∷ sign k.Becomes ∷ (e.0 ++ sign k.Semicolon ∷ []),
      line_reads (d.name ++ (codes " := " ++ text_of d.value)) rest (word d.name ∷ sign k.Becomes ∷ e.0)
          (then d.name (codes " := " ++ text_of d.value) (codes ";\n" ++ rest) (word d.name ∷ []) (sign k.Becomes ∷ e.0) (is_word d.name _ h.0.1 (at_space _))
          (then (codes " := ") (text_of d.value) (codes ";\n" ++ rest) (sign k.Becomes ∷ []) e.0 (becomes _) e.1)),
      defines h.0.0 e.2,
    )

target_spelled : (when : Moment) (x : Text) (p : Path) (rest : Text) → AreNames (x ∷ p) → Ends rest → (ls : List Lexeme) × Reads (target_text when (x ∷ p)) rest ls × SpellsTarget ls when (x ∷ p)
target_spelled Always x p rest h e = (printed_path (x ∷ p), path_reads x p rest h e, always (path_spells x p h))
target_spelled First x p rest h e = (
  word (codes "init") ∷ sign k.Open ∷ (printed_path (x ∷ p) ++ sign k.Close ∷ []),
  then (codes "init") (codes "(" ++ ((x ++ each_after (codes ".") p) ++ codes ")")) rest (word (codes "init") ∷ []) (sign k.Open ∷ (printed_path (x ∷ p) ++ sign k.Close ∷ []))
      (is_word (codes "init") _ (refl, (refl, (refl, (refl, tt)))) (at_open _))
      (brackets_read (x ++ each_after (codes ".") p) rest (printed_path (x ∷ p)) (path_reads x p (codes ")" ++ rest) h (at_close rest))),
  first (path_spells x p h),
)
target_spelled After x p rest h e = (
  word (codes "next") ∷ sign k.Open ∷ (printed_path (x ∷ p) ++ sign k.Close ∷ []),
  then (codes "next") (codes "(" ++ ((x ++ each_after (codes ".") p) ++ codes ")")) rest (word (codes "next") ∷ []) (sign k.Open ∷ (printed_path (x ∷ p) ++ sign k.Close ∷ []))
      (is_word (codes "next") _ (refl, (refl, (refl, (refl, tt)))) (at_open _))
      (brackets_read (x ++ each_after (codes ".") p) rest (printed_path (x ∷ p)) (path_reads x p (codes ")" ++ rest) h (at_close rest))),
  after (path_spells x p h),
)

assigned_spelled : (when : Moment) (target : Path) (value : Formula) (rest : Text) → IsWritableAssignment (record { when = when; target = target; value = value }) →
    Spelled SpellsAssignment (assignment_line (record { when = when; target = target; value = value })) rest (record { when = when; target = target; value = value })
assigned_spelled when [] value rest h = absurd (h.0 refl)
assigned_spelled when (x ∷ p) value rest h =
    let e = expr_spelled value (codes ";\n" ++ rest) h.2 (at_semicolon _) in
    let t = target_spelled when x p ((codes " := " ++ text_of value) ++ (codes ";\n" ++ rest)) h.1 (at_space _) in (
      t.0 ++ sign k.Becomes ∷ (e.0 ++ sign k.Semicolon ∷ []),
      as_lexemes _ rest _ _ (append_assoc t.0 (sign k.Becomes ∷ e.0) (sign k.Semicolon ∷ []))
          (line_reads (target_text when (x ∷ p) ++ (codes " := " ++ text_of value)) rest (t.0 ++ sign k.Becomes ∷ e.0)
          (then (target_text when (x ∷ p)) (codes " := " ++ text_of value) (codes ";\n" ++ rest) t.0 (sign k.Becomes ∷ e.0) t.1
          (then (codes " := ") (text_of value) (codes ";\n" ++ rest) (sign k.Becomes ∷ []) e.0 (becomes _) e.1))),
      assigns t.2 e.2,
    )

assignment_spelled : (a : AssignmentTree) (rest : Text) → IsWritableAssignment a → Spelled SpellsAssignment (assignment_line a) rest a
assignment_spelled a rest h = assigned_spelled a.when a.target a.value rest h

-- a section's word on a line of its own
headed : (w more rest : Text) (ls : List Lexeme) → IsWord w [] → Reads more rest ls → Reads (w ++ (codes "\n" ++ more)) rest (word w ∷ ls)
headed w more rest ls h r =
    then w (codes "\n" ++ more) rest (word w ∷ []) ls (is_word w _ h (at_line _)) (then (codes "\n") more rest [] ls (line_feed _) r)

formula_spelled : (t : Formula) (rest : Text) → IsWritable t → Spelled SpellsFormula (line (text_of t)) rest t
formula_spelled t rest h =
    let e = expr_spelled t (codes ";\n" ++ rest) h (at_semicolon _) in
    (e.0 ++ sign k.Semicolon ∷ [], line_reads (text_of t) rest e.0 e.1, ended e.2)

map_same : (xs : List Text) → map (λ x. x) xs ≡ xs
map_same [] = refl
map_same (x ∷ xs) = ap (λ more. x ∷ more) (map_same xs)

names_spelled : (x : Text) (xs : List Text) (rest : Text) → IsName x → Each IsName xs → Ends rest → Spelled (SpellsCommas SpellsName) (commas (x ∷ xs)) rest (x ∷ xs)
names_spelled x xs rest h hs e =
    subst (λ ys. Spelled (SpellsCommas SpellsName) (commas (x ∷ ys)) rest (x ∷ xs)) (map_same xs) (commas_spelled SpellsName (λ y. y) IsName name_spelled x xs rest h hs e)

section_spelled : (s : SectionTree) (rest : Text) → IsWritableSection s → Spelled SpellsSection (section_text s) rest s
section_spelled (var ds) rest h =
    let list = many_spelled (SpellsDecl SpellsDeclared) decl_line IsWritableDecl decl_spelled ds rest h in
    (word (codes "VAR") ∷ list.0, headed (codes "VAR") _ rest list.0 (refl, (refl, (refl, tt))) list.1, a_var list.2)
section_spelled (ivar ds) rest h =
    let list = many_spelled (SpellsDecl SpellsType) decl_line IsWritableTyped typed_spelled ds rest h in
    (word (codes "IVAR") ∷ list.0, headed (codes "IVAR") _ rest list.0 (refl, (refl, (refl, (refl, tt)))) list.1, an_ivar list.2)
section_spelled (frozen ds) rest h =
    let list = many_spelled (SpellsDecl SpellsType) decl_line IsWritableTyped typed_spelled ds rest h in
    (word (codes "FROZENVAR") ∷ list.0, headed (codes "FROZENVAR") _ rest list.0 (refl, (refl, (refl, (refl, (refl, (refl, (refl, (refl, (refl, tt))))))))) list.1, a_frozen list.2)
section_spelled (define ds) rest h =
    let list = many_spelled SpellsDefine define_line IsWritableDefine define_spelled ds rest h in
    (word (codes "DEFINE") ∷ list.0, headed (codes "DEFINE") _ rest list.0 (refl, (refl, (refl, (refl, (refl, (refl, tt)))))) list.1, a_define list.2)
section_spelled (constants []) rest h = absurd (h.0 refl)
section_spelled (constants (x ∷ xs)) rest h =
    let list = names_spelled x xs (codes ";\n" ++ rest) h.1.0 h.1.1 (at_semicolon _) in (
      word (codes "CONSTANTS") ∷ (list.0 ++ sign k.Semicolon ∷ []),
      headed (codes "CONSTANTS") (line (commas (x ∷ xs))) rest (list.0 ++ sign k.Semicolon ∷ []) (refl, (refl, (refl, (refl, (refl, (refl, (refl, (refl, (refl, tt)))))))))
          (line_reads (commas (x ∷ xs)) rest list.0 list.1),
      some_constants list.2,
    )
section_spelled (assign xs) rest h =
    let list = many_spelled SpellsAssignment assignment_line IsWritableAssignment assignment_spelled xs rest h in
    (word (codes "ASSIGN") ∷ list.0, headed (codes "ASSIGN") _ rest list.0 (refl, (refl, (refl, (refl, (refl, (refl, tt)))))) list.1, an_assign list.2)
section_spelled (init t) rest h =
    let e = formula_spelled t rest h in
    (word (codes "INIT") ∷ e.0, headed (codes "INIT") _ rest e.0 (refl, (refl, (refl, (refl, tt)))) e.1, an_init e.2)
section_spelled (invar t) rest h =
    let e = formula_spelled t rest h in
    (word (codes "INVAR") ∷ e.0, headed (codes "INVAR") _ rest e.0 (refl, (refl, (refl, (refl, (refl, tt))))) e.1, an_invar e.2)
section_spelled (trans t) rest h =
    let e = formula_spelled t rest h in
    (word (codes "TRANS") ∷ e.0, headed (codes "TRANS") _ rest e.0 (refl, (refl, (refl, (refl, (refl, tt))))) e.1, a_trans e.2)

sections_spelled : (ss : List SectionTree) (rest : Text) → Each IsWritableSection ss → Spelled SpellsSections (all_of (map section_text ss)) rest ss
sections_spelled [] rest h = ([], nothing rest, no_section)
sections_spelled (s ∷ ss) rest h =
    let one = section_spelled s (all_of (map section_text ss) ++ rest) h.0 in
    let more = sections_spelled ss rest h.1 in
    (one.0 ++ more.0, then (section_text s) (all_of (map section_text ss)) rest one.0 more.0 one.1 more.1, a_section one.2 more.2)

formals_spelled : (xs : List Text) (rest : Text) → Each IsName xs → Spelled (SpellsBracketed SpellsName) (in_brackets xs) rest xs
formals_spelled xs rest h =
    subst (λ ys. Spelled (SpellsBracketed SpellsName) (in_brackets ys) rest xs) (map_same xs) (brackets_spelled SpellsName (λ y. y) IsName name_spelled xs rest h)

after_formals : (xs : List Text) (more rest : Text) → Ends ((in_brackets xs ++ (codes "\n" ++ more)) ++ rest)
after_formals [] more rest = at_line _
after_formals (x ∷ xs) more rest = at_open _

module_spelled : (m : ModuleTree) (rest : Text) → IsWritableModule m → Spelled SpellsModule (module_text m) rest m
module_spelled m rest h =
    let sections = sections_spelled m.sections rest h.2 in
    let lines = all_of (map section_text m.sections) in
    let formals = formals_spelled m.formals ((codes "\n" ++ all_of (map section_text m.sections)) ++ rest) h.1 in (
      word (codes "MODULE") ∷ word m.name ∷ (formals.0 ++ sections.0),
      then (codes "MODULE") (codes " " ++ (m.name ++ (in_brackets m.formals ++ (codes "\n" ++ all_of (map section_text m.sections))))) rest (word (codes "MODULE") ∷ []) (word m.name ∷ (formals.0 ++ sections.0))
          (is_word (codes "MODULE") _ (refl, (refl, (refl, (refl, (refl, (refl, tt)))))) (at_space _))
          (then (codes " ") (m.name ++ (in_brackets m.formals ++ (codes "\n" ++ all_of (map section_text m.sections)))) rest [] (word m.name ∷ (formals.0 ++ sections.0)) (blank _)
          (then m.name (in_brackets m.formals ++ (codes "\n" ++ all_of (map section_text m.sections))) rest (word m.name ∷ []) (formals.0 ++ sections.0)
          (is_word m.name _ h.0.1 (after_formals m.formals (all_of (map section_text m.sections)) rest))
          (then (in_brackets m.formals) (codes "\n" ++ all_of (map section_text m.sections)) rest formals.0 sections.0 formals.1
          (then (codes "\n") (all_of (map section_text m.sections)) rest [] sections.0 (line_feed _) sections.1)))),
      a_module h.0.0 (some_formals formals.2) sections.2,
    )

-- the text of a program that can be written spells it
pub program_spells : (p : ProgramTree) → IsWritableProgram p → BytesSpellProgram (program_text p) p
program_spells p h =
    let s = many_spelled SpellsModule module_text IsWritableModule module_spelled p [] h in
    let r = whole_reads (program_text p) s.0 s.1 in
    (r.0, r.1, subst (λ ls. SpellsProgram ls p) (sym r.2) s.2)
