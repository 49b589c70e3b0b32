-- What some text spells can be written.
use Rattle.std.proofs.Common.{◌≡◌, ◌≢◌, ℕ, zero, suc, ℤ, Bool, true, false, List, [], ◌∷◌, ◌++◌, Option, Some, None, sym, ap, ◌∙◌, refl, subst, arith, ⊎_elim}
use Rattle.std.specs.Prelude.{not, ◌&&◌, ◌==◌}
use Rattle.std.specs.List.{list_all}
use Rattle.smv_lexer.specs.declared.token.TokenKind.{TokenKind}
use Rattle.smv_lexer.specs.declared.token.TokenKind.TheVariants as k
use Rattle.smv_lexer.specs.declared.token.Token.{Token}
use Rattle.smv_lexer.specs.Bytes.{is_word_byte}
use Rattle.smv_lexer.specs.Runs.{Runs, takes_word, ends_word}
use Rattle.smv_lexer.specs.Tokens.{Piece, IsTokenPiece, IsPiece, Splits, IsWord, IsNumber, IsAmong, signs, HasTokens, number_of}
use Rattle.smv_lexer.proofs.RunLemmas.{Runs-digits}
use Rattle.smv_lexer.proofs.SignLemmas.{among_all, sign_no_number}
use Rattle.smv_language.specs.declared.program.Member.{Member}
use Rattle.smv_language.specs.Tree.{Tree, Trees, Branches, no_tree, no_branch}
use Rattle.smv_language.specs.ProgramTree.{Text, Path, Formula, DeclaredTree, DeclTree, DefineTree, AssignmentTree, SectionTree, ModuleTree, ProgramTree}
use Rattle.smv_language.specs.declared.program.Moment.{Moment}
use Rattle.smv_language.specs.Lexemes.{Lexeme, word, num, sign, lexeme_of, lexemes_of}
use Rattle.smv_language.specs.Spells.{minus, SpellsInt, plain_int, minus_int, SpellsDotted, one_name, more_names, Spells, only_iff, implies, repeated, only_or, chooses, only_not, negates, only_atom, inverts, SpellsMore, no_operator, one_operator, SpellsAtom, is_true, is_false, is_number, is_span, is_name, in_parentheses, is_next, is_set, is_case, SpellsTrees, one_tree, more_trees, SpellsBranches, one_branch, more_branches}
use Rattle.smv_language.specs.SpellsProgram.{SpellsMany, no_more, one_more, SpellsCommas, last_one, one_comma, SpellsBracketed, no_brackets, brackets, SpellsName, a_name, SpellsExpr, SpellsMember, a_symbol, a_number, SpellsType, is_boolean, is_range, is_members, SpellsDeclared, is_type, is_instance, is_empty_instance, SpellsDecl, declares, SpellsDefine, defines, SpellsTarget, always, first, after, SpellsAssignment, assigns, SpellsFormula, open_ended, ended, SpellsSection, a_var, an_ivar, a_frozen, a_define, some_constants, an_assign, an_init, an_invar, a_trans, SpellsSections, no_section, a_section, skipped, SpellsFormals, some_formals, empty_formals, SpellsModule, a_module}
use Rattle.smv_language.specs.Bytes.{BytesSpellExpr, BytesSpellProgram}
use Rattle.smv_language.specs.PrintedTokens.{IsSmall, IsEnd, AreNames, IsName, IsWritable, AreWritable, AreWritableBranches}
use Rattle.smv_language.specs.WritableProgram.{IsWritableMember, IsWritableType, IsWritableDeclared, IsWritableDecl, IsWritableTyped, IsWritableDefine, IsWritableAssignment, IsWritableSection, IsWritableModule, IsWritableProgram}
use Rattle.smv_language.specs.Trace.{Each}
use Rattle.smv_language.proofs.Pieces.{with_piece, seen, seen_tokens}

-- a kind that a sign has
abbrev pub IsSign : TokenKind → Type 0
IsSign k.Word = ⊥
IsSign k.Number = ⊥
IsSign _ = Unit {0}

-- a lexeme that a text can have
abbrev pub Fits : Lexeme → Type 0
Fits (word x) = IsWord x []
Fits (num n d) = IsSmall n × IsNumber d [] × (n ≡ number_of d)
Fits (sign s) = IsSign s

abbrev pub AllFit : List Lexeme → Type 0
AllFit [] = Unit {0}
AllFit (l ∷ ls) = Fits l × AllFit ls

pub front : (xs ys : List Lexeme) → AllFit (xs ++ ys) → AllFit xs
front [] ys h = tt
front (x ∷ xs) ys h = (h.0, front xs ys h.1)

pub back : (xs ys : List Lexeme) → AllFit (xs ++ ys) → AllFit ys
back [] ys h = h
back (x ∷ xs) ys h = back xs ys h.1

-- a word is a word at the end of a text too
at_end : (a c e : Bool) → (a && not (c && e)) ≡ true → (a && not (c && false)) ≡ true
at_end true true true h = cc
at_end true true false h = refl
at_end true false e h = refl
at_end false c e h = cc

word_runs_alone : (bs behind : List ℕ) → Runs takes_word bs behind → Runs takes_word bs []
word_runs_alone [] behind h = tt
word_runs_alone (b ∷ []) behind h = (at_end (is_word_byte b) (b == 45) (ends_word behind) h.0, tt)
word_runs_alone (b ∷ c ∷ bs) behind h = (h.0, word_runs_alone (c ∷ bs) behind h.1)

pub word_alone : (x behind : List ℕ) → IsWord x behind → IsWord x []
word_alone [] behind h = absurd h
word_alone (b ∷ bs) behind h = (h.0, word_runs_alone bs behind h.1)

is_word_kind : TokenKind → Bool
is_word_kind k.Word = true
is_word_kind other = false

no_words : list_all (λ sign. not (is_word_kind sign.kind)) signs ≡ true
unfolding is_word_kind
no_words = refl

sign_no_word : (text : List ℕ) → IsAmong signs k.Word text → ⊥
unfolding is_word_kind
sign_no_word text among =
    let place = among_all (λ sign. not (is_word_kind sign.kind)) signs k.Word text no_words among in
    let clash : false ≡ true = subst (λ kind. not (is_word_kind kind) ≡ true) place.2 place.1 in
    cc

-- digits are digits at the end of a text too
number_alone : (x behind : List ℕ) → IsNumber x behind → IsNumber x []
number_alone [] behind h = absurd h
number_alone (b ∷ bs) behind h = Runs-digits (b ∷ bs) behind [] h

fits_of : (kind : TokenKind) (text behind : List ℕ) → IsTokenPiece kind text behind → Fits (lexeme_of kind text)
fits_of k.Word text behind p =
    ⊎_elim (λ w. word_alone text behind w.1) (λ other. ⊎_elim (λ n. let clash : k.Word ≡ k.Number = n.0 in cc) (λ s. absurd (sign_no_word text s)) other) p.longest.token
fits_of k.Number text behind p =
    let digits : IsNumber text behind = ⊎_elim (λ w. let clash : k.Number ≡ k.Word = w.0 in cc) (λ other. ⊎_elim (λ n. n.1) (λ s. absurd (sign_no_number k.Number text s refl)) other) p.longest.token in
    (p.small refl, number_alone text behind digits, refl)
fits_of kind text behind p = tt

piece_fits : (kind : Option TokenKind) (text behind : List ℕ) (ls : List Lexeme) → IsPiece kind text behind → AllFit ls → AllFit (with_piece kind text ls)
piece_fits None text behind ls p h = h
piece_fits (Some kind) text behind ls p h = (fits_of kind text behind p, h)

pieces_fit : (pieces : List Piece) (bytes rest : List ℕ) → Splits pieces bytes rest → AllFit (seen pieces)
pieces_fit [] bytes rest s = tt
pieces_fit (piece ∷ pieces) bytes rest (behind, spelled, is, later) = piece_fits piece.kind piece.text behind (seen pieces) is (pieces_fit pieces behind rest later)

-- the lexemes of a text fit
pub tokens_fit : (bytes : List ℕ) (tokens : List Token) → HasTokens bytes tokens → AllFit (lexemes_of bytes tokens)
tokens_fit bytes tokens has =
    subst AllFit (sym (ap (lexemes_of bytes) has.2 ∙ seen_tokens has.0 bytes [] bytes 0 refl (omega arith) has.1)) (pieces_fit has.0 bytes [] has.1)

minus_end : (n : ℕ) → IsSmall n → IsEnd (minus n)
minus_end zero h = omega arith
minus_end (suc n) h = omega (arith, h)

pub int_writable : {ts : List Lexeme} {z : ℤ} → SpellsInt ts z → AllFit ts → IsEnd z
int_writable plain_int h = h.0.0
int_writable (minus_int {n}) h = minus_end n h.1.0.0

dotted_writable : {ts : List Lexeme} {p : Path} → SpellsDotted ts p → AllFit ts → (p ≢ []) × AreNames p
dotted_writable (one_name r) h = (λ e. cc, ((r, h.0), tt))
dotted_writable (more_names r p) h = (λ e. cc, ((r, h.0), (dotted_writable p h.1.1).1))

trees_some : {ts : List Lexeme} {us : Trees Path} → SpellsTrees ts us → us ≢ no_tree
trees_some (one_tree p) e = cc
trees_some (more_trees p m) e = cc

branches_some : {ts : List Lexeme} {bs : Branches Path} → SpellsBranches ts bs → bs ≢ no_branch
branches_some (one_branch p q) e = cc
branches_some (more_branches p q m) e = cc

mutual
  pub spelled_writable : {l : ℕ} {ts : List Lexeme} {t : Tree Path} → Spells l ts t → AllFit ts → IsWritable t
  spelled_writable (only_iff p) h = spelled_writable p h
  spelled_writable (implies {xs} {ys} p q) h = (spelled_writable p (front xs (sign k.Implies ∷ ys) h), spelled_writable q (back xs (sign k.Implies ∷ ys) h).1)
  spelled_writable (repeated {xs = xs} {ys = ys} r p m) h = more_writable m (spelled_writable p (front xs ys h)) (back xs ys h)
  spelled_writable (only_or p) h = spelled_writable p h
  spelled_writable (chooses {zs} {xs} {ys} p q r) h =
      let more = (back zs (sign k.Question ∷ (xs ++ sign k.Colon ∷ ys)) h).1 in
      (spelled_writable p (front zs (sign k.Question ∷ (xs ++ sign k.Colon ∷ ys)) h), spelled_writable q (front xs (sign k.Colon ∷ ys) more), spelled_writable r (back xs (sign k.Colon ∷ ys) more).1)
  spelled_writable (only_not p) h = spelled_writable p h
  spelled_writable (negates n p) h = spelled_writable p h.1
  spelled_writable (only_atom p) h = atom_writable p h
  spelled_writable (inverts p) h = spelled_writable p h.1

  more_writable : {l : ℕ} {ts : List Lexeme} {a t : Tree Path} → SpellsMore l ts a t → IsWritable a → AllFit ts → IsWritable t
  more_writable no_operator w h = w
  more_writable (one_operator {xs = xs} {ys = ys} f p m) w h = more_writable m (w, spelled_writable p (front xs ys h.1)) (back xs ys h.1)

  atom_writable : {ts : List Lexeme} {t : Tree Path} → SpellsAtom ts t → AllFit ts → IsWritable t
  atom_writable is_true h = tt
  atom_writable is_false h = tt
  atom_writable is_number h = h.0.0
  atom_writable (is_span {xs} {ys} p q) h = (int_writable p (front xs (sign k.Dots ∷ ys) h), int_writable q (back xs (sign k.Dots ∷ ys) h).1)
  atom_writable (is_name p) h = dotted_writable p h
  atom_writable (in_parentheses {ts} p) h = spelled_writable p (front ts (sign k.Close ∷ []) h.1)
  atom_writable (is_next {ts} p) h = spelled_writable p (front ts (sign k.Close ∷ []) h.1.1)
  atom_writable (is_set {ts} p) h = (trees_some p, trees_writable p (front ts (sign k.CloseBrace ∷ []) h.1))
  atom_writable (is_case {ts} p) h = (branches_some p, branches_writable p (front ts _ h.1))

  trees_writable : {ts : List Lexeme} {us : Trees Path} → SpellsTrees ts us → AllFit ts → AreWritable us
  trees_writable (one_tree p) h = (spelled_writable p h, tt)
  trees_writable (more_trees {ts} {us} p m) h = (spelled_writable p (front ts (sign k.Comma ∷ us) h), trees_writable m (back ts (sign k.Comma ∷ us) h).1)

  branches_writable : {ts : List Lexeme} {bs : Branches Path} → SpellsBranches ts bs → AllFit ts → AreWritableBranches bs
  branches_writable (one_branch {zs} {xs} p q) h =
      let more = (back zs (sign k.Colon ∷ (xs ++ sign k.Semicolon ∷ [])) h).1 in
      (spelled_writable p (front zs (sign k.Colon ∷ (xs ++ sign k.Semicolon ∷ [])) h), spelled_writable q (front xs (sign k.Semicolon ∷ []) more), tt)
  branches_writable (more_branches {zs} {xs} {ys} p q m) h =
      let more = (back zs (sign k.Colon ∷ (xs ++ sign k.Semicolon ∷ ys)) h).1 in
      (spelled_writable p (front zs (sign k.Colon ∷ (xs ++ sign k.Semicolon ∷ ys)) h), spelled_writable q (front xs (sign k.Semicolon ∷ ys) more), branches_writable m (back xs (sign k.Semicolon ∷ ys) more).1)

pub expression_writable : (bytes : Text) (t : Formula) → BytesSpellExpr bytes t → IsWritable t
expression_writable bytes t s = spelled_writable s.2 (tokens_fit bytes s.0 s.1)

-- lists
pub many_writable : {A : Type 0} (One : List Lexeme → A → Type 0) (Fine : A → Type 0) → ((ts : List Lexeme) (a : A) → One ts a → AllFit ts → Fine a) →
    {ts : List Lexeme} {xs : List A} → SpellsMany One ts xs → AllFit ts → Each Fine xs
many_writable One Fine each no_more h = tt
many_writable One Fine each (one_more {ts} {us} {a} p m) h = (each ts a p (front ts us h), many_writable One Fine each m (back ts us h))

commas_writable : {A : Type 0} (One : List Lexeme → A → Type 0) (Fine : A → Type 0) → ((ts : List Lexeme) (a : A) → One ts a → AllFit ts → Fine a) →
    {ts : List Lexeme} {xs : List A} → SpellsCommas One ts xs → AllFit ts → (xs ≢ []) × Each Fine xs
commas_writable One Fine each (last_one {ts} {a} p) h = (λ e. cc, (each ts a p h, tt))
commas_writable One Fine each (one_comma {ts} {us} {a} p m) h =
    (λ e. cc, (each ts a p (front ts (sign k.Comma ∷ us) h), (commas_writable One Fine each m (back ts (sign k.Comma ∷ us) h).1).1))

brackets_writable : {A : Type 0} (One : List Lexeme → A → Type 0) (Fine : A → Type 0) → ((ts : List Lexeme) (a : A) → One ts a → AllFit ts → Fine a) →
    {ts : List Lexeme} {xs : List A} → SpellsBracketed One ts xs → AllFit ts → Each Fine xs
brackets_writable One Fine each no_brackets h = tt
brackets_writable One Fine each (brackets {ts} p) h = (commas_writable One Fine each p (front ts (sign k.Close ∷ []) h.1)).1

pub name_writable : (ts : List Lexeme) (x : Text) → SpellsName ts x → AllFit ts → IsName x
name_writable ts x (a_name r) h = (r, h.0)

expr_writable : (ts : List Lexeme) (t : Formula) → SpellsExpr ts t → AllFit ts → IsWritable t
expr_writable ts t p h = spelled_writable p h

member_writable : (ts : List Lexeme) (m : Member) → SpellsMember ts m → AllFit ts → IsWritableMember m
member_writable ts m (a_symbol r) h = (r, h.0)
member_writable ts m (a_number p) h = int_writable p h

type_writable : (ts : List Lexeme) (t : DeclaredTree) → SpellsType ts t → AllFit ts → IsWritableType t
type_writable ts t is_boolean h = tt
type_writable ts t (is_range {xs} {ys} p q) h = (int_writable p (front xs (sign k.Dots ∷ ys) h), int_writable q (back xs (sign k.Dots ∷ ys) h).1)
type_writable ts t (is_members {ts = us} p) h = commas_writable SpellsMember IsWritableMember member_writable p (front us (sign k.CloseBrace ∷ []) h.1)

type_declared : (ts : List Lexeme) (t : DeclaredTree) → SpellsType ts t → AllFit ts → IsWritableDeclared t
type_declared ts t is_boolean h = tt
type_declared ts t (is_range {xs} {ys} p q) h = (int_writable p (front xs (sign k.Dots ∷ ys) h), int_writable q (back xs (sign k.Dots ∷ ys) h).1)
type_declared ts t (is_members {ts = us} p) h = commas_writable SpellsMember IsWritableMember member_writable p (front us (sign k.CloseBrace ∷ []) h.1)

declared_writable : (ts : List Lexeme) (t : DeclaredTree) → SpellsDeclared ts t → AllFit ts → IsWritableDeclared t
declared_writable ts t (is_type p) h = type_declared ts t p h
declared_writable ts t (is_instance r p) h = ((r, h.0), brackets_writable SpellsExpr IsWritable expr_writable p h.1)
declared_writable ts t (is_empty_instance r) h = ((r, h.0), tt)

decl_writable : (ts : List Lexeme) (d : DeclTree) → SpellsDecl SpellsDeclared ts d → AllFit ts → IsWritableDecl d
decl_writable ts d (declares {ts = us} r p) h = ((r, h.0), declared_writable us _ p (front us (sign k.Semicolon ∷ []) h.1.1))

typed_writable : (ts : List Lexeme) (d : DeclTree) → SpellsDecl SpellsType ts d → AllFit ts → IsWritableTyped d
typed_writable ts d (declares {ts = us} r p) h = ((r, h.0), type_writable us _ p (front us (sign k.Semicolon ∷ []) h.1.1))

define_writable : (ts : List Lexeme) (d : DefineTree) → SpellsDefine ts d → AllFit ts → IsWritableDefine d
define_writable ts d (defines {ts = us} r p) h = ((r, h.0), spelled_writable p (front us (sign k.Semicolon ∷ []) h.1.1))

target_writable : {ts : List Lexeme} {when : Moment} {p : Path} → SpellsTarget ts when p → AllFit ts → (p ≢ []) × AreNames p
target_writable (always p) h = dotted_writable p h
target_writable (first {ts} p) h = dotted_writable p (front ts (sign k.Close ∷ []) h.1.1)
target_writable (after {ts} p) h = dotted_writable p (front ts (sign k.Close ∷ []) h.1.1)

assignment_writable : (ts : List Lexeme) (a : AssignmentTree) → SpellsAssignment ts a → AllFit ts → IsWritableAssignment a
assignment_writable ts a (assigns {xs = xs} {ts = us} t p) h =
    let target = target_writable t (front xs (sign k.Becomes ∷ (us ++ sign k.Semicolon ∷ [])) h) in
    (target.0, target.1, spelled_writable p (front us (sign k.Semicolon ∷ []) (back xs (sign k.Becomes ∷ (us ++ sign k.Semicolon ∷ [])) h).1))

formula_writable : {ts : List Lexeme} {t : Formula} → SpellsFormula ts t → AllFit ts → IsWritable t
formula_writable (open_ended p) h = spelled_writable p h
formula_writable (ended {ts} p) h = spelled_writable p (front ts (sign k.Semicolon ∷ []) h)

section_writable : {ts : List Lexeme} {s : SectionTree} → SpellsSection ts s → AllFit ts → IsWritableSection s
section_writable (a_var p) h = many_writable (SpellsDecl SpellsDeclared) IsWritableDecl decl_writable p h.1
section_writable (an_ivar p) h = many_writable (SpellsDecl SpellsType) IsWritableTyped typed_writable p h.1
section_writable (a_frozen p) h = many_writable (SpellsDecl SpellsType) IsWritableTyped typed_writable p h.1
section_writable (a_define p) h = many_writable SpellsDefine IsWritableDefine define_writable p h.1
section_writable (some_constants {ts} p) h = commas_writable SpellsName IsName name_writable p (front ts (sign k.Semicolon ∷ []) h.1)
section_writable (an_assign p) h = many_writable SpellsAssignment IsWritableAssignment assignment_writable p h.1
section_writable (an_init p) h = formula_writable p h.1
section_writable (an_invar p) h = formula_writable p h.1
section_writable (a_trans p) h = formula_writable p h.1

sections_writable : {ts : List Lexeme} {ss : List SectionTree} → SpellsSections ts ss → AllFit ts → Each IsWritableSection ss
sections_writable no_section h = tt
sections_writable (a_section {ts} {us} p m) h = (section_writable p (front ts us h), sections_writable m (back ts us h))
sections_writable (skipped x ts {us} s n m) h = sections_writable m (back ts us h.1)

formals_writable : {ts : List Lexeme} {xs : List Text} → SpellsFormals ts xs → AllFit ts → Each IsName xs
formals_writable (some_formals p) h = brackets_writable SpellsName IsName name_writable p h
formals_writable empty_formals h = tt

module_writable : (ts : List Lexeme) (m : ModuleTree) → SpellsModule ts m → AllFit ts → IsWritableModule m
module_writable ts m (a_module {fs = fs} {ts = us} r f p) h = ((r, h.1.0), formals_writable f (front fs us h.1.1), sections_writable p (back fs us h.1.1))

pub program_writable : (bytes : Text) (p : ProgramTree) → BytesSpellProgram bytes p → IsWritableProgram p
program_writable bytes p s = many_writable SpellsModule IsWritableModule module_writable s.2 (tokens_fit bytes s.0 s.1)
