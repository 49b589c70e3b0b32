-- No tokens spell two programs, or two lists of expressions.
use Rattle.std.proofs.Common.{◌≡◌, ◌≢◌, ℕ, true, false, List, [], ◌∷◌, ◌++◌, refl, sym, ◌∙◌, ap, subst, arith, append_assoc}
use Rattle.std.specs.Prelude.{codes, if◌then◌else◌}
use Rattle.smv_lexer.specs.declared.token.TokenKind.TheVariants as k
use Rattle.smv_language.specs.declared.program.Moment.{Moment}
use Rattle.smv_language.specs.ProgramTree.{Text, Path, Formula, DeclaredTree, DeclTree, DefineTree, AssignmentTree, SectionTree, ModuleTree, ProgramTree}
use Rattle.smv_language.specs.Lexemes.{Lexeme, word, num, sign, is_reserved, section_words}
use Rattle.smv_language.specs.Texts.{same_text, is_among}
use Rattle.smv_language.specs.Tree.{Tree}
use Rattle.smv_language.specs.Spells.{at_expr, at_not, plain_int, minus_int, SpellsDotted, one_name, more_names, SpellsAtom, is_true, is_false, is_number, is_span, is_name, in_parentheses, is_next, is_set, is_case}
use Rattle.smv_language.specs.SpellsProgram.{SpellsMany, SpellsCommas, last_one, one_comma, SpellsBracketed, no_brackets, brackets, SpellsName, a_name, SpellsExpr, SpellsMember, SpellsType, is_boolean, is_range, is_members, SpellsDeclared, is_type, is_instance, is_empty_instance, SpellsDecl, declares, SpellsDefine, defines, SpellsTarget, always, first, after, SpellsAssignment, assigns, SpellsFormula, open_ended, ended, skipped_words, HasNoSection, SpellsSection, a_var, an_ivar, a_frozen, a_define, some_constants, an_assign, an_init, an_invar, a_trans, SpellsSections, no_section, a_section, skipped, SpellsFormals, some_formals, empty_formals, SpellsModule, a_module, SpellsProgram, SpellsExpressions, last_expression, more_expressions}
use Rattle.smv_language.proofs.Ends.{Stops, end_of_becomes, end_of_bracket, end_of_comma, end_of_semicolon}
use Rattle.smv_language.proofs.OneTree.{tails, not_reserved, Same, one_int, one_dotted, begins, some_token, regrouped, second}
use Rattle.smv_language.proofs.OneParts.{OneBefore, Any, Nothing, Semicolon, Past, AtModule, among, words_differ, past_stops, not_section, one_expr, one_word, one_member, one_commas, Closed, Braced, closed_stops, one_bracketed, one_many}

-- Types and declarations.

one_names : OneBefore (SpellsCommas SpellsName) Closed
one_names = one_commas SpellsName Any Closed one_word (λ r u. tt) (λ t. tt) (λ t u. u)

one_last_names : OneBefore (SpellsCommas SpellsName) Semicolon
one_last_names = one_commas SpellsName Any Semicolon one_word (λ r u. tt) (λ t. tt) (λ t u. u)

one_members : OneBefore (SpellsCommas SpellsMember) Braced
one_members = one_commas SpellsMember Any Braced one_member (λ r u. tt) (λ t. tt) (λ t u. u)

one_actuals : OneBefore (SpellsCommas SpellsExpr) Closed
one_actuals = one_commas SpellsExpr (Stops at_expr) Closed one_expr closed_stops (end_of_comma at_expr) (λ t u. u)

one_type : OneBefore SpellsType Any
one_type xs ys a b r s is_boolean is_boolean e u v = (refl, refl, second e)
one_type xs ys a b r s is_boolean (is_range plain_int q) e u v = cc
one_type xs ys a b r s is_boolean (is_range minus_int q) e u v = cc
one_type xs ys a b r s is_boolean (is_members q) e u v = cc
one_type xs ys a b r s (is_range plain_int p) is_boolean e u v = cc
one_type xs ys a b r s (is_range minus_int p) is_boolean e u v = cc
one_type xs ys a b r s (is_range plain_int p) (is_members q) e u v = cc
one_type xs ys a b r s (is_range minus_int p) (is_members q) e u v = cc
one_type xs ys a b r s (is_members p) is_boolean e u v = cc
one_type xs ys a b r s (is_members p) (is_range plain_int q) e u v = cc
one_type xs ys a b r s (is_members p) (is_range minus_int q) e u v = cc
one_type xs ys a b r s (is_range {xs = x0} {ys = x1} {lo = lo} {hi = hi} p p') (is_range {xs = y0} {ys = y1} {lo = lo'} {hi = hi'} q q') e u v =
    let inner : Same x0 y0 lo lo' (sign k.Dots ∷ (x1 ++ r)) (sign k.Dots ∷ (y1 ++ s)) =
    one_int (sign k.Dots ∷ (x1 ++ r)) (sign k.Dots ∷ (y1 ++ s)) p q (sym (regrouped x0 x1 r (sign k.Dots)) ∙ e ∙ regrouped y0 y1 s (sign k.Dots)) in
    let rest : Same x1 y1 hi hi' r s = one_int r s p' q' (second inner.2) in
    (rw (inner.0, rest.0) refl, rw (inner.1, rest.1) refl, rest.2)
one_type xs ys a b r s (is_members {ts = x0} {ms = m} p) (is_members {ts = y0} {ms = n} q) e u v =
    let inner : Same x0 y0 m n (sign k.CloseBrace ∷ r) (sign k.CloseBrace ∷ s) =
    one_members x0 y0 m n (sign k.CloseBrace ∷ r) (sign k.CloseBrace ∷ s) p q (sym (append_assoc x0 (sign k.CloseBrace ∷ []) r) ∙ second e ∙ append_assoc y0 (sign k.CloseBrace ∷ []) s) tt tt in
    (rw inner.0 refl, rw inner.1 refl, second inner.2)

-- a type does not begin with a name
type_no_name : {xs : List Lexeme} {t : DeclaredTree} (r z : List Lexeme) (m : Text) → SpellsType xs t → is_reserved m ≡ false → xs ++ r ≡ word m ∷ z → ⊥
type_no_name r z m is_boolean n e = let same : m ≡ codes "boolean" = cc in not_reserved m (codes "boolean") refl n same
type_no_name r z m (is_range plain_int q) n e = cc
type_no_name r z m (is_range minus_int q) n e = cc
type_no_name r z m (is_members q) n e = cc

-- an expression does not begin with `)`
abbrev NotClosed : List Lexeme → Type 0
NotClosed (sign k.Close ∷ ts) = ⊥
NotClosed _ = Unit {0}

atom_not_closed : (xs : List Lexeme) (a : Tree Path) (r : List Lexeme) → SpellsAtom xs a → NotClosed (xs ++ r)
atom_not_closed xs a r is_true = tt
atom_not_closed xs a r is_false = tt
atom_not_closed xs a r (is_next p) = tt
atom_not_closed xs a r (is_case p) = tt
atom_not_closed xs a r (is_name (one_name n)) = tt
atom_not_closed xs a r (is_name (more_names n p)) = tt
atom_not_closed xs a r (is_span plain_int q) = tt
atom_not_closed xs a r (is_span minus_int q) = tt
atom_not_closed xs a r is_number = tt
atom_not_closed xs a r (in_parentheses p) = tt
atom_not_closed xs a r (is_set p) = tt

expr_not_closed : {xs : List Lexeme} {a : Formula} (r : List Lexeme) → SpellsExpr xs a → NotClosed (xs ++ r)
expr_not_closed r p = begins NotClosed atom_not_closed (λ r. tt) (λ r. tt) r p

actuals_not_closed : {xs : List Lexeme} {es : List Formula} (r z : List Lexeme) → SpellsCommas SpellsExpr xs es → xs ++ r ≡ sign k.Close ∷ z → ⊥
actuals_not_closed r z (last_one p) e = subst NotClosed e (expr_not_closed r p)
actuals_not_closed r z (one_comma {ts = x0} {us = x1} p pm) e = subst NotClosed (sym (regrouped x0 x1 r (sign k.Comma)) ∙ e) (expr_not_closed (sign k.Comma ∷ (x1 ++ r)) p)

one_in_brackets : OneBefore (SpellsBracketed SpellsExpr) Semicolon
one_in_brackets = one_bracketed SpellsExpr Semicolon one_actuals (λ t u. u)

-- brackets with something between them are no empty ones
no_empty_brackets : {ts : List Lexeme} {es : List Formula} (r s : List Lexeme) → SpellsBracketed SpellsExpr ts es → Semicolon r → ts ++ r ≡ sign k.Open ∷ sign k.Close ∷ s → ⊥
no_empty_brackets r s no_brackets u e = subst Semicolon e u
no_empty_brackets r s (brackets {ts = ts} p) u e = actuals_not_closed (sign k.Close ∷ r) s p (sym (append_assoc ts (sign k.Close ∷ []) r) ∙ second e)

one_declared : OneBefore SpellsDeclared Semicolon
one_declared xs ys a b r s (is_type p) (is_type q) e u v = one_type xs ys a b r s p q e tt tt
one_declared xs ys a b r s (is_type p) (is_instance {m = m} n q) e u v = absurd (type_no_name r _ m p n e)
one_declared xs ys a b r s (is_type p) (is_empty_instance {m = m} n) e u v = absurd (type_no_name r _ m p n e)
one_declared xs ys a b r s (is_instance {m = m} n p) (is_type q) e u v = absurd (type_no_name s _ m q n (sym e))
one_declared xs ys a b r s (is_empty_instance {m = m} n) (is_type q) e u v = absurd (type_no_name s _ m q n (sym e))
one_declared xs ys a b r s (is_instance {m = m} {ts = x0} {actuals = ls} n p) (is_instance {m = l} {ts = y0} {actuals = bs} n' q) e u v =
    let h : m ≡ l = cc in
    let inner : Same x0 y0 ls bs r s = one_in_brackets x0 y0 ls bs r s p q (tails e) u v in
    (rw (h, inner.0) refl, rw (h, inner.1) refl, inner.2)
one_declared xs ys a b r s (is_instance {m = m} {ts = x0} n p) (is_empty_instance n') e u v = absurd (no_empty_brackets r s p u (tails e))
one_declared xs ys a b r s (is_empty_instance n) (is_instance n' q) e u v = absurd (no_empty_brackets s r q v (sym (tails e)))
one_declared xs ys a b r s (is_empty_instance {m = m} n) (is_empty_instance {m = l} n') e u v =
    let h : m ≡ l = cc in (rw h refl, rw h refl, second (second (tails e)))

one_decl : (What : List Lexeme → DeclaredTree → Type 0) → OneBefore What Semicolon → OneBefore (SpellsDecl What) Any
one_decl What one xs ys a b r s (declares {x = x} {ts = x0} {t = t} n p) (declares {x = y} {ts = y0} {t = w} m q) e u v =
    let h : x ≡ y = cc in
    let inner : Same x0 y0 t w (sign k.Semicolon ∷ r) (sign k.Semicolon ∷ s) =
    one x0 y0 t w (sign k.Semicolon ∷ r) (sign k.Semicolon ∷ s) p q (sym (append_assoc x0 (sign k.Semicolon ∷ []) r) ∙ second (tails e) ∙ append_assoc y0 (sign k.Semicolon ∷ []) s) tt tt in
    (rw (h, inner.0) refl, rw (h, inner.1) refl, second inner.2)

one_type_before : OneBefore SpellsType Semicolon
one_type_before xs ys a b r s p q e u v = one_type xs ys a b r s p q e tt tt

-- Defines and assignments.

one_define : OneBefore SpellsDefine Any
one_define xs ys a b r s (defines {x = x} {ts = x0} {e = f} n p) (defines {x = y} {ts = y0} {e = g} m q) e u v =
    let h : x ≡ y = cc in
    let inner : Same x0 y0 f g (sign k.Semicolon ∷ r) (sign k.Semicolon ∷ s) =
    one_expr x0 y0 f g (sign k.Semicolon ∷ r) (sign k.Semicolon ∷ s) p q (sym (append_assoc x0 (sign k.Semicolon ∷ []) r) ∙ second (tails e) ∙ append_assoc y0 (sign k.Semicolon ∷ []) s)
    (end_of_semicolon at_expr r) (end_of_semicolon at_expr s) in
    (rw (h, inner.0) refl, rw (h, inner.1) refl, second inner.2)

-- a dotted name does not begin with a word that is reserved
dotted_no_word : {xs : List Lexeme} {d : Path} (r z : List Lexeme) (w : Text) → SpellsDotted xs d → is_reserved w ≡ true → xs ++ r ≡ word w ∷ z → ⊥
dotted_no_word r z w (one_name {x = x} n) h e = let same : x ≡ w = cc in not_reserved x w h n same
dotted_no_word r z w (more_names {x = x} n p) h e = let same : x ≡ w = cc in not_reserved x w h n same

abbrev SameTarget : List Lexeme → List Lexeme → Moment → Moment → Path → Path → List Lexeme → List Lexeme → Type 0
SameTarget xs ys w w' d d' r s = (xs ≡ ys) × (w ≡ w') × (d ≡ d') × (r ≡ s)

one_target : {xs ys : List Lexeme} {w w' : Moment} {d d' : Path} (r s : List Lexeme) → SpellsTarget xs w d → SpellsTarget ys w' d' → xs ++ sign k.Becomes ∷ r ≡ ys ++ sign k.Becomes ∷ s →
    SameTarget xs ys w w' d d' r s
one_target {xs} {ys} r s (always {d = d} p) (always {d = d'} q) e =
    let inner : Same xs ys d d' (sign k.Becomes ∷ r) (sign k.Becomes ∷ s) = one_dotted (sign k.Becomes ∷ r) (sign k.Becomes ∷ s) p q e (end_of_becomes at_not r) (end_of_becomes at_not s) in
    (inner.0, refl, inner.1, second inner.2)
one_target r s (always p) (first q) e = absurd (dotted_no_word (sign k.Becomes ∷ r) _ (codes "init") p refl e)
one_target r s (always p) (after q) e = absurd (dotted_no_word (sign k.Becomes ∷ r) _ (codes "next") p refl e)
one_target r s (first p) (always q) e = absurd (dotted_no_word (sign k.Becomes ∷ s) _ (codes "init") q refl (sym e))
one_target r s (after p) (always q) e = absurd (dotted_no_word (sign k.Becomes ∷ s) _ (codes "next") q refl (sym e))
one_target r s (first p) (after q) e = absurd (words_differ refl e)
one_target r s (after p) (first q) e = absurd (words_differ refl e)
one_target r s (first {ts = x0} {d = d} p) (first {ts = y0} {d = d'} q) e =
    let inner : Same x0 y0 d d' (sign k.Close ∷ sign k.Becomes ∷ r) (sign k.Close ∷ sign k.Becomes ∷ s) =
    one_dotted (sign k.Close ∷ sign k.Becomes ∷ r) (sign k.Close ∷ sign k.Becomes ∷ s) p q
    (sym (append_assoc x0 (sign k.Close ∷ []) (sign k.Becomes ∷ r)) ∙ second (second e) ∙ append_assoc y0 (sign k.Close ∷ []) (sign k.Becomes ∷ s)) (end_of_bracket at_not _) (end_of_bracket at_not _) in
    (rw inner.0 refl, refl, inner.1, second (second inner.2))
one_target r s (after {ts = x0} {d = d} p) (after {ts = y0} {d = d'} q) e =
    let inner : Same x0 y0 d d' (sign k.Close ∷ sign k.Becomes ∷ r) (sign k.Close ∷ sign k.Becomes ∷ s) =
    one_dotted (sign k.Close ∷ sign k.Becomes ∷ r) (sign k.Close ∷ sign k.Becomes ∷ s) p q
    (sym (append_assoc x0 (sign k.Close ∷ []) (sign k.Becomes ∷ r)) ∙ second (second e) ∙ append_assoc y0 (sign k.Close ∷ []) (sign k.Becomes ∷ s)) (end_of_bracket at_not _) (end_of_bracket at_not _) in
    (rw inner.0 refl, refl, inner.1, second (second inner.2))

one_assignment : OneBefore SpellsAssignment Any
one_assignment xs ys a b r s (assigns {xs = x0} {ts = x1} {when = w} {d = d} {e = f} t p) (assigns {xs = y0} {ts = y1} {when = w'} {d = d'} {e = g} t' q) e u v =
    let target : SameTarget x0 y0 w w' d d' ((x1 ++ sign k.Semicolon ∷ []) ++ r) ((y1 ++ sign k.Semicolon ∷ []) ++ s) =
    one_target ((x1 ++ sign k.Semicolon ∷ []) ++ r) ((y1 ++ sign k.Semicolon ∷ []) ++ s) t t'
    (sym (regrouped x0 (x1 ++ sign k.Semicolon ∷ []) r (sign k.Becomes)) ∙ e ∙ regrouped y0 (y1 ++ sign k.Semicolon ∷ []) s (sign k.Becomes)) in
    let inner : Same x1 y1 f g (sign k.Semicolon ∷ r) (sign k.Semicolon ∷ s) =
    one_expr x1 y1 f g (sign k.Semicolon ∷ r) (sign k.Semicolon ∷ s) p q (sym (append_assoc x1 (sign k.Semicolon ∷ []) r) ∙ target.3 ∙ append_assoc y1 (sign k.Semicolon ∷ []) s)
    (end_of_semicolon at_expr r) (end_of_semicolon at_expr s) in
    (rw (target.0, inner.0) refl, rw (target.1, target.2, inner.1) refl, second inner.2)

-- Formulas with a semicolon at their end or none.

one_formula : OneBefore SpellsFormula Past
one_formula xs ys a b r s (open_ended p) (open_ended q) e u v = one_expr xs ys a b r s p q e (past_stops r u) (past_stops s v)
one_formula xs ys a b r s (open_ended p) (ended {ts = y0} q) e u v =
    let inner : Same xs y0 a b r (sign k.Semicolon ∷ s) = one_expr xs y0 a b r (sign k.Semicolon ∷ s) p q (e ∙ append_assoc y0 (sign k.Semicolon ∷ []) s) (past_stops r u) (end_of_semicolon at_expr s) in
    absurd (subst Past inner.2 u)
one_formula xs ys a b r s (ended {ts = x0} p) (open_ended q) e u v =
    let inner : Same x0 ys a b (sign k.Semicolon ∷ r) s = one_expr x0 ys a b (sign k.Semicolon ∷ r) s p q (sym (append_assoc x0 (sign k.Semicolon ∷ []) r) ∙ e) (end_of_semicolon at_expr r) (past_stops s v) in
    absurd (subst Past (sym inner.2) v)
one_formula xs ys a b r s (ended {ts = x0} p) (ended {ts = y0} q) e u v =
    let inner : Same x0 y0 a b (sign k.Semicolon ∷ r) (sign k.Semicolon ∷ s) =
    one_expr x0 y0 a b (sign k.Semicolon ∷ r) (sign k.Semicolon ∷ s) p q (sym (append_assoc x0 (sign k.Semicolon ∷ []) r) ∙ e ∙ append_assoc y0 (sign k.Semicolon ∷ []) s)
    (end_of_semicolon at_expr r) (end_of_semicolon at_expr s) in
    (rw inner.0 refl, inner.1, second inner.2)

-- Sections.

decl_starts : (What : List Lexeme → DeclaredTree → Type 0) (ts : List Lexeme) (d : DeclTree) (z : List Lexeme) → SpellsDecl What ts d → Past (ts ++ z) → ⊥
decl_starts What ts d z (declares {x = x} n p) u = not_section x n u

define_starts : (ts : List Lexeme) (d : DefineTree) (z : List Lexeme) → SpellsDefine ts d → Past (ts ++ z) → ⊥
define_starts ts d z (defines {x = x} n p) u = not_section x n u

assignment_starts : (ts : List Lexeme) (a : AssignmentTree) (z : List Lexeme) → SpellsAssignment ts a → Past (ts ++ z) → ⊥
assignment_starts ts a z (assigns (always (one_name {x = x} n)) p) u = not_section x n u
assignment_starts ts a z (assigns (always (more_names {x = x} n d)) p) u = not_section x n u
assignment_starts ts a z (assigns (first d) p) u = let clash : false ≡ true = u in cc
assignment_starts ts a z (assigns (after d) p) u = let clash : false ≡ true = u in cc

one_decls : (What : List Lexeme → DeclaredTree → Type 0) → OneBefore What Semicolon → OneBefore (SpellsMany (SpellsDecl What)) Past
one_decls What one = one_many (SpellsDecl What) Any Past (one_decl What one) (λ r u. tt) (λ ts a z p. tt) (decl_starts What)

one_defines : OneBefore (SpellsMany SpellsDefine) Past
one_defines = one_many SpellsDefine Any Past one_define (λ r u. tt) (λ ts a z p. tt) define_starts

one_assignments : OneBefore (SpellsMany SpellsAssignment) Past
one_assignments = one_many SpellsAssignment Any Past one_assignment (λ r u. tt) (λ ts a z p. tt) assignment_starts

-- a number for each kind of section, by its word
abbrev kind_of : {ts : List Lexeme} {s : SectionTree} → SpellsSection ts s → ℕ
kind_of (a_var p) = 1
kind_of (an_ivar p) = 2
kind_of (a_frozen p) = 3
kind_of (a_define p) = 4
kind_of (some_constants p) = 5
kind_of (an_assign p) = 6
kind_of (an_init p) = 7
kind_of (an_invar p) = 8
kind_of (a_trans p) = 9

number_of : Text → ℕ
number_of x =
    if same_text x (codes "VAR") then 1 else (if same_text x (codes "IVAR") then 2 else (if same_text x (codes "FROZENVAR") then 3 else
    (if same_text x (codes "DEFINE") then 4 else (if same_text x (codes "CONSTANTS") then 5 else (if same_text x (codes "ASSIGN") then 6 else
    (if same_text x (codes "INIT") then 7 else (if same_text x (codes "INVAR") then 8 else (if same_text x (codes "TRANS") then 9 else 0))))))))

abbrev head_kind : List Lexeme → ℕ
head_kind [] = 0
head_kind (word x ∷ ts) = number_of x
head_kind (num n d ∷ ts) = 0
head_kind (sign s ∷ ts) = 0

section_begins : {ts : List Lexeme} {s : SectionTree} (r : List Lexeme) (p : SpellsSection ts s) → head_kind (ts ++ r) ≡ kind_of p
unfolding number_of
section_begins r (a_var p) = refl
section_begins r (an_ivar p) = refl
section_begins r (a_frozen p) = refl
section_begins r (a_define p) = refl
section_begins r (some_constants p) = refl
section_begins r (an_assign p) = refl
section_begins r (an_init p) = refl
section_begins r (an_invar p) = refl
section_begins r (a_trans p) = refl

one_kind : (xs ys : List Lexeme) (a b : SectionTree) (r s : List Lexeme) (p : SpellsSection xs a) (q : SpellsSection ys b) → kind_of p ≡ kind_of q → xs ++ r ≡ ys ++ s → Past r → Past s →
    Same xs ys a b r s
one_kind xs ys a b r s (a_var {ts = x0} {ds = m} p) (a_var {ts = y0} {ds = n} q) c e u v =
    let inner : Same x0 y0 m n r s = one_decls SpellsDeclared one_declared x0 y0 m n r s p q (second e) u v in (rw inner.0 refl, rw inner.1 refl, inner.2)
one_kind xs ys a b r s (an_ivar {ts = x0} {ds = m} p) (an_ivar {ts = y0} {ds = n} q) c e u v =
    let inner : Same x0 y0 m n r s = one_decls SpellsType one_type_before x0 y0 m n r s p q (second e) u v in (rw inner.0 refl, rw inner.1 refl, inner.2)
one_kind xs ys a b r s (a_frozen {ts = x0} {ds = m} p) (a_frozen {ts = y0} {ds = n} q) c e u v =
    let inner : Same x0 y0 m n r s = one_decls SpellsType one_type_before x0 y0 m n r s p q (second e) u v in (rw inner.0 refl, rw inner.1 refl, inner.2)
one_kind xs ys a b r s (a_define {ts = x0} {ds = m} p) (a_define {ts = y0} {ds = n} q) c e u v =
    let inner : Same x0 y0 m n r s = one_defines x0 y0 m n r s p q (second e) u v in (rw inner.0 refl, rw inner.1 refl, inner.2)
one_kind xs ys a b r s (some_constants {ts = x0} {xs = m} p) (some_constants {ts = y0} {xs = n} q) c e u v =
    let inner : Same x0 y0 m n (sign k.Semicolon ∷ r) (sign k.Semicolon ∷ s) =
    one_last_names x0 y0 m n (sign k.Semicolon ∷ r) (sign k.Semicolon ∷ s) p q (sym (append_assoc x0 (sign k.Semicolon ∷ []) r) ∙ second e ∙ append_assoc y0 (sign k.Semicolon ∷ []) s) tt tt in
    (rw inner.0 refl, rw inner.1 refl, second inner.2)
one_kind xs ys a b r s (an_assign {ts = x0} {list = m} p) (an_assign {ts = y0} {list = n} q) c e u v =
    let inner : Same x0 y0 m n r s = one_assignments x0 y0 m n r s p q (second e) u v in (rw inner.0 refl, rw inner.1 refl, inner.2)
one_kind xs ys a b r s (an_init {ts = x0} {e = m} p) (an_init {ts = y0} {e = n} q) c e u v =
    let inner : Same x0 y0 m n r s = one_formula x0 y0 m n r s p q (second e) u v in (rw inner.0 refl, rw inner.1 refl, inner.2)
one_kind xs ys a b r s (an_invar {ts = x0} {e = m} p) (an_invar {ts = y0} {e = n} q) c e u v =
    let inner : Same x0 y0 m n r s = one_formula x0 y0 m n r s p q (second e) u v in (rw inner.0 refl, rw inner.1 refl, inner.2)
one_kind xs ys a b r s (a_trans {ts = x0} {e = m} p) (a_trans {ts = y0} {e = n} q) c e u v =
    let inner : Same x0 y0 m n r s = one_formula x0 y0 m n r s p q (second e) u v in (rw inner.0 refl, rw inner.1 refl, inner.2)
one_kind xs ys a b r s p q c e u v = absurd (omega (arith, c))

one_section : OneBefore SpellsSection Past
one_section xs ys a b r s p q e u v = one_kind xs ys a b r s p q (sym (section_begins r p) ∙ (ap head_kind e ∙ section_begins s q)) e u v

-- what a section begins with
section_past : {ts : List Lexeme} {s : SectionTree} (z : List Lexeme) → SpellsSection ts s → Past (ts ++ z)
section_past z (a_var p) = refl
section_past z (an_ivar p) = refl
section_past z (a_frozen p) = refl
section_past z (a_define p) = refl
section_past z (some_constants p) = refl
section_past z (an_assign p) = refl
section_past z (an_init p) = refl
section_past z (an_invar p) = refl
section_past z (a_trans p) = refl

-- a word that is passed over
passed_past : (x : Text) → is_among skipped_words x ≡ true → is_among section_words x ≡ true
passed_past x h = among (λ w. is_among section_words w ≡ true) skipped_words x (refl, (refl, (refl, (refl, (refl, (refl, tt)))))) h

passed_kind : (x : Text) → is_among skipped_words x ≡ true → number_of x ≡ 0
unfolding number_of
passed_kind x h = among (λ w. number_of w ≡ 0) skipped_words x (refl, (refl, (refl, (refl, (refl, (refl, tt)))))) h

passed_no_module : (x : Text) → is_among skipped_words x ≡ true → x ≡ codes "MODULE" → ⊥
passed_no_module x h e = let clash : is_among skipped_words (codes "MODULE") ≡ true = subst (λ w. is_among skipped_words w ≡ true) e h in cc

some_kind : {ts : List Lexeme} {s : SectionTree} (p : SpellsSection ts s) → kind_of p ≡ 0 → ⊥
some_kind (a_var p) h = omega (arith, h)
some_kind (an_ivar p) h = omega (arith, h)
some_kind (a_frozen p) h = omega (arith, h)
some_kind (a_define p) h = omega (arith, h)
some_kind (some_constants p) h = omega (arith, h)
some_kind (an_assign p) h = omega (arith, h)
some_kind (an_init p) h = omega (arith, h)
some_kind (an_invar p) h = omega (arith, h)
some_kind (a_trans p) h = omega (arith, h)

module_kind : (r : List Lexeme) → AtModule r → head_kind r ≡ 0
unfolding number_of
module_kind [] u = refl
module_kind (word x ∷ ts) u = ap number_of u
module_kind (num n d ∷ ts) u = absurd u
module_kind (sign s ∷ ts) u = absurd u

section_no_module : {ts : List Lexeme} {s : SectionTree} (z : List Lexeme) → SpellsSection ts s → AtModule (ts ++ z) → ⊥
section_no_module z p h = some_kind p (sym (section_begins z p) ∙ module_kind _ h)

section_not_passed : {ts : List Lexeme} {s : SectionTree} (r z : List Lexeme) (x : Text) → SpellsSection ts s → is_among skipped_words x ≡ true → ts ++ r ≡ word x ∷ z → ⊥
section_not_passed r z x p h e = some_kind p (sym (section_begins r p) ∙ ap head_kind e ∙ passed_kind x h)

module_past : (r : List Lexeme) → AtModule r → Past r
module_past [] u = tt
module_past (word x ∷ ts) u = subst (λ w. is_among section_words w ≡ true) (sym u) refl
module_past (num n d ∷ ts) u = absurd u
module_past (sign s ∷ ts) u = absurd u

sections_past : {ts : List Lexeme} {ss : List SectionTree} (r : List Lexeme) → SpellsSections ts ss → AtModule r → Past (ts ++ r)
sections_past r no_section u = module_past r u
sections_past r (a_section {ts = x0} {us = x1} p q) u = subst Past (sym (append_assoc x0 x1 r)) (section_past (x1 ++ r) p)
sections_past r (skipped x ts h none q) u = passed_past x h

-- tokens that are no section words, up to one
no_section_here : (t : Lexeme) (ts z : List Lexeme) → HasNoSection (t ∷ ts) → Past (t ∷ z) → ⊥
no_section_here (word x) ts z h u = let both : true ≡ false = sym u ∙ h.0 in cc
no_section_here (num n d) ts z h u = u
no_section_here (sign s) ts z h u = u

tail_passed : (t : Lexeme) (ts : List Lexeme) → HasNoSection (t ∷ ts) → HasNoSection ts
tail_passed (word x) ts h = h.1
tail_passed (num n d) ts h = h
tail_passed (sign s) ts h = h

one_passed : (xs ys r s : List Lexeme) → HasNoSection xs → HasNoSection ys → xs ++ r ≡ ys ++ s → Past r → Past s → (xs ≡ ys) × (r ≡ s)
one_passed [] [] r s h g e u v = (refl, e)
one_passed [] (t ∷ ys) r s h g e u v = absurd (no_section_here t ys (ys ++ s) g (subst Past e u))
one_passed (t ∷ xs) [] r s h g e u v = absurd (no_section_here t xs (xs ++ r) h (subst Past (sym e) v))
one_passed (t ∷ xs) (t' ∷ ys) r s h g e u v =
    let heads : t ≡ t' = cc in
    let tails : xs ++ r ≡ ys ++ s = cc in
    let rest : (xs ≡ ys) × (r ≡ s) = one_passed xs ys r s (tail_passed t xs h) (tail_passed t' ys g) tails u v in
    (rw (heads, rest.0) refl, rest.1)

one_sections : OneBefore SpellsSections AtModule
one_sections xs ys a b r s no_section no_section e u v = (refl, refl, e)
one_sections xs ys a b r s no_section (a_section {ts = y0} {us = y1} q qm) e u v = absurd (section_no_module (y1 ++ s) q (subst AtModule (e ∙ append_assoc y0 y1 s) u))
one_sections xs ys a b r s no_section (skipped y ts h none q) e u v = absurd (passed_no_module y h (subst AtModule e u))
one_sections xs ys a b r s (a_section {ts = x0} {us = x1} p pm) no_section e u v = absurd (section_no_module (x1 ++ r) p (subst AtModule (sym e ∙ append_assoc x0 x1 r) v))
one_sections xs ys a b r s (skipped x ts h none p) no_section e u v = absurd (passed_no_module x h (subst AtModule (sym e) v))
one_sections xs ys a b r s (a_section {ts = x0} {us = x1} {s = m} {ss = ms} p pm) (a_section {ts = y0} {us = y1} {s = n} {ss = ns} q qm) e u v =
    let inner : Same x0 y0 m n (x1 ++ r) (y1 ++ s) =
    one_section x0 y0 m n (x1 ++ r) (y1 ++ s) p q (sym (append_assoc x0 x1 r) ∙ e ∙ append_assoc y0 y1 s) (sections_past r pm u) (sections_past s qm v) in
    let rest : Same x1 y1 ms ns r s = one_sections x1 y1 ms ns r s pm qm inner.2 u v in
    (rw (inner.0, rest.0) refl, rw (inner.1, rest.1) refl, rest.2)
one_sections xs ys a b r s (a_section {ts = x0} {us = x1} p pm) (skipped y ts h none q) e u v = absurd (section_not_passed (x1 ++ r) _ y p h (sym (append_assoc x0 x1 r) ∙ e))
one_sections xs ys a b r s (skipped x ts h none p) (a_section {ts = y0} {us = y1} q qm) e u v = absurd (section_not_passed (y1 ++ s) _ x q h (sym (append_assoc y0 y1 s) ∙ sym e))
one_sections xs ys a b r s (skipped x x0 {us = x1} {ss = ms} h none p) (skipped y y0 {us = y1} {ss = ns} h' none' q) e u v =
    let heads : x ≡ y = cc in
    let inner : (x0 ≡ y0) × (x1 ++ r ≡ y1 ++ s) = one_passed x0 y0 (x1 ++ r) (y1 ++ s) none none' (sym (append_assoc x0 x1 r) ∙ tails e ∙ append_assoc y0 y1 s) (sections_past r p u) (sections_past s q v) in
    let rest : Same x1 y1 ms ns r s = one_sections x1 y1 ms ns r s p q inner.1 u v in
    (rw (heads, inner.0, rest.0) refl, rest.1, rest.2)

-- Modules and programs.

names_not_closed : {xs : List Lexeme} {ns : List Text} (r z : List Lexeme) → SpellsCommas SpellsName xs ns → xs ++ r ≡ sign k.Close ∷ z → ⊥
names_not_closed r z (last_one (a_name n)) e = cc
names_not_closed r z (one_comma (a_name n) p) e = cc

no_empty_formals : {ts : List Lexeme} {ns : List Text} (r s : List Lexeme) → SpellsBracketed SpellsName ts ns → Past r → ts ++ r ≡ sign k.Open ∷ sign k.Close ∷ s → ⊥
no_empty_formals r s no_brackets u e = subst Past e u
no_empty_formals r s (brackets {ts = ts} p) u e = names_not_closed (sign k.Close ∷ r) s p (sym (append_assoc ts (sign k.Close ∷ []) r) ∙ second e)

one_formals : OneBefore SpellsFormals Past
one_formals xs ys a b r s (some_formals p) (some_formals q) e u v = one_bracketed SpellsName Past one_names (λ t w. w) xs ys a b r s p q e u v
one_formals xs ys a b r s (some_formals p) empty_formals e u v = absurd (no_empty_formals r s p u e)
one_formals xs ys a b r s empty_formals (some_formals q) e u v = absurd (no_empty_formals s r q v (sym e))
one_formals xs ys a b r s empty_formals empty_formals e u v = (refl, refl, second (second e))

one_module : OneBefore SpellsModule AtModule
one_module xs ys a b r s (a_module {x = x} {fs = x0} {ts = x1} {formals = f} {ss = m} n p pm) (a_module {x = y} {fs = y0} {ts = y1} {formals = g} {ss = l} n' q qm) e u v =
    let heads : x ≡ y = cc in
    let inner : Same x0 y0 f g (x1 ++ r) (y1 ++ s) =
    one_formals x0 y0 f g (x1 ++ r) (y1 ++ s) p q (sym (append_assoc x0 x1 r) ∙ tails (second e) ∙ append_assoc y0 y1 s) (sections_past r pm u) (sections_past s qm v) in
    let rest : Same x1 y1 m l r s = one_sections x1 y1 m l r s pm qm inner.2 u v in
    (rw (heads, inner.0, rest.0) refl, rw (heads, inner.1, rest.1) refl, rest.2)

nothing_module : (r : List Lexeme) → Nothing r → AtModule r
nothing_module [] u = tt
nothing_module (t ∷ ts) u = absurd u

module_goes_on : (ts : List Lexeme) (m : ModuleTree) (z : List Lexeme) → SpellsModule ts m → AtModule (ts ++ z)
module_goes_on ts m z (a_module n p q) = refl

module_starts : (ts : List Lexeme) (m : ModuleTree) (z : List Lexeme) → SpellsModule ts m → Nothing (ts ++ z) → ⊥
module_starts ts m z (a_module n p q) u = u

-- no list of tokens spells two programs
pub one_program : (ts : List Lexeme) (p q : ProgramTree) → SpellsProgram ts p → SpellsProgram ts q → p ≡ q
one_program ts p q h g = (one_many SpellsModule AtModule Nothing one_module nothing_module module_goes_on module_starts ts ts p q [] [] h g refl tt tt).1

-- Lists of expressions.

nothing_past : (r : List Lexeme) → Nothing r → Past r
nothing_past [] u = tt
nothing_past (t ∷ ts) u = absurd u

nothing_is : (r : List Lexeme) → Nothing r → r ≡ []
nothing_is [] u = refl
nothing_is (t ∷ ts) u = absurd u

expressions_some : {ts : List Lexeme} {es : List Formula} (r : List Lexeme) → SpellsExpressions ts es → ts ++ r ≢ []
expressions_some r (last_expression (open_ended p)) = some_token r p
expressions_some r (last_expression (ended {ts = ts} p)) = λ e. some_token (sign k.Semicolon ∷ r) p (sym (append_assoc ts (sign k.Semicolon ∷ []) r) ∙ e)
expressions_some r (more_expressions {ts = x0} {us = x1} p q) = λ e. some_token (sign k.Semicolon ∷ (x1 ++ r)) p (sym (regrouped x0 x1 r (sign k.Semicolon)) ∙ e)

-- the last expression goes on with no other
no_further : {ys : List Lexeme} {es : List Formula} {xs y0 : List Lexeme} {a b : Formula} (r s : List Lexeme) → SpellsFormula xs a → SpellsExpr y0 b → SpellsExpressions ys es →
    xs ++ r ≡ (y0 ++ sign k.Semicolon ∷ ys) ++ s → Nothing r → ⊥
no_further {ys = ys} {y0 = y0} {a = a} {b = b} r s (open_ended {ts = xs} p) q qm e u =
    let inner : Same xs y0 a b r (sign k.Semicolon ∷ (ys ++ s)) =
    one_expr xs y0 a b r (sign k.Semicolon ∷ (ys ++ s)) p q (e ∙ regrouped y0 ys s (sign k.Semicolon)) (past_stops r (nothing_past r u)) (end_of_semicolon at_expr (ys ++ s)) in
    subst Nothing inner.2 u
no_further {ys = ys} {y0 = y0} {a = a} {b = b} r s (ended {ts = xs} p) q qm e u =
    let inner : Same xs y0 a b (sign k.Semicolon ∷ r) (sign k.Semicolon ∷ (ys ++ s)) =
    one_expr xs y0 a b (sign k.Semicolon ∷ r) (sign k.Semicolon ∷ (ys ++ s)) p q (sym (append_assoc xs (sign k.Semicolon ∷ []) r) ∙ e ∙ regrouped y0 ys s (sign k.Semicolon))
    (end_of_semicolon at_expr r) (end_of_semicolon at_expr (ys ++ s)) in
    expressions_some s qm (sym (second inner.2) ∙ nothing_is r u)

one_expressions : OneBefore SpellsExpressions Nothing
one_expressions xs ys a b r s (last_expression {e = f} p) (last_expression {e = g} q) e u v =
    let inner : Same xs ys f g r s = one_formula xs ys f g r s p q e (nothing_past r u) (nothing_past s v) in (inner.0, rw inner.1 refl, inner.2)
one_expressions xs ys a b r s (last_expression p) (more_expressions q qm) e u v = absurd (no_further r s p q qm e u)
one_expressions xs ys a b r s (more_expressions p pm) (last_expression q) e u v = absurd (no_further s r q p pm (sym e) v)
one_expressions xs ys a b r s (more_expressions {ts = x0} {us = x1} {e = f} {more = m} p pm) (more_expressions {ts = y0} {us = y1} {e = g} {more = n} q qm) e u v =
    let inner : Same x0 y0 f g (sign k.Semicolon ∷ (x1 ++ r)) (sign k.Semicolon ∷ (y1 ++ s)) =
    one_expr x0 y0 f g (sign k.Semicolon ∷ (x1 ++ r)) (sign k.Semicolon ∷ (y1 ++ s)) p q (sym (regrouped x0 x1 r (sign k.Semicolon)) ∙ e ∙ regrouped y0 y1 s (sign k.Semicolon))
    (end_of_semicolon at_expr (x1 ++ r)) (end_of_semicolon at_expr (y1 ++ s)) in
    let rest : Same x1 y1 m n r s = one_expressions x1 y1 m n r s pm qm (second inner.2) u v in
    (rw (inner.0, rest.0) refl, rw (inner.1, rest.1) refl, rest.2)

-- no list of tokens spells two lists of expressions
pub one_list_of_expressions : (ts : List Lexeme) (es fs : List Formula) → SpellsExpressions ts es → SpellsExpressions ts fs → es ≡ fs
one_list_of_expressions ts es fs p q = (one_expressions ts ts es fs [] [] p q refl tt tt).1
