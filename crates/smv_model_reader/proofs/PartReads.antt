-- A program is read as it is spelled.
use Rattle.std.proofs.Common.{◌≡◌, ℕ, zero, suc, ◌<◌, ◌≤◌, Bool, true, false, List, [], ◌∷◌, ◌++◌, length, refl, sym, ap, ◌∙◌, subst, arith, append_assoc, append-nil, length-append}
use Rattle.std.proofs.Math.Bool.{or-false}
use Rattle.std.specs.Prelude.{◌||◌, if◌then◌else◌}
use Rattle.smv_lexer.specs.declared.token.TokenKind.TheVariants as k
use Rattle.smv_lexer.specs.declared.token.Token.{Token}
use Rattle.smv_lexer.specs.Tokens.{HasTokens}
use Rattle.smv_language.specs.declared.program.Member.{Member}
use Rattle.smv_language.specs.declared.program.Member.TheVariants as mem
use Rattle.smv_language.specs.declared.program.Moment.{Moment}
use Rattle.smv_language.specs.declared.program.Moment.TheVariants.{Always, First, After}
use Rattle.smv_language.specs.Language.{Text, Path, Formula, DeclaredTree, instance, members, range, DeclTree, DefineTree, AssignmentTree, SectionTree, var, ivar, frozen, define, constants, assign, init, invar, trans, ModuleTree, ProgramTree, Lexeme, word, num, sign, is_reserved, lexemes_of, plain_int, minus_int, SpellsDotted, one_name, more_names, SpellsMany, no_more, one_more, SpellsCommas, last_one, one_comma, SpellsBracketed, no_brackets, brackets, SpellsName, a_name, SpellsExpr, SpellsMember, SpellsType, is_boolean, is_range, is_members, SpellsDeclared, is_type, is_instance, is_empty_instance, SpellsDecl, declares, SpellsDefine, SpellsTarget, always, first, after, SpellsAssignment, SpellsFormula, open_ended, ended, HasNoSection, SpellsSection, a_var, an_ivar, a_frozen, some_constants, an_assign, an_init, an_invar, a_trans, SpellsSections, no_section, a_section, skipped, SpellsFormals, some_formals, empty_formals, SpellsModule, a_module, SpellsProgram, BytesSpellProgram}
use Rattle.smv_language.specs.SpellsProgram as g
use Rattle.smv_language.specs.SpellsProgram.{a_symbol, a_define}
use Rattle.smv_expression_reader.specs.Recogniser.{stuck, run, is_whole, start}
use Rattle.smv_expression_reader.specs.Marks.{mark_of, is_mark}
use Rattle.smv_model_reader.specs.Symbols.{IsProgram}
use Rattle.smv_expression_reader.specs.ExpressionDepths.{Spelling, AreWithin, is_too_deep, are_too_deep, spelling, in_formula, in_many}
use Rattle.smv_model_reader.specs.ProgramDepths.{in_commas, in_actuals, in_actual, in_declared, in_decl, in_define, in_assignment, in_section, in_sections, in_module, in_program, HasProgramDepths, IsProgramTooDeep}
use Rattle.smv_expression_reader.specs.SecondPass.{Read, got, deep, none, and_then, answer, mark_at, rest_of, has_next, expect_at, name_at, expr_at, each_at, some_at, past_semicolon, is_past, int_at}
use Rattle.smv_model_reader.specs.ProgramParts.{next_name, dotted_at, names_at, member_at, members_at, braced_at, type_at, commas_at, closed_at, bracketed_at, instance_at, declared_at, decl_at, decls_at, value_at, define_at, defines_at, moment_at, past_moment, target_at, assignment_at, begins_assignment, assigns_at, constants_at, formula_at, past_skipped, section_at, is_kept, sections_at, next_module, program_at}
use Rattle.smv_expression_reader.proofs.Accepted.{run_stuck, spelled_accepted}
use Rattle.smv_expression_reader.proofs.Marks.{Marked, marked, mark_of_name, mark_of_skipped, skipped_section, begins_section, section_mark}
use Rattle.smv_expression_reader.proofs.PartsRead.{too_append, mapped, closes_with, each_none_left, cons_answer, each_joined, some_joined, many_read, name_read, int_read, answer_got, answer_deep, answer_none}
use Rattle.smv_model_reader.proofs.ProgramReads.{section_ends, is_sectional, section_marks}
use Rattle.smv_expression_reader.proofs.ReadLaws.{ends_expr, read_expr, are_within, within_are}
use Rattle.smv_expression_reader.specs.declared.mark.Mark.{Mark}
use Rattle.smv_expression_reader.specs.declared.mark.Mark.TheVariants as mark

-- parts with commas between
module _ (A : Type 0) (One : List Lexeme → A → Type 0) (one : List Lexeme → Read A) (within : (ts : List Lexeme) (a : A) → One ts a → List Spelling) (ok : List Lexeme → Bool)
    (comma_ok : (z : List Lexeme) → ok (sign k.Comma ∷ z) ≡ true)
    (reads : (ts : List Lexeme) (a : A) (p : One ts a) (r : List Lexeme) → ok r ≡ true → one (ts ++ r) ≡ answer (are_too_deep (within ts a p)) a r) where
  abbrev next : List Lexeme → Read A
  next z = one (rest_of z)

  commas_more : {us : List Lexeme} {vs : List A} (q : SpellsCommas One us vs) (n : ℕ) (r : List Lexeme) → length us ≤ n → ok r ≡ true → has_next mark.Comma r ≡ false →
      each_at (has_next mark.Comma) next (suc n) (sign k.Comma ∷ (us ++ r)) ≡ answer (are_too_deep (in_commas One within q)) vs r
  commas_more (last_one {ts} {a} p) n r h ends off =
      each_joined (has_next mark.Comma) next n (sign k.Comma ∷ (ts ++ r)) r (are_too_deep (within ts a p)) false a [] r refl (reads ts a p r ends) (each_none_left (has_next mark.Comma) next n r off)
      ∙ ap (λ b. answer b (a ∷ []) r) (or-false (are_too_deep (within ts a p)))
  commas_more (one_comma {ts} {us} {a} {more} p q) zero r h ends off = let size = length-append ts (sign k.Comma ∷ us) in absurd (omega (arith, h, size))
  commas_more (one_comma {ts} {us} {a} {more} p q) (suc n) r h ends off =
      let size = length-append ts (sign k.Comma ∷ us) in
      ap (λ z. each_at (has_next mark.Comma) next (suc (suc n)) (sign k.Comma ∷ z)) (append_assoc ts (sign k.Comma ∷ us) r)
      ∙ each_joined (has_next mark.Comma) next (suc n) (sign k.Comma ∷ (ts ++ sign k.Comma ∷ (us ++ r))) (sign k.Comma ∷ (us ++ r)) (are_too_deep (within ts a p)) (are_too_deep (in_commas One within q)) a more r
      refl (reads ts a p (sign k.Comma ∷ (us ++ r)) (comma_ok (us ++ r))) (commas_more q n r (omega (arith, h, size)) ends off)
      ∙ ap (λ b. answer b (a ∷ more) r) (sym (too_append (within ts a p) (in_commas One within q)))

  commas_read : {us : List Lexeme} {vs : List A} (q : SpellsCommas One us vs) (r : List Lexeme) → ok r ≡ true → has_next mark.Comma r ≡ false →
      some_at (has_next mark.Comma) one next (us ++ r) ≡ answer (are_too_deep (in_commas One within q)) vs r
  commas_read (last_one {ts} {a} p) r ends off =
      some_joined (has_next mark.Comma) one next (ts ++ r) r (are_too_deep (within ts a p)) false a [] r (reads ts a p r ends) (each_none_left (has_next mark.Comma) next (length r) r off)
      ∙ ap (λ b. answer b (a ∷ []) r) (or-false (are_too_deep (within ts a p)))
  commas_read (one_comma {ts} {us} {a} {more} p q) r ends off =
      let size = length-append us r in
      ap (some_at (has_next mark.Comma) one next) (append_assoc ts (sign k.Comma ∷ us) r)
      ∙ some_joined (has_next mark.Comma) one next (ts ++ sign k.Comma ∷ (us ++ r)) (sign k.Comma ∷ (us ++ r)) (are_too_deep (within ts a p)) (are_too_deep (in_commas One within q)) a more r
      (reads ts a p (sign k.Comma ∷ (us ++ r)) (comma_ok (us ++ r))) (commas_more q (length (us ++ r)) r (omega (arith, size)) ends off)
      ∙ ap (λ b. answer b (a ∷ more) r) (sym (too_append (within ts a p) (in_commas One within q)))

-- where no part has an expression, none is too deep
no_commas : {A : Type 0} (One : List Lexeme → A → Type 0) {us : List Lexeme} {vs : List A} (q : SpellsCommas One us vs) → are_too_deep (in_commas One (λ ts a p. []) q) ≡ false
no_commas One (last_one p) = refl
no_commas One (one_comma p q) = no_commas One q

name_next : (x : Text) → is_reserved x ≡ false → (c : Mark) (r : List Lexeme) → has_next c (word x ∷ r) ≡ is_mark c mark.Name
name_next x n c r = ap (is_mark c) (mark_of_name x n)

a_name_read : (ts : List Lexeme) (x : Text) (p : SpellsName ts x) (r : List Lexeme) → true ≡ true → name_at (ts ++ r) ≡ answer false x r
a_name_read ts x (a_name n) r e = name_read x n r

names_read : {us : List Lexeme} {xs : List Text} (q : SpellsCommas SpellsName us xs) (r : List Lexeme) → has_next mark.Comma r ≡ false → names_at (us ++ r) ≡ got xs r
names_read {us} {xs} q r off =
    commas_read Text SpellsName name_at (λ ts a p. []) (λ z. true) (λ z. refl) a_name_read q r refl off ∙ ap (λ b. answer b xs r) (no_commas SpellsName q)

dots_more : {us : List Lexeme} {d : Path} (q : SpellsDotted us d) (n : ℕ) (r : List Lexeme) → length us ≤ n → has_next mark.Dot r ≡ false →
    each_at (has_next mark.Dot) next_name (suc n) (sign k.Dot ∷ (us ++ r)) ≡ got d r
dots_more (one_name {x = x} f) n r h off =
    each_joined (has_next mark.Dot) next_name n (sign k.Dot ∷ word x ∷ r) r false false x [] r refl (name_read x f r) (each_none_left (has_next mark.Dot) next_name n r off)
dots_more (more_names {x = x} {ts = ts} f q) zero r h off = absurd (omega (arith, h))
dots_more (more_names {x = x} {ts = ts} {p = p} f q) (suc n) r h off =
    each_joined (has_next mark.Dot) next_name (suc n) (sign k.Dot ∷ word x ∷ sign k.Dot ∷ (ts ++ r)) (sign k.Dot ∷ (ts ++ r)) false false x p r refl
    (name_read x f (sign k.Dot ∷ (ts ++ r))) (dots_more q n r (omega (arith, h)) off)

dotted_read : {us : List Lexeme} {d : Path} (q : SpellsDotted us d) (r : List Lexeme) → has_next mark.Dot r ≡ false → dotted_at (us ++ r) ≡ got d r
dotted_read (one_name {x = x} f) r off =
    some_joined (has_next mark.Dot) name_at next_name (word x ∷ r) r false false x [] r (name_read x f r) (each_none_left (has_next mark.Dot) next_name (length r) r off)
dotted_read (more_names {x = x} {ts = ts} {p = p} f q) r off =
    let size = length-append ts r in
    some_joined (has_next mark.Dot) name_at next_name (word x ∷ sign k.Dot ∷ (ts ++ r)) (sign k.Dot ∷ (ts ++ r)) false false x p r
    (name_read x f (sign k.Dot ∷ (ts ++ r))) (dots_more q (length (ts ++ r)) r (omega (arith, size)) off)

dotted_mark : {us : List Lexeme} {d : Path} (q : SpellsDotted us d) (r : List Lexeme) → mark_at (us ++ r) ≡ mark.Name
dotted_mark (one_name {x = x} f) r = mark_of_name x f
dotted_mark (more_names {x = x} f q) r = mark_of_name x f

a_member_read : (ts : List Lexeme) (x : Member) (p : SpellsMember ts x) (r : List Lexeme) → true ≡ true → member_at (ts ++ r) ≡ answer false x r
a_member_read ts x (a_symbol {x = w} n) r e =
    ap (λ b. if b then and_then (name_at (word w ∷ r)) (λ y s. got (mem.Symbol y) s) else and_then (int_at (word w ∷ r)) (λ y s. got (mem.Number y) s)) (name_next w n mark.Name r)
    ∙ ap (λ y. and_then y (λ y s. got (mem.Symbol y) s)) (name_read w n r)
a_member_read ts x (g.a_number plain_int) r e = refl
a_member_read ts x (g.a_number minus_int) r e = refl

members_read : {us : List Lexeme} {xs : List Member} (q : SpellsCommas SpellsMember us xs) (r : List Lexeme) → has_next mark.Comma r ≡ false → members_at (us ++ r) ≡ got xs r
members_read {us} {xs} q r off =
    commas_read Member SpellsMember member_at (λ ts a p. []) (λ z. true) (λ z. refl) a_member_read q r refl off ∙ ap (λ b. answer b xs r) (no_commas SpellsMember q)

type_read : (ts : List Lexeme) (d : DeclaredTree) (p : SpellsType ts d) (r : List Lexeme) → type_at (ts ++ r) ≡ got d r
type_read ts d is_boolean r = refl
type_read ts d (is_range {lo = lo} plain_int q) r = ap (λ y. and_then y (λ hi s. got (range lo hi) s)) (int_read q r)
type_read ts d (is_range {lo = lo} minus_int q) r = ap (λ y. and_then y (λ hi s. got (range lo hi) s)) (int_read q r)
type_read ts d (is_members {ts = us} {ms} p) r =
    ap braced_at (append_assoc us (sign k.CloseBrace ∷ []) r)
    ∙ closes_with members mark.CloseBrace (sign k.CloseBrace) (members_at (us ++ sign k.CloseBrace ∷ r)) false ms r refl (members_read p (sign k.CloseBrace ∷ r) refl)

-- no type begins with a name
type_next : (ts : List Lexeme) (d : DeclaredTree) (p : SpellsType ts d) (r : List Lexeme) → has_next mark.Name (ts ++ r) ≡ false
type_next ts d is_boolean r = refl
type_next ts d (is_range plain_int q) r = refl
type_next ts d (is_range minus_int q) r = refl
type_next ts d (is_members p) r = refl

actual_read : (ts : List Lexeme) (e : Formula) (p : SpellsExpr ts e) (r : List Lexeme) → ends_expr r ≡ true → expr_at (ts ++ r) ≡ answer (are_too_deep (in_actual ts e p)) e r
actual_read ts e p r ends = read_expr p r ends ∙ ap (λ b. answer b e r) (sym (or-false (is_too_deep (spelling p))))

actuals_read : {us : List Lexeme} {es : List Formula} (q : SpellsCommas SpellsExpr us es) (r : List Lexeme) → ends_expr r ≡ true → has_next mark.Comma r ≡ false →
    commas_at (us ++ r) ≡ answer (are_too_deep (in_commas SpellsExpr in_actual q)) es r
actuals_read q r ends off = commas_read Formula SpellsExpr expr_at in_actual ends_expr (λ z. refl) actual_read q r ends off

-- no expression begins with what closes parentheses
no_close : (us r : List Lexeme) → is_whole (run start us) ≡ true → has_next mark.Close (us ++ r) ≡ false
unfolding Marked
no_close [] r h = cc
no_close (u ∷ us) r h = go (mark_of u) (marked u)
  where
    go : (c : Mark) → Marked c u → is_mark mark.Close c ≡ false
    go mark.Close f =
        let stops : run start (u ∷ us) ≡ stuck = ap (λ z. run start (z ∷ us)) f ∙ run_stuck us in
        let clash : false ≡ true = ap is_whole (sym stops) ∙ h in cc
    go c f = refl

commas_close : {us : List Lexeme} {es : List Formula} (q : SpellsCommas SpellsExpr us es) (r : List Lexeme) → has_next mark.Close (us ++ r) ≡ false
commas_close (last_one {ts} p) r = no_close ts r (spelled_accepted p)
commas_close (one_comma {ts} {us} p q) r = ap (has_next mark.Close) (append_assoc ts (sign k.Comma ∷ us) r) ∙ no_close ts (sign k.Comma ∷ (us ++ r)) (spelled_accepted p)

-- parts in parentheses, behind what opens them
in_brackets : {A : Type 0} (inner : List Lexeme → Read (List A)) (us r : List Lexeme) (b : Bool) (vs : List A) → has_next mark.Close (us ++ sign k.Close ∷ r) ≡ false →
    inner (us ++ sign k.Close ∷ r) ≡ answer b vs (sign k.Close ∷ r) → bracketed_at inner (sign k.Open ∷ ((us ++ sign k.Close ∷ []) ++ r)) ≡ answer b vs r
in_brackets inner us r b vs off read =
    ap (λ z. if has_next mark.Close z then got [] (rest_of z) else closed_at inner z) (append_assoc us (sign k.Close ∷ []) r)
    ∙ ap (λ b. if b then got [] (rest_of (us ++ sign k.Close ∷ r)) else closed_at inner (us ++ sign k.Close ∷ r)) off
    ∙ closes_with (λ vs. vs) mark.Close (sign k.Close) (inner (us ++ sign k.Close ∷ r)) b vs r refl read

bracketed_read : {us : List Lexeme} {es : List Formula} (q : SpellsBracketed SpellsExpr us es) (r : List Lexeme) →
    bracketed_at commas_at (us ++ sign k.Semicolon ∷ r) ≡ answer (are_too_deep (in_actuals q)) es (sign k.Semicolon ∷ r)
bracketed_read no_brackets r = refl
bracketed_read (brackets {ts} {list} q) r =
    in_brackets commas_at ts (sign k.Semicolon ∷ r) (are_too_deep (in_commas SpellsExpr in_actual q)) list (commas_close q (sign k.Close ∷ sign k.Semicolon ∷ r))
    (actuals_read q (sign k.Close ∷ sign k.Semicolon ∷ r) refl refl)

type_declared : (ts : List Lexeme) (d : DeclaredTree) (p : SpellsType ts d) (r : List Lexeme) → type_at (ts ++ sign k.Semicolon ∷ r) ≡ answer (are_too_deep []) d (sign k.Semicolon ∷ r)
type_declared ts d p r = type_read ts d p (sign k.Semicolon ∷ r)

declared_read : (ts : List Lexeme) (d : DeclaredTree) (p : SpellsDeclared ts d) (r : List Lexeme) → declared_at (ts ++ sign k.Semicolon ∷ r) ≡ answer (are_too_deep (in_declared ts d p)) d (sign k.Semicolon ∷ r)
declared_read ts d (is_type p) r =
    ap (λ b. if b then instance_at (ts ++ sign k.Semicolon ∷ r) else type_at (ts ++ sign k.Semicolon ∷ r)) (type_next ts d p (sign k.Semicolon ∷ r)) ∙ type_read ts d p (sign k.Semicolon ∷ r)
declared_read ts d (is_instance {m = x} {ts = us} {actuals = es} n p) r =
    ap (λ b. if b then instance_at (word x ∷ (us ++ sign k.Semicolon ∷ r)) else type_at (word x ∷ (us ++ sign k.Semicolon ∷ r))) (name_next x n mark.Name (us ++ sign k.Semicolon ∷ r))
    ∙ ap (λ y. and_then y (λ m r. and_then (bracketed_at commas_at r) (λ es s. got (instance m es) s))) (name_read x n (us ++ sign k.Semicolon ∷ r))
    ∙ mapped (instance x) (bracketed_at commas_at (us ++ sign k.Semicolon ∷ r)) (are_too_deep (in_actuals p)) es (sign k.Semicolon ∷ r) (bracketed_read p r)
declared_read ts d (is_empty_instance {m = x} n) r =
    ap (λ b. if b then instance_at (word x ∷ sign k.Open ∷ sign k.Close ∷ sign k.Semicolon ∷ r) else type_at (word x ∷ sign k.Open ∷ sign k.Close ∷ sign k.Semicolon ∷ r))
    (name_next x n mark.Name (sign k.Open ∷ sign k.Close ∷ sign k.Semicolon ∷ r))
    ∙ ap (λ y. and_then y (λ m r. and_then (bracketed_at commas_at r) (λ es s. got (instance m es) s))) (name_read x n (sign k.Open ∷ sign k.Close ∷ sign k.Semicolon ∷ r))

-- declarations
module _ (What : List Lexeme → DeclaredTree → Type 0) (what : List Lexeme → Read DeclaredTree) (within : (ts : List Lexeme) (d : DeclaredTree) → What ts d → List Spelling)
    (reads : (ts : List Lexeme) (d : DeclaredTree) (p : What ts d) (r : List Lexeme) → what (ts ++ sign k.Semicolon ∷ r) ≡ answer (are_too_deep (within ts d p)) d (sign k.Semicolon ∷ r)) where
  decl_read : (ts : List Lexeme) (d : DeclTree) (p : SpellsDecl What ts d) (r : List Lexeme) → true ≡ true → decl_at what (ts ++ r) ≡ answer (are_too_deep (in_decl What within ts d p)) d r
  decl_read ts d (declares {x} {ts = us} {t} n p) r e =
      ap (λ y. and_then y (λ x r. and_then (expect_at mark.Colon r) (λ _ s. and_then (what s) (λ d q. and_then (expect_at mark.Semicolon q) (λ _ z. got (record { name = x; what = d }) z)))))
      (name_read x n (sign k.Colon ∷ ((us ++ sign k.Semicolon ∷ []) ++ r)))
      ∙ ap (λ z. and_then (what z) (λ d q. and_then (expect_at mark.Semicolon q) (λ _ z. got (record { name = x; what = d }) z))) (append_assoc us (sign k.Semicolon ∷ []) r)
      ∙ closes_with (λ d. record { name = x; what = d }) mark.Semicolon (sign k.Semicolon) (what (us ++ sign k.Semicolon ∷ r)) (are_too_deep (within us t p)) t r refl (reads us t p r)

  decl_starts : (ts : List Lexeme) (d : DeclTree) (p : SpellsDecl What ts d) (r : List Lexeme) → has_next mark.Name (ts ++ r) ≡ true
  decl_starts ts d (declares {x} {ts = us} n p) r = name_next x n mark.Name (sign k.Colon ∷ ((us ++ sign k.Semicolon ∷ []) ++ r))

  decl_size : (ts : List Lexeme) (d : DeclTree) → SpellsDecl What ts d → 0 < length ts
  decl_size ts d (declares n p) = omega arith

  decls_read : {us : List Lexeme} {ds : List DeclTree} (q : SpellsMany (SpellsDecl What) us ds) (r : List Lexeme) → has_next mark.Name r ≡ false →
      decls_at what (us ++ r) ≡ answer (are_too_deep (in_many (SpellsDecl What) (in_decl What within) q)) ds r
  decls_read {us} q r off =
      let long = length-append us r in
      many_read DeclTree (SpellsDecl What) (decl_at what) (has_next mark.Name) (in_decl What within) (λ z. true) (λ z h. refl) decl_starts decl_size decl_read q (length (us ++ r)) r (omega (arith, long)) refl off

type_decls_read : {us : List Lexeme} {ds : List DeclTree} (q : SpellsMany (SpellsDecl SpellsType) us ds) (r : List Lexeme) → has_next mark.Name r ≡ false → decls_at type_at (us ++ r) ≡ got ds r
type_decls_read {us} {ds} q r off =
    decls_read SpellsType type_at (λ ts d p. []) type_declared q r off ∙ ap (λ b. answer b ds r) (nothing q)
  where
    nothing : {us : List Lexeme} {ds : List DeclTree} (q : SpellsMany (SpellsDecl SpellsType) us ds) → are_too_deep (in_many (SpellsDecl SpellsType) (in_decl SpellsType (λ ts d p. [])) q) ≡ false
    nothing no_more = refl
    nothing (one_more (declares n p) q) = nothing q

-- an expression and a semicolon
value_read : (us : List Lexeme) (e : Formula) (p : SpellsExpr us e) (r : List Lexeme) → value_at ((us ++ sign k.Semicolon ∷ []) ++ r) ≡ answer (is_too_deep (spelling p)) e r
value_read us e p r =
    ap value_at (append_assoc us (sign k.Semicolon ∷ []) r)
    ∙ closes_with (λ e. e) mark.Semicolon (sign k.Semicolon) (expr_at (us ++ sign k.Semicolon ∷ r)) (is_too_deep (spelling p)) e r refl (read_expr p (sign k.Semicolon ∷ r) refl)

one_too : {A : Type 0} (b : Bool) (a : A) (r : List Lexeme) → answer b a r ≡ answer (b || false) a r
one_too b a r = ap (λ b. answer b a r) (sym (or-false b))

define_read : (ts : List Lexeme) (d : DefineTree) (p : SpellsDefine ts d) (r : List Lexeme) → true ≡ true → define_at (ts ++ r) ≡ answer (are_too_deep (in_define ts d p)) d r
define_read ts d (g.defines {x} {ts = us} {e = v} n p) r e =
    ap (λ y. and_then y (λ x r. and_then (expect_at mark.Becomes r) (λ _ s. and_then (value_at s) (λ e q. got (record { name = x; value = e }) q))))
    (name_read x n (sign k.Becomes ∷ ((us ++ sign k.Semicolon ∷ []) ++ r)))
    ∙ mapped (λ e. record { name = x; value = e }) (value_at ((us ++ sign k.Semicolon ∷ []) ++ r)) (is_too_deep (spelling p)) v r (value_read us v p r)
    ∙ one_too (is_too_deep (spelling p)) (record { name = x; value = v }) r

define_starts : (ts : List Lexeme) (d : DefineTree) (p : SpellsDefine ts d) (r : List Lexeme) → has_next mark.Name (ts ++ r) ≡ true
define_starts ts d (g.defines {x} {ts = us} n p) r = name_next x n mark.Name (sign k.Becomes ∷ ((us ++ sign k.Semicolon ∷ []) ++ r))

define_size : (ts : List Lexeme) (d : DefineTree) → SpellsDefine ts d → 0 < length ts
define_size ts d (g.defines n p) = omega arith

defines_read : {us : List Lexeme} {ds : List DefineTree} (q : SpellsMany SpellsDefine us ds) (r : List Lexeme) → has_next mark.Name r ≡ false →
    defines_at (us ++ r) ≡ answer (are_too_deep (in_many SpellsDefine in_define q)) ds r
defines_read {us} q r off =
    let long = length-append us r in
    many_read DefineTree SpellsDefine define_at (has_next mark.Name) in_define (λ z. true) (λ z h. refl) define_starts define_size define_read q (length (us ++ r)) r (omega (arith, long)) refl off

-- assignments
closed_target : (us : List Lexeme) (d : Path) (q : SpellsDotted us d) (r : List Lexeme) → closed_at dotted_at ((us ++ sign k.Close ∷ []) ++ r) ≡ got d r
closed_target us d q r =
    ap (closed_at dotted_at) (append_assoc us (sign k.Close ∷ []) r)
    ∙ closes_with (λ d. d) mark.Close (sign k.Close) (dotted_at (us ++ sign k.Close ∷ r)) false d r refl (dotted_read q (sign k.Close ∷ r) refl)

abbrev moment_by : Mark → Moment
moment_by c = if is_mark mark.First c then First else (if is_mark mark.After c then After else Always)

abbrev past_by : Mark → List Lexeme → List Lexeme
past_by c ts = if is_mark mark.First c then rest_of ts else (if is_mark mark.After c then rest_of ts else ts)

target_moment : (xs : List Lexeme) (w : Moment) (d : Path) (t : SpellsTarget xs w d) (r : List Lexeme) → moment_at (xs ++ r) ≡ w
target_moment xs w d (always q) r = ap moment_by (dotted_mark q r)
target_moment xs w d (first q) r = refl
target_moment xs w d (after q) r = refl

target_read : (xs : List Lexeme) (w : Moment) (d : Path) (t : SpellsTarget xs w d) (r : List Lexeme) → target_at w (past_moment (xs ++ sign k.Becomes ∷ r)) ≡ got d (sign k.Becomes ∷ r)
target_read xs w d (always q) r =
    ap (λ c. dotted_at (past_by c (xs ++ sign k.Becomes ∷ r))) (dotted_mark q (sign k.Becomes ∷ r)) ∙ dotted_read q (sign k.Becomes ∷ r) refl
target_read xs w d (first {ts} q) r = closed_target ts d q (sign k.Becomes ∷ r)
target_read xs w d (after {ts} q) r = closed_target ts d q (sign k.Becomes ∷ r)

abbrev assigned : Moment → Read Path → Read AssignmentTree
assigned w y = and_then y (λ d r. and_then (expect_at mark.Becomes r) (λ _ s. and_then (value_at s) (λ e q. got (record { when = w; target = d; value = e }) q)))

assignment_read : (ts : List Lexeme) (a : AssignmentTree) (p : SpellsAssignment ts a) (r : List Lexeme) → true ≡ true → assignment_at (ts ++ r) ≡ answer (are_too_deep (in_assignment ts a p)) a r
assignment_read ts a (g.assigns {xs} {ts = us} {when = w} {d} {e = v} t p) r e =
    let left = (us ++ sign k.Semicolon ∷ []) ++ r in
    ap assignment_at (append_assoc xs (sign k.Becomes ∷ (us ++ sign k.Semicolon ∷ [])) r)
    ∙ ap (λ w. assigned w (target_at w (past_moment (xs ++ sign k.Becomes ∷ ((us ++ sign k.Semicolon ∷ []) ++ r))))) (target_moment xs w d t (sign k.Becomes ∷ ((us ++ sign k.Semicolon ∷ []) ++ r)))
    ∙ ap (assigned w) (target_read xs w d t ((us ++ sign k.Semicolon ∷ []) ++ r))
    ∙ mapped (λ e. record { when = w; target = d; value = e }) (value_at ((us ++ sign k.Semicolon ∷ []) ++ r)) (is_too_deep (spelling p)) v r (value_read us v p r)
    ∙ one_too (is_too_deep (spelling p)) (record { when = w; target = d; value = v }) r

target_starts : (xs : List Lexeme) (w : Moment) (d : Path) (t : SpellsTarget xs w d) (r : List Lexeme) → begins_assignment (xs ++ r) ≡ true
target_starts xs w d (always q) r = ap (λ c. is_mark mark.Name c || (is_mark mark.First c || is_mark mark.After c)) (dotted_mark q r)
target_starts xs w d (first q) r = refl
target_starts xs w d (after q) r = refl

assignment_starts : (ts : List Lexeme) (a : AssignmentTree) (p : SpellsAssignment ts a) (r : List Lexeme) → begins_assignment (ts ++ r) ≡ true
assignment_starts ts a (g.assigns {xs} {ts = us} {when = w} {d} t p) r =
    ap begins_assignment (append_assoc xs (sign k.Becomes ∷ (us ++ sign k.Semicolon ∷ [])) r) ∙ target_starts xs w d t (sign k.Becomes ∷ ((us ++ sign k.Semicolon ∷ []) ++ r))

assignment_size : (ts : List Lexeme) (a : AssignmentTree) → SpellsAssignment ts a → 0 < length ts
assignment_size ts a (g.assigns {xs} {ts = us} t p) = let long = length-append xs (sign k.Becomes ∷ (us ++ sign k.Semicolon ∷ [])) in omega (arith, long)

assigns_read : {us : List Lexeme} {vs : List AssignmentTree} (q : SpellsMany SpellsAssignment us vs) (r : List Lexeme) → begins_assignment r ≡ false →
    assigns_at (us ++ r) ≡ answer (are_too_deep (in_many SpellsAssignment in_assignment q)) vs r
assigns_read {us} q r off =
    let long = length-append us r in
    many_read AssignmentTree SpellsAssignment assignment_at begins_assignment in_assignment (λ z. true) (λ z h. refl) assignment_starts assignment_size assignment_read q (length (us ++ r)) r
    (omega (arith, long)) refl off

-- where a section begins, or nothing is left
past_ends : (r : List Lexeme) → is_past r ≡ true → ends_expr r ≡ true
past_ends [] h = refl
past_ends (t ∷ ts) h = section_ends t h

past_mark : (r : List Lexeme) → is_past r ≡ true → is_sectional (mark_at r) ≡ true
past_mark [] h = refl
past_mark (t ∷ ts) h = section_marks (mark_of t) t (marked t) h

no_name_mark : (c : Mark) → is_sectional c ≡ true → is_mark mark.Name c ≡ false
no_name_mark mark.Name h = cc
no_name_mark c h = refl

no_semicolon_mark : (c : Mark) → is_sectional c ≡ true → is_mark mark.Semicolon c ≡ false
no_semicolon_mark mark.Semicolon h = cc
no_semicolon_mark c h = refl

no_open_mark : (c : Mark) → is_sectional c ≡ true → is_mark mark.Open c ≡ false
no_open_mark mark.Open h = cc
no_open_mark c h = refl

no_assignment_mark : (c : Mark) → is_sectional c ≡ true → (is_mark mark.Name c || (is_mark mark.First c || is_mark mark.After c)) ≡ false
no_assignment_mark mark.Name h = cc
no_assignment_mark mark.First h = cc
no_assignment_mark mark.After h = cc
no_assignment_mark c h = refl

formula_read : {us : List Lexeme} {e : Formula} (p : SpellsFormula us e) (r : List Lexeme) → is_past r ≡ true → formula_at (us ++ r) ≡ answer (is_too_deep (in_formula p)) e r
formula_read {us} {e} (open_ended p) r h = ap (λ y. and_then y (λ e r. got e (past_semicolon r))) (read_expr p r (past_ends r h)) ∙ go (is_too_deep (spelling p))
  where
    go : (b : Bool) → and_then (answer b e r) (λ e r. got e (past_semicolon r)) ≡ answer b e r
    go true = refl
    go false = ap (λ b. got e (if b then rest_of r else r)) (no_semicolon_mark (mark_at r) (past_mark r h))
formula_read {us} {e} (ended {ts} p) r h =
    ap formula_at (append_assoc ts (sign k.Semicolon ∷ []) r) ∙ ap (λ y. and_then y (λ e r. got e (past_semicolon r))) (read_expr p (sign k.Semicolon ∷ r) refl) ∙ go (is_too_deep (spelling p))
  where
    go : (b : Bool) → and_then (answer b e (sign k.Semicolon ∷ r)) (λ e r. got e (past_semicolon r)) ≡ answer b e r
    go true = refl
    go false = refl

formula_section : (f : Formula → SectionTree) {us : List Lexeme} {e : Formula} (p : SpellsFormula us e) (r : List Lexeme) → is_past r ≡ true →
    and_then (formula_at (us ++ r)) (λ e s. got (f e) s) ≡ answer (are_too_deep (in_formula p ∷ [])) (f e) r
formula_section f {us} {e} p r h =
    mapped f (formula_at (us ++ r)) (is_too_deep (in_formula p)) e r (formula_read p r h) ∙ one_too (is_too_deep (in_formula p)) (f e) r

-- what a section says to the reader
record SectionRead (ts r : List Lexeme) (b : Bool) (s : SectionTree) : Type 0 where
  kept : is_kept (mark_at (ts ++ r)) ≡ true
  plain : has_next mark.Skipped (ts ++ r) ≡ false
  begins : is_past (ts ++ r) ≡ true
  read : section_at (mark_at (ts ++ r)) (rest_of (ts ++ r)) ≡ answer b s r
  size : 0 < length ts

section_read : {ts : List Lexeme} {s : SectionTree} (p : SpellsSection ts s) (r : List Lexeme) → is_past r ≡ true → SectionRead ts r (are_too_deep (in_section p)) s
section_read (a_var {ts} {ds} p) r h = record {
  kept = refl;
  plain = refl;
  begins = refl;
  read = mapped var (decls_at declared_at (ts ++ r)) (are_too_deep (in_many (SpellsDecl SpellsDeclared) (in_decl SpellsDeclared in_declared) p)) ds r
      (decls_read SpellsDeclared declared_at in_declared declared_read p r (no_name_mark (mark_at r) (past_mark r h)));
  size = omega arith;
}
section_read (an_ivar {ts} {ds} p) r h = record {
  kept = refl;
  plain = refl;
  begins = refl;
  read = mapped ivar (decls_at type_at (ts ++ r)) false ds r (type_decls_read p r (no_name_mark (mark_at r) (past_mark r h)));
  size = omega arith;
}
section_read (a_frozen {ts} {ds} p) r h = record {
  kept = refl;
  plain = refl;
  begins = refl;
  read = mapped frozen (decls_at type_at (ts ++ r)) false ds r (type_decls_read p r (no_name_mark (mark_at r) (past_mark r h)));
  size = omega arith;
}
section_read (a_define {ts} {ds} p) r h = record {
  kept = refl;
  plain = refl;
  begins = refl;
  read = mapped define (defines_at (ts ++ r)) (are_too_deep (in_many SpellsDefine in_define p)) ds r (defines_read p r (no_name_mark (mark_at r) (past_mark r h)));
  size = omega arith;
}
section_read (some_constants {ts} {xs} p) r h = record {
  kept = refl;
  plain = refl;
  begins = refl;
  read = mapped constants (constants_at ((ts ++ sign k.Semicolon ∷ []) ++ r)) false xs r
      (ap constants_at (append_assoc ts (sign k.Semicolon ∷ []) r)
      ∙ closes_with (λ xs. xs) mark.Semicolon (sign k.Semicolon) (names_at (ts ++ sign k.Semicolon ∷ r)) false xs r refl (names_read p (sign k.Semicolon ∷ r) refl));
  size = omega arith;
}
section_read (an_assign {ts} {list} p) r h = record {
  kept = refl;
  plain = refl;
  begins = refl;
  read = mapped assign (assigns_at (ts ++ r)) (are_too_deep (in_many SpellsAssignment in_assignment p)) list r (assigns_read p r (no_assignment_mark (mark_at r) (past_mark r h)));
  size = omega arith;
}
section_read (an_init p) r h = record { kept = refl; plain = refl; begins = refl; read = formula_section init p r h; size = omega arith }
section_read (an_invar p) r h = record { kept = refl; plain = refl; begins = refl; read = formula_section invar p r h; size = omega arith }
section_read (a_trans p) r h = record { kept = refl; plain = refl; begins = refl; read = formula_section trans p r h; size = omega arith }

-- where a module begins, or nothing is left
abbrev at_end : List Lexeme → Bool
at_end [] = true
at_end (t ∷ ts) = is_mark mark.Module (mark_of t)

end_past : (r : List Lexeme) → at_end r ≡ true → is_past r ≡ true
end_past [] h = refl
end_past (t ∷ ts) h = section_mark (mark_of t) t (marked t) (go (mark_of t) h)
  where
    go : (c : Mark) → is_mark mark.Module c ≡ true → begins_section c ≡ true
    go mark.Module e = refl
    go c e = cc

no_sections : (n : ℕ) (r : List Lexeme) → at_end r ≡ true → sections_at n r ≡ got [] r
no_sections zero r h = refl
no_sections (suc n) [] h = refl
no_sections (suc n) (t ∷ ts) h = go (mark_of t) h
  where
    go : (c : Mark) → is_mark mark.Module c ≡ true →
        (if is_mark mark.Skipped c then sections_at n (past_skipped ts) else (if is_kept c then and_then (section_at c ts) (λ a r. and_then (sections_at n r) (λ more s. got (a ∷ more) s)) else got [] (t ∷ ts)))
        ≡ got [] (t ∷ ts)
    go mark.Module e = refl
    go c e = cc

-- all of what is passed over is passed over
past_over : (ts r : List Lexeme) → HasNoSection ts → is_past r ≡ true → past_skipped (ts ++ r) ≡ r
past_over [] [] free h = refl
past_over [] (t ∷ r) free h = ap (λ b. if b then t ∷ r else past_skipped r) h
past_over (word x ∷ ts) r free h = ap (λ b. if b then word x ∷ (ts ++ r) else past_skipped (ts ++ r)) free.0 ∙ past_over ts r free.1 h
past_over (num n d ∷ ts) r free h = past_over ts r free h
past_over (sign s ∷ ts) r free h = past_over ts r free h

sections_past : {us : List Lexeme} {ss : List SectionTree} (q : SpellsSections us ss) (r : List Lexeme) → at_end r ≡ true → is_past (us ++ r) ≡ true
sections_past no_section r h = end_past r h
sections_past (a_section {ts} {us} p q) r h = ap is_past (append_assoc ts us r) ∙ (section_read p (us ++ r) (sections_past q r h)).begins
sections_past (skipped x ts {us} s free q) r h = skipped_section x s

sections_read : {us : List Lexeme} {ss : List SectionTree} (q : SpellsSections us ss) (n : ℕ) (r : List Lexeme) → length us ≤ n → at_end r ≡ true →
    sections_at n (us ++ r) ≡ answer (are_too_deep (in_sections q)) ss r
sections_read no_section n r h end = no_sections n r end
sections_read (a_section {ts} {us} {s} {ss} p q) zero r h end =
    let here = (section_read p (us ++ r) (sections_past q r end)).size in let long = length-append ts us in absurd (omega (arith, h, here, long))
sections_read (a_section {ts} {us} {s} {ss} p q) (suc n) r h end =
    let one = section_read p (us ++ r) (sections_past q r end) in let here = one.size in let long = length-append ts us in
    ap (sections_at (suc n)) (append_assoc ts us r)
    ∙ ap (λ b. if b then sections_at n (past_skipped (rest_of (ts ++ (us ++ r)))) else
    (if is_kept (mark_at (ts ++ (us ++ r))) then and_then (section_at (mark_at (ts ++ (us ++ r))) (rest_of (ts ++ (us ++ r)))) (λ a r. and_then (sections_at n r) (λ more s. got (a ∷ more) s)) else got [] (ts ++ (us ++ r)))) one.plain
    ∙ ap (λ b. if b then and_then (section_at (mark_at (ts ++ (us ++ r))) (rest_of (ts ++ (us ++ r)))) (λ a r. and_then (sections_at n r) (λ more s. got (a ∷ more) s)) else got [] (ts ++ (us ++ r))) one.kept
    ∙ ap (λ y. and_then y (λ a r. and_then (sections_at n r) (λ more s. got (a ∷ more) s))) one.read
    ∙ by (are_too_deep (in_section p)) (sections_read q n r (omega (arith, h, here, long)) end)
    ∙ ap (λ b. answer b (s ∷ ss) r) (sym (too_append (in_section p) (in_sections q)))
  where
    by : (b : Bool) → sections_at n (us ++ r) ≡ answer (are_too_deep (in_sections q)) ss r →
        and_then (answer b s (us ++ r)) (λ a r. and_then (sections_at n r) (λ more s. got (a ∷ more) s)) ≡ answer (b || are_too_deep (in_sections q)) (s ∷ ss) r
    by true rest = refl
    by false rest = cons_answer s ss (are_too_deep (in_sections q)) r (sections_at n (us ++ r)) rest
sections_read (skipped x ts {us} {ss} s free q) zero r h end = absurd (omega (arith, h))
sections_read (skipped x ts {us} {ss} s free q) (suc n) r h end =
    let long = length-append ts us in
    ap (λ c. if is_mark mark.Skipped c then sections_at n (past_skipped ((ts ++ us) ++ r)) else
    (if is_kept c then and_then (section_at c ((ts ++ us) ++ r)) (λ a r. and_then (sections_at n r) (λ more s. got (a ∷ more) s)) else got [] (word x ∷ ((ts ++ us) ++ r)))) (mark_of_skipped x s)
    ∙ ap (λ z. sections_at n (past_skipped z)) (append_assoc ts us r) ∙ ap (sections_at n) (past_over ts (us ++ r) free (sections_past q r end))
    ∙ sections_read q n r (omega (arith, h, long)) end

-- modules
names_close : {us : List Lexeme} {xs : List Text} (q : SpellsCommas SpellsName us xs) (r : List Lexeme) → has_next mark.Close (us ++ r) ≡ false
names_close (last_one (a_name {x} n)) r = name_next x n mark.Close r
names_close (one_comma {us = us} (a_name {x} n) q) r = name_next x n mark.Close (sign k.Comma ∷ (us ++ r))

formals_read : {fs : List Lexeme} {xs : List Text} (f : SpellsFormals fs xs) (z : List Lexeme) → has_next mark.Open z ≡ false → bracketed_at names_at (fs ++ z) ≡ got xs z
formals_read (some_formals no_brackets) z off =
    ap (λ b. if b then (if has_next mark.Close (rest_of z) then got [] (rest_of (rest_of z)) else closed_at names_at (rest_of z)) else got [] z) off
formals_read (some_formals (brackets {ts} {list} q)) z off = in_brackets names_at ts z false list (names_close q (sign k.Close ∷ z)) (names_read q (sign k.Close ∷ z) refl)
formals_read empty_formals z off = refl

module_read : (ts : List Lexeme) (a : ModuleTree) (p : SpellsModule ts a) (r : List Lexeme) → at_end r ≡ true → next_module (ts ++ r) ≡ answer (are_too_deep (in_module ts a p)) a r
module_read ts a (a_module {x} {fs} {ts = us} {formals} {ss} n f q) r end =
    let long = length-append us r in
    ap (λ y. and_then y (λ x r. and_then (bracketed_at names_at r) (λ fs s. and_then (sections_at (length s) s) (λ ss q. got (record { name = x; formals = fs; sections = ss }) q))))
    (name_read x n ((fs ++ us) ++ r))
    ∙ ap (λ z. and_then (bracketed_at names_at z) (λ fs s. and_then (sections_at (length s) s) (λ ss q. got (record { name = x; formals = fs; sections = ss }) q))) (append_assoc fs us r)
    ∙ ap (λ y. and_then y (λ fs s. and_then (sections_at (length s) s) (λ ss q. got (record { name = x; formals = fs; sections = ss }) q)))
    (formals_read f (us ++ r) (no_open_mark (mark_at (us ++ r)) (past_mark (us ++ r) (sections_past q r end))))
    ∙ mapped (λ ss. record { name = x; formals = formals; sections = ss }) (sections_at (length (us ++ r)) (us ++ r)) (are_too_deep (in_sections q)) ss r
    (sections_read q (length (us ++ r)) r (omega (arith, long)) end)

module_starts : (ts : List Lexeme) (a : ModuleTree) (p : SpellsModule ts a) (r : List Lexeme) → has_next mark.Module (ts ++ r) ≡ true
module_starts ts a (a_module n f q) r = refl

module_size : (ts : List Lexeme) (a : ModuleTree) → SpellsModule ts a → 0 < length ts
module_size ts a (a_module n f q) = omega arith

module_end : (z : List Lexeme) → has_next mark.Module z ≡ true → at_end z ≡ true
module_end [] h = cc
module_end (t ∷ ts) h = h

-- a program is read as it is spelled
pub read_program : {ts : List Lexeme} {p : ProgramTree} (q : SpellsProgram ts p) → program_at ts ≡ answer (are_too_deep (in_program q)) p []
read_program {ts} {p} q =
    let long = append-nil ts in
    subst (λ z. each_at (has_next mark.Module) next_module (length ts) z ≡ answer (are_too_deep (in_program q)) p []) (append-nil ts)
    (many_read ModuleTree SpellsModule next_module (has_next mark.Module) in_module at_end module_end module_starts module_size module_read q (length ts) [] (omega arith) refl refl)

-- the program that is read is the spelled one
pub program_spelled : (bytes : List ℕ) (tokens : List Token) (p : ProgramTree) (r : List Lexeme) → HasTokens bytes tokens → IsProgram (lexemes_of bytes tokens) →
    program_at (lexemes_of bytes tokens) ≡ got p r → BytesSpellProgram bytes p
program_spelled bytes tokens p r split spelled e =
    let same = answer_got (are_too_deep (in_program spelled.1)) spelled.0 p r (sym (read_program spelled.1) ∙ e) in
    (tokens, split, subst (SpellsProgram (lexemes_of bytes tokens)) same.0 spelled.1)

-- no other is spelled
pub program_only : (bytes : List ℕ) (tokens : List Token) (p : ProgramTree) (r : List Lexeme) → ((others : List Token) → HasTokens bytes others → others ≡ tokens) →
    program_at (lexemes_of bytes tokens) ≡ got p r → (q : ProgramTree) → BytesSpellProgram bytes q → p ≡ q
program_only bytes tokens p r only e q spelled =
    let here : SpellsProgram (lexemes_of bytes tokens) q = subst (λ z. SpellsProgram (lexemes_of bytes z) q) (only spelled.0 spelled.1) spelled.2 in
    sym (answer_got (are_too_deep (in_program here)) q p r (sym (read_program here) ∙ e)).0

-- each of its expressions is within the depths
pub program_depths : (bytes : List ℕ) (tokens : List Token) (p : ProgramTree) (r : List Lexeme) → ((others : List Token) → HasTokens bytes others → others ≡ tokens) →
    program_at (lexemes_of bytes tokens) ≡ got p r → HasProgramDepths bytes p
program_depths bytes tokens p r only e = λ others split spelled. go others (only others split) spelled
  where
    go : (others : List Token) → others ≡ tokens → (spelled : SpellsProgram (lexemes_of bytes others) p) → AreWithin (in_program spelled)
    go others same spelled =
        let here : program_at (lexemes_of bytes others) ≡ got p r = ap (λ z. program_at (lexemes_of bytes z)) same ∙ e in
        are_within (in_program spelled) (answer_got (are_too_deep (in_program spelled)) p p r (sym (read_program spelled) ∙ here)).1

-- a spelled program that is not read has an expression that is too deep
pub program_deep : (bytes : List ℕ) (tokens : List Token) → HasTokens bytes tokens → IsProgram (lexemes_of bytes tokens) → program_at (lexemes_of bytes tokens) ≡ deep → IsProgramTooDeep bytes
program_deep bytes tokens split spelled e = record {
  program = spelled.0;
  spelled = (tokens, split, spelled.1);
  deep = λ depths.
      let high = answer_deep (are_too_deep (in_program spelled.1)) spelled.0 (sym (read_program spelled.1) ∙ e) in
      let low = within_are (in_program spelled.1) (depths tokens split spelled.1) in
      let clash : true ≡ false = sym high ∙ low in cc;
}

-- some program is read of what is spelled, or it is too deep
pub program_made : (ts : List Lexeme) → IsProgram ts → program_at ts ≡ none → ⊥
program_made ts spelled e = answer_none (are_too_deep (in_program spelled.1)) spelled.0 (sym (read_program spelled.1) ∙ e)
