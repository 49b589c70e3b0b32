-- What is spelled as a program is taken by its reading.
use Rattle.std.proofs.Common.{◌≡◌, inl, inr, ℕ, ℤ, true, false, List, [], ◌∷◌, ◌++◌, refl, sym, ◌∙◌, ap, subst, append_assoc, append-nil}
use Rattle.std.specs.Prelude.{codes, pos}
use Rattle.smv_lexer.specs.declared.token.TokenKind.TheVariants as k
use Rattle.smv_language.specs.declared.program.Member.{Member}
use Rattle.smv_language.specs.declared.program.Member.TheVariants as mem
use Rattle.smv_language.specs.Language.{Text, Formula, DeclaredTree, boolean, DeclTree, DefineTree, AssignmentTree, SectionTree, ProgramTree, Path, Lexeme, word, num, sign, is_reserved, SpellsInt, plain_int, minus_int, SpellsDotted, one_name, more_names, SpellsMany, no_more, one_more, SpellsBracketed, no_brackets, brackets, SpellsName, SpellsExpr, SpellsMember, SpellsType, is_boolean, is_range, is_members, SpellsDeclared, is_type, is_instance, is_empty_instance, SpellsDecl, declares, SpellsDefine, defines, always, first, SpellsAssignment, assigns, SpellsFormula, open_ended, ended, HasNoSection, a_var, an_ivar, a_frozen, some_constants, an_assign, an_init, an_invar, a_trans, SpellsSections, no_section, a_section, skipped, SpellsFormals, some_formals, empty_formals, SpellsModule, a_module}
use Rattle.smv_language.specs.SpellsProgram.{a_symbol, a_define}
use Rattle.smv_language.specs.SpellsProgram as g
use Rattle.smv_expression_reader.specs.Recogniser.{role_of, start}
use Rattle.smv_expression_reader.specs.Recogniser as machine
use Rattle.smv_expression_reader.specs.Marks.{mark_of}
use Rattle.smv_model_reader.specs.ProgramGrammar.{the_name, the_number, the_colon, the_becomes, the_semicolon, the_open, the_close, the_dots, Sym, Tail, tail_end, tail_more, is_single, IsName, IsMember, IsFormals, IsActuals, spelled, empty, expr, live, alone, passing, after_type, after_declared, after_section, after, after_actual, next, shortest, programs}
use Rattle.smv_model_reader.specs.ProgramGrammar as s
use Rattle.smv_expression_reader.proofs.Accepted.{spelled_accepted}
use Rattle.smv_expression_reader.proofs.Exact.{completes}
use Rattle.smv_expression_reader.proofs.Marks.{Marked, marked, mark_of_name, mark_of_skipped}
use Rattle.smv_model_reader.proofs.SymbolMeanings.{That, Means_of, as_one, an_expr, commas_tail, Through}
use Rattle.smv_model_reader.proofs.ProgramSound.{to_assign, live_complete}
use Rattle.smv_expression_reader.proofs.Meanings.{as_last, Leads}
use Rattle.smv_language.proofs.SpelledLaws.{some_int}
use Rattle.smv_expression_reader.specs.Stops.{IsExpression}
use Rattle.smv_expression_reader.specs.declared.mark.Mark.{Mark}
use Rattle.smv_expression_reader.specs.declared.mark.Mark.TheVariants as mark

-- the other way: a name
named : (x : Sym) (w : List ℕ) (ts : List Lexeme) → is_reserved w ≡ false → Through (after x mark.Name) ts → Through (after x (mark_of (word w))) ts
named x w ts n h = subst (λ c. Through (after x c) ts) (sym (mark_of_name w n)) h

complete_modules : (us : List Lexeme) (p : ProgramTree) (t : Lexeme) (ts : List Lexeme) → SpellsMany SpellsModule us p → us ≡ t ∷ ts → Through (next s.modules t) ts
unfolding Leads That
complete_modules us p t ts no_more e = cc
complete_modules us p t ts (one_more {us = ys} (a_module {x = x} {fs = fs} {ts = bs} n f q) more) e =
    let head : word (codes "MODULE") ≡ t = cc in
    let rest : word x ∷ ((fs ++ bs) ++ ys) ≡ ts = cc in
    let means : Means_of (s.single the_name ∷ s.formals ∷ s.sections ∷ s.modules ∷ []) (word x ∷ ((fs ++ bs) ++ ys)) =
    as_one the_name (s.formals ∷ s.sections ∷ s.modules ∷ []) (word x) ((fs ++ bs) ++ ys) (x, refl, n)
    (fs, bs ++ ys, append_assoc fs bs ys, (_, f), (bs, ys, refl, (_, q), as_last programs s.modules ys (_, more))) in
    subst (λ z. Through (next s.modules z) ts) head (subst (Means_of (s.single the_name ∷ s.formals ∷ s.sections ∷ s.modules ∷ [])) rest means)

formals_open : (us : List Lexeme) (fs : List Text) (t : Lexeme) (ts : List Lexeme) → SpellsFormals us fs → us ≡ t ∷ ts → sign k.Open ≡ t
formals_open us fs t ts (some_formals no_brackets) e = cc
formals_open us fs t ts (some_formals (brackets p)) e = cc
formals_open us fs t ts empty_formals e = cc

complete_formals : (t : Lexeme) (ts : List Lexeme) → IsFormals (t ∷ ts) → Through (next s.formals t) ts
unfolding Leads
complete_formals t ts f =
    let head = formals_open (t ∷ ts) f.0 t ts f.1 refl in
    subst (λ z. Through (next s.formals z) ts) head (as_last programs s.first_formal ts (subst (λ z. IsFormals (z ∷ ts)) (sym head) f))

name_first : (us ws : List Lexeme) (t : Lexeme) (ts : List Lexeme) (w : List ℕ) → SpellsName us w → us ++ ws ≡ t ∷ ts → (word w ≡ t) × (is_reserved w ≡ false) × (ws ≡ ts)
name_first us ws t ts w (g.a_name n) e = (cc, n, cc)

name_parts : (us : List Lexeme) (w : List ℕ) → SpellsName us w → (us ≡ word w ∷ []) × (is_reserved w ≡ false)
name_parts us w (g.a_name n) = (refl, n)

complete_first_formal : (us : List Lexeme) (fs : List Text) (t : Lexeme) (ts : List Lexeme) → SpellsFormals us fs → us ≡ sign k.Open ∷ t ∷ ts → Through (next s.first_formal t) ts
unfolding Leads
complete_first_formal us fs t ts (some_formals no_brackets) e = cc
complete_first_formal us fs t ts (some_formals (brackets {ts = xs} p)) e =
    let list = commas_tail (sign k.Close) p in
    let whole = list.2 in
    let front : list.0 ++ list.1 ≡ t ∷ ts = cc in
    let name = name_first list.0 list.1 t ts list.3.0 list.3.1 front in
    subst (λ z. Through (next s.first_formal z) ts) name.0 (named s.first_formal list.3.0 ts name.1 (as_last programs s.more_formals ts (subst (Tail IsName (sign k.Close)) name.2 list.4)))
complete_first_formal us fs t ts empty_formals e =
    let head : sign k.Close ≡ t = cc in let rest : ts ≡ [] = cc in
    subst (λ z. Through (next s.first_formal z) ts) head rest

-- a tail of names, up to a lexeme
complete_tail : (x : Sym) (end : Lexeme) (us : List Lexeme) (t : Lexeme) (ts : List Lexeme) → Tail IsName end us → us ≡ t ∷ ts →
    Through (next x end) [] → ((vs : List Lexeme) → Means_of (s.single the_name ∷ x ∷ []) vs → Through (next x (sign k.Comma)) vs) →
    ((vs : List Lexeme) → Tail IsName end vs → spelled x vs) → Through (next x t) ts
unfolding Leads That
complete_tail x end us t ts tail_end e at_end at_comma seen =
    let head : end ≡ t = cc in let rest : [] ≡ ts = cc in subst (λ z. Through (next x z) ts) head (subst (Through (next x end)) rest at_end)
complete_tail x end us t ts (tail_more {xs = xs} {ys = ys} name tail) e at_end at_comma seen =
    let head : sign k.Comma ≡ t = cc in let rest : xs ++ ys ≡ ts = cc in
    subst (λ z. Through (next x z) ts) head (subst (Through (next x (sign k.Comma))) rest (at_comma (xs ++ ys) (go xs name.0 name.1)))
  where
    go : (xs : List Lexeme) (w : List ℕ) → SpellsName xs w → Means_of (s.single the_name ∷ x ∷ []) (xs ++ ys)
    go xs w (g.a_name n) = as_one the_name (x ∷ []) (word w) ys (w, refl, n) (as_last programs x ys (seen ys tail))

complete_more_formals : (t : Lexeme) (ts : List Lexeme) → Tail IsName (sign k.Close) (t ∷ ts) → Through (next s.more_formals t) ts
unfolding Leads
complete_more_formals t ts p = complete_tail s.more_formals (sign k.Close) (t ∷ ts) t ts p refl refl (λ vs h. h) (λ vs h. h)

complete_more_constants : (t : Lexeme) (ts : List Lexeme) → Tail IsName (sign k.Semicolon) (t ∷ ts) → Through (next s.more_constants t) ts
unfolding Leads
complete_more_constants t ts p = complete_tail s.more_constants (sign k.Semicolon) (t ∷ ts) t ts p refl refl (λ vs h. h) (λ vs h. h)

complete_int : (us : List Lexeme) (n : ℤ) (t : Lexeme) (ts : List Lexeme) → SpellsInt us n → us ≡ t ∷ ts → Through (next s.int t) ts
unfolding Leads That
complete_int us n t ts (plain_int {n = v} {d = d}) e = let head : num v d ≡ t = cc in let rest : ts ≡ [] = cc in subst (λ z. Through (next s.int z) ts) head rest
complete_int us n t ts (minus_int {n = v} {d = d}) e =
    let head : sign k.Minus ≡ t = cc in let rest : num v d ∷ [] ≡ ts = cc in
    subst (λ z. Through (next s.int z) ts) head (subst (Means_of (s.single the_number ∷ [])) rest (as_one the_number [] (num v d) [] (v, d, refl) refl))

complete_member : (us : List Lexeme) (x : Member) (t : Lexeme) (ts : List Lexeme) → SpellsMember us x → us ≡ t ∷ ts → Through (next s.member t) ts
unfolding Leads That
complete_member us x t ts (a_symbol {x = w} n) e = let head : word w ≡ t = cc in let rest : ts ≡ [] = cc in subst (λ z. Through (next s.member z) ts) head (named s.member w ts n rest)
complete_member us x t ts (g.a_number (plain_int {n = v} {d = d})) e = let head : num v d ≡ t = cc in let rest : ts ≡ [] = cc in subst (λ z. Through (next s.member z) ts) head rest
complete_member us x t ts (g.a_number (minus_int {n = v} {d = d})) e =
    let head : sign k.Minus ≡ t = cc in let rest : num v d ∷ [] ≡ ts = cc in
    subst (λ z. Through (next s.member z) ts) head (subst (Means_of (s.single the_number ∷ [])) rest (as_one the_number [] (num v d) [] (v, d, refl) refl))

complete_more_members : (us : List Lexeme) (t : Lexeme) (ts : List Lexeme) → Tail IsMember (sign k.CloseBrace) us → us ≡ t ∷ ts → Through (next s.more_members t) ts
unfolding Leads
complete_more_members us t ts tail_end e = let head : sign k.CloseBrace ≡ t = cc in let rest : ts ≡ [] = cc in subst (λ z. Through (next s.more_members z) ts) head rest
complete_more_members us t ts (tail_more {xs = xs} {ys = ys} p tail) e =
    let head : sign k.Comma ≡ t = cc in let rest : xs ++ ys ≡ ts = cc in
    subst (λ z. Through (next s.more_members z) ts) head (subst (Means_of (s.member ∷ s.more_members ∷ [])) rest (xs, ys, refl, p, as_last programs s.more_members ys tail))

complete_type : (us : List Lexeme) (d : DeclaredTree) (t : Lexeme) (ts : List Lexeme) → SpellsType us d → us ≡ t ∷ ts → Through (after_type (mark_of t)) ts
unfolding Leads That
complete_type us d t ts is_boolean e = let head : word (codes "boolean") ≡ t = cc in let rest : ts ≡ [] = cc in subst (λ z. Through (after_type (mark_of z)) ts) head rest
complete_type us d t ts (is_range {ys = ys} (plain_int {n = v} {d = w}) q) e =
    let head : num v w ≡ t = cc in let rest : sign k.Dots ∷ ys ≡ ts = cc in
    subst (λ z. Through (after_type (mark_of z)) ts) head (subst (Means_of (s.single the_dots ∷ s.int ∷ [])) rest (as_one the_dots (s.int ∷ []) (sign k.Dots) ys refl (as_last programs s.int ys (_, q))))
complete_type us d t ts (is_range {ys = ys} (minus_int {n = v} {d = w}) q) e =
    let head : sign k.Minus ≡ t = cc in let rest : num v w ∷ sign k.Dots ∷ ys ≡ ts = cc in
    subst (λ z. Through (after_type (mark_of z)) ts) head (subst (Means_of (s.single the_number ∷ s.single the_dots ∷ s.int ∷ [])) rest
    (as_one the_number (s.single the_dots ∷ s.int ∷ []) (num v w) (sign k.Dots ∷ ys) (v, w, refl) (as_one the_dots (s.int ∷ []) (sign k.Dots) ys refl (as_last programs s.int ys (_, q)))))
complete_type us d t ts (is_members {ts = xs} p) e =
    let list = commas_tail (sign k.CloseBrace) p in
    let whole = list.2 in
    let head : sign k.OpenBrace ≡ t = cc in let rest : list.0 ++ list.1 ≡ ts = cc in
    subst (λ z. Through (after_type (mark_of z)) ts) head (subst (Means_of (s.member ∷ s.more_members ∷ [])) rest (list.0, list.1, refl, list.3, as_last programs s.more_members list.1 list.4))

-- what begins a type begins a declared thing
type_declared : (c : Mark) (ts : List Lexeme) → Through (after_type c) ts → Through (after_declared c) ts
unfolding Leads
type_declared mark.Name ts h = absurd h
type_declared c ts h = h

complete_declared : (us : List Lexeme) (d : DeclaredTree) (t : Lexeme) (ts : List Lexeme) → SpellsDeclared us d → us ≡ t ∷ ts → Through (next s.declared t) ts
unfolding Leads
complete_declared us d t ts (is_type p) e = type_declared (mark_of t) ts (complete_type us _ t ts p e)
complete_declared us d t ts (is_instance {m = w} {ts = xs} n b) e =
    let head : word w ≡ t = cc in let rest : xs ≡ ts = cc in
    subst (λ z. Through (next s.declared z) ts) head (named s.declared w ts n (as_last programs s.actuals ts (subst IsActuals rest (inr (_, b)))))
complete_declared us d t ts (is_empty_instance {m = w} n) e =
    let head : word w ≡ t = cc in let rest : sign k.Open ∷ sign k.Close ∷ [] ≡ ts = cc in
    subst (λ z. Through (next s.declared z) ts) head (named s.declared w ts n (as_last programs s.actuals ts (inl (sym rest))))

actuals_open : (t : Lexeme) (ts : List Lexeme) → IsActuals (t ∷ ts) → sign k.Open ≡ t
actuals_open t ts (inl e) = cc
actuals_open t ts (inr b) = go (t ∷ ts) b.0 b.1 refl
  where
    go : (us : List Lexeme) (es : List Formula) → SpellsBracketed SpellsExpr us es → us ≡ t ∷ ts → sign k.Open ≡ t
    go us es no_brackets e = cc
    go us es (brackets p) e = cc

complete_actuals : (t : Lexeme) (ts : List Lexeme) → IsActuals (t ∷ ts) → Through (next s.actuals t) ts
unfolding Leads
complete_actuals t ts f =
    let head = actuals_open t ts f in
    subst (λ z. Through (next s.actuals z) ts) head (as_last programs s.first_actual ts (subst (λ z. IsActuals (z ∷ ts)) (sym head) f))

-- what begins an expression does not close the list
expr_actual : (c : Mark) (t : Lexeme) (ts : List Lexeme) → Marked c t → Through (live (machine.step start (role_of t)) (s.more_actuals ∷ [])) ts → Through (after_actual c t) ts
unfolding Leads Marked
expr_actual mark.Close t ts m h = absurd (subst (λ z. Through (live (machine.step start (role_of z)) (s.more_actuals ∷ [])) ts) m h)
expr_actual c t ts m h = h

expr_first : (us ws : List Lexeme) (t : Lexeme) (ts : List Lexeme) (rest : List Sym) → IsExpression us → us ++ ws ≡ t ∷ ts → Means_of rest ws → Through (live (machine.step start (role_of t)) rest) ts
unfolding Leads
expr_first [] ws t ts rest p e m = let clash : false ≡ true = spelled_accepted p.1 in cc
expr_first (u ∷ us) ws t ts rest p e m =
    let head : u ≡ t = cc in let whole : us ++ ws ≡ ts = cc in
    subst (λ z. Through (live (machine.step start (role_of z)) rest) ts) head
    (subst (Through (live (machine.step start (role_of u)) rest)) whole (live_complete (machine.step start (role_of u)) rest us ws (spelled_accepted p.1) m))

complete_first_actual : (t : Lexeme) (ts : List Lexeme) → IsActuals (sign k.Open ∷ t ∷ ts) → Through (next s.first_actual t) ts
unfolding Leads
complete_first_actual t ts (inl e) =
    let head : sign k.Close ≡ t = cc in let rest : ts ≡ [] = cc in subst (λ z. Through (next s.first_actual z) ts) head rest
complete_first_actual t ts (inr b) = go (sign k.Open ∷ t ∷ ts) b.0 b.1 refl
  where
    go : (us : List Lexeme) (es : List Formula) → SpellsBracketed SpellsExpr us es → us ≡ sign k.Open ∷ t ∷ ts → Through (next s.first_actual t) ts
    go us es no_brackets e = cc
    go us es (brackets {ts = xs} p) e =
        let list = commas_tail (sign k.Close) p in
        let whole = list.2 in
        let front : list.0 ++ list.1 ≡ t ∷ ts = cc in
        expr_actual (mark_of t) t ts (marked t) (expr_first list.0 list.1 t ts (s.more_actuals ∷ []) list.3 front (as_last programs s.more_actuals list.1 list.4))

complete_more_actuals : (us : List Lexeme) (t : Lexeme) (ts : List Lexeme) → Tail IsExpression (sign k.Close) us → us ≡ t ∷ ts → Through (next s.more_actuals t) ts
unfolding Leads
complete_more_actuals us t ts tail_end e = let head : sign k.Close ≡ t = cc in let rest : ts ≡ [] = cc in subst (λ z. Through (next s.more_actuals z) ts) head rest
complete_more_actuals us t ts (tail_more {xs = xs} {ys = ys} p tail) e =
    let head : sign k.Comma ≡ t = cc in let rest : xs ++ ys ≡ ts = cc in
    subst (λ z. Through (next s.more_actuals z) ts) head (subst (Means_of (expr ∷ s.more_actuals ∷ [])) rest (xs, ys, refl, an_expr xs p, as_last programs s.more_actuals ys tail))

complete_decls : (us : List Lexeme) (ds : List DeclTree) (t : Lexeme) (ts : List Lexeme) → SpellsMany (SpellsDecl SpellsDeclared) us ds → us ≡ t ∷ ts → Through (next s.decls t) ts
unfolding Leads That
complete_decls us ds t ts no_more e = cc
complete_decls us ds t ts (one_more {us = ys} (declares {x = x} {ts = xs} n p) more) e =
    let head : word x ≡ t = cc in let flat : sign k.Colon ∷ ((xs ++ sign k.Semicolon ∷ []) ++ ys) ≡ ts = cc in
    let means : Means_of (s.single the_colon ∷ s.declared ∷ s.single the_semicolon ∷ s.decls ∷ []) (sign k.Colon ∷ ((xs ++ sign k.Semicolon ∷ []) ++ ys)) =
    as_one the_colon (s.declared ∷ s.single the_semicolon ∷ s.decls ∷ []) (sign k.Colon) ((xs ++ sign k.Semicolon ∷ []) ++ ys) refl
    (xs, sign k.Semicolon ∷ ys, append_assoc xs (sign k.Semicolon ∷ []) ys, (_, p), as_one the_semicolon (s.decls ∷ []) (sign k.Semicolon) ys refl (as_last programs s.decls ys (_, more))) in
    subst (λ z. Through (next s.decls z) ts) head (named s.decls x ts n (subst (Means_of (s.single the_colon ∷ s.declared ∷ s.single the_semicolon ∷ s.decls ∷ [])) flat means))

complete_type_decls : (us : List Lexeme) (ds : List DeclTree) (t : Lexeme) (ts : List Lexeme) → SpellsMany (SpellsDecl SpellsType) us ds → us ≡ t ∷ ts → Through (next s.type_decls t) ts
unfolding Leads That
complete_type_decls us ds t ts no_more e = cc
complete_type_decls us ds t ts (one_more {us = ys} (declares {x = x} {ts = xs} n p) more) e =
    let head : word x ≡ t = cc in let flat : sign k.Colon ∷ ((xs ++ sign k.Semicolon ∷ []) ++ ys) ≡ ts = cc in
    let means : Means_of (s.single the_colon ∷ s.type ∷ s.single the_semicolon ∷ s.type_decls ∷ []) (sign k.Colon ∷ ((xs ++ sign k.Semicolon ∷ []) ++ ys)) =
    as_one the_colon (s.type ∷ s.single the_semicolon ∷ s.type_decls ∷ []) (sign k.Colon) ((xs ++ sign k.Semicolon ∷ []) ++ ys) refl
    (xs, sign k.Semicolon ∷ ys, append_assoc xs (sign k.Semicolon ∷ []) ys, (_, p), as_one the_semicolon (s.type_decls ∷ []) (sign k.Semicolon) ys refl (as_last programs s.type_decls ys (_, more))) in
    subst (λ z. Through (next s.type_decls z) ts) head (named s.type_decls x ts n (subst (Means_of (s.single the_colon ∷ s.type ∷ s.single the_semicolon ∷ s.type_decls ∷ [])) flat means))

complete_defines : (us : List Lexeme) (ds : List DefineTree) (t : Lexeme) (ts : List Lexeme) → SpellsMany SpellsDefine us ds → us ≡ t ∷ ts → Through (next s.defines t) ts
unfolding Leads That
complete_defines us ds t ts no_more e = cc
complete_defines us ds t ts (one_more {us = ys} (defines {x = x} {ts = xs} n p) more) e =
    let head : word x ≡ t = cc in let flat : sign k.Becomes ∷ ((xs ++ sign k.Semicolon ∷ []) ++ ys) ≡ ts = cc in
    let means : Means_of (s.single the_becomes ∷ expr ∷ s.single the_semicolon ∷ s.defines ∷ []) (sign k.Becomes ∷ ((xs ++ sign k.Semicolon ∷ []) ++ ys)) =
    as_one the_becomes (expr ∷ s.single the_semicolon ∷ s.defines ∷ []) (sign k.Becomes) ((xs ++ sign k.Semicolon ∷ []) ++ ys) refl
    (xs, sign k.Semicolon ∷ ys, append_assoc xs (sign k.Semicolon ∷ []) ys, an_expr xs (_, p), as_one the_semicolon (s.defines ∷ []) (sign k.Semicolon) ys refl (as_last programs s.defines ys (_, more))) in
    subst (λ z. Through (next s.defines z) ts) head (named s.defines x ts n (subst (Means_of (s.single the_becomes ∷ expr ∷ s.single the_semicolon ∷ s.defines ∷ [])) flat means))

-- a dotted name: its first name, and the rest
record DottedParts (xs : List Lexeme) : Type 0 where
  name : List ℕ
  tail : List Lexeme
  whole : xs ≡ word name ∷ tail
  free : is_reserved name ≡ false
  more : spelled s.more_dots tail

dotted_parts : {xs : List Lexeme} {p : Path} → SpellsDotted xs p → DottedParts xs
dotted_parts (one_name {x = x} n) = record { name = x; tail = []; whole = refl; free = n; more = inl refl }
dotted_parts (more_names {x = x} {ts = ts} n p) = record { name = x; tail = sign k.Dot ∷ ts; whole = refl; free = n; more = inr (ts, refl, (_, p)) }

complete_more_dots : (t : Lexeme) (ts : List Lexeme) → spelled s.more_dots (t ∷ ts) → Through (next s.more_dots t) ts
unfolding Leads That
complete_more_dots t ts (inl e) = cc
complete_more_dots t ts (inr d) =
    let e = d.1 in
    let head : sign k.Dot ≡ t = cc in let rest : d.0 ≡ ts = cc in
    let parts = dotted_parts d.2.1 in
    let whole : word parts.name ∷ parts.tail ≡ ts = sym parts.whole ∙ rest in
    subst (λ z. Through (next s.more_dots z) ts) head
    (subst (Means_of (s.single the_name ∷ s.more_dots ∷ [])) whole (as_one the_name (s.more_dots ∷ []) (word parts.name) parts.tail (parts.name, refl, parts.free) (as_last programs s.more_dots parts.tail parts.more)))

-- after a target
after_target : (xs ys : List Lexeme) (list : List AssignmentTree) → IsExpression xs → SpellsMany SpellsAssignment ys list → Means_of to_assign (sign k.Becomes ∷ ((xs ++ sign k.Semicolon ∷ []) ++ ys))
unfolding That
after_target xs ys list p more =
    as_one the_becomes (expr ∷ s.single the_semicolon ∷ s.assigns ∷ []) (sign k.Becomes) ((xs ++ sign k.Semicolon ∷ []) ++ ys) refl
    (xs, sign k.Semicolon ∷ ys, append_assoc xs (sign k.Semicolon ∷ []) ys, an_expr xs p, as_one the_semicolon (s.assigns ∷ []) (sign k.Semicolon) ys refl (as_last programs s.assigns ys (list, more)))

in_brackets : (xs rest : List Lexeme) (d : Path) → SpellsDotted xs d → Means_of to_assign rest →
    Means_of (s.single the_open ∷ s.single the_name ∷ s.more_dots ∷ s.single the_close ∷ to_assign) (sign k.Open ∷ ((xs ++ sign k.Close ∷ []) ++ rest))
unfolding That
in_brackets xs rest d p m =
    let parts = dotted_parts p in
    let whole : word parts.name ∷ (parts.tail ++ sign k.Close ∷ rest) ≡ (xs ++ sign k.Close ∷ []) ++ rest =
    ap (λ z. z ++ sign k.Close ∷ rest) (sym parts.whole) ∙ sym (append_assoc xs (sign k.Close ∷ []) rest) in
    as_one the_open (s.single the_name ∷ s.more_dots ∷ s.single the_close ∷ to_assign) (sign k.Open) ((xs ++ sign k.Close ∷ []) ++ rest) refl
    (subst (Means_of (s.single the_name ∷ s.more_dots ∷ s.single the_close ∷ to_assign)) whole
    (as_one the_name (s.more_dots ∷ s.single the_close ∷ to_assign) (word parts.name) (parts.tail ++ sign k.Close ∷ rest) (parts.name, refl, parts.free)
    (parts.tail, sign k.Close ∷ rest, refl, parts.more, as_one the_close to_assign (sign k.Close) rest refl m)))

complete_assigns : (us : List Lexeme) (list : List AssignmentTree) (t : Lexeme) (ts : List Lexeme) → SpellsMany SpellsAssignment us list → us ≡ t ∷ ts → Through (next s.assigns t) ts
unfolding Leads That
complete_assigns us list t ts no_more e = cc
complete_assigns us list t ts (one_more {us = ys} (assigns {ts = xs} (always {ts = ds} d) p) more) e =
    let parts = dotted_parts d in
    let flat : (ds ++ sign k.Becomes ∷ (xs ++ sign k.Semicolon ∷ [])) ++ ys ≡ word parts.name ∷ (parts.tail ++ sign k.Becomes ∷ ((xs ++ sign k.Semicolon ∷ []) ++ ys)) =
    append_assoc ds (sign k.Becomes ∷ (xs ++ sign k.Semicolon ∷ [])) ys ∙ ap (λ z. z ++ sign k.Becomes ∷ ((xs ++ sign k.Semicolon ∷ []) ++ ys)) parts.whole in
    let both : word parts.name ∷ (parts.tail ++ sign k.Becomes ∷ ((xs ++ sign k.Semicolon ∷ []) ++ ys)) ≡ t ∷ ts = sym flat ∙ e in
    let head : word parts.name ≡ t = cc in let rest : parts.tail ++ sign k.Becomes ∷ ((xs ++ sign k.Semicolon ∷ []) ++ ys) ≡ ts = cc in
    subst (λ z. Through (next s.assigns z) ts) head (named s.assigns parts.name ts parts.free
    (subst (Means_of (s.more_dots ∷ to_assign)) rest (parts.tail, sign k.Becomes ∷ ((xs ++ sign k.Semicolon ∷ []) ++ ys), refl, parts.more, after_target xs ys _ (_, p) more)))
complete_assigns us list t ts (one_more {us = ys} (assigns {ts = xs} (first {ts = ds} d) p) more) e =
    let head : word (codes "init") ≡ t = cc in
    let flat : ((ds ++ sign k.Close ∷ []) ++ sign k.Becomes ∷ (xs ++ sign k.Semicolon ∷ [])) ++ ys ≡ (ds ++ sign k.Close ∷ []) ++ sign k.Becomes ∷ ((xs ++ sign k.Semicolon ∷ []) ++ ys) =
    append_assoc (ds ++ sign k.Close ∷ []) (sign k.Becomes ∷ (xs ++ sign k.Semicolon ∷ [])) ys in
    let long : sign k.Open ∷ (((ds ++ sign k.Close ∷ []) ++ sign k.Becomes ∷ (xs ++ sign k.Semicolon ∷ [])) ++ ys) ≡ ts = cc in
    let rest : sign k.Open ∷ ((ds ++ sign k.Close ∷ []) ++ sign k.Becomes ∷ ((xs ++ sign k.Semicolon ∷ []) ++ ys)) ≡ ts = ap (λ z. sign k.Open ∷ z) (sym flat) ∙ long in
    subst (λ z. Through (next s.assigns z) ts) head
    (subst (Means_of (s.single the_open ∷ s.single the_name ∷ s.more_dots ∷ s.single the_close ∷ to_assign)) rest
    (in_brackets ds (sign k.Becomes ∷ ((xs ++ sign k.Semicolon ∷ []) ++ ys)) _ d (after_target xs ys _ (_, p) more)))
complete_assigns us list t ts (one_more {us = ys} (assigns {ts = xs} (g.after {ts = ds} d) p) more) e =
    let head : word (codes "next") ≡ t = cc in
    let flat : ((ds ++ sign k.Close ∷ []) ++ sign k.Becomes ∷ (xs ++ sign k.Semicolon ∷ [])) ++ ys ≡ (ds ++ sign k.Close ∷ []) ++ sign k.Becomes ∷ ((xs ++ sign k.Semicolon ∷ []) ++ ys) =
    append_assoc (ds ++ sign k.Close ∷ []) (sign k.Becomes ∷ (xs ++ sign k.Semicolon ∷ [])) ys in
    let long : sign k.Open ∷ (((ds ++ sign k.Close ∷ []) ++ sign k.Becomes ∷ (xs ++ sign k.Semicolon ∷ [])) ++ ys) ≡ ts = cc in
    let rest : sign k.Open ∷ ((ds ++ sign k.Close ∷ []) ++ sign k.Becomes ∷ ((xs ++ sign k.Semicolon ∷ []) ++ ys)) ≡ ts = ap (λ z. sign k.Open ∷ z) (sym flat) ∙ long in
    subst (λ z. Through (next s.assigns z) ts) head
    (subst (Means_of (s.single the_open ∷ s.single the_name ∷ s.more_dots ∷ s.single the_close ∷ to_assign)) rest
    (in_brackets ds (sign k.Becomes ∷ ((xs ++ sign k.Semicolon ∷ []) ++ ys)) _ d (after_target xs ys _ (_, p) more)))

-- a section of symbols x, and the sections after it
section_means : (x : Sym) (xs ys : List Lexeme) (ss : List SectionTree) → spelled x xs → SpellsSections ys ss → Means_of (x ∷ s.sections ∷ []) (xs ++ ys)
section_means x xs ys ss d more = (xs, ys, refl, d, as_last programs s.sections ys (ss, more))

formula_means : (xs ys : List Lexeme) (e : Formula) (ss : List SectionTree) → SpellsFormula xs e → SpellsSections ys ss → Means_of (expr ∷ s.last_semicolon ∷ s.sections ∷ []) (xs ++ ys)
formula_means xs ys e ss (open_ended p) more = (xs, ys, refl, an_expr xs (e, p), ([], ys, refl, inl refl, as_last programs s.sections ys (ss, more)))
formula_means xs ys e ss (ended {ts = zs} p) more =
    (zs, sign k.Semicolon ∷ ys, append_assoc zs (sign k.Semicolon ∷ []) ys, an_expr zs (e, p), (sign k.Semicolon ∷ [], ys, refl, inr refl, as_last programs s.sections ys (ss, more)))

complete_sections : (us : List Lexeme) (ss : List SectionTree) (t : Lexeme) (ts : List Lexeme) → SpellsSections us ss → us ≡ t ∷ ts → Through (next s.sections t) ts
unfolding Leads That
complete_sections us ss t ts no_section e = cc
complete_sections us ss t ts (a_section {us = ys} (a_var {ts = xs} p) more) e =
    let head : word (codes "VAR") ≡ t = cc in let rest : xs ++ ys ≡ ts = cc in
    subst (λ z. Through (next s.sections z) ts) head (subst (Means_of (s.decls ∷ s.sections ∷ [])) rest (section_means s.decls xs ys _ (_, p) more))
complete_sections us ss t ts (a_section {us = ys} (an_ivar {ts = xs} p) more) e =
    let head : word (codes "IVAR") ≡ t = cc in let rest : xs ++ ys ≡ ts = cc in
    subst (λ z. Through (next s.sections z) ts) head (subst (Means_of (s.type_decls ∷ s.sections ∷ [])) rest (section_means s.type_decls xs ys _ (_, p) more))
complete_sections us ss t ts (a_section {us = ys} (a_frozen {ts = xs} p) more) e =
    let head : word (codes "FROZENVAR") ≡ t = cc in let rest : xs ++ ys ≡ ts = cc in
    subst (λ z. Through (next s.sections z) ts) head (subst (Means_of (s.type_decls ∷ s.sections ∷ [])) rest (section_means s.type_decls xs ys _ (_, p) more))
complete_sections us ss t ts (a_section {us = ys} (a_define {ts = xs} p) more) e =
    let head : word (codes "DEFINE") ≡ t = cc in let rest : xs ++ ys ≡ ts = cc in
    subst (λ z. Through (next s.sections z) ts) head (subst (Means_of (s.defines ∷ s.sections ∷ [])) rest (section_means s.defines xs ys _ (_, p) more))
complete_sections us ss t ts (a_section {us = ys} (an_assign {ts = xs} p) more) e =
    let head : word (codes "ASSIGN") ≡ t = cc in let rest : xs ++ ys ≡ ts = cc in
    subst (λ z. Through (next s.sections z) ts) head (subst (Means_of (s.assigns ∷ s.sections ∷ [])) rest (section_means s.assigns xs ys _ (_, p) more))
complete_sections us ss t ts (a_section {us = ys} (an_init {ts = xs} p) more) e =
    let head : word (codes "INIT") ≡ t = cc in let rest : xs ++ ys ≡ ts = cc in
    subst (λ z. Through (next s.sections z) ts) head (subst (Means_of (expr ∷ s.last_semicolon ∷ s.sections ∷ [])) rest (formula_means xs ys _ _ p more))
complete_sections us ss t ts (a_section {us = ys} (an_invar {ts = xs} p) more) e =
    let head : word (codes "INVAR") ≡ t = cc in let rest : xs ++ ys ≡ ts = cc in
    subst (λ z. Through (next s.sections z) ts) head (subst (Means_of (expr ∷ s.last_semicolon ∷ s.sections ∷ [])) rest (formula_means xs ys _ _ p more))
complete_sections us ss t ts (a_section {us = ys} (a_trans {ts = xs} p) more) e =
    let head : word (codes "TRANS") ≡ t = cc in let rest : xs ++ ys ≡ ts = cc in
    subst (λ z. Through (next s.sections z) ts) head (subst (Means_of (expr ∷ s.last_semicolon ∷ s.sections ∷ [])) rest (formula_means xs ys _ _ p more))
complete_sections us ss t ts (a_section {us = ys} (some_constants {ts = xs} p) more) e =
    let list = commas_tail (sign k.Semicolon) p in
    let head : word (codes "CONSTANTS") ≡ t = cc in
    let long : (xs ++ sign k.Semicolon ∷ []) ++ ys ≡ ts = cc in
    let name = name_parts list.0 list.3.0 list.3.1 in
    let whole : word list.3.0 ∷ (list.1 ++ ys) ≡ ts =
    ap (λ z. z ++ (list.1 ++ ys)) (sym name.0) ∙ sym (append_assoc list.0 list.1 ys) ∙ ap (λ z. z ++ ys) (sym list.2) ∙ long in
    subst (λ z. Through (next s.sections z) ts) head (subst (Means_of (s.single the_name ∷ s.more_constants ∷ s.sections ∷ [])) whole
    (as_one the_name (s.more_constants ∷ s.sections ∷ []) (word list.3.0) (list.1 ++ ys) (list.3.0, refl, name.1) (list.1, ys, refl, list.4, as_last programs s.sections ys (_, more))))
complete_sections us ss t ts (skipped x xs {us = ys} h n more) e =
    let head : word x ≡ t = cc in let rest : xs ++ ys ≡ ts = cc in
    subst (λ z. Through (next s.sections z) ts) head (subst (λ c. Through (after_section c) ts) (sym (mark_of_skipped x h))
    (subst (Means_of (s.skip ∷ s.sections ∷ [])) rest (section_means s.skip xs ys _ n more)))

complete_skip : (t : Lexeme) (ts : List Lexeme) → HasNoSection (t ∷ ts) → Through (next s.skip t) ts
unfolding Leads
complete_skip (word x) ts h = subst (λ b. Through (passing b) ts) (sym h.0) (as_last programs s.skip ts h.1)
complete_skip (num n d) ts h = as_last programs s.skip ts h
complete_skip (sign q) ts h = as_last programs s.skip ts h

pub completed : (x : Sym) (t : Lexeme) (ts : List Lexeme) → spelled x (t ∷ ts) → Through (next x t) ts
unfolding Leads
completed (s.single w) t ts h = go h.0 h.1 h.2
  where
    go : (u : Lexeme) → t ∷ ts ≡ u ∷ [] → is_single w (mark_of u) ≡ true → Through (alone (is_single w (mark_of t))) ts
    go u e f =
        let head : u ≡ t = cc in let rest : ts ≡ [] = cc in
        subst (λ z. Through (alone (is_single w (mark_of z))) ts) head (subst (λ b. Through (alone b) ts) (sym f) rest)
completed (s.formula st q) t ts w = subst (Through (live (machine.step st (role_of t)) [])) (append-nil ts) (live_complete (machine.step st (role_of t)) [] ts [] w refl)
completed s.modules t ts h = complete_modules (t ∷ ts) h.0 t ts h.1 refl
completed s.formals t ts h = complete_formals t ts h
completed s.first_formal t ts h = complete_first_formal (sign k.Open ∷ t ∷ ts) h.0 t ts h.1 refl
completed s.more_formals t ts h = complete_more_formals t ts h
completed s.sections t ts h = complete_sections (t ∷ ts) h.0 t ts h.1 refl
completed s.decls t ts h = complete_decls (t ∷ ts) h.0 t ts h.1 refl
completed s.type_decls t ts h = complete_type_decls (t ∷ ts) h.0 t ts h.1 refl
completed s.declared t ts h = complete_declared (t ∷ ts) h.0 t ts h.1 refl
completed s.type t ts h = complete_type (t ∷ ts) h.0 t ts h.1 refl
completed s.actuals t ts h = complete_actuals t ts h
completed s.first_actual t ts h = complete_first_actual t ts h
completed s.more_actuals t ts h = complete_more_actuals (t ∷ ts) t ts h refl
completed s.int t ts h = complete_int (t ∷ ts) h.0 t ts h.1 refl
completed s.member t ts h = complete_member (t ∷ ts) h.0 t ts h.1 refl
completed s.more_members t ts h = complete_more_members (t ∷ ts) t ts h refl
completed s.defines t ts h = complete_defines (t ∷ ts) h.0 t ts h.1 refl
completed s.more_constants t ts h = complete_more_constants t ts h
completed s.assigns t ts h = complete_assigns (t ∷ ts) h.0 t ts h.1 refl
completed s.more_dots t ts h = complete_more_dots t ts h
completed s.skip t ts h = complete_skip t ts h
completed s.last_semicolon t ts (inl e) = cc
completed s.last_semicolon t ts (inr e) =
    let head : sign k.Semicolon ≡ t = cc in let rest : ts ≡ [] = cc in subst (λ z. Through (next s.last_semicolon z) ts) head rest

-- nothing
no_end : (xs : List Lexeme) (t : Lexeme) → xs ++ t ∷ [] ≡ [] → ⊥
no_end [] t e = cc
no_end (x ∷ xs) t e = cc

pub empties : (x : Sym) → empty x ≡ true → spelled x []
empties (s.formula st q) e = e
empties s.modules e = ([], no_more)
empties s.formals e = ([], some_formals no_brackets)
empties s.sections e = ([], no_section)
empties s.decls e = ([], no_more)
empties s.type_decls e = ([], no_more)
empties s.actuals e = inr ([], no_brackets)
empties s.defines e = ([], no_more)
empties s.assigns e = ([], no_more)
empties s.more_dots e = inl refl
empties s.skip e = tt
empties s.last_semicolon e = inl refl
empties x e = cc

formals_some : (us : List Lexeme) (fs : List Text) → SpellsFormals us fs → us ≡ sign k.Open ∷ [] → ⊥
formals_some us fs (some_formals no_brackets) e = cc
formals_some us fs (some_formals (brackets {ts = xs} p)) e = let rest : xs ++ sign k.Close ∷ [] ≡ [] = cc in no_end xs (sign k.Close) rest
formals_some us fs empty_formals e = cc

actuals_some : (us : List Lexeme) (es : List Formula) → SpellsBracketed SpellsExpr us es → us ≡ sign k.Open ∷ [] → ⊥
actuals_some us es no_brackets e = cc
actuals_some us es (brackets {ts = xs} p) e = let rest : xs ++ sign k.Close ∷ [] ≡ [] = cc in no_end xs (sign k.Close) rest

tail_some : {P : List Lexeme → Type 0} {end : Lexeme} (us : List Lexeme) → Tail P end us → us ≡ [] → ⊥
tail_some us tail_end e = cc
tail_some us (tail_more p t) e = cc

type_some : (us : List Lexeme) (d : DeclaredTree) → SpellsType us d → us ≡ [] → ⊥
type_some us d is_boolean e = cc
type_some us d (is_range plain_int q) e = cc
type_some us d (is_range minus_int q) e = cc
type_some us d (is_members p) e = cc

pub emptied : (x : Sym) → spelled x [] → empty x ≡ true
emptied (s.single w) h = let e = h.1 in cc
emptied (s.formula st q) e = e
emptied s.modules h = refl
emptied s.formals h = refl
emptied s.sections h = refl
emptied s.decls h = refl
emptied s.type_decls h = refl
emptied s.actuals h = refl
emptied s.defines h = refl
emptied s.assigns h = refl
emptied s.more_dots h = refl
emptied s.skip h = refl
emptied s.last_semicolon h = refl
emptied s.first_formal h = absurd (formals_some (sign k.Open ∷ []) h.0 h.1 refl)
emptied s.more_formals h = absurd (tail_some [] h refl)
emptied s.declared h = absurd (go [] h.0 h.1 refl)
  where
    go : (us : List Lexeme) (d : DeclaredTree) → SpellsDeclared us d → us ≡ [] → ⊥
    go us d (is_type p) e = type_some us _ p e
    go us d (is_instance n b) e = cc
    go us d (is_empty_instance n) e = cc
emptied s.type h = absurd (type_some [] h.0 h.1 refl)
emptied s.first_actual (inl e) = cc
emptied s.first_actual (inr h) = absurd (actuals_some (sign k.Open ∷ []) h.0 h.1 refl)
emptied s.more_actuals h = absurd (tail_some [] h refl)
emptied s.int h = absurd (some_int [] h.0 h.1 refl)
emptied s.member h = absurd (go [] h.0 h.1 refl)
  where
    go : (us : List Lexeme) (x : Member) → SpellsMember us x → us ≡ [] → ⊥
    go us x (a_symbol n) e = cc
    go us x (g.a_number p) e = some_int us _ p e
emptied s.more_members h = absurd (tail_some [] h refl)
emptied s.more_constants h = absurd (tail_some [] h refl)

pub completing : (x : Sym) → spelled x (shortest x)
unfolding That
completing (s.single the_name) = (word (codes "x"), refl, refl)
completing (s.single the_number) = (num 0 [], refl, refl)
completing (s.single the_colon) = (sign k.Colon, refl, refl)
completing (s.single the_becomes) = (sign k.Becomes, refl, refl)
completing (s.single the_semicolon) = (sign k.Semicolon, refl, refl)
completing (s.single the_open) = (sign k.Open, refl, refl)
completing (s.single the_close) = (sign k.Close, refl, refl)
completing (s.single the_dots) = (sign k.Dots, refl, refl)
completing (s.formula st q) = completes st q
completing s.modules = ([], no_more)
completing s.formals = ([], some_formals no_brackets)
completing s.first_formal = ([], empty_formals)
completing s.more_formals = tail_end
completing s.sections = ([], no_section)
completing s.decls = ([], no_more)
completing s.type_decls = ([], no_more)
completing s.declared = (boolean, is_type is_boolean)
completing s.type = (boolean, is_boolean)
completing s.actuals = inr ([], no_brackets)
completing s.first_actual = inl refl
completing s.more_actuals = tail_end
completing s.int = (pos 0, plain_int)
completing s.member = (mem.Number (pos 0), g.a_number plain_int)
completing s.more_members = tail_end
completing s.defines = ([], no_more)
completing s.more_constants = tail_end
completing s.assigns = ([], no_more)
completing s.more_dots = inl refl
completing s.skip = tt
completing s.last_semicolon = inl refl
