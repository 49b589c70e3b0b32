-- What the reading of a program takes is spelled so.
use Rattle.std.proofs.Common.{◌≡◌, inl, inr, ℕ, ℤ, Bool, true, false, List, [], ◌∷◌, ◌++◌, refl, sym, ◌∙◌, ap, subst, append_assoc, append-nil}
use Rattle.std.specs.Prelude.{codes, pos}
use Rattle.smv_lexer.specs.declared.token.TokenKind.TheVariants as k
use Rattle.smv_language.specs.declared.program.Member.TheVariants as mem
use Rattle.smv_language.specs.declared.program.Moment.TheVariants as when
use Rattle.smv_language.specs.Language.{Formula, DeclaredTree, boolean, range, members, instance, DeclTree, SectionTree, init, invar, trans, Path, Lexeme, word, num, sign, is_reserved, section_words, is_among, minus, SpellsInt, plain_int, minus_int, SpellsDotted, one_name, more_names, SpellsMany, one_more, SpellsBracketed, brackets, SpellsName, SpellsExpr, SpellsMember, SpellsType, is_boolean, is_range, is_members, SpellsDeclared, is_type, is_instance, is_empty_instance, SpellsDecl, declares, defines, SpellsTarget, always, first, assigns, SpellsFormula, open_ended, ended, HasNoSection, SpellsSection, a_var, an_ivar, a_frozen, some_constants, an_assign, an_init, an_invar, a_trans, a_section, skipped, SpellsFormals, some_formals, empty_formals, a_module}
use Rattle.smv_language.specs.SpellsProgram.{a_symbol, a_define}
use Rattle.smv_language.specs.SpellsProgram as g
use Rattle.smv_expression_reader.specs.Recogniser.{role_of, State, stuck, is_whole, start}
use Rattle.smv_expression_reader.specs.Recogniser as machine
use Rattle.smv_expression_reader.specs.Marks.{mark_of, is_section}
use Rattle.smv_model_reader.specs.ProgramGrammar.{Single, the_name, the_number, the_colon, the_becomes, the_semicolon, the_open, the_close, the_dots, Sym, Tail, tail_end, tail_more, is_single, IsName, IsMember, IsFormals, IsActuals, spelled, expr, live, alone, passing, after_type, after_declared, after_section, after, after_actual, next, programs}
use Rattle.smv_model_reader.specs.ProgramGrammar as s
use Rattle.smv_expression_reader.proofs.Accepted.{run_stuck}
use Rattle.smv_expression_reader.proofs.Rest.{accepted_spelled}
use Rattle.smv_expression_reader.proofs.Marks.{Marked, marked}
use Rattle.smv_model_reader.proofs.SymbolMeanings.{That, Means_of, One, one, tail_commas, Through}
use Rattle.smv_expression_reader.proofs.Meanings.{last, Leads}
use Rattle.smv_expression_reader.specs.Stops.{IsExpression}
use Rattle.smv_expression_reader.specs.declared.mark.Mark.{Mark}
use Rattle.smv_expression_reader.specs.declared.mark.Mark.TheVariants as mark

-- a dotted name after its first name
dotted_sound : (x : List ℕ) (xs : List Lexeme) → is_reserved x ≡ false → spelled s.more_dots xs → (p : Path) × SpellsDotted (word x ∷ xs) p
dotted_sound x xs n (inl e) = (x ∷ [], subst (λ z. SpellsDotted (word x ∷ z) (x ∷ [])) (sym e) (one_name n))
dotted_sound x xs n (inr d) = (x ∷ d.2.0, subst (λ z. SpellsDotted (word x ∷ z) (x ∷ d.2.0)) (sym d.1) (more_names n d.2.1))

sound_modules : (c : Mark) (t : Lexeme) (ts : List Lexeme) → Marked c t → Through (after s.modules c) ts → spelled s.modules (t ∷ ts)
unfolding Marked Leads That
sound_modules mark.Module t ts m h =
    let a = one the_name (s.formals ∷ s.sections ∷ s.modules ∷ []) ts h in
    let b = a.means in
    let c = b.4 in
    let d = last programs s.modules c.1 c.4 in
    let name = a.that in
    let item = a_module {x = name.0} {fs = b.0} {ts = c.0} {formals = b.3.0} {ss = c.3.0} name.2 b.3.1 c.3.1 in
    let assoc : (b.0 ++ c.0) ++ c.1 ≡ b.0 ++ (c.0 ++ c.1) = append_assoc b.0 c.0 c.1 in
    let e1 = a.whole in let e2 = b.2 in let e3 = c.2 in let e4 = name.1 in
    let whole : word (codes "MODULE") ∷ word name.0 ∷ ((b.0 ++ c.0) ++ c.1) ≡ t ∷ ts = cc in
    subst (spelled s.modules) whole (_, one_more item d.1)
sound_modules c t ts m h = absurd h

sound_formals : (c : Mark) (t : Lexeme) (ts : List Lexeme) → Marked c t → Through (after s.formals c) ts → IsFormals (t ∷ ts)
unfolding Marked Leads
sound_formals mark.Open t ts m h = subst (λ z. IsFormals (z ∷ ts)) (sym m) (last programs s.first_formal ts h)
sound_formals c t ts m h = absurd h

sound_first_formal : (c : Mark) (t : Lexeme) (ts : List Lexeme) → Marked c t → Through (after s.first_formal c) ts → IsFormals (sign k.Open ∷ t ∷ ts)
unfolding Marked Leads
sound_first_formal mark.Close t ts m h = ([], let whole : sign k.Open ∷ sign k.Close ∷ [] ≡ sign k.Open ∷ t ∷ ts = cc in subst (λ z. SpellsFormals z []) whole empty_formals)
sound_first_formal mark.Name t ts m h =
    let tail = last programs s.more_formals ts h in
    let list = tail_commas SpellsName (word m.0 ∷ []) m.0 (g.a_name m.2) tail in
    let e = m.1 in let f = list.1 in
    let whole : sign k.Open ∷ (list.0 ++ sign k.Close ∷ []) ≡ sign k.Open ∷ t ∷ ts = cc in
    (list.2, subst (λ z. SpellsFormals z list.2) whole (some_formals (brackets list.3)))
sound_first_formal c t ts m h = absurd h

sound_names : (end : Lexeme) (x : Sym) (t : Lexeme) (ts : List Lexeme) → (One the_name (x ∷ []) ts) → t ≡ sign k.Comma → ((us : List Lexeme) → spelled x us → Tail IsName end us) → Tail IsName end (t ∷ ts)
unfolding That
sound_names end x t ts a e f =
    let name = a.that in
    let tail = f a.rest (last programs x a.rest a.means) in
    let e1 = a.whole in let e2 = name.1 in
    let whole : sign k.Comma ∷ word name.0 ∷ a.rest ≡ t ∷ ts = cc in
    subst (Tail IsName end) whole (tail_more {xs = word name.0 ∷ []} (name.0, g.a_name name.2) tail)

sound_more_formals : (c : Mark) (t : Lexeme) (ts : List Lexeme) → Marked c t → Through (after s.more_formals c) ts → Tail IsName (sign k.Close) (t ∷ ts)
unfolding Marked Leads
sound_more_formals mark.Close t ts m h = let whole : sign k.Close ∷ [] ≡ t ∷ ts = cc in subst (Tail IsName (sign k.Close)) whole tail_end
sound_more_formals mark.Comma t ts m h = sound_names (sign k.Close) s.more_formals t ts (one the_name (s.more_formals ∷ []) ts h) m (λ us d. d)
sound_more_formals c t ts m h = absurd h

sound_more_constants : (c : Mark) (t : Lexeme) (ts : List Lexeme) → Marked c t → Through (after s.more_constants c) ts → Tail IsName (sign k.Semicolon) (t ∷ ts)
unfolding Marked Leads
sound_more_constants mark.Semicolon t ts m h = let whole : sign k.Semicolon ∷ [] ≡ t ∷ ts = cc in subst (Tail IsName (sign k.Semicolon)) whole tail_end
sound_more_constants mark.Comma t ts m h = sound_names (sign k.Semicolon) s.more_constants t ts (one the_name (s.more_constants ∷ []) ts h) m (λ us d. d)
sound_more_constants c t ts m h = absurd h

sound_int : (c : Mark) (t : Lexeme) (ts : List Lexeme) → Marked c t → Through (after s.int c) ts → (n : ℤ) × SpellsInt (t ∷ ts) n
unfolding Marked Leads That
sound_int mark.Number t ts m h = (pos m.0, let e = m.2 in let whole : num m.0 m.1 ∷ [] ≡ t ∷ ts = cc in subst (λ z. SpellsInt z (pos m.0)) whole (plain_int {n = m.0} {d = m.1}))
sound_int mark.Minus t ts m h =
    let a = one the_number [] ts h in
    let n = a.that in
    let e1 = a.whole in let e2 = n.2 in let e3 : a.rest ≡ [] = a.means in
    let whole : sign k.Minus ∷ num n.0 n.1 ∷ [] ≡ t ∷ ts = cc in
    (minus n.0, subst (λ z. SpellsInt z (minus n.0)) whole (minus_int {n = n.0} {d = n.1}))
sound_int c t ts m h = absurd h

sound_member : (c : Mark) (t : Lexeme) (ts : List Lexeme) → Marked c t → Through (after s.member c) ts → IsMember (t ∷ ts)
unfolding Marked Leads
sound_member mark.Name t ts m h = (mem.Symbol m.0, let e = m.1 in let whole : word m.0 ∷ [] ≡ t ∷ ts = cc in subst (λ z. SpellsMember z (mem.Symbol m.0)) whole (a_symbol m.2))
sound_member mark.Number t ts m h = let n = sound_int mark.Number t ts m h in (_, g.a_number n.1)
sound_member mark.Minus t ts m h = let n = sound_int mark.Minus t ts m h in (_, g.a_number n.1)
sound_member c t ts m h = absurd h

sound_more_members : (c : Mark) (t : Lexeme) (ts : List Lexeme) → Marked c t → Through (after s.more_members c) ts → Tail IsMember (sign k.CloseBrace) (t ∷ ts)
unfolding Marked Leads
sound_more_members mark.CloseBrace t ts m h = let whole : sign k.CloseBrace ∷ [] ≡ t ∷ ts = cc in subst (Tail IsMember (sign k.CloseBrace)) whole tail_end
sound_more_members mark.Comma t ts m h =
    let e = h.2 in
    let whole : sign k.Comma ∷ (h.0 ++ h.1) ≡ t ∷ ts = cc in
    subst (Tail IsMember (sign k.CloseBrace)) whole (tail_more h.3 (last programs s.more_members h.1 h.4))
sound_more_members c t ts m h = absurd h

sound_type : (c : Mark) (t : Lexeme) (ts : List Lexeme) → Marked c t → Through (after_type c) ts → spelled s.type (t ∷ ts)
unfolding Marked Leads That
sound_type mark.Boolean t ts m h = (boolean, let whole : word (codes "boolean") ∷ [] ≡ t ∷ ts = cc in subst (λ z. SpellsType z boolean) whole is_boolean)
sound_type mark.Number t ts m h =
    let a = one the_dots (s.int ∷ []) ts h in
    let n = last programs s.int a.rest a.means in
    let e = m.2 in let e1 = a.whole in let e2 = a.that in
    let whole : num m.0 m.1 ∷ sign k.Dots ∷ a.rest ≡ t ∷ ts = cc in
    (range (pos m.0) n.0, subst (λ z. SpellsType z (range (pos m.0) n.0)) whole (is_range (plain_int {n = m.0} {d = m.1}) n.1))
sound_type mark.Minus t ts m h =
    let a = one the_number (s.single the_dots ∷ s.int ∷ []) ts h in
    let b = one the_dots (s.int ∷ []) a.rest a.means in
    let n = last programs s.int b.rest b.means in
    let low = a.that in
    let e = low.2 in let e1 = a.whole in let e2 = b.that in let e3 = b.whole in
    let whole : sign k.Minus ∷ num low.0 low.1 ∷ sign k.Dots ∷ b.rest ≡ t ∷ ts = cc in
    (range (minus low.0) n.0, subst (λ z. SpellsType z (range (minus low.0) n.0)) whole (is_range (minus_int {n = low.0} {d = low.1}) n.1))
sound_type mark.OpenBrace t ts m h =
    let list = tail_commas SpellsMember h.0 h.3.0 h.3.1 (last programs s.more_members h.1 h.4) in
    let e = h.2 in let f = list.1 in
    let whole : sign k.OpenBrace ∷ (list.0 ++ sign k.CloseBrace ∷ []) ≡ t ∷ ts = cc in
    (members list.2, subst (λ z. SpellsType z (members list.2)) whole (is_members list.3))
sound_type c t ts m h = absurd h

sound_declared : (c : Mark) (t : Lexeme) (ts : List Lexeme) → Marked c t → Through (after_declared c) ts → spelled s.declared (t ∷ ts)
unfolding Marked Leads
sound_declared mark.Name t ts m h = go (last programs s.actuals ts h)
  where
    go : IsActuals ts → spelled s.declared (t ∷ ts)
    go (inl f) = let e = m.1 in let whole : word m.0 ∷ sign k.Open ∷ sign k.Close ∷ [] ≡ t ∷ ts = cc in
        (instance m.0 [], subst (λ z. SpellsDeclared z (instance m.0 [])) whole (is_empty_instance m.2))
    go (inr b) = (instance m.0 b.0, subst (λ z. SpellsDeclared (z ∷ ts) (instance m.0 b.0)) (sym m.1) (is_instance m.2 b.1))
sound_declared mark.Boolean t ts m h = let d = sound_type mark.Boolean t ts m h in (d.0, is_type d.1)
sound_declared mark.Number t ts m h = let d = sound_type mark.Number t ts m h in (d.0, is_type d.1)
sound_declared mark.Minus t ts m h = let d = sound_type mark.Minus t ts m h in (d.0, is_type d.1)
sound_declared mark.OpenBrace t ts m h = let d = sound_type mark.OpenBrace t ts m h in (d.0, is_type d.1)
sound_declared c t ts m h = absurd h

-- a declaration, and what follows
sound_decl : (What : List Lexeme → DeclaredTree → Type 0) (x : List ℕ) (xs rest : List Lexeme) (d : DeclaredTree) (ds : List DeclTree) → is_reserved x ≡ false → What xs d →
    SpellsMany (SpellsDecl What) rest ds → (list : List DeclTree) × SpellsMany (SpellsDecl What) (word x ∷ sign k.Colon ∷ (xs ++ sign k.Semicolon ∷ rest)) list
sound_decl What x xs rest d ds n p more =
    let assoc = ap (λ z. word x ∷ sign k.Colon ∷ z) (append_assoc xs (sign k.Semicolon ∷ []) rest) in
    (_, subst (λ z. SpellsMany (SpellsDecl What) z (record { name = x; what = d } ∷ ds)) assoc (one_more (declares {x = x} {ts = xs} {t = d} n p) more))

sound_decls : (c : Mark) (t : Lexeme) (ts : List Lexeme) → Marked c t → Through (after s.decls c) ts → spelled s.decls (t ∷ ts)
unfolding Marked Leads That
sound_decls mark.Name t ts m h =
    let a = one the_colon (s.declared ∷ s.single the_semicolon ∷ s.decls ∷ []) ts h in
    let b = a.means in
    let c = one the_semicolon (s.decls ∷ []) b.1 b.4 in
    let d = last programs s.decls c.rest c.means in
    let e1 = m.1 in let e2 = a.whole in let e3 = a.that in let e4 = b.2 in let e5 = c.whole in let e6 = c.that in
    let whole : word m.0 ∷ sign k.Colon ∷ (b.0 ++ sign k.Semicolon ∷ c.rest) ≡ t ∷ ts = cc in
    subst (spelled s.decls) whole (sound_decl SpellsDeclared m.0 b.0 c.rest b.3.0 d.0 m.2 b.3.1 d.1)
sound_decls c t ts m h = absurd h

sound_type_decls : (c : Mark) (t : Lexeme) (ts : List Lexeme) → Marked c t → Through (after s.type_decls c) ts → spelled s.type_decls (t ∷ ts)
unfolding Marked Leads That
sound_type_decls mark.Name t ts m h =
    let a = one the_colon (s.type ∷ s.single the_semicolon ∷ s.type_decls ∷ []) ts h in
    let b = a.means in
    let c = one the_semicolon (s.type_decls ∷ []) b.1 b.4 in
    let d = last programs s.type_decls c.rest c.means in
    let e1 = m.1 in let e2 = a.whole in let e3 = a.that in let e4 = b.2 in let e5 = c.whole in let e6 = c.that in
    let whole : word m.0 ∷ sign k.Colon ∷ (b.0 ++ sign k.Semicolon ∷ c.rest) ≡ t ∷ ts = cc in
    subst (spelled s.type_decls) whole (sound_decl SpellsType m.0 b.0 c.rest b.3.0 d.0 m.2 b.3.1 d.1)
sound_type_decls c t ts m h = absurd h

sound_defines : (c : Mark) (t : Lexeme) (ts : List Lexeme) → Marked c t → Through (after s.defines c) ts → spelled s.defines (t ∷ ts)
unfolding Marked Leads That
sound_defines mark.Name t ts m h =
    let a = one the_becomes (expr ∷ s.single the_semicolon ∷ s.defines ∷ []) ts h in
    let b = a.means in
    let c = one the_semicolon (s.defines ∷ []) b.1 b.4 in
    let d = last programs s.defines c.rest c.means in
    let made = accepted_spelled b.0 b.3 in
    let e1 = m.1 in let e2 = a.whole in let e3 = a.that in let e4 = b.2 in let e5 = c.whole in let e6 = c.that in
    let assoc : (b.0 ++ sign k.Semicolon ∷ []) ++ c.rest ≡ b.0 ++ sign k.Semicolon ∷ c.rest = append_assoc b.0 (sign k.Semicolon ∷ []) c.rest in
    let whole : word m.0 ∷ sign k.Becomes ∷ ((b.0 ++ sign k.Semicolon ∷ []) ++ c.rest) ≡ t ∷ ts = cc in
    subst (spelled s.defines) whole (_, one_more (defines {x = m.0} {ts = b.0} m.2 made.1) d.1)
sound_defines c t ts m h = absurd h

abbrev pub to_assign : List Sym
to_assign = s.single the_becomes ∷ expr ∷ s.single the_semicolon ∷ s.assigns ∷ []

assign_end : (target : List Lexeme) (w : _) (d : Path) → SpellsTarget target w d → (r : List Lexeme) → Means_of to_assign r → spelled s.assigns (target ++ r)
unfolding That
assign_end target w d p r h =
    let a = one the_becomes (expr ∷ s.single the_semicolon ∷ s.assigns ∷ []) r h in
    let b = a.means in
    let c = one the_semicolon (s.assigns ∷ []) b.1 b.4 in
    let more = last programs s.assigns c.rest c.means in
    let made = accepted_spelled b.0 b.3 in
    let e2 = a.whole in let e3 = a.that in let e4 = b.2 in let e5 = c.whole in let e6 = c.that in
    let assoc : (target ++ sign k.Becomes ∷ (b.0 ++ sign k.Semicolon ∷ [])) ++ c.rest ≡ target ++ sign k.Becomes ∷ (b.0 ++ sign k.Semicolon ∷ c.rest) =
    append_assoc target (sign k.Becomes ∷ (b.0 ++ sign k.Semicolon ∷ [])) c.rest ∙ ap (λ z. target ++ sign k.Becomes ∷ z) (append_assoc b.0 (sign k.Semicolon ∷ []) c.rest) in
    let whole : (target ++ sign k.Becomes ∷ (b.0 ++ sign k.Semicolon ∷ [])) ++ c.rest ≡ target ++ r = cc in
    subst (spelled s.assigns) whole (_, one_more (assigns {xs = target} {ts = b.0} p made.1) more.1)

-- `init ( dotted )` and `next ( dotted )`
record Bracketed (ts : List Lexeme) : Type 0 where
  inside : List Lexeme
  rest : List Lexeme
  whole : ts ≡ sign k.Open ∷ (inside ++ sign k.Close ∷ rest)
  dotted : (p : Path) × SpellsDotted inside p
  means : Means_of to_assign rest

bracketed : (ts : List Lexeme) → Means_of (s.single the_open ∷ s.single the_name ∷ s.more_dots ∷ s.single the_close ∷ to_assign) ts → Bracketed ts
unfolding That
bracketed ts h =
    let a = one the_open (s.single the_name ∷ s.more_dots ∷ s.single the_close ∷ to_assign) ts h in
    let b = one the_name (s.more_dots ∷ s.single the_close ∷ to_assign) a.rest a.means in
    let c = b.means in
    let d = one the_close to_assign c.1 c.4 in
    let name = b.that in
    let e1 = a.whole in let e2 = a.that in let e3 = b.whole in let e4 = name.1 in let e5 = c.2 in let e6 = d.whole in let e7 = d.that in
    record {
      inside = word name.0 ∷ c.0;
      rest = d.rest;
      whole = (let whole : ts ≡ sign k.Open ∷ word name.0 ∷ (c.0 ++ sign k.Close ∷ d.rest) = cc in whole);
      dotted = dotted_sound name.0 c.0 name.2 c.3;
      means = d.means;
    }

sound_assigns : (c : Mark) (t : Lexeme) (ts : List Lexeme) → Marked c t → Through (after s.assigns c) ts → spelled s.assigns (t ∷ ts)
unfolding Marked Leads That
sound_assigns mark.Name t ts m h =
    let d = dotted_sound m.0 h.0 m.2 h.3 in
    let e1 = m.1 in let e2 = h.2 in
    let whole : word m.0 ∷ (h.0 ++ h.1) ≡ t ∷ ts = cc in
    subst (spelled s.assigns) whole (assign_end (word m.0 ∷ h.0) when.Always d.0 (always d.1) h.1 h.4)
sound_assigns mark.First t ts m h =
    let b = bracketed ts h in
    let e = b.whole in
    let assoc : (b.inside ++ sign k.Close ∷ []) ++ b.rest ≡ b.inside ++ sign k.Close ∷ b.rest = append_assoc b.inside (sign k.Close ∷ []) b.rest in
    let whole : word (codes "init") ∷ sign k.Open ∷ ((b.inside ++ sign k.Close ∷ []) ++ b.rest) ≡ t ∷ ts = cc in
    subst (spelled s.assigns) whole (assign_end (word (codes "init") ∷ sign k.Open ∷ (b.inside ++ sign k.Close ∷ [])) when.First b.dotted.0 (first b.dotted.1) b.rest b.means)
sound_assigns mark.After t ts m h =
    let b = bracketed ts h in
    let e = b.whole in
    let assoc : (b.inside ++ sign k.Close ∷ []) ++ b.rest ≡ b.inside ++ sign k.Close ∷ b.rest = append_assoc b.inside (sign k.Close ∷ []) b.rest in
    let whole : word (codes "next") ∷ sign k.Open ∷ ((b.inside ++ sign k.Close ∷ []) ++ b.rest) ≡ t ∷ ts = cc in
    subst (spelled s.assigns) whole (assign_end (word (codes "next") ∷ sign k.Open ∷ (b.inside ++ sign k.Close ∷ [])) when.After b.dotted.0 (g.after b.dotted.1) b.rest b.means)
sound_assigns c t ts m h = absurd h

-- an expression and its last programs semicolon
formula_sound : (xs ys : List Lexeme) → is_whole (machine.run start xs) ≡ true → spelled s.last_semicolon ys → (e : Formula) × SpellsFormula (xs ++ ys) e
formula_sound xs ys w (inl e) = let made = accepted_spelled xs w in (made.0, subst (λ z. SpellsFormula z made.0) (sym (ap (λ z. xs ++ z) e ∙ append-nil xs)) (open_ended made.1))
formula_sound xs ys w (inr e) = let made = accepted_spelled xs w in (made.0, subst (λ z. SpellsFormula (xs ++ z) made.0) (sym e) (ended made.1))

-- the sections after one
sections_after : (x : Sym) (w : Lexeme) (t : Lexeme) (ts : List Lexeme) → t ≡ w → Means_of (x ∷ s.sections ∷ []) ts →
    ((xs : List Lexeme) → spelled x xs → (one : SectionTree) × SpellsSection (w ∷ xs) one) → spelled s.sections (t ∷ ts)
sections_after x w t ts m h make =
    let item = make h.0 h.3 in
    let more = last programs s.sections h.1 h.4 in
    let e = h.2 in
    let whole : w ∷ (h.0 ++ h.1) ≡ t ∷ ts = cc in
    subst (spelled s.sections) whole (_, a_section item.1 more.1)

formula_after : (w : Lexeme) (t : Lexeme) (ts : List Lexeme) → t ≡ w → Means_of (expr ∷ s.last_semicolon ∷ s.sections ∷ []) ts →
    ((xs : List Lexeme) (e : Formula) → SpellsFormula xs e → (one : SectionTree) × SpellsSection (w ∷ xs) one) → spelled s.sections (t ∷ ts)
formula_after w t ts m h make =
    let b = h.4 in
    let f = formula_sound h.0 b.0 h.3 b.3 in
    let item = make (h.0 ++ b.0) f.0 f.1 in
    let more = last programs s.sections b.1 b.4 in
    let e1 = h.2 in let e2 = b.2 in
    let assoc : (h.0 ++ b.0) ++ b.1 ≡ h.0 ++ (b.0 ++ b.1) = append_assoc h.0 b.0 b.1 in
    let whole : w ∷ ((h.0 ++ b.0) ++ b.1) ≡ t ∷ ts = cc in
    subst (spelled s.sections) whole (_, a_section item.1 more.1)

sound_sections : (c : Mark) (t : Lexeme) (ts : List Lexeme) → Marked c t → Through (after_section c) ts → spelled s.sections (t ∷ ts)
unfolding Marked Leads That
sound_sections mark.Var t ts m h = sections_after s.decls (word (codes "VAR")) t ts m h (λ xs d. (_, a_var d.1))
sound_sections mark.Ivar t ts m h = sections_after s.type_decls (word (codes "IVAR")) t ts m h (λ xs d. (_, an_ivar d.1))
sound_sections mark.Frozen t ts m h = sections_after s.type_decls (word (codes "FROZENVAR")) t ts m h (λ xs d. (_, a_frozen d.1))
sound_sections mark.Define t ts m h = sections_after s.defines (word (codes "DEFINE")) t ts m h (λ xs d. (_, a_define d.1))
sound_sections mark.Assign t ts m h = sections_after s.assigns (word (codes "ASSIGN")) t ts m h (λ xs d. (_, an_assign d.1))
sound_sections mark.Init t ts m h = formula_after (word (codes "INIT")) t ts m h (λ xs e p. (init e, an_init p))
sound_sections mark.Invar t ts m h = formula_after (word (codes "INVAR")) t ts m h (λ xs e p. (invar e, an_invar p))
sound_sections mark.Trans t ts m h = formula_after (word (codes "TRANS")) t ts m h (λ xs e p. (trans e, a_trans p))
sound_sections mark.Constants t ts m h =
    let a = one the_name (s.more_constants ∷ s.sections ∷ []) ts h in
    let b = a.means in
    let more = last programs s.sections b.1 b.4 in
    let name = a.that in
    let list = tail_commas SpellsName (word name.0 ∷ []) name.0 (g.a_name name.2) b.3 in
    let e1 = a.whole in let e2 = name.1 in let e3 = b.2 in
    let e4 : word name.0 ∷ b.0 ≡ list.0 ++ sign k.Semicolon ∷ [] = list.1 in
    let whole : word (codes "CONSTANTS") ∷ ((list.0 ++ sign k.Semicolon ∷ []) ++ b.1) ≡ t ∷ ts =
    ap (λ z. word (codes "CONSTANTS") ∷ (z ++ b.1)) (sym e4) ∙ (let flat : word (codes "CONSTANTS") ∷ word name.0 ∷ (b.0 ++ b.1) ≡ t ∷ ts = cc in flat) in
    subst (spelled s.sections) whole (_, a_section (some_constants list.3) more.1)
sound_sections mark.Skipped t ts m h =
    let more = last programs s.sections h.1 h.4 in
    let e1 = m.1 in let e2 = h.2 in
    let whole : word m.0 ∷ (h.0 ++ h.1) ≡ t ∷ ts = cc in
    subst (spelled s.sections) whole (_, skipped m.0 h.0 m.2 h.3 more.1)
sound_sections c t ts m h = absurd h

live_sound : (st : State) (rest : List Sym) (ts : List Lexeme) → Through (live st rest) ts →
    (xs : List Lexeme) × (ys : List Lexeme) × (ts ≡ xs ++ ys) × (is_whole (machine.run st xs) ≡ true) × Means_of rest ys
unfolding Leads
live_sound stuck rest ts h = absurd h
live_sound st rest ts h = h

pub live_complete : (st : State) (rest : List Sym) (xs ys : List Lexeme) → is_whole (machine.run st xs) ≡ true → Means_of rest ys → Through (live st rest) (xs ++ ys)
unfolding Leads
live_complete stuck rest xs ys e m = let clash : false ≡ true = ap is_whole (sym (run_stuck xs)) ∙ e in cc
live_complete st rest xs ys e m = (xs, ys, refl, e, m)

actuals_of : (t : Lexeme) (ts : List Lexeme) → Through (live (machine.step start (role_of t)) (s.more_actuals ∷ [])) ts → IsActuals (sign k.Open ∷ t ∷ ts)
actuals_of t ts h =
    let parts = live_sound (machine.step start (role_of t)) (s.more_actuals ∷ []) ts h in
    let made = accepted_spelled (t ∷ parts.0) parts.3 in
    let list = tail_commas SpellsExpr (t ∷ parts.0) made.0 made.1 (last programs s.more_actuals parts.1 parts.4) in
    let e1 = parts.2 in let e2 : t ∷ (parts.0 ++ parts.1) ≡ list.0 ++ sign k.Close ∷ [] = list.1 in
    let whole : sign k.Open ∷ (list.0 ++ sign k.Close ∷ []) ≡ sign k.Open ∷ t ∷ ts = cc in
    inr (list.2, subst (λ z. SpellsBracketed SpellsExpr z list.2) whole (brackets list.3))

sound_first_actual : (c : Mark) (t : Lexeme) (ts : List Lexeme) → Marked c t → Through (after_actual c t) ts → IsActuals (sign k.Open ∷ t ∷ ts)
unfolding Marked Leads
sound_first_actual mark.Close t ts m h = inl (let whole : sign k.Open ∷ t ∷ ts ≡ sign k.Open ∷ sign k.Close ∷ [] = cc in whole)
sound_first_actual c t ts m h = actuals_of t ts h

sound_actuals : (c : Mark) (t : Lexeme) (ts : List Lexeme) → Marked c t → Through (after s.actuals c) ts → IsActuals (t ∷ ts)
unfolding Marked Leads
sound_actuals mark.Open t ts m h = subst (λ z. IsActuals (z ∷ ts)) (sym m) (last programs s.first_actual ts h)
sound_actuals c t ts m h = absurd h

sound_more_actuals : (c : Mark) (t : Lexeme) (ts : List Lexeme) → Marked c t → Through (after s.more_actuals c) ts → Tail IsExpression (sign k.Close) (t ∷ ts)
unfolding Marked Leads
sound_more_actuals mark.Close t ts m h = let whole : sign k.Close ∷ [] ≡ t ∷ ts = cc in subst (Tail IsExpression (sign k.Close)) whole tail_end
sound_more_actuals mark.Comma t ts m h =
    let e = h.2 in
    let whole : sign k.Comma ∷ (h.0 ++ h.1) ≡ t ∷ ts = cc in
    subst (Tail IsExpression (sign k.Close)) whole (tail_more (accepted_spelled h.0 h.3) (last programs s.more_actuals h.1 h.4))
sound_more_actuals c t ts m h = absurd h

sound_more_dots : (c : Mark) (t : Lexeme) (ts : List Lexeme) → Marked c t → Through (after s.more_dots c) ts → spelled s.more_dots (t ∷ ts)
unfolding Marked Leads That
sound_more_dots mark.Dot t ts m h =
    let a = one the_name (s.more_dots ∷ []) ts h in
    let name = a.that in
    let d = dotted_sound name.0 a.rest name.2 (last programs s.more_dots a.rest a.means) in
    let e1 = a.whole in let e2 = name.1 in
    let whole : word name.0 ∷ a.rest ≡ ts = cc in
    inr (ts, ap (λ z. z ∷ ts) m, (d.0, subst (λ z. SpellsDotted z d.0) whole d.1))
sound_more_dots c t ts m h = absurd h

sound_last_semicolon : (c : Mark) (t : Lexeme) (ts : List Lexeme) → Marked c t → Through (after s.last_semicolon c) ts → spelled s.last_semicolon (t ∷ ts)
unfolding Marked Leads
sound_last_semicolon mark.Semicolon t ts m h = inr (let whole : t ∷ ts ≡ sign k.Semicolon ∷ [] = cc in whole)
sound_last_semicolon c t ts m h = absurd h

sound_skip : (t : Lexeme) (ts : List Lexeme) → Through (passing (is_section t)) ts → HasNoSection (t ∷ ts)
unfolding Leads
sound_skip (word x) ts h = go (is_among section_words x) refl h
  where
    go : (b : Bool) → is_among section_words x ≡ b → Through (passing b) ts → HasNoSection (word x ∷ ts)
    go false e h = (e, last programs s.skip ts h)
    go true e h = absurd h
sound_skip (num n d) ts h = last programs s.skip ts h
sound_skip (sign q) ts h = last programs s.skip ts h

sound_single : (w : Single) (t : Lexeme) (ts : List Lexeme) → Through (alone (is_single w (mark_of t))) ts → spelled (s.single w) (t ∷ ts)
unfolding Leads
sound_single w t ts h = go (is_single w (mark_of t)) refl h
  where
    go : (b : Bool) → is_single w (mark_of t) ≡ b → Through (alone b) ts → spelled (s.single w) (t ∷ ts)
    go true e h = (t, ap (λ z. t ∷ z) h, e)
    go false e h = absurd h

pub sounds : (x : Sym) (t : Lexeme) (ts : List Lexeme) → Through (next x t) ts → spelled x (t ∷ ts)
sounds (s.single w) t ts h = sound_single w t ts h
sounds (s.formula st q) t ts h =
    let parts = live_sound (machine.step st (role_of t)) [] ts h in
    subst (λ z. is_whole (machine.run (machine.step st (role_of t)) z) ≡ true) (sym (parts.2 ∙ ap (λ z. parts.0 ++ z) parts.4 ∙ append-nil parts.0)) parts.3
sounds s.modules t ts h = sound_modules (mark_of t) t ts (marked t) h
sounds s.formals t ts h = sound_formals (mark_of t) t ts (marked t) h
sounds s.first_formal t ts h = sound_first_formal (mark_of t) t ts (marked t) h
sounds s.more_formals t ts h = sound_more_formals (mark_of t) t ts (marked t) h
sounds s.sections t ts h = sound_sections (mark_of t) t ts (marked t) h
sounds s.decls t ts h = sound_decls (mark_of t) t ts (marked t) h
sounds s.type_decls t ts h = sound_type_decls (mark_of t) t ts (marked t) h
sounds s.declared t ts h = sound_declared (mark_of t) t ts (marked t) h
sounds s.type t ts h = sound_type (mark_of t) t ts (marked t) h
sounds s.actuals t ts h = sound_actuals (mark_of t) t ts (marked t) h
sounds s.first_actual t ts h = sound_first_actual (mark_of t) t ts (marked t) h
sounds s.more_actuals t ts h = sound_more_actuals (mark_of t) t ts (marked t) h
sounds s.int t ts h = sound_int (mark_of t) t ts (marked t) h
sounds s.member t ts h = sound_member (mark_of t) t ts (marked t) h
sounds s.more_members t ts h = sound_more_members (mark_of t) t ts (marked t) h
sounds s.defines t ts h = sound_defines (mark_of t) t ts (marked t) h
sounds s.more_constants t ts h = sound_more_constants (mark_of t) t ts (marked t) h
sounds s.assigns t ts h = sound_assigns (mark_of t) t ts (marked t) h
sounds s.more_dots t ts h = sound_more_dots (mark_of t) t ts (marked t) h
sounds s.skip t ts h = sound_skip t ts h
sounds s.last_semicolon t ts h = sound_last_semicolon (mark_of t) t ts (marked t) h
