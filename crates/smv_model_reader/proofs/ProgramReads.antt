-- The laws of the grammar of programs: what may follow each symbol, and that one lexeme decides.
use Rattle.std.proofs.Common.{◌≡◌, ℕ, Bool, true, false, List, [], ◌∷◌, Option, None, refl, sym, ◌∙◌, ap}
use Rattle.std.specs.Prelude.{◌&&◌, ◌||◌}
use Rattle.smv_language.specs.Language.{Lexeme, word, num, sign, is_reserved, section_words, is_among}
use Rattle.smv_expression_reader.specs.Recogniser.{role_of, State, stuck, start}
use Rattle.smv_expression_reader.specs.Recogniser as machine
use Rattle.smv_expression_reader.specs.PredictiveReader.{Fits, IsPredictable, can_start, all_empty, is_some}
use Rattle.smv_expression_reader.specs.Marks.{mark_of, is_section}
use Rattle.smv_model_reader.specs.ProgramGrammar.{the_becomes, the_semicolon, the_close, Sym, is_single, empty, live, alone, passing, after_type, after_declared, after_section, after, after_actual, next, ends_formula, ends_dots, is_word_module, is_word_semicolon, follow, programs}
use Rattle.smv_model_reader.specs.ProgramGrammar as s
use Rattle.smv_expression_reader.proofs.Exact.{completes}
use Rattle.smv_expression_reader.proofs.Marks.{Marked, marked, section_no_role, begins_section, section_mark}
use Rattle.smv_expression_reader.proofs.ReadLaws.{ends_role, whole_stops}
use Rattle.smv_model_reader.proofs.ProgramSound.{sounds}
use Rattle.smv_model_reader.proofs.ProgramComplete.{completed, empties, emptied, completing}
use Rattle.smv_expression_reader.proofs.Meanings.{leads_some, some_leads, FitsAll, some_fits}
use Rattle.smv_expression_reader.specs.declared.mark.Mark.{Mark}
use Rattle.smv_expression_reader.specs.declared.mark.Mark.TheVariants as mark

-- what may follow
pub section_ends : (t : Lexeme) → is_section t ≡ true → ends_role (role_of t) ≡ true
section_ends (word x) h = ap ends_role (section_no_role x h)
section_ends (num n d) h = cc
section_ends (sign q) h = cc

role_ends : (c : Mark) (t : Lexeme) → Marked c t → (ends_formula c || is_section t) ≡ true → ends_role (role_of t) ≡ true
unfolding Marked
role_ends mark.Semicolon t m h = ap (λ z. ends_role (role_of z)) m
role_ends mark.Comma t m h = ap (λ z. ends_role (role_of z)) m
role_ends mark.Close t m h = ap (λ z. ends_role (role_of z)) m
role_ends c t m h = section_ends t h

abbrev pub is_sectional : Mark → Bool
is_sectional mark.Nothing = true
is_sectional c = begins_section c

reserved_section : (x : List ℕ) → is_among section_words x ≡ true → is_reserved x ≡ true
reserved_section x h = rw h refl

pub section_marks : (c : Mark) (t : Lexeme) → Marked c t → is_section t ≡ true → is_sectional c ≡ true
unfolding Marked
section_marks mark.Name t m h =
    let among : is_among section_words m.0 ≡ true = sym (ap is_section m.1) ∙ h in
    let clash : true ≡ false = sym (reserved_section m.0 among) ∙ m.2 in cc
section_marks mark.Number t m h = let clash : false ≡ true = sym (ap is_section m.2) ∙ h in cc
section_marks mark.Boolean t m h = let clash : false ≡ true = sym (ap is_section m) ∙ h in cc
section_marks mark.First t m h = let clash : false ≡ true = sym (ap is_section m) ∙ h in cc
section_marks mark.After t m h = let clash : false ≡ true = sym (ap is_section m) ∙ h in cc
section_marks mark.Becomes t m h = let clash : false ≡ true = sym (ap is_section m) ∙ h in cc
section_marks mark.Dots t m h = let clash : false ≡ true = sym (ap is_section m) ∙ h in cc
section_marks mark.Open t m h = let clash : false ≡ true = sym (ap is_section m) ∙ h in cc
section_marks mark.Close t m h = let clash : false ≡ true = sym (ap is_section m) ∙ h in cc
section_marks mark.OpenBrace t m h = let clash : false ≡ true = sym (ap is_section m) ∙ h in cc
section_marks mark.CloseBrace t m h = let clash : false ≡ true = sym (ap is_section m) ∙ h in cc
section_marks mark.Comma t m h = let clash : false ≡ true = sym (ap is_section m) ∙ h in cc
section_marks mark.Semicolon t m h = let clash : false ≡ true = sym (ap is_section m) ∙ h in cc
section_marks mark.Colon t m h = let clash : false ≡ true = sym (ap is_section m) ∙ h in cc
section_marks mark.Dot t m h = let clash : false ≡ true = sym (ap is_section m) ∙ h in cc
section_marks mark.Minus t m h = let clash : false ≡ true = sym (ap is_section m) ∙ h in cc
section_marks c t m h = refl

none_formals : (c : Mark) → is_sectional c ≡ true → after s.formals c ≡ None
none_formals mark.Open h = cc
none_formals c h = refl

none_decls : (c : Mark) → is_sectional c ≡ true → after s.decls c ≡ None
none_decls mark.Name h = cc
none_decls c h = refl

none_type_decls : (c : Mark) → is_sectional c ≡ true → after s.type_decls c ≡ None
none_type_decls mark.Name h = cc
none_type_decls c h = refl

none_defines : (c : Mark) → is_sectional c ≡ true → after s.defines c ≡ None
none_defines mark.Name h = cc
none_defines c h = refl

none_assigns : (c : Mark) → is_sectional c ≡ true → after s.assigns c ≡ None
none_assigns mark.Name h = cc
none_assigns mark.First h = cc
none_assigns mark.After h = cc
none_assigns c h = refl

none_last : (c : Mark) → is_sectional c ≡ true → after s.last_semicolon c ≡ None
none_last mark.Semicolon h = cc
none_last c h = refl

none_sections : (c : Mark) → is_word_module c ≡ true → after_section c ≡ None
none_sections mark.Module h = refl
none_sections c h = cc

none_actuals : (c : Mark) → is_word_semicolon c ≡ true → after s.actuals c ≡ None
none_actuals mark.Semicolon h = refl
none_actuals c h = cc

none_dots : (c : Mark) → ends_dots c ≡ true → after s.more_dots c ≡ None
none_dots mark.Becomes h = refl
none_dots mark.Close h = refl
none_dots c h = cc

parted : (x : Sym) (t : Lexeme) → empty x ≡ true → follow x t ≡ true → next x t ≡ None
parted (s.formula st q) t e f = ap (λ z. live z []) (whole_stops st (role_of t) e (role_ends (mark_of t) t (marked t) f))
parted s.modules t e f = cc
parted s.formals t e f = none_formals (mark_of t) (section_marks (mark_of t) t (marked t) f)
parted s.sections t e f = none_sections (mark_of t) f
parted s.decls t e f = none_decls (mark_of t) (section_marks (mark_of t) t (marked t) f)
parted s.type_decls t e f = none_type_decls (mark_of t) (section_marks (mark_of t) t (marked t) f)
parted s.actuals t e f = none_actuals (mark_of t) f
parted s.defines t e f = none_defines (mark_of t) (section_marks (mark_of t) t (marked t) f)
parted s.assigns t e f = none_assigns (mark_of t) (section_marks (mark_of t) t (marked t) f)
parted s.more_dots t e f = none_dots (mark_of t) f
parted s.skip t e f = ap passing f
parted s.last_semicolon t e f = none_last (mark_of t) (section_marks (mark_of t) t (marked t) f)
parted x t e f = cc

-- what follows each symbol of a choice
abbrev FitsOf : Option (List Sym) → (Lexeme → Bool) → Type 0
FitsOf = FitsAll programs

sectional : (c : Mark) → ((is_some Sym programs (after_section c) || false) || is_word_module c) ≡ true → begins_section c ≡ true
sectional mark.Module h = refl
sectional c h = go c h
  where
    go : (c : Mark) → ((is_some Sym programs (after_section c) || false) || is_word_module c) ≡ true → begins_section c ≡ true
    go mark.Var h = refl
    go mark.Ivar h = refl
    go mark.Frozen h = refl
    go mark.Define h = refl
    go mark.Constants h = refl
    go mark.Assign h = refl
    go mark.Init h = refl
    go mark.Invar h = refl
    go mark.Trans h = refl
    go mark.Skipped h = refl
    go mark.Module h = refl
    go c h = cc

sectional_modules : (c : Mark) → ((is_some Sym programs (after_section c) || (is_some Sym programs (after s.modules c) || false)) || false) ≡ true → begins_section c ≡ true
sectional_modules mark.Var h = refl
sectional_modules mark.Ivar h = refl
sectional_modules mark.Frozen h = refl
sectional_modules mark.Define h = refl
sectional_modules mark.Constants h = refl
sectional_modules mark.Assign h = refl
sectional_modules mark.Init h = refl
sectional_modules mark.Invar h = refl
sectional_modules mark.Trans h = refl
sectional_modules mark.Skipped h = refl
sectional_modules mark.Module h = refl
sectional_modules c h = cc

only_module : (c : Mark) → ((is_some Sym programs (after s.modules c) || false) || false) ≡ true → is_word_module c ≡ true
only_module mark.Module h = refl
only_module c h = cc

only_semicolon : (c : Mark) → ((is_some Sym programs (alone (is_single the_semicolon c)) || false) || false) ≡ true → is_word_semicolon c ≡ true
only_semicolon mark.Semicolon h = refl
only_semicolon c h = cc

semicolon_formula : (c : Mark) (b : Bool) → ((is_some Sym programs (alone (is_single the_semicolon c)) || false) || false) ≡ true → (ends_formula c || b) ≡ true
semicolon_formula mark.Semicolon b h = refl
semicolon_formula c b h = cc

actual_formula : (c : Mark) (b : Bool) → ((is_some Sym programs (after s.more_actuals c) || false) || false) ≡ true → (ends_formula c || b) ≡ true
actual_formula mark.Close b h = refl
actual_formula mark.Comma b h = refl
actual_formula c b h = cc

last_formula : (c : Mark) (t : Lexeme) → Marked c t →
    ((is_some Sym programs (after s.last_semicolon c) || (is_some Sym programs (after_section c) || false)) || is_word_module c) ≡ true → (ends_formula c || is_section t) ≡ true
last_formula mark.Semicolon t m h = refl
last_formula mark.Module t m h = section_mark mark.Module t m refl
last_formula mark.Var t m h = section_mark mark.Var t m refl
last_formula mark.Ivar t m h = section_mark mark.Ivar t m refl
last_formula mark.Frozen t m h = section_mark mark.Frozen t m refl
last_formula mark.Define t m h = section_mark mark.Define t m refl
last_formula mark.Constants t m h = section_mark mark.Constants t m refl
last_formula mark.Assign t m h = section_mark mark.Assign t m refl
last_formula mark.Init t m h = section_mark mark.Init t m refl
last_formula mark.Invar t m h = section_mark mark.Invar t m refl
last_formula mark.Trans t m h = section_mark mark.Trans t m refl
last_formula mark.Skipped t m h = section_mark mark.Skipped t m refl
last_formula c t m h = cc

becomes_dots : (c : Mark) → ((is_some Sym programs (alone (is_single the_becomes c)) || false) || false) ≡ true → ends_dots c ≡ true
becomes_dots mark.Becomes h = refl
becomes_dots c h = cc

close_dots : (c : Mark) → ((is_some Sym programs (alone (is_single the_close c)) || false) || false) ≡ true → ends_dots c ≡ true
close_dots mark.Close h = refl
close_dots c h = cc

-- each choice fits
is_in_section : (u : Lexeme) → ((is_some Sym programs (after_section (mark_of u)) || false) || is_word_module (mark_of u)) ≡ true → is_section u ≡ true
is_in_section u h = section_mark (mark_of u) u (marked u) (sectional (mark_of u) h)

fits_section : (c : Mark) → FitsOf (after_section c) (follow s.sections)
unfolding FitsAll
fits_section mark.Var = (is_in_section, (λ u h. h, tt))
fits_section mark.Ivar = (is_in_section, (λ u h. h, tt))
fits_section mark.Frozen = (is_in_section, (λ u h. h, tt))
fits_section mark.Define = (is_in_section, (λ u h. h, tt))
fits_section mark.Constants = (λ u h. refl, (λ u h. refl, (λ u h. h, tt)))
fits_section mark.Assign = (is_in_section, (λ u h. h, tt))
fits_section mark.Init = (λ u h. last_formula (mark_of u) u (marked u) h, (is_in_section, (λ u h. h, tt)))
fits_section mark.Invar = (λ u h. last_formula (mark_of u) u (marked u) h, (is_in_section, (λ u h. h, tt)))
fits_section mark.Trans = (λ u h. last_formula (mark_of u) u (marked u) h, (is_in_section, (λ u h. h, tt)))
fits_section mark.Skipped = (is_in_section, (λ u h. h, tt))
fits_section c = tt

fits_type : (c : Mark) (f : Lexeme → Bool) → FitsOf (after_type c) f
unfolding FitsAll
fits_type mark.Boolean f = tt
fits_type mark.Number f = (λ u h. refl, (λ u h. refl, tt))
fits_type mark.Minus f = (λ u h. refl, (λ u h. refl, (λ u h. refl, tt)))
fits_type mark.OpenBrace f = (λ u h. refl, (λ u h. refl, tt))
fits_type c f = tt

fits_declared : (c : Mark) → FitsOf (after_declared c) (follow s.declared)
unfolding FitsAll
fits_declared mark.Name = (λ u h. h, tt)
fits_declared c = fits_type c (follow s.declared)

fits_live : (st : State) (rest : List Sym) (f : Lexeme → Bool) →
    ((u : Lexeme) → (can_start Sym programs rest u || (all_empty Sym programs rest && f u)) ≡ true → (ends_formula (mark_of u) || is_section u) ≡ true) →
    Fits Sym programs rest f → FitsOf (live st rest) f
unfolding FitsAll
fits_live stuck rest f h m = tt
fits_live st rest f h m = (h, m)

fits_actual : (c : Mark) (t : Lexeme) → FitsOf (after_actual c t) (follow s.first_actual)
unfolding FitsAll
fits_actual mark.Close t = tt
fits_actual c t = fits_live (machine.step start (role_of t)) (s.more_actuals ∷ []) (follow s.first_actual) (λ u h. actual_formula (mark_of u) (is_section u) h) (λ u h. refl, tt)

fits_assigns : (c : Mark) → FitsOf (after s.assigns c) (follow s.assigns)
unfolding FitsAll
fits_assigns mark.Name =
    (λ u h. becomes_dots (mark_of u) h, (λ u h. refl, (λ u h. semicolon_formula (mark_of u) (is_section u) h, (λ u h. refl, (λ u h. h, tt)))))
fits_assigns mark.First =
    (λ u h. refl, (λ u h. refl, (λ u h. close_dots (mark_of u) h, (λ u h. refl, (λ u h. refl, (λ u h. semicolon_formula (mark_of u) (is_section u) h, (λ u h. refl, (λ u h. h, tt))))))))
fits_assigns mark.After =
    (λ u h. refl, (λ u h. refl, (λ u h. close_dots (mark_of u) h, (λ u h. refl, (λ u h. refl, (λ u h. semicolon_formula (mark_of u) (is_section u) h, (λ u h. refl, (λ u h. h, tt))))))))
fits_assigns c = tt

-- the symbols whose choice hangs on the mark alone
fits_after : (x : Sym) (c : Mark) → FitsOf (after x c) (follow x)
unfolding FitsAll
fits_after s.modules mark.Module =
    (λ u h. refl, (λ u h. section_mark (mark_of u) u (marked u) (sectional_modules (mark_of u) h), (λ u h. only_module (mark_of u) h, (λ u h. h, tt))))
fits_after s.formals mark.Open = (λ u h. h, tt)
fits_after s.first_formal mark.Close = tt
fits_after s.first_formal mark.Name = (λ u h. h, tt)
fits_after s.more_formals mark.Close = tt
fits_after s.more_formals mark.Comma = (λ u h. refl, (λ u h. h, tt))
fits_after s.sections c = fits_section c
fits_after s.decls mark.Name = (λ u h. refl, (λ u h. only_semicolon (mark_of u) h, (λ u h. refl, (λ u h. h, tt))))
fits_after s.type_decls mark.Name = (λ u h. refl, (λ u h. refl, (λ u h. refl, (λ u h. h, tt))))
fits_after s.declared c = fits_declared c
fits_after s.type c = fits_type c (follow s.type)
fits_after s.actuals mark.Open = (λ u h. h, tt)
fits_after s.more_actuals mark.Close = tt
fits_after s.more_actuals mark.Comma = (λ u h. actual_formula (mark_of u) (is_section u) h, (λ u h. refl, tt))
fits_after s.int mark.Minus = (λ u h. refl, tt)
fits_after s.member mark.Minus = (λ u h. refl, tt)
fits_after s.more_members mark.Comma = (λ u h. refl, (λ u h. refl, tt))
fits_after s.defines mark.Name = (λ u h. refl, (λ u h. semicolon_formula (mark_of u) (is_section u) h, (λ u h. refl, (λ u h. h, tt))))
fits_after s.more_constants mark.Comma = (λ u h. refl, (λ u h. refl, tt))
fits_after s.assigns c = fits_assigns c
fits_after s.more_dots mark.Dot = (λ u h. refl, (λ u h. h, tt))
fits_after s.last_semicolon mark.Semicolon = tt
fits_after x c = tt

fits_alone : (b : Bool) (f : Lexeme → Bool) → FitsOf (alone b) f
unfolding FitsAll
fits_alone true f = tt
fits_alone false f = tt

fits_skip : (b : Bool) → FitsOf (passing b) (follow s.skip)
unfolding FitsAll
fits_skip true = tt
fits_skip false = (λ u h. h, tt)

fits : (x : Sym) (t : Lexeme) → FitsOf (next x t) (follow x)
fits (s.single w) t = fits_alone (is_single w (mark_of t)) (follow (s.single w))
fits (s.formula st q) t = fits_live (machine.step st (role_of t)) [] (follow (s.formula st q)) (λ u h. h) tt
fits s.first_actual t = fits_actual (mark_of t) t
fits s.skip t = fits_skip (is_section t)
fits x t = fits_after x (mark_of t)

pub programs_predictable : IsPredictable Sym programs
programs_predictable = record {
  empty_spelled = empties;
  spelled_empty = emptied;
  sound = λ x t syms e ts m. sounds x t ts (some_leads programs (next x t) syms ts e m);
  complete = λ x t ts d. leads_some programs (next x t) ts (completed x t ts d);
  apart = parted;
  inner = λ x t syms e. some_fits programs (next x t) syms (follow x) e (fits x t);
  completes = completing;
}
