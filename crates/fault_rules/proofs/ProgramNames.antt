-- A name that is none of the program's means nothing in its modules.
use Rattle.std.proofs.Common.{◌≡◌, inl, inr, Bool, true, false, List, [], ◌∷◌, refl, ◌∙◌, subst}
use Rattle.std.specs.Prelude.{◌||◌}
use Rattle.std.specs.List.{list_any}
use Rattle.smv_language.specs.Language.{Text, DeclTree, DefineTree, SectionTree, var, ivar, frozen as frozen_section, define, constants, assign, init, invar, trans, ModuleTree, ProgramTree, same_text, is_among, Role, state, input, frozen_role, Kind, undeclared, kind_in, kind_in_decls, kind_in_defines, kind_in_sections, is_symbol, is_symbol_of_sections, is_symbol_of_decls, is_symbol_of_type}
use Rattle.smv_language.proofs.ValueLaws.{same_text_refl}
use Rattle.fault_instructions.specs.Weavable.{Among}
use Rattle.fault_rules.specs.Rules.{is_name_of_decls, is_name_of_defines, is_name_of_section, is_name_of_module, is_program_name}
use Rattle.std.proofs.lemmas.Bool.{or_parts as or_false}
use Rattle.smv_language.proofs.ProgramLaws.{no_formal}

pub any_false : {A : Type 0} (test : A → Bool) (xs : List A) (x : A) → list_any test xs ≡ false → Among xs x → test x ≡ false
any_false test [] x h a = absurd a
any_false test (y ∷ ys) x h (inl e) = subst (λ z. test z ≡ false) e (or_false (test y) (list_any test ys) h).0
any_false test (y ∷ ys) x h (inr a) = any_false test ys x (or_false (test y) (list_any test ys) h).1 a

not_same : (x : Text) → same_text x x ≡ false → ⊥
not_same x h = let t : same_text x x ≡ true = same_text_refl x in cc

pub among_not : (xs : List Text) (x : Text) → is_among xs x ≡ false → Among xs x → ⊥
among_not [] x h a = a
among_not (y ∷ ys) x h (inl e) = not_same x (subst (λ z. same_text z x ≡ false) e (or_false (same_text y x) (is_among ys x) h).0)
among_not (y ∷ ys) x h (inr a) = among_not ys x (or_false (same_text y x) (is_among ys x) h).1 a

decls_undeclared : (role : Role) (ds : List DeclTree) (x : Text) (otherwise : Kind) → is_name_of_decls ds x ≡ false → kind_in_decls role ds x otherwise ≡ otherwise
decls_undeclared role [] x otherwise h = refl
decls_undeclared role (d ∷ ds) x otherwise h =
    let parts : ((same_text d.name x || is_symbol_of_type d.what x) ≡ false) × (is_name_of_decls ds x ≡ false) = or_false (same_text d.name x || is_symbol_of_type d.what x) (is_name_of_decls ds x) h in
    rw ((or_false (same_text d.name x) (is_symbol_of_type d.what x) parts.0).0) (decls_undeclared role ds x otherwise parts.1)

decls_no_symbol : (ds : List DeclTree) (x : Text) → is_name_of_decls ds x ≡ false → is_symbol_of_decls ds x ≡ false
decls_no_symbol [] x h = refl
decls_no_symbol (d ∷ ds) x h =
    let parts : ((same_text d.name x || is_symbol_of_type d.what x) ≡ false) × (is_name_of_decls ds x ≡ false) = or_false (same_text d.name x || is_symbol_of_type d.what x) (is_name_of_decls ds x) h in
    rw ((or_false (same_text d.name x) (is_symbol_of_type d.what x) parts.0).1) (decls_no_symbol ds x parts.1)

defines_undeclared : (ds : List DefineTree) (x : Text) (otherwise : Kind) → is_name_of_defines ds x ≡ false → kind_in_defines ds x otherwise ≡ otherwise
defines_undeclared [] x otherwise h = refl
defines_undeclared (d ∷ ds) x otherwise h =
    rw ((or_false (same_text d.name x) (is_name_of_defines ds x) h).0) (defines_undeclared ds x otherwise (or_false (same_text d.name x) (is_name_of_defines ds x) h).1)

module _ (x : Text) where
  section_parts : (s : SectionTree) (ss : List SectionTree) → list_any (is_name_of_section x) (s ∷ ss) ≡ false → (is_name_of_section x s ≡ false) × (list_any (is_name_of_section x) ss ≡ false)
  section_parts s ss h = or_false (is_name_of_section x s) (list_any (is_name_of_section x) ss) h

  sections_undeclared : (ss : List SectionTree) → list_any (is_name_of_section x) ss ≡ false → kind_in_sections ss x ≡ undeclared
  sections_undeclared [] h = refl
  sections_undeclared (var ds ∷ ss) h = decls_undeclared state ds x (kind_in_sections ss x) (section_parts (var ds) ss h).0 ∙ sections_undeclared ss (section_parts (var ds) ss h).1
  sections_undeclared (ivar ds ∷ ss) h = decls_undeclared input ds x (kind_in_sections ss x) (section_parts (ivar ds) ss h).0 ∙ sections_undeclared ss (section_parts (ivar ds) ss h).1
  sections_undeclared (frozen_section ds ∷ ss) h =
      decls_undeclared frozen_role ds x (kind_in_sections ss x) (section_parts (frozen_section ds) ss h).0 ∙ sections_undeclared ss (section_parts (frozen_section ds) ss h).1
  sections_undeclared (define ds ∷ ss) h = defines_undeclared ds x (kind_in_sections ss x) (section_parts (define ds) ss h).0 ∙ sections_undeclared ss (section_parts (define ds) ss h).1
  sections_undeclared (constants xs ∷ ss) h = sections_undeclared ss (section_parts (constants xs) ss h).1
  sections_undeclared (assign xs ∷ ss) h = sections_undeclared ss h
  sections_undeclared (init e ∷ ss) h = sections_undeclared ss h
  sections_undeclared (invar e ∷ ss) h = sections_undeclared ss h
  sections_undeclared (trans e ∷ ss) h = sections_undeclared ss h

  sections_no_symbol : (ss : List SectionTree) → list_any (is_name_of_section x) ss ≡ false → is_symbol_of_sections ss x ≡ false
  sections_no_symbol [] h = refl
  sections_no_symbol (var ds ∷ ss) h = rw (decls_no_symbol ds x (section_parts (var ds) ss h).0) (sections_no_symbol ss (section_parts (var ds) ss h).1)
  sections_no_symbol (ivar ds ∷ ss) h = rw (decls_no_symbol ds x (section_parts (ivar ds) ss h).0) (sections_no_symbol ss (section_parts (ivar ds) ss h).1)
  sections_no_symbol (frozen_section ds ∷ ss) h = rw (decls_no_symbol ds x (section_parts (frozen_section ds) ss h).0) (sections_no_symbol ss (section_parts (frozen_section ds) ss h).1)
  sections_no_symbol (define ds ∷ ss) h = sections_no_symbol ss (section_parts (define ds) ss h).1
  sections_no_symbol (constants xs ∷ ss) h = rw ((section_parts (constants xs) ss h).0) (sections_no_symbol ss (section_parts (constants xs) ss h).1)
  sections_no_symbol (assign xs ∷ ss) h = sections_no_symbol ss h
  sections_no_symbol (init e ∷ ss) h = sections_no_symbol ss h
  sections_no_symbol (invar e ∷ ss) h = sections_no_symbol ss h
  sections_no_symbol (trans e ∷ ss) h = sections_no_symbol ss h

  abbrev declares : ModuleTree → Bool
  declares m = is_among m.formals x || list_any (is_name_of_section x) m.sections

  module_undeclared : (m : ModuleTree) → is_name_of_module x m ≡ false → kind_in m x ≡ undeclared
  module_undeclared m h =
      let inside : (is_among m.formals x ≡ false) × (list_any (is_name_of_section x) m.sections ≡ false) =
      or_false (is_among m.formals x) (list_any (is_name_of_section x) m.sections) (or_false (same_text m.name x) (declares m) h).1 in
      rw (no_formal 0 m.formals x inside.0) (sections_undeclared m.sections inside.1)

  module_no_symbol : (m : ModuleTree) → is_name_of_module x m ≡ false → is_symbol_of_sections m.sections x ≡ false
  module_no_symbol m h =
      sections_no_symbol m.sections (or_false (is_among m.formals x) (list_any (is_name_of_section x) m.sections) (or_false (same_text m.name x) (declares m) h).1).1

  -- in no module of the program the name is declared
  pub undeclared_there : (p : ProgramTree) (m : ModuleTree) → is_program_name p x ≡ false → Among p m → kind_in m x ≡ undeclared
  undeclared_there p m h a = module_undeclared m (any_false (is_name_of_module x) p m h a)

  -- and it is no symbol
  pub no_symbol : (p : ProgramTree) → is_program_name p x ≡ false → is_symbol p x ≡ false
  no_symbol [] h = refl
  no_symbol (m ∷ p) h =
      let parts : (is_name_of_module x m ≡ false) × (is_program_name p x ≡ false) = or_false (is_name_of_module x m) (is_program_name p x) h in
      rw (module_no_symbol m parts.0) (no_symbol p parts.1)
