-- The declaration of a variable, found, and the symbols of its type.
use Rattle.std.proofs.Common.{◌≡◌, ◌⊎◌, inl, inr, Bool, true, false, List, [], ◌∷◌, refl, sym, ap, subst}
use Rattle.std.specs.Prelude.{if◌then◌else◌, ◌||◌}
use Rattle.smv_language.specs.Language.{Text, DeclaredTree, boolean, range, members, instance, DeclTree, DefineTree, SectionTree, var, ivar, frozen, define, constants, assign, init, invar, trans, ModuleTree, ProgramTree, same_text, is_among, Role, state, input, frozen_role, Kind, a_variable, kind_declared, kind_in_decls, kind_in_defines, kind_in_sections, formal_from, kind_in, is_symbol, is_symbol_of_sections, is_symbol_of_decls, is_symbol_of_type, Each}
use Rattle.smv_language.specs.Scope.{a_define}
use Rattle.fault_instructions.specs.KindTypes.{type_of_kind}
use Rattle.fault_instructions.specs.Weavable.{Among}
use Rattle.fault_instructions.proofs.AmongLaws.{each_all}
use Rattle.smv_language.proofs.OneTree.{same_text_equal}
use Rattle.smv_language.proofs.ProgramLaws.{after_formals}

-- the declaration of a variable, found
module _ (P : DeclTree → Type 0) (R : Type 0) (x : Text) (role' : Role) (type : DeclaredTree) (found : (d : DeclTree) → P d → d.name ≡ x → d.what ≡ type → R) where
  declared_type : (role : Role) (what : DeclaredTree) → kind_declared role what ≡ a_variable role' type → what ≡ type
  declared_type role boolean e = ap type_of_kind e
  declared_type role (range lo hi) e = ap type_of_kind e
  declared_type role (members ms) e = ap type_of_kind e
  declared_type role (instance m es) e = cc

  decls_find : (role : Role) (ds : List DeclTree) (otherwise : Kind) → kind_in_decls role ds x otherwise ≡ a_variable role' type → Each P ds → (otherwise ≡ a_variable role' type → R) → R
  decls_find role [] otherwise e h more = more e
  decls_find role (d ∷ ds) otherwise e h more = go (same_text d.name x) refl e (λ q. decls_find role ds otherwise q h.1 more)
    where
      go : (b : Bool) → same_text d.name x ≡ b → (if b then kind_declared role d.what else kind_in_decls role ds x otherwise) ≡ a_variable role' type →
          (kind_in_decls role ds x otherwise ≡ a_variable role' type → R) → R
      go true t e more = found d h.0 (same_text_equal d.name x t) (declared_type role d.what e)
      go false t e more = more e

  defines_find : (ds : List DefineTree) (otherwise : Kind) → kind_in_defines ds x otherwise ≡ a_variable role' type → (otherwise ≡ a_variable role' type → R) → R
  defines_find [] otherwise e more = more e
  defines_find (d ∷ ds) otherwise e more = go (same_text d.name x) e (λ q. defines_find ds otherwise q more)
    where
      go : (b : Bool) → (if b then a_define d.value else kind_in_defines ds x otherwise) ≡ a_variable role' type → (kind_in_defines ds x otherwise ≡ a_variable role' type → R) → R
      go true e more = cc
      go false e more = more e

  pub sections_find : (D : SectionTree → Type 0) → ((ds : List DeclTree) → D (var ds) → Each P ds) → ((ds : List DeclTree) → D (ivar ds) → Each P ds) → ((ds : List DeclTree) → D (frozen ds) → Each P ds) →
      (ss : List SectionTree) → kind_in_sections ss x ≡ a_variable role' type → Each D ss → R
  sections_find D v n f [] e h = cc
  sections_find D v n f (var ds ∷ ss) e h = decls_find state ds (kind_in_sections ss x) e (v ds h.0) (λ q. sections_find D v n f ss q h.1)
  sections_find D v n f (ivar ds ∷ ss) e h = decls_find input ds (kind_in_sections ss x) e (n ds h.0) (λ q. sections_find D v n f ss q h.1)
  sections_find D v n f (frozen ds ∷ ss) e h = decls_find frozen_role ds (kind_in_sections ss x) e (f ds h.0) (λ q. sections_find D v n f ss q h.1)
  sections_find D v n f (define ds ∷ ss) e h = defines_find ds (kind_in_sections ss x) e (λ q. sections_find D v n f ss q h.1)
  sections_find D v n f (constants xs ∷ ss) e h = sections_find D v n f ss e h.1
  sections_find D v n f (assign xs ∷ ss) e h = sections_find D v n f ss e h.1
  sections_find D v n f (init t ∷ ss) e h = sections_find D v n f ss e h.1
  sections_find D v n f (invar t ∷ ss) e h = sections_find D v n f ss e h.1
  sections_find D v n f (trans t ∷ ss) e h = sections_find D v n f ss e h.1

pub or_true : (a b : Bool) → (a ≡ true) ⊎ (b ≡ true) → (a || b) ≡ true
or_true true b h = refl
or_true false b (inl e) = cc
or_true false b (inr e) = e

decl_symbol : (ds : List DeclTree) (d : DeclTree) (y : Text) → Among ds d → is_symbol_of_type d.what y ≡ true → is_symbol_of_decls ds y ≡ true
decl_symbol [] d y a h = absurd a
decl_symbol (c ∷ ds) d y (inl e) h = or_true (is_symbol_of_type c.what y) _ (inl (subst (λ z. is_symbol_of_type z.what y ≡ true) (sym e) h))
decl_symbol (c ∷ ds) d y (inr a) h = or_true (is_symbol_of_type c.what y) _ (inr (decl_symbol ds d y a h))

section_symbol : (ss : List SectionTree) (section : SectionTree) (y : Text) → Among ss section → is_symbol_of_sections (section ∷ []) y ≡ true → is_symbol_of_sections ss y ≡ true
section_symbol [] section y a h = absurd a
section_symbol (x ∷ ss) section y (inl e) h = first x ss (subst (λ z. is_symbol_of_sections (z ∷ []) y ≡ true) (sym e) h)
  where
    drop : (b : Bool) → (b || false) ≡ true → b ≡ true
    drop true h = refl
    drop false h = h

    first : (x : SectionTree) (ss : List SectionTree) → is_symbol_of_sections (x ∷ []) y ≡ true → is_symbol_of_sections (x ∷ ss) y ≡ true
    first (var ds) ss h = or_true (is_symbol_of_decls ds y) _ (inl (drop (is_symbol_of_decls ds y) h))
    first (ivar ds) ss h = or_true (is_symbol_of_decls ds y) _ (inl (drop (is_symbol_of_decls ds y) h))
    first (frozen ds) ss h = or_true (is_symbol_of_decls ds y) _ (inl (drop (is_symbol_of_decls ds y) h))
    first (constants xs) ss h = or_true (is_among xs y) _ (inl (drop (is_among xs y) h))
    first (define ds) ss h = cc
    first (assign xs) ss h = cc
    first (init e) ss h = cc
    first (invar e) ss h = cc
    first (trans e) ss h = cc
section_symbol (x ∷ ss) section y (inr a) h = later x (section_symbol ss section y a h)
  where
    later : (x : SectionTree) → is_symbol_of_sections ss y ≡ true → is_symbol_of_sections (x ∷ ss) y ≡ true
    later (var ds) h = or_true (is_symbol_of_decls ds y) _ (inr h)
    later (ivar ds) h = or_true (is_symbol_of_decls ds y) _ (inr h)
    later (frozen ds) h = or_true (is_symbol_of_decls ds y) _ (inr h)
    later (constants xs) h = or_true (is_among xs y) _ (inr h)
    later (define ds) h = h
    later (assign xs) h = h
    later (init e) h = h
    later (invar e) h = h
    later (trans e) h = h

module_symbol : (q : ProgramTree) (m : ModuleTree) (y : Text) → Among q m → is_symbol_of_sections m.sections y ≡ true → is_symbol q y ≡ true
module_symbol [] m y a h = absurd a
module_symbol (n ∷ q) m y (inl e) h = or_true (is_symbol_of_sections n.sections y) _ (inl (subst (λ z. is_symbol_of_sections z.sections y ≡ true) (sym e) h))
module_symbol (n ∷ q) m y (inr a) h = or_true (is_symbol_of_sections n.sections y) _ (inr (module_symbol q m y a h))

-- a symbol of the type of a variable is a symbol of the program
pub variable_symbol : (q : ProgramTree) (m : ModuleTree) (x : Text) (role : Role) (type : DeclaredTree) (y : Text) → Among q m → kind_in m x ≡ a_variable role type →
    is_symbol_of_type type y ≡ true → is_symbol q y ≡ true
variable_symbol q m x role type y a kind h =
    module_symbol q m y a (sections_find (λ d. is_symbol_of_type d.what y ≡ true → is_symbol_of_sections m.sections y ≡ true) (is_symbol_of_sections m.sections y ≡ true) x role type
    (λ d more name what. more (subst (λ t. is_symbol_of_type t y ≡ true) (sym what) h))
    (λ s. Among m.sections s)
    (λ ds b. each_all (λ d. is_symbol_of_type d.what y ≡ true → is_symbol_of_sections m.sections y ≡ true) ds (λ d c t. section_symbol m.sections (var ds) y b (or_true (is_symbol_of_decls ds y) false (inl (decl_symbol ds d y c t)))))
    (λ ds b. each_all (λ d. is_symbol_of_type d.what y ≡ true → is_symbol_of_sections m.sections y ≡ true) ds (λ d c t. section_symbol m.sections (ivar ds) y b (or_true (is_symbol_of_decls ds y) false (inl (decl_symbol ds d y c t)))))
    (λ ds b. each_all (λ d. is_symbol_of_type d.what y ≡ true → is_symbol_of_sections m.sections y ≡ true) ds (λ d c t. section_symbol m.sections (frozen ds) y b (or_true (is_symbol_of_decls ds y) false (inl (decl_symbol ds d y c t)))))
    m.sections (after_formals (formal_from 0 m.formals x) (kind_in_sections m.sections x) role type kind) (each_all (λ s. Among m.sections s) m.sections (λ s b. b)))
