-- What the look-ups find, one element of a list on.
use Rattle.std.proofs.Common.{◌≡◌, ℕ, ◌+◌, ◌<◌, suc, Bool, true, false, List, [], ◌∷◌, ◌++◌, length, get_or, drop, map, Some, None, refl, sym, ◌∙◌, ap}
use Rattle.std.specs.Prelude.{if◌then◌else◌, ◌&&◌, ◌||◌}
use Rattle.std.specs.List.{list_any}
use Rattle.std.proofs.lemmas.List.{drop_more}
use Rattle.smv_language.specs.Language.{same_text, Text, DeclaredTree, boolean, range, members, instance, DeclTree, DefineTree, SectionTree, var, ivar, frozen, define, constants, assign, init, invar, trans, decl_tree, define_tree, section_tree, Role, state, input, frozen_role, Kind, kind_declared, kind_in_decls, kind_in_defines, kind_in_sections, formal_from, kind_after_formals}
use Rattle.smv_language.specs.declared.program.Decl.{Decl}
use Rattle.smv_language.specs.declared.program.Define.{Define}
use Rattle.smv_language.specs.declared.program.Section.{Section}
use Rattle.smv_language.specs.Scope.{a_define}
use Rattle.fault_instructions.specs.declared.instructions.Slice.{Slice}
use Rattle.fault_instructions.specs.declared.instructions.Extension.{Extension}
use Rattle.fault_instructions.specs.Instructions.{SliceTree, ExtensionTree, slice_tree, extension_tree, slices_from, is_target}
use Rattle.fault_instructions.specs.KindTypes.{type_of_kind}
use Rattle.fault_weave.specs.Lookups.{affects, variable_type, type_in_decls, type_in_defines, type_in_section, first_type}
use Rattle.smv_language.proofs.BoolLaws.{or_grouped}

if_true : (b c : Bool) → (if b then true else c) ≡ (b || c)
if_true true c = refl
if_true false c = refl

-- one slice on
pub target_more : (ss : List Slice) (x : Text) (i : ℕ) (d : Slice) → i < length ss →
    is_target (map slice_tree (drop i ss)) x ≡ (same_text (slice_tree (get_or ss i d)).target x || is_target (map slice_tree (drop (i + 1) ss)) x)
target_more ss x i d h =
    ap (λ ts. is_target (map slice_tree ts) x) (drop_more ss i d h) ∙ if_true (same_text (slice_tree (get_or ss i d)).target x) (is_target (map slice_tree (drop (i + 1) ss)) x)

target_append : (ss ts : List SliceTree) (x : Text) → is_target (ss ++ ts) x ≡ (is_target ss x || is_target ts x)
target_append [] ts x = refl
target_append (s ∷ ss) ts x =
    if_true (same_text s.target x) (is_target (ss ++ ts) x) ∙ ap (λ b. same_text s.target x || b) (target_append ss ts x) ∙ or_grouped (same_text s.target x) (is_target ss x) (is_target ts x)
    ∙ ap (λ b. b || is_target ts x) (sym (if_true (same_text s.target x) (is_target ss x)))

-- a slice of the module affects the variable where one of the first extension or of a later one does
affected_first : (e : ExtensionTree) (xs : List ExtensionTree) (m x : Text) → is_target (slices_from (e ∷ xs) m) x ≡ (affects e m x || is_target (slices_from xs m) x)
unfolding affects
affected_first e xs m x = go (same_text e.of_module m)
  where
    go : (b : Bool) → is_target (if b then e.slices ++ slices_from xs m else slices_from xs m) x ≡ ((b && is_target e.slices x) || is_target (slices_from xs m) x)
    go true = target_append e.slices (slices_from xs m) x
    go false = refl

affected_more : (xs : List Extension) (m x : Text) (i : ℕ) (d : Extension) → i < length xs →
    is_target (slices_from (map extension_tree (drop i xs)) m) x
    ≡ (affects (extension_tree (get_or xs i d)) m x || is_target (slices_from (map extension_tree (drop (i + 1) xs)) m) x)
affected_more xs m x i d h =
    ap (λ ys. is_target (slices_from (map extension_tree ys) m) x) (drop_more xs i d h) ∙ affected_first (extension_tree (get_or xs i d)) (map extension_tree (drop (i + 1) xs)) m x

-- an extension of a loop affects the variable, or does not
pub affected_here : (xs : List Extension) (m x : Text) (i : ℕ) (e : Extension) → i < length xs → e ≡ get_or xs i e → affects (extension_tree e) m x ≡ true →
    is_target (slices_from (map extension_tree (drop i xs)) m) x ≡ is_target (slices_from (map extension_tree xs) m) x →
    true ≡ is_target (slices_from (map extension_tree xs) m) x
affected_here xs m x i e h is t rest =
    sym (affected_more xs m x i e h ∙ ap (λ (f : Extension). affects (extension_tree f) m x || is_target (slices_from (map extension_tree (drop (i + 1) xs)) m) x) (sym is)
    ∙ ap (λ b. b || is_target (slices_from (map extension_tree (drop (i + 1) xs)) m) x) t) ∙ rest

pub affected_later : (xs : List Extension) (m x : Text) (i : ℕ) (e : Extension) → i < length xs → e ≡ get_or xs i e → affects (extension_tree e) m x ≡ false →
    is_target (slices_from (map extension_tree (drop i xs)) m) x ≡ is_target (slices_from (map extension_tree xs) m) x →
    is_target (slices_from (map extension_tree (drop (i + 1) xs)) m) x ≡ is_target (slices_from (map extension_tree xs) m) x
affected_later xs m x i e h is t rest =
    sym (affected_more xs m x i e h ∙ ap (λ (f : Extension). affects (extension_tree f) m x || is_target (slices_from (map extension_tree (drop (i + 1) xs)) m) x) (sym is)
    ∙ ap (λ b. b || is_target (slices_from (map extension_tree (drop (i + 1) xs)) m) x) t) ∙ rest

-- a formal is no variable
type_after_formals : (i : ℕ) (fs : List Text) (x : Text) (k : Kind) →
    type_of_kind (kind_after_formals (formal_from i fs x) k) ≡ (if list_any (λ f. same_text f x) fs then boolean else type_of_kind k)
type_after_formals i [] x k = refl
type_after_formals i (f ∷ fs) x k = go (same_text f x) (type_after_formals (suc i) fs x k)
  where
    go : (b : Bool) → type_of_kind (kind_after_formals (formal_from (suc i) fs x) k) ≡ (if list_any (λ f. same_text f x) fs then boolean else type_of_kind k) →
        type_of_kind (kind_after_formals (if b then Some i else formal_from (suc i) fs x) k) ≡ (if (b || list_any (λ f. same_text f x) fs) then boolean else type_of_kind k)
    go true more = refl
    go false more = more

pub formal_type : (fs : List Text) (x : Text) (k : Kind) → list_any (λ f. same_text f x) fs ≡ true → type_of_kind (kind_after_formals (formal_from 0 fs x) k) ≡ boolean
formal_type fs x k h = type_after_formals 0 fs x k ∙ ap (λ b. if b then boolean else type_of_kind k) h

pub no_formal_type : (fs : List Text) (x : Text) (k : Kind) → list_any (λ f. same_text f x) fs ≡ false → type_of_kind (kind_after_formals (formal_from 0 fs x) k) ≡ type_of_kind k
no_formal_type fs x k h = type_after_formals 0 fs x k ∙ ap (λ b. if b then boolean else type_of_kind k) h

declared_type : (role : Role) (d : DeclaredTree) → type_of_kind (kind_declared role d) ≡ variable_type d
declared_type role boolean = refl
declared_type role (range lo hi) = refl
declared_type role (members ms) = refl
declared_type role (instance m actuals) = refl

type_of_decls : (role : Role) (ds : List DeclTree) (x : Text) (k : Kind) → type_of_kind (kind_in_decls role ds x k) ≡ first_type (type_in_decls ds x) (type_of_kind k)
type_of_decls role [] x k = refl
type_of_decls role (d ∷ ds) x k = go (same_text d.name x) (type_of_decls role ds x k)
  where
    go : (b : Bool) → type_of_kind (kind_in_decls role ds x k) ≡ first_type (type_in_decls ds x) (type_of_kind k) →
        type_of_kind (if b then kind_declared role d.what else kind_in_decls role ds x k) ≡ first_type (if b then Some (variable_type d.what) else type_in_decls ds x) (type_of_kind k)
    go true more = declared_type role d.what
    go false more = more

type_of_defines : (ds : List DefineTree) (x : Text) (k : Kind) → type_of_kind (kind_in_defines ds x k) ≡ first_type (type_in_defines ds x) (type_of_kind k)
type_of_defines [] x k = refl
type_of_defines (d ∷ ds) x k = go (same_text d.name x) (type_of_defines ds x k)
  where
    go : (b : Bool) → type_of_kind (kind_in_defines ds x k) ≡ first_type (type_in_defines ds x) (type_of_kind k) →
        type_of_kind (if b then a_define d.value else kind_in_defines ds x k) ≡ first_type (if b then Some boolean else type_in_defines ds x) (type_of_kind k)
    go true more = refl
    go false more = more

section_first : (s : SectionTree) (ss : List SectionTree) (x : Text) →
    type_of_kind (kind_in_sections (s ∷ ss) x) ≡ first_type (type_in_section s x) (type_of_kind (kind_in_sections ss x))
unfolding type_in_section
section_first (var ds) ss x = type_of_decls state ds x (kind_in_sections ss x)
section_first (ivar ds) ss x = type_of_decls input ds x (kind_in_sections ss x)
section_first (frozen ds) ss x = type_of_decls frozen_role ds x (kind_in_sections ss x)
section_first (define ds) ss x = type_of_defines ds x (kind_in_sections ss x)
section_first (constants xs) ss x = refl
section_first (assign list) ss x = refl
section_first (init e) ss x = refl
section_first (invar e) ss x = refl
section_first (trans e) ss x = refl

sections_more : (ss : List Section) (x : Text) (i : ℕ) (d : Section) → i < length ss →
    type_of_kind (kind_in_sections (map section_tree (drop i ss)) x)
    ≡ first_type (type_in_section (section_tree (get_or ss i d)) x) (type_of_kind (kind_in_sections (map section_tree (drop (i + 1) ss)) x))
sections_more ss x i d h =
    ap (λ ts. type_of_kind (kind_in_sections (map section_tree ts) x)) (drop_more ss i d h)
    ∙ section_first (section_tree (get_or ss i d)) (map section_tree (drop (i + 1) ss)) x

-- a section of a loop declares the name, or does not
pub found_here : (ss : List Section) (x : Text) (i : ℕ) (d : Section) (type : DeclaredTree) → i < length ss → d ≡ get_or ss i d → type_in_section (section_tree d) x ≡ Some type →
    type_of_kind (kind_in_sections (map section_tree (drop i ss)) x) ≡ type_of_kind (kind_in_sections (map section_tree ss) x) →
    type ≡ type_of_kind (kind_in_sections (map section_tree ss) x)
found_here ss x i d type h is t rest =
    sym (sections_more ss x i d h
    ∙ ap (λ (s : Section). first_type (type_in_section (section_tree s) x) (type_of_kind (kind_in_sections (map section_tree (drop (i + 1) ss)) x))) (sym is)
    ∙ ap (λ o. first_type o (type_of_kind (kind_in_sections (map section_tree (drop (i + 1) ss)) x))) t) ∙ rest

pub found_later : (ss : List Section) (x : Text) (i : ℕ) (d : Section) → i < length ss → d ≡ get_or ss i d → type_in_section (section_tree d) x ≡ None →
    type_of_kind (kind_in_sections (map section_tree (drop i ss)) x) ≡ type_of_kind (kind_in_sections (map section_tree ss) x) →
    type_of_kind (kind_in_sections (map section_tree (drop (i + 1) ss)) x) ≡ type_of_kind (kind_in_sections (map section_tree ss) x)
found_later ss x i d h is t rest =
    sym (sections_more ss x i d h
    ∙ ap (λ (s : Section). first_type (type_in_section (section_tree s) x) (type_of_kind (kind_in_sections (map section_tree (drop (i + 1) ss)) x))) (sym is)
    ∙ ap (λ o. first_type o (type_of_kind (kind_in_sections (map section_tree (drop (i + 1) ss)) x))) t) ∙ rest

pub decls_more : (ds : List Decl) (x : Text) (i : ℕ) (d : Decl) → i < length ds →
    type_in_decls (map decl_tree (drop i ds)) x
    ≡ (if same_text (decl_tree (get_or ds i d)).name x then Some (variable_type (decl_tree (get_or ds i d)).what) else type_in_decls (map decl_tree (drop (i + 1) ds)) x)
decls_more ds x i d h = ap (λ es. type_in_decls (map decl_tree es) x) (drop_more ds i d h)

pub defines_more : (ds : List Define) (x : Text) (i : ℕ) (d : Define) → i < length ds →
    type_in_defines (map define_tree (drop i ds)) x
    ≡ (if same_text (define_tree (get_or ds i d)).name x then Some boolean else type_in_defines (map define_tree (drop (i + 1) ds)) x)
defines_more ds x i d h = ap (λ es. type_in_defines (map define_tree es) x) (drop_more ds i d h)
