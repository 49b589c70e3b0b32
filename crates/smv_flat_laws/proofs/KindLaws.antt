-- What is declared by a module's items, and by which of them.
use Rattle.std.proofs.Common.{◌≡◌, ℕ, suc, ◌+◌, Bool, true, false, List, [], ◌∷◌, ◌++◌, Option, Some, None, refl, sym, ◌∙◌, ap, subst}
use Rattle.std.specs.Prelude.{slice_get, map, flat_map, length, if◌then◌else◌}
use Rattle.smv_language.specs.Language.{Text, Formula, DeclaredTree, boolean, range, members, instance, DeclTree, DefineTree, AssignmentTree, SectionTree, var, ivar, frozen, define, constants, assign, init, invar, trans, ModuleTree, ProgramTree, Role, state, input, frozen_role, Kind, an_instance, undeclared, kind_declared, kind_in_decls, kind_in_defines, kind_in_sections, kind_after_formals, kind_in, find_module, Each, same_text, is_among}
use Rattle.smv_language.proofs.ValueLaws.{same_text_refl}
use Rattle.smv_language.specs.Scope.{a_define}
use Rattle.smv_flat_laws.specs.Items.{Item, a_declaration, a_definition, an_assignment, some_constants, an_init, an_invar, a_trans, NumberedItem, NumberedModule, items_of_section, items_of, numbered_from, modules_from, modules_of, numbered_items, items_found}
use Rattle.smv_flat_laws.specs.Rules.{names_of_item, is_name_again, double_name, a_header, an_item, IsKept, IsWalkable, may_be_assigned}
use Rattle.smv_flat_laws.proofs.Lists.{each_of_map, each_more}
use Rattle.smv_flat_laws.proofs.Conditions.{each_flat}
use Rattle.smv_language.proofs.OneTree.{same_text_equal}
use Rattle.std.proofs.lemmas.Bool.{false_from_ne_true as not_true, or_parts as neither}
use Rattle.smv_language.specs.declared.program.Moment.{Moment}
use Rattle.smv_language.specs.declared.program.Moment.TheVariants.{Always, First, After}
use Rattle.smv_language.proofs.ProgramLaws.{no_formal}

abbrev pub kind_of_item : Item → Text → Kind → Kind
kind_of_item (a_declaration role d) x other = if same_text d.name x then kind_declared role d.what else other
kind_of_item (a_definition d) x other = if same_text d.name x then a_define d.value else other
kind_of_item (an_assignment a) x other = other
kind_of_item (some_constants xs) x other = other
kind_of_item (an_init e) x other = other
kind_of_item (an_invar e) x other = other
kind_of_item (a_trans e) x other = other

abbrev pub kind_in_items : List Item → Text → Kind
kind_in_items [] x = undeclared
kind_in_items (i ∷ is) x = kind_of_item i x (kind_in_items is x)

decls_kind : (role : Role) (ds : List DeclTree) (x : Text) (rest : List Item) (k : Kind) → kind_in_items rest x ≡ k →
    kind_in_items (map (a_declaration role) ds ++ rest) x ≡ kind_in_decls role ds x k
decls_kind role [] x rest k e = e
decls_kind role (d ∷ ds) x rest k e = ap (λ o. if same_text d.name x then kind_declared role d.what else o) (decls_kind role ds x rest k e)

defines_kind : (ds : List DefineTree) (x : Text) (rest : List Item) (k : Kind) → kind_in_items rest x ≡ k →
    kind_in_items (map a_definition ds ++ rest) x ≡ kind_in_defines ds x k
defines_kind [] x rest k e = e
defines_kind (d ∷ ds) x rest k e = ap (λ o. if same_text d.name x then a_define d.value else o) (defines_kind ds x rest k e)

assigns_kind : (xs : List AssignmentTree) (x : Text) (rest : List Item) → kind_in_items (map an_assignment xs ++ rest) x ≡ kind_in_items rest x
assigns_kind [] x rest = refl
assigns_kind (a ∷ xs) x rest = assigns_kind xs x rest

pub sections_kind : (ss : List SectionTree) (x : Text) → kind_in_items (flat_map items_of_section ss) x ≡ kind_in_sections ss x
sections_kind [] x = refl
sections_kind (var ds ∷ ss) x = decls_kind state ds x (flat_map items_of_section ss) _ (sections_kind ss x)
sections_kind (ivar ds ∷ ss) x = decls_kind input ds x (flat_map items_of_section ss) _ (sections_kind ss x)
sections_kind (frozen ds ∷ ss) x = decls_kind frozen_role ds x (flat_map items_of_section ss) _ (sections_kind ss x)
sections_kind (define ds ∷ ss) x = defines_kind ds x (flat_map items_of_section ss) _ (sections_kind ss x)
sections_kind (constants xs ∷ ss) x = sections_kind ss x
sections_kind (assign xs ∷ ss) x = assigns_kind xs x (flat_map items_of_section ss) ∙ sections_kind ss x
sections_kind (init e ∷ ss) x = sections_kind ss x
sections_kind (invar e ∷ ss) x = sections_kind ss x
sections_kind (trans e ∷ ss) x = sections_kind ss x

pub among_split : (xs ys : List Text) (x : Text) → is_among (xs ++ ys) x ≡ false → (is_among xs x ≡ false) × (is_among ys x ≡ false)
among_split [] ys x h = (refl, h)
among_split (z ∷ xs) ys x h =
    let s : (same_text z x ≡ false) × (is_among (xs ++ ys) x ≡ false) = neither _ _ h in
    let r : (is_among xs x ≡ false) × (is_among ys x ≡ false) = among_split xs ys x s.1 in (rw s.0 r.0, r.1)

declared_kind : (before : List Item) (role : Role) (d : DeclTree) (after : List Item) → is_among (flat_map names_of_item before) d.name ≡ false →
    kind_in_items (before ++ a_declaration role d ∷ after) d.name ≡ kind_declared role d.what
declared_kind [] role d after h = rw (same_text_refl d.name) refl
declared_kind (a_declaration role' d' ∷ before) role d after h =
    let s : (same_text d'.name d.name ≡ false) × (is_among (flat_map names_of_item before) d.name ≡ false) = neither _ _ h in rw s.0 (declared_kind before role d after s.1)
declared_kind (a_definition d' ∷ before) role d after h =
    let s : (same_text d'.name d.name ≡ false) × (is_among (flat_map names_of_item before) d.name ≡ false) = neither _ _ h in rw s.0 (declared_kind before role d after s.1)
declared_kind (an_assignment a ∷ before) role d after h = declared_kind before role d after h
declared_kind (some_constants xs ∷ before) role d after h = declared_kind before role d after h
declared_kind (an_init e ∷ before) role d after h = declared_kind before role d after h
declared_kind (an_invar e ∷ before) role d after h = declared_kind before role d after h
declared_kind (a_trans e ∷ before) role d after h = declared_kind before role d after h

defined_kind : (before : List Item) (d : DefineTree) (after : List Item) → is_among (flat_map names_of_item before) d.name ≡ false →
    kind_in_items (before ++ a_definition d ∷ after) d.name ≡ a_define d.value
defined_kind [] d after h = rw (same_text_refl d.name) refl
defined_kind (a_declaration role' d' ∷ before) d after h =
    let s : (same_text d'.name d.name ≡ false) × (is_among (flat_map names_of_item before) d.name ≡ false) = neither _ _ h in rw s.0 (defined_kind before d after s.1)
defined_kind (a_definition d' ∷ before) d after h =
    let s : (same_text d'.name d.name ≡ false) × (is_among (flat_map names_of_item before) d.name ≡ false) = neither _ _ h in rw s.0 (defined_kind before d after s.1)
defined_kind (an_assignment a ∷ before) d after h = defined_kind before d after h
defined_kind (some_constants xs ∷ before) d after h = defined_kind before d after h
defined_kind (an_init e ∷ before) d after h = defined_kind before d after h
defined_kind (an_invar e ∷ before) d after h = defined_kind before d after h
defined_kind (a_trans e ∷ before) d after h = defined_kind before d after h

-- an item with its place in the module, and no name of it stands earlier
pub record ItemFacts (m : ModuleTree) (i : NumberedItem) : Type 0 where
  pub after : List Item
  pub among : items_of m ≡ i.before ++ i.item ∷ after
  pub fresh : is_name_again (m.formals ++ flat_map names_of_item i.before) (names_of_item i.item) ≡ false

pub kind_of_declaration : (m : ModuleTree) (before : List Item) (role : Role) (d : DeclTree) (after : List Item) → items_of m ≡ before ++ a_declaration role d ∷ after →
    is_among (m.formals ++ flat_map names_of_item before) d.name ≡ false → kind_in m d.name ≡ kind_declared role d.what
kind_of_declaration m before role d after e h =
    let s : (is_among m.formals d.name ≡ false) × (is_among (flat_map names_of_item before) d.name ≡ false) = among_split m.formals _ d.name h in
    ap (λ o. kind_after_formals o (kind_in_sections m.sections d.name)) (no_formal 0 m.formals d.name s.0)
    ∙ sym (sections_kind m.sections d.name) ∙ ap (λ is. kind_in_items is d.name) e ∙ declared_kind before role d after s.1

pub kind_of_definition : (m : ModuleTree) (before : List Item) (d : DefineTree) (after : List Item) → items_of m ≡ before ++ a_definition d ∷ after →
    is_among (m.formals ++ flat_map names_of_item before) d.name ≡ false → kind_in m d.name ≡ a_define d.value
kind_of_definition m before d after e h =
    let s : (is_among m.formals d.name ≡ false) × (is_among (flat_map names_of_item before) d.name ≡ false) = among_split m.formals _ d.name h in
    ap (λ o. kind_after_formals o (kind_in_sections m.sections d.name)) (no_formal 0 m.formals d.name s.0)
    ∙ sym (sections_kind m.sections d.name) ∙ ap (λ is. kind_in_items is d.name) e ∙ defined_kind before d after s.1

-- a name that is an instance in its module is no formal
pub no_formal_instance : (n : Text) (actuals : List Formula) (o : Option ℕ) (k : Kind) → kind_after_formals o k ≡ an_instance n actuals → k ≡ an_instance n actuals
no_formal_instance n actuals None k e = e
no_formal_instance n actuals (Some i) k e = cc

-- an instance is declared by an item
pub record DeclaredBy (items : List Item) (x : Text) (module_name : Text) (actuals : List Formula) : Type 0 where
  pub place : ℕ
  pub role : Role
  pub decl : DeclTree
  pub is : slice_get items place ≡ Some (a_declaration role decl)
  pub name : decl.name ≡ x
  pub what : decl.what ≡ instance module_name actuals

later : (items : List Item) (i : Item) (x : Text) (n : Text) (actuals : List Formula) → DeclaredBy items x n actuals → DeclaredBy (i ∷ items) x n actuals
later items i x n actuals d = record { place = suc d.place; role = d.role; decl = d.decl; is = d.is; name = d.name; what = d.what }

declared_instance : (role : Role) (what : DeclaredTree) (n : Text) (actuals : List Formula) → kind_declared role what ≡ an_instance n actuals → what ≡ instance n actuals
declared_instance role boolean n actuals e = cc
declared_instance role (range lo hi) n actuals e = cc
declared_instance role (members ms) n actuals e = cc
declared_instance role (instance m as') n actuals e = cc

pub declared_by : (items : List Item) (x : Text) (n : Text) (actuals : List Formula) → kind_in_items items x ≡ an_instance n actuals → DeclaredBy items x n actuals
declared_by [] x n actuals e = cc
declared_by (a_declaration role d ∷ items) x n actuals e = by_name (same_text d.name x) refl (λ h. later items _ x n actuals (declared_by items x n actuals h))
  where
    by_name : (b : Bool) → same_text d.name x ≡ b → (kind_in_items items x ≡ an_instance n actuals → DeclaredBy (a_declaration role d ∷ items) x n actuals) → DeclaredBy (a_declaration role d ∷ items) x n actuals
    by_name true t rest = record { place = 0; role = role; decl = d; is = refl; name = same_text_equal d.name x t; what = declared_instance role d.what n actuals (rw t at e) }
    by_name false t rest = rest (rw t at e)
declared_by (a_definition d ∷ items) x n actuals e = by_name (same_text d.name x) refl (λ h. later items _ x n actuals (declared_by items x n actuals h))
  where
    by_name : (b : Bool) → same_text d.name x ≡ b → (kind_in_items items x ≡ an_instance n actuals → DeclaredBy (a_definition d ∷ items) x n actuals) → DeclaredBy (a_definition d ∷ items) x n actuals
    by_name true t rest = let bad : a_define d.value ≡ an_instance n actuals = rw t at e in cc
    by_name false t rest = rest (rw t at e)
declared_by (an_assignment a ∷ items) x n actuals e = later items _ x n actuals (declared_by items x n actuals e)
declared_by (some_constants xs ∷ items) x n actuals e = later items _ x n actuals (declared_by items x n actuals e)
declared_by (an_init f ∷ items) x n actuals e = later items _ x n actuals (declared_by items x n actuals e)
declared_by (an_invar f ∷ items) x n actuals e = later items _ x n actuals (declared_by items x n actuals e)
declared_by (a_trans f ∷ items) x n actuals e = later items _ x n actuals (declared_by items x n actuals e)

pub joined_more : {A : Type 0} (xs : List A) (y : A) (zs : List A) → xs ++ y ∷ zs ≡ (xs ++ y ∷ []) ++ zs
joined_more [] y zs = refl
joined_more (x ∷ xs) y zs = ap (λ ws. x ∷ ws) (joined_more xs y zs)

split_each : (whole : List Item) (n : ℕ) (before items : List Item) → whole ≡ before ++ items →
    Each (λ (i : NumberedItem). (after : List Item) × (whole ≡ i.before ++ i.item ∷ after)) (numbered_from n before items)
split_each whole n before [] e = tt
split_each whole n before (i ∷ items) e = ((items, e), split_each whole (suc n) (before ++ i ∷ []) items (e ∙ joined_more before i items))

pub with_both : {A : Type 0} (P Q R : A → Type 0) (xs : List A) → ((x : A) → P x → Q x → R x) → Each P xs → Each Q xs → Each R xs
with_both P Q R [] f h k = tt
with_both P Q R (x ∷ xs) f h k = (f x h.0 k.0, with_both P Q R xs f h.1 k.1)

pub all_facts : (p : ProgramTree) → IsWalkable p → Each (λ (m : NumberedModule). Each (ItemFacts m.tree) (numbered_items m)) (modules_of p)
all_facts p h =
    each_more _ _ (modules_of p)
    (λ (m : NumberedModule) k. with_both (λ (i : NumberedItem). (after : List Item) × (items_of m.tree ≡ i.before ++ i.item ∷ after)) (λ i. IsKept p (an_item m i)) (ItemFacts m.tree) (numbered_items m)
    (λ i s kept. record { after = s.0; among = s.1; fresh = not_true _ (kept double_name) })
    (split_each (items_of m.tree) (suc m.number) [] (items_of m.tree) refl) (each_of_map (IsKept p) (an_item m) (numbered_items m) k.1))
    ((each_flat (IsKept p) (λ m. a_header m ∷ map (an_item m) (numbered_items m)) (modules_of p)).0
    h.modules)

pub found_facts : (p : ProgramTree) (n : ℕ) (before : List ModuleTree) (x : Text) (m : ModuleTree) → find_module p x ≡ Some m →
    Each (λ (k : NumberedModule). Each (ItemFacts k.tree) (numbered_items k)) (modules_from n before p) → Each (ItemFacts m) (items_found (modules_from n before p) x)
found_facts [] n before x m e h = tt
found_facts (first ∷ more) n before x m e h = by_name (same_text first.name x) refl (λ found. found_facts more (n + suc (length (items_of first))) (before ++ first ∷ []) x m found h.1)
  where
    by_name : (b : Bool) → same_text first.name x ≡ b →
        (find_module more x ≡ Some m → Each (ItemFacts m) (items_found (modules_from (n + suc (length (items_of first))) (before ++ first ∷ []) more) x)) →
        Each (ItemFacts m) (items_found (modules_from n before (first ∷ more)) x)
    by_name true t rest =
        let found : Some first ≡ Some m = rw t at e in
        let same : first ≡ m = cc in
        rw t (subst (λ (k : ModuleTree). Each (ItemFacts k) (numbered_from (suc n) [] (items_of first))) same h.0)
    by_name false t rest =
        let found : find_module more x ≡ Some m = rw t at e in
        rw t (rest found)

pub not_assigned_none : (when : Moment) → may_be_assigned when undeclared ≡ false
not_assigned_none Always = refl
not_assigned_none First = refl
not_assigned_none After = refl
