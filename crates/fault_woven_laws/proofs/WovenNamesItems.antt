-- The items of a woven module: those of the module, some renamed, and then the added ones.
use Rattle.std.proofs.Common.{◌≡◌, inl, inr, ℕ, suc, ◌+◌, Bool, true, false, List, [], ◌∷◌, ◌++◌, length, map, flat_map, Option, Some, None, refl, sym, ◌∙◌, ap, subst, append_assoc}
use Rattle.std.specs.Prelude.{ℤ}
use Rattle.std.proofs.lemmas.Grind.{flat_map-append}
use Rattle.smv_language.specs.Language.{Text, Formula, DeclTree, DefineTree, AssignmentTree, SectionTree, var, ivar, frozen, define, constants, assign, init, invar, trans, ModuleTree, ProgramTree, Role, state, kind_in, find_module, same_text, Each}
use Rattle.smv_language.specs.declared.program.Moment.TheVariants.{Always, First, After}
use Rattle.smv_flat_laws.specs.Items.{Item, a_declaration, a_definition, an_assignment, some_constants, an_init, an_invar, a_trans, items_of_section, items_of, numbered_from, modules_from, items_found}
use Rattle.smv_flat_laws.proofs.Lists.{map_joined}
use Rattle.smv_flat_laws.proofs.Conditions.{each_join}
use Rattle.fault_instructions.specs.declared.instructions.Start.{Start}
use Rattle.fault_instructions.specs.declared.instructions.Start.TheVariants.{Nominal, Any}
use Rattle.fault_instructions.specs.Instructions.{EffectTree, ModeTree, SliceTree, InstructionTree, slices_of, is_affected}
use Rattle.fault_instructions.specs.AddedNames.{own_name, mode_variable}
use Rattle.fault_instructions.specs.declared.effects.EffectRule.{EffectRule}
use Rattle.fault_instructions.specs.declared.effects.EffectRule.TheVariants.{NotOwn, AsBefore, AsEntered, Falling}
use Rattle.fault_instructions.specs.Effects.{rule_of}
use Rattle.fault_instructions.specs.Templates.{erroneous_rule, frozen_rule, pick_rule, ramp_rule, frozen_first, ramp_first, rules, rule_trees, first_trees}
use Rattle.fault_weave.specs.WovenProgram.{tree_map_both, rename, same_path, woven_assignment, woven_section, mode_type, start_tree, start_rules, mode_rules, moves_tree, read_tree, slice_rules, slice_sections, added_sections, woven_module}
use Rattle.fault_instructions.specs.KindTypes.{type_of_kind}
use Rattle.fault_instructions.specs.Weavable.{Among}

-- an item with affected variables renamed
abbrev pub woven_item : (Text → Bool) → Item → Item
woven_item affected (a_declaration role d) = a_declaration role d
woven_item affected (a_definition d) = a_definition d
woven_item affected (an_assignment a) = an_assignment (woven_assignment affected a)
woven_item affected (some_constants xs) = some_constants xs
woven_item affected (an_init e) = an_init (tree_map_both (rename affected) same_path e)
woven_item affected (an_invar e) = an_invar e
woven_item affected (a_trans e) = a_trans (tree_map_both same_path (rename affected) e)

decls_woven : (affected : Text → Bool) (role : Role) (ds : List DeclTree) → map (a_declaration role) ds ≡ map (woven_item affected) (map (a_declaration role) ds)
decls_woven affected role [] = refl
decls_woven affected role (d ∷ ds) = ap (λ is. a_declaration role d ∷ is) (decls_woven affected role ds)

defines_woven : (affected : Text → Bool) (ds : List DefineTree) → map a_definition ds ≡ map (woven_item affected) (map a_definition ds)
defines_woven affected [] = refl
defines_woven affected (d ∷ ds) = ap (λ is. a_definition d ∷ is) (defines_woven affected ds)

assigns_woven : (affected : Text → Bool) (xs : List AssignmentTree) → map an_assignment (map (woven_assignment affected) xs) ≡ map (woven_item affected) (map an_assignment xs)
assigns_woven affected [] = refl
assigns_woven affected (a ∷ xs) = ap (λ is. an_assignment (woven_assignment affected a) ∷ is) (assigns_woven affected xs)

section_woven : (affected : Text → Bool) (s : SectionTree) → items_of_section (woven_section affected s) ≡ map (woven_item affected) (items_of_section s)
section_woven affected (var ds) = decls_woven affected _ ds
section_woven affected (ivar ds) = decls_woven affected _ ds
section_woven affected (frozen ds) = decls_woven affected _ ds
section_woven affected (define ds) = defines_woven affected ds
section_woven affected (constants xs) = refl
section_woven affected (assign xs) = assigns_woven affected xs
section_woven affected (init e) = refl
section_woven affected (invar e) = refl
section_woven affected (trans e) = refl

pub sections_woven : (affected : Text → Bool) (ss ts : List SectionTree) →
    flat_map items_of_section (map (woven_section affected) ss ++ ts) ≡ map (woven_item affected) (flat_map items_of_section ss) ++ flat_map items_of_section ts
sections_woven affected [] ts = refl
sections_woven affected (s ∷ ss) ts =
    (λ j. section_woven affected s j ++ sections_woven affected ss ts j)
    ∙ sym (append_assoc (map (woven_item affected) (items_of_section s)) (map (woven_item affected) (flat_map items_of_section ss)) (flat_map items_of_section ts))
    ∙ ap (λ is. is ++ flat_map items_of_section ts) (sym (map_joined (woven_item affected) (items_of_section s) (flat_map items_of_section ss)))

-- the items that the slices of a module add
abbrev pub added_items : InstructionTree → ModuleTree → List Item
added_items i m = flat_map items_of_section (added_sections i m)

pub woven_items : (i : InstructionTree) (m : ModuleTree) → items_of (woven_module i m) ≡ map (woven_item (is_affected i m.name)) (items_of m) ++ added_items i m
woven_items i m = sections_woven (is_affected i m.name) m.sections (added_sections i m)

-- the items of a slice
abbrev pub slice_items : ModuleTree → SliceTree → List Item
slice_items m s = flat_map items_of_section (slice_sections m s)

slices_flat : (m : ModuleTree) (ss : List SliceTree) → flat_map items_of_section (flat_map (slice_sections m) ss) ≡ flat_map (slice_items m) ss
slices_flat m [] = refl
slices_flat m (s ∷ ss) = flat_map-append items_of_section (slice_sections m s) (flat_map (slice_sections m) ss) ∙ ap (λ is. slice_items m s ++ is) (slices_flat m ss)

pub added_flat : (i : InstructionTree) (m : ModuleTree) → added_items i m ≡ flat_map (slice_items m) (slices_of i m.name)
added_flat i m = slices_flat m (slices_of i m.name)

-- the declarations and the assignments of a slice
abbrev pub own_declared : ModuleTree → SliceTree → Item
own_declared m s = a_declaration state (record { name = own_name s.target; what = type_of_kind (kind_in m s.target) })

abbrev pub mode_declared : SliceTree → Item
mode_declared s = a_declaration state (record { name = mode_variable s.name; what = mode_type s })

abbrev pub mode_starts : SliceTree → Item
mode_starts s = an_assignment (record { when = First; target = mode_variable s.name ∷ []; value = start_tree s.name s.start s.modes })

abbrev pub mode_moves : SliceTree → Item
mode_moves s = an_assignment (record { when = After; target = mode_variable s.name ∷ []; value = moves_tree s })

abbrev pub value_read : ModuleTree → SliceTree → Item
value_read m s = an_assignment (record { when = Always; target = s.target ∷ []; value = read_tree (type_of_kind (kind_in m s.target)) s })

-- what holds of each rule that a mode may add
pub record OfRules (P : Item → Type 0) (slice mode x : Text) : Type 0 where
  pub differs : P (an_invar (erroneous_rule slice mode x))
  pub stays : P (a_trans (frozen_rule slice mode x))
  pub picked : P (a_trans (pick_rule slice mode x))
  pub ramps : (d f : ℤ) → P (a_trans (ramp_rule d f slice mode x))
  pub stays_first : P (an_init (frozen_first slice mode x))
  pub ramps_first : (d f : ℤ) → P (an_init (ramp_first d f slice mode x))

of_rule : (P : Item → Type 0) (slice mode x : Text) → OfRules P slice mode x → (r : Option EffectRule) → Each P (flat_map items_of_section (rule_trees r slice mode x))
of_rule P slice mode x h None = tt
of_rule P slice mode x h (Some NotOwn) = (h.differs, tt)
of_rule P slice mode x h (Some AsBefore) = (h.stays, tt)
of_rule P slice mode x h (Some AsEntered) = (h.picked, tt)
of_rule P slice mode x h (Some (Falling d f)) = (h.ramps d f, tt)

of_first : (P : Item → Type 0) (slice mode x : Text) → OfRules P slice mode x → (r : Option EffectRule) → Each P (flat_map items_of_section (first_trees r slice mode x))
of_first P slice mode x h None = tt
of_first P slice mode x h (Some NotOwn) = tt
of_first P slice mode x h (Some AsBefore) = (h.stays_first, tt)
of_first P slice mode x h (Some AsEntered) = tt
of_first P slice mode x h (Some (Falling d f)) = (h.ramps_first d f, tt)

of_start : (P : Item → Type 0) (slice mode x : Text) → OfRules P slice mode x → (start : Start) (e : EffectTree) → Each P (flat_map items_of_section (start_rules start e slice mode x))
of_start P slice mode x h Nominal e = tt
of_start P slice mode x h Any e = of_first P slice mode x h (rule_of e)

of_mode : (P : Item → Type 0) (slice mode x : Text) → OfRules P slice mode x → (start : Start) (e : EffectTree) → Each P (flat_map items_of_section (mode_rules start e slice mode x))
of_mode P slice mode x h start e =
    subst (Each P) (sym (flat_map-append items_of_section (rules e slice mode x) (start_rules start e slice mode x)))
    (each_join P (flat_map items_of_section (rules e slice mode x)) (flat_map items_of_section (start_rules start e slice mode x)) (of_rule P slice mode x h (rule_of e)) (of_start P slice mode x h start e))

of_modes : (P : Item → Type 0) (start : Start) (slice x : Text) (ms : List ModeTree) → ((m : ModeTree) → Among ms m → OfRules P slice m.name x) →
    Each P (flat_map items_of_section (flat_map (λ m. mode_rules start m.effect slice m.name x) ms))
of_modes P start slice x [] h = tt
of_modes P start slice x (m ∷ ms) h =
    subst (Each P) (sym (flat_map-append items_of_section (mode_rules start m.effect slice m.name x) (flat_map (λ m. mode_rules start m.effect slice m.name x) ms)))
    (each_join P (flat_map items_of_section (mode_rules start m.effect slice m.name x)) (flat_map items_of_section (flat_map (λ m. mode_rules start m.effect slice m.name x) ms))
    (of_mode P slice m.name x (h m (inl refl)) start m.effect) (of_modes P start slice x ms (λ n a. h n (inr a))))

-- what holds of each item of a slice
pub record OfSlice (P : Item → Type 0) (m : ModuleTree) (s : SliceTree) : Type 0 where
  pub own : P (own_declared m s)
  pub mode : P (mode_declared s)
  pub starts : P (mode_starts s)
  pub moves : P (mode_moves s)
  pub read : P (value_read m s)
  pub each_rule : (n : ModeTree) → Among s.modes n → OfRules P s.name n.name s.target

of_slice : (P : Item → Type 0) (m : ModuleTree) (s : SliceTree) → OfSlice P m s → Each P (slice_items m s)
of_slice P m s h = (h.own, (h.mode, (h.starts, (h.moves, (h.read, of_modes P s.start s.name s.target s.modes h.each_rule)))))

pub of_slices : (P : Item → Type 0) (m : ModuleTree) (ss : List SliceTree) → ((s : SliceTree) → Among ss s → OfSlice P m s) → Each P (flat_map (slice_items m) ss)
of_slices P m [] h = tt
of_slices P m (s ∷ ss) h = each_join P (slice_items m s) (flat_map (slice_items m) ss) (of_slice P m s (h s (inl refl))) (of_slices P m ss (λ t a. h t (inr a)))

-- the rules of a slice neither declare nor assign
nothing_flat : {A B : Type 0} (g : A → List B) (xs : List A) → Each (λ x. g x ≡ []) xs → flat_map g xs ≡ []
nothing_flat g [] h = refl
nothing_flat g (x ∷ xs) h = λ j. h.0 j ++ nothing_flat g xs h.1 j

pub slice_rules_nothing : {A : Type 0} (g : Item → List A) (s : SliceTree) → ((e : Formula) → g (an_invar e) ≡ []) → ((e : Formula) → g (a_trans e) ≡ []) → ((e : Formula) → g (an_init e) ≡ []) →
    flat_map g (flat_map items_of_section (slice_rules s)) ≡ []
slice_rules_nothing g s h k first =
    nothing_flat g (flat_map items_of_section (slice_rules s))
    (of_modes (λ item. g item ≡ []) s.start s.name s.target s.modes
    (λ m a. record { differs = h _; stays = k _; picked = k _; ramps = λ d f. k _; stays_first = first _; ramps_first = λ d f. first _ }))

-- what is taken from the items of a woven module
pub taken_woven : {A : Type 0} (g : Item → List A) (i : InstructionTree) (m : ModuleTree) →
    flat_map g (items_of (woven_module i m)) ≡ flat_map g (map (woven_item (is_affected i m.name)) (items_of m)) ++ flat_map g (flat_map (slice_items m) (slices_of i m.name))
taken_woven g i m =
    ap (flat_map g) (woven_items i m) ∙ flat_map-append g (map (woven_item (is_affected i m.name)) (items_of m)) (added_items i m)
    ∙ ap (λ is. flat_map g (map (woven_item (is_affected i m.name)) (items_of m)) ++ flat_map g is) (added_flat i m)

-- the items of the module of a name
pub items_numbered : (q : ProgramTree) (n : ℕ) (before : List ModuleTree) (x : Text) (m : ModuleTree) → find_module q x ≡ Some m →
    (k : ℕ) × (items_found (modules_from n before q) x ≡ numbered_from k [] (items_of m))
items_numbered [] n before x m e = cc
items_numbered (first ∷ more) n before x m e = by_name (same_text first.name x) refl (λ found. items_numbered more (n + suc (length (items_of first))) (before ++ first ∷ []) x m found)
  where
    by_name : (b : Bool) → same_text first.name x ≡ b →
        (find_module more x ≡ Some m → (k : ℕ) × (items_found (modules_from (n + suc (length (items_of first))) (before ++ first ∷ []) more) x ≡ numbered_from k [] (items_of m))) →
        (k : ℕ) × (items_found (modules_from n before (first ∷ more)) x ≡ numbered_from k [] (items_of m))
    by_name true t rest =
        let found : Some first ≡ Some m = rw t at e in
        let same : first ≡ m = cc in (suc n, rw t (ap (λ (k : ModuleTree). numbered_from (suc n) [] (items_of k)) same))
    by_name false t rest = let found = rest (rw t at e) in (found.0, rw t found.1)

pub items_none : (q : ProgramTree) (n : ℕ) (before : List ModuleTree) (x : Text) → find_module q x ≡ None → items_found (modules_from n before q) x ≡ []
items_none [] n before x e = refl
items_none (first ∷ more) n before x e = by_name (same_text first.name x) refl (λ found. items_none more (n + suc (length (items_of first))) (before ++ first ∷ []) x found)
  where
    by_name : (b : Bool) → same_text first.name x ≡ b → (find_module more x ≡ None → items_found (modules_from (n + suc (length (items_of first))) (before ++ first ∷ []) more) x ≡ []) →
        items_found (modules_from n before (first ∷ more)) x ≡ []
    by_name true t rest = let found : Some first ≡ None = rw t at e in cc
    by_name false t rest = rw t (rest (rw t at e))
