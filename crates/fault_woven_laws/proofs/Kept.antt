-- The items of a program break no rule in the woven program's flat model.
use Rattle.std.proofs.Common.{◌≡◌, ◌⊎◌, inl, inr, ℕ, Bool, true, false, [], ◌∷◌, refl, sym, ap, ◌∙◌, subst}
use Rattle.std.specs.Prelude.{if◌then◌else◌}
use Rattle.smv_language.specs.declared.program.Moment.{Moment}
use Rattle.smv_language.specs.declared.program.Moment.TheVariants.{Always, First, After}
use Rattle.smv_language.specs.Language.{Tree, Text, Path, Formula, DeclaredTree, boolean, range, members, instance, ModuleTree, ProgramTree, IsType, Place, state, a_variable, kind_declared, kind_at as name_kind_at, module_at, Each, IsInstance, IsVariable, FlatLeaf, flat_variable, FlatModel}
use Rattle.fault_instructions.specs.Instructions.{SliceTree, InstructionTree, slices_of, is_affected}
use Rattle.fault_instructions.specs.AddedNames.{own_name}
use Rattle.fault_weave.specs.WovenProgram.{tree_map_both, rename, same_path, woven}
use Rattle.fault_instructions.specs.KindTypes.{type_of_kind}
use Rattle.fault_instructions.specs.Weavable.{Among, IsLawfulSlice, IsWeavable}
use Rattle.fault_weave.proofs.Added.{affected_slice}
use Rattle.fault_weave.proofs.LeafValues.{own_variable}
use Rattle.smv_flat_laws.specs.Items.{Item, a_declaration, a_definition, an_assignment, some_constants, an_init, an_invar, a_trans}
use Rattle.smv_flat_laws.specs.NameResolution.{IsResolved}
use Rattle.smv_flat_laws.specs.Rules.{IsWalkable}
use Rattle.smv_flat_laws.specs.Model.{Condition, plain, now_among, next_among, assigned_first, assigned_each, assigned_step, first_conditions, each_conditions, step_conditions, IsVariableNumber, IsFlatOf}
use Rattle.smv_type_laws.specs.ExpressionKinds.{Kind, Judged, judged_same}
use Rattle.smv_type_laws.specs.DeclaredKinds.{judged_declared}
use Rattle.smv_type_laws.specs.Models.{kind_of_leaf, judged_in, broken_condition}
use Rattle.smv_type_laws.proofs.Leaves.{kind_given, HasLeaf, resolved_judged, has_leaves, declared_so, variable_kind}
use Rattle.fault_woven_laws.proofs.Definitions.{variable_woven, same_kind, written_agrees}
use Rattle.smv_type_laws.proofs.StandFor.{variable_there}
use Rattle.fault_woven_laws.proofs.Items.{IsKeptAt, KeepsAt}
use Rattle.fault_woven_laws.proofs.Renamed.{name_variable, KeepsKinds, judge_both}
use Rattle.smv_type_laws.proofs.TraceLaws.{one_type}
use Rattle.fault_woven_laws.proofs.WovenNamesItems.{woven_item}

-- what is asked at first, at each moment and at each step
abbrev pub EachAsked : (Condition → Type 0) → Item → Type 0
EachAsked A item = Each A (first_conditions item) × Each A (each_conditions item) × Each A (step_conditions item)

module _ (p : ProgramTree) (i : InstructionTree) (ok : IsWeavable p i) where
  finite_kind : (type : DeclaredTree) → IsType type → kind_declared state type ≡ a_variable state type
  finite_kind boolean h = refl
  finite_kind (range lo hi) h = refl
  finite_kind (members ms) h = refl
  finite_kind (instance n es) h = absurd h

  -- the own value has the type of the variable
  pub own_kind_at : (at : Place) (k : ModuleTree) (s : SliceTree) (here : IsInstance p at k) (a : Among (slices_of i k.name) s) →
      name_kind_at (module_at (woven p i) at) (own_name s.target) ≡ a_variable state (ok.slices at k s here a).type
  own_kind_at at k s here a =
      let lawful : IsLawfulSlice p at k s = ok.slices at k s here a in
      own_variable p i ok at k s here a ∙ ap (λ c. kind_declared state (type_of_kind c)) lawful.target_kind ∙ finite_kind lawful.type lawful.finite

  pub target_kind_at : (at : Place) (k : ModuleTree) (s : SliceTree) (here : IsInstance p at k) (a : Among (slices_of i k.name) s) → name_kind_at (module_at p at) s.target ≡ a_variable state (ok.slices at k s here a).type
  target_kind_at at k s here a = ap (λ o. name_kind_at o s.target) here ∙ (ok.slices at k s here a).target_kind

  module _ (m w : FlatModel) (walkable : IsWalkable p) (also : IsWalkable (woven p i)) (is : IsFlatOf p m) (iw : IsFlatOf (woven p i) w) (at : Place) (k : ModuleTree) (here : IsInstance p at k) where
    abbrev before : Path → Kind
    before name = kind_given m (is.resolver at name)

    abbrev after : Path → Kind
    after name = kind_given w (iw.resolver at name)

    abbrev affected : Text → Bool
    affected = is_affected i k.name

    same_keeps : KeepsKinds before after (HasLeaf (is.resolver at)) (HasLeaf (iw.resolver at)) same_path
    same_keeps name h g = sym (same_kind p i ok m w walkable also is iw is.resolver iw.resolver is.sound iw.sound at name h g)

    -- a renamed occurrence has the kind of the variable
    rename_keeps : KeepsKinds before after (HasLeaf (is.resolver at)) (HasLeaf (iw.resolver at)) (rename affected)
    rename_keeps [] h g = same_keeps [] h g
    rename_keeps (x ∷ []) h g = by (affected x) refl g
      where
        by : (b : Bool) → affected x ≡ b → HasLeaf (iw.resolver at) (if b then own_name x ∷ [] else x ∷ []) → after (if b then own_name x ∷ [] else x ∷ []) ≡ before (x ∷ [])
        by true e g =
            let found : (s : SliceTree) × Among (slices_of i k.name) s × (s.target ≡ x) = affected_slice (slices_of i k.name) x e in
            let s = found.0 in
            let type = (ok.slices at k s here found.1).type in
            let own : name_kind_at (module_at (woven p i) at) (own_name x) ≡ a_variable state type =
            subst (λ y. name_kind_at (module_at (woven p i) at) (own_name y) ≡ a_variable state type) found.2 (own_kind_at at k s here found.1) in
            let target : name_kind_at (module_at p at) x ≡ a_variable state type = subst (λ y. name_kind_at (module_at p at) y ≡ a_variable state type) found.2 (target_kind_at at k s here found.1) in
            name_variable (woven p i) w also iw iw.resolver iw.sound at (own_name x) state type own g ∙ sym (name_variable p m walkable is is.resolver is.sound at x state type target h)
        by false e g = same_keeps (x ∷ []) h g
    rename_keeps (x ∷ y ∷ name) h g = same_keeps (x ∷ y ∷ name) h g

    -- a condition that is a formula
    changed_keeps : (f g : Path → Path) → KeepsKinds before after (HasLeaf (is.resolver at)) (HasLeaf (iw.resolver at)) f → KeepsKinds before after (HasLeaf (is.resolver at)) (HasLeaf (iw.resolver at)) g →
        (e : Formula) → IsKeptAt m is.resolver at (plain e) → KeepsAt w iw.resolver at (plain (tree_map_both f g e))
    changed_keeps f g u v e there flat resolved =
        ap broken_condition (resolved_judged w (iw.resolver at) (tree_map_both f g e) flat false resolved
        ∙ judge_both before after (HasLeaf (is.resolver at)) (HasLeaf (iw.resolver at)) f g u v false e (has_leaves (is.resolver at) e there.0 there.1) (has_leaves (iw.resolver at) (tree_map_both f g e) flat resolved)
        ∙ sym (resolved_judged m (is.resolver at) e there.0 false there.1)) ∙ there.2

    same_agrees : (e : Formula) (flat flat' : Tree FlatLeaf) (sets : Bool) → IsResolved (is.resolver at) e flat → IsResolved (iw.resolver at) e flat' → judged_in w sets flat' ≡ judged_in m sets flat
    same_agrees e flat flat' sets h g =
        resolved_judged w (iw.resolver at) e flat' sets g
        ∙ sym (written_agrees p i ok m w walkable also is iw is.resolver iw.resolver is.sound iw.sound at e flat sets h (has_leaves (iw.resolver at) e flat' g))

    plain_keeps : (e : Formula) → IsKeptAt m is.resolver at (plain e) → KeepsAt w iw.resolver at (plain e)
    plain_keeps e there flat resolved = ap broken_condition (same_agrees e there.0 flat false there.1 resolved) ∙ there.2

    -- the name stays, or is that of the own value
    abbrev IsTargetOf : Text → Text → Type 0
    IsTargetOf x x' = (x' ≡ x) ⊎ ((affected x ≡ true) × (x' ≡ own_name x))

    target_agrees : (x x' : Text) → IsTargetOf x x' → (j j' : ℕ) → IsVariableNumber m at x j → IsVariableNumber w at x' j' → kind_of_leaf w (flat_variable j') ≡ kind_of_leaf m (flat_variable j)
    target_agrees x x' t j j' n n' = by t
      where
        there : IsVariable p at x n.variable.role n.variable.declared
        there = subst (λ a. IsVariable p a x n.variable.role n.variable.declared) n.same_place (subst (λ y. IsVariable p n.variable.place y n.variable.role n.variable.declared) n.same_name (declared_so p m walkable is j n.variable n.is))

        first : kind_of_leaf m (flat_variable j) ≡ (judged_declared n.variable.declared).kind
        first = variable_kind p m walkable is at x n.variable.role n.variable.declared j there n

        by : (x' ≡ x) ⊎ ((affected x ≡ true) × (x' ≡ own_name x)) → kind_of_leaf w (flat_variable j') ≡ kind_of_leaf m (flat_variable j)
        by (inl e) =
            variable_kind (woven p i) w also iw at x n.variable.role n.variable.declared j' (variable_woven p i ok at x n.variable.role n.variable.declared there) (subst (λ y. IsVariableNumber w at y j') e n') ∙ sym first
        by (inr e) =
            let found : (s : SliceTree) × Among (slices_of i k.name) s × (s.target ≡ x) = affected_slice (slices_of i k.name) x e.0 in
            let s = found.0 in
            let type = (ok.slices at k s here found.1).type in
            let own : IsVariable (woven p i) at (own_name x) state type =
            subst (λ y. IsVariable (woven p i) at (own_name y) state type) found.2 (variable_there (woven p i) at (own_name s.target) state type (own_kind_at at k s here found.1)) in
            let target : IsVariable p at x state type = subst (λ y. IsVariable p at y state type) found.2 (variable_there p at s.target state type (target_kind_at at k s here found.1)) in
            variable_kind (woven p i) w also iw at (own_name x) state type j' own (subst (λ y. IsVariableNumber w at y j') e.1 n')
            ∙ ap (λ t. (judged_declared t).kind) (one_type p at x state n.variable.role type n.variable.declared target there) ∙ sym first

    alone : Kind → Judged
    alone kind = record { kind = kind; is_set = false; broken = [] }

    now_keeps : (x x' : Text) (e : Formula) → IsTargetOf x x' → IsKeptAt m is.resolver at (now_among x e) → KeepsAt w iw.resolver at (now_among x' e)
    unfolding alone
    now_keeps x x' e t there flat among =
        let old = there.1 in
        ap (λ f. broken_condition (judged_in w false f)) among.is
        ∙ (λ z. broken_condition (judged_same (alone (target_agrees x x' t old.number among.number old.is_number among.is_number z)) (same_agrees e old.value among.value true old.resolved among.resolved z)))
        ∙ ap (λ f. broken_condition (judged_in m false f)) (sym old.is) ∙ there.2

    next_keeps : (x x' : Text) (e : Formula) → IsTargetOf x x' → IsKeptAt m is.resolver at (next_among x e) → KeepsAt w iw.resolver at (next_among x' e)
    unfolding alone
    next_keeps x x' e t there flat among =
        let old = there.1 in
        ap (λ f. broken_condition (judged_in w false f)) among.is
        ∙ (λ z. broken_condition (judged_same (alone (target_agrees x x' t old.number among.number old.is_number among.is_number z)) (same_agrees e old.value among.value true old.resolved among.resolved z)))
        ∙ ap (λ f. broken_condition (judged_in m false f)) (sym old.is) ∙ there.2

    -- what an assignment asks: at first, always and at the next moment
    first_keeps : (when : Moment) (target : Path) (e : Formula) → Each (IsKeptAt m is.resolver at) (assigned_first when target e) → Each (KeepsAt w iw.resolver at) (assigned_first when (rename affected target) e)
    first_keeps Always [] e h = tt
    first_keeps Always (x ∷ []) e h = by (affected x)
      where
        by : (b : Bool) → Each (KeepsAt w iw.resolver at) (assigned_first Always (if b then own_name x ∷ [] else x ∷ []) e)
        by true = tt
        by false = tt
    first_keeps Always (x ∷ y ∷ more) e h = tt
    first_keeps First [] e h = tt
    first_keeps First (x ∷ []) e h = by (affected x) refl
      where
        by : (b : Bool) → affected x ≡ b → Each (KeepsAt w iw.resolver at) (assigned_first First (if b then own_name x ∷ [] else x ∷ []) e)
        by true t = (now_keeps x (own_name x) e (inr (t, refl)) h.0, tt)
        by false t = (now_keeps x x e (inl refl) h.0, tt)
    first_keeps First (x ∷ y ∷ more) e h = tt
    first_keeps After [] e h = tt
    first_keeps After (x ∷ []) e h = by (affected x)
      where
        by : (b : Bool) → Each (KeepsAt w iw.resolver at) (assigned_first After (if b then own_name x ∷ [] else x ∷ []) e)
        by true = tt
        by false = tt
    first_keeps After (x ∷ y ∷ more) e h = tt

    each_keeps : (when : Moment) (target : Path) (e : Formula) → Each (IsKeptAt m is.resolver at) (assigned_each when target e) → Each (KeepsAt w iw.resolver at) (assigned_each when (rename affected target) e)
    each_keeps Always [] e h = tt
    each_keeps Always (x ∷ []) e h = by (affected x) refl
      where
        by : (b : Bool) → affected x ≡ b → Each (KeepsAt w iw.resolver at) (assigned_each Always (if b then own_name x ∷ [] else x ∷ []) e)
        by true t = (now_keeps x (own_name x) e (inr (t, refl)) h.0, tt)
        by false t = (now_keeps x x e (inl refl) h.0, tt)
    each_keeps Always (x ∷ y ∷ more) e h = tt
    each_keeps First [] e h = tt
    each_keeps First (x ∷ []) e h = by (affected x)
      where
        by : (b : Bool) → Each (KeepsAt w iw.resolver at) (assigned_each First (if b then own_name x ∷ [] else x ∷ []) e)
        by true = tt
        by false = tt
    each_keeps First (x ∷ y ∷ more) e h = tt
    each_keeps After [] e h = tt
    each_keeps After (x ∷ []) e h = by (affected x)
      where
        by : (b : Bool) → Each (KeepsAt w iw.resolver at) (assigned_each After (if b then own_name x ∷ [] else x ∷ []) e)
        by true = tt
        by false = tt
    each_keeps After (x ∷ y ∷ more) e h = tt

    step_keeps : (when : Moment) (target : Path) (e : Formula) → Each (IsKeptAt m is.resolver at) (assigned_step when target e) → Each (KeepsAt w iw.resolver at) (assigned_step when (rename affected target) e)
    step_keeps Always [] e h = tt
    step_keeps Always (x ∷ []) e h = by (affected x)
      where
        by : (b : Bool) → Each (KeepsAt w iw.resolver at) (assigned_step Always (if b then own_name x ∷ [] else x ∷ []) e)
        by true = tt
        by false = tt
    step_keeps Always (x ∷ y ∷ more) e h = tt
    step_keeps First [] e h = tt
    step_keeps First (x ∷ []) e h = by (affected x)
      where
        by : (b : Bool) → Each (KeepsAt w iw.resolver at) (assigned_step First (if b then own_name x ∷ [] else x ∷ []) e)
        by true = tt
        by false = tt
    step_keeps First (x ∷ y ∷ more) e h = tt
    step_keeps After [] e h = tt
    step_keeps After (x ∷ []) e h = by (affected x) refl
      where
        by : (b : Bool) → affected x ≡ b → Each (KeepsAt w iw.resolver at) (assigned_step After (if b then own_name x ∷ [] else x ∷ []) e)
        by true t = (next_keeps x (own_name x) e (inr (t, refl)) h.0, tt)
        by false t = (next_keeps x x e (inl refl) h.0, tt)
    step_keeps After (x ∷ y ∷ more) e h = tt

    -- an item that breaks no rule breaks none when it is woven
    pub item_keeps : (item : Item) → EachAsked (IsKeptAt m is.resolver at) item → EachAsked (KeepsAt w iw.resolver at) (woven_item affected item)
    item_keeps (a_declaration role d) h = (tt, tt, tt)
    item_keeps (a_definition d) h = (tt, tt, tt)
    item_keeps (an_assignment a) h = (first_keeps a.when a.target a.value h.0, each_keeps a.when a.target a.value h.1, step_keeps a.when a.target a.value h.2)
    item_keeps (some_constants xs) h = (tt, tt, tt)
    item_keeps (an_init e) h = ((changed_keeps (rename affected) same_path rename_keeps same_keeps e h.0.0, tt), tt, tt)
    item_keeps (an_invar e) h = (tt, (plain_keeps e h.1.0, tt), tt)
    item_keeps (a_trans e) h = (tt, tt, (changed_keeps same_path (rename affected) same_keeps rename_keeps e h.2.0, tt))
