-- The rules on names at the items that a woven module has of its module.
use Rattle.std.proofs.Common.{◌≡◌, inl, inr, ℕ, suc, Bool, true, false, List, [], ◌∷◌, Option, Some, None, refl, sym, ◌∙◌, ap, subst}
use Rattle.std.specs.Prelude.{IsTrue, option_map, if◌then◌else◌}
use Rattle.smv_language.specs.declared.program.Moment.{Moment}
use Rattle.smv_language.specs.declared.program.Moment.TheVariants.{Always, First, After}
use Rattle.smv_language.specs.Language.{Text, Path, Formula, DeclaredTree, boolean, range, members, instance, ModuleTree, ProgramTree, IsType, Place, Role, state, Kind, a_formal, a_variable, an_instance, undeclared, kind_declared, kind_in, kind_at, module_at, find_module, plain_name, define_key, actual_key, AtSome, IsInstance}
use Rattle.smv_language.specs.Scope.{a_define}
use Rattle.smv_flat_laws.specs.Items.{Item, a_declaration, a_definition, an_assignment, some_constants, an_init, an_invar, a_trans}
use Rattle.smv_flat_laws.specs.NameResolution.{leaves_in}
use Rattle.smv_flat_laws.specs.Rules.{HasNoValue, SomeHasNoValue, ActualHasNoMeaning, BreaksNames, may_be_assigned, is_target, ActualLoops, LoopsInside, BreaksLoops, leaves_under, is_later, breaks_next, GivesInput, inputs_judged, BreaksInputs, BreaksTarget}
use Rattle.smv_flat_laws.proofs.Lists.{each_more}
use Rattle.fault_instructions.specs.Instructions.{SliceTree, InstructionTree, slices_of, is_affected}
use Rattle.fault_instructions.specs.AddedNames.{own_name}
use Rattle.fault_weave.specs.WovenProgram.{rename, same_path, tree_map_both, woven_module, woven}
use Rattle.fault_instructions.specs.KindTypes.{type_of_kind}
use Rattle.fault_instructions.specs.Weavable.{Among, IsWeavable}
use Rattle.fault_weave.proofs.WovenKinds.{find_woven}
use Rattle.fault_weave.proofs.Added.{affected_slice}
use Rattle.fault_weave.proofs.LeafValues.{own_variable}
use Rattle.fault_woven_laws.proofs.Orders.{none_some}
use Rattle.fault_woven_laws.proofs.WovenNamesItems.{woven_item}
use Rattle.fault_woven_laws.proofs.WovenNamesLeaves.{both_leaves, under_leaves, next_same, under_same}
use Rattle.fault_woven_laws.proofs.Looking.{Valued, Quiet, type_finite, Over, kind_over, nothing_back, comes_back, leads_back, still_valued, still_quiet, variable_valued, variable_quiet}
use Rattle.smv_language.proofs.EachLaws.{each_not}
use Rattle.smv_flat_laws.proofs.KindLaws.{not_assigned_none}

-- an item at an instance breaks no rule of names, whatever stands before it
pub record ItemKept (q : ProgramTree) (at : Place) (item : Item) : Type 0 where
  pub names : BreaksNames q at item → ⊥
  pub target : BreaksTarget q at item → ⊥
  pub loops : BreaksLoops q at item → ⊥
  pub next : IsTrue (breaks_next item) → ⊥
  pub inputs : BreaksInputs q at item → ⊥

-- a variable of the state may be assigned at any time
pub state_assigned : (when : Moment) (type : DeclaredTree) → may_be_assigned when (a_variable state type) ≡ true
state_assigned Always type = refl
state_assigned First type = refl
state_assigned After type = refl

over_assigned : (when : Moment) (k k' : Kind) → Over k k' → (may_be_assigned when k ≡ false → ⊥) → may_be_assigned when k' ≡ false → ⊥
over_assigned when (a_formal j) k' e fine h = fine (ap (may_be_assigned when) (sym e) ∙ h)
over_assigned when (a_variable role type) k' e fine h = fine (ap (may_be_assigned when) (sym e) ∙ h)
over_assigned when (a_define f) k' e fine h = fine (ap (may_be_assigned when) (sym e) ∙ h)
over_assigned when (an_instance n es) k' e fine h = fine (ap (may_be_assigned when) (sym e) ∙ h)
over_assigned when undeclared k' e fine h = fine (not_assigned_none when)

pub finite_kind : (type : DeclaredTree) → IsType type → kind_declared state type ≡ a_variable state type
finite_kind boolean h = refl
finite_kind (range lo hi) h = refl
finite_kind (members ms) h = refl
finite_kind (instance n es) h = absurd h

module _ (p : ProgramTree) (i : InstructionTree) (ok : IsWeavable p i) (at : Place) where
  -- the expressions of an item that the weave leaves as they are
  abbrev NoneValueless : ProgramTree → Formula → Type 0
  NoneValueless q e = SomeHasNoValue q at e → ⊥

  value_kept : (e : Formula) → NoneValueless p e → NoneValueless (woven p i) e
  value_kept e h = none_some (HasNoValue (woven p i) at) (leaves_in e) (each_more (Valued p at) (Valued (woven p i) at) (leaves_in e) (still_valued p i ok at) (each_not (HasNoValue p at) (leaves_in e) h))

  inputs_kept : (names : List Path) → (AtSome (GivesInput p at) names → ⊥) → AtSome (GivesInput (woven p i) at) names → ⊥
  inputs_kept names h = none_some (GivesInput (woven p i) at) names (each_more (Quiet p at) (Quiet (woven p i) at) names (still_quiet p i ok at) (each_not (GivesInput p at) names h))

  actual_kept : (e : Formula) (o : Option Path) → (ActualHasNoMeaning p at e o → ⊥) → ActualHasNoMeaning (woven p i) at e o → ⊥
  actual_kept e None h = value_kept e h
  actual_kept e (Some name) h = λ b. h (nothing_back p i ok at name b)

  actuals_kept : (es : List Formula) → (AtSome (λ e. ActualHasNoMeaning p at e (plain_name e)) es → ⊥) → AtSome (λ e. ActualHasNoMeaning (woven p i) at e (plain_name e)) es → ⊥
  actuals_kept [] h a = a
  actuals_kept (e ∷ es) h (inl b) = actual_kept e (plain_name e) (λ c. h (inl c)) b
  actuals_kept (e ∷ es) h (inr a) = actuals_kept es (λ c. h (inr c)) a

  -- no definition needs itself that did not
  loop_back : (inside : Place) (index : ℕ) (formal : Text) (o : Option Path) → ActualLoops (woven p i) inside index formal o → ActualLoops p inside index formal o
  loop_back inside index formal (Some name) h = comes_back p i ok inside formal h
  loop_back inside index formal None h = (h.0, leads_back p i ok (suc h.0) (actual_key inside index) (actual_key inside index) h.1)

  inside_back : (inside : Place) (actuals : List Formula) (o : Option ModuleTree) → LoopsInside (woven p i) inside actuals (option_map (woven_module i) o) → LoopsInside p inside actuals o
  inside_back inside actuals None h = h
  inside_back inside actuals (Some k) h =
      record { index = h.index; formal = h.formal; actual = h.actual; is_formal = h.is_formal; is_actual = h.is_actual; loops = loop_back inside h.index h.formal (plain_name h.actual) h.loops }

  declaration_kept : (role : Role) (name : Text) (what : DeclaredTree) → ItemKept p at (a_declaration role (record { name = name; what = what })) → ItemKept (woven p i) at (a_declaration role (record { name = name; what = what }))
  declaration_kept role name boolean h = record { names = h.names; target = h.target; loops = h.loops; next = h.next; inputs = h.inputs }
  declaration_kept role name (range lo hi) h = record { names = h.names; target = h.target; loops = h.loops; next = h.next; inputs = h.inputs }
  declaration_kept role name (members ms) h = record { names = h.names; target = h.target; loops = h.loops; next = h.next; inputs = h.inputs }
  declaration_kept role name (instance n actuals) h = record {
    names = actuals_kept actuals h.names;
    target = h.target;
    loops = λ b. h.loops (inside_back (name ∷ at) actuals (find_module p n) (subst (LoopsInside (woven p i) (name ∷ at) actuals) (find_woven p i n) b));
    next = h.next;
    inputs = h.inputs;
  }

  module _ (m : ModuleTree) (here : IsInstance p at m) where
    -- an affected variable has an own value, a variable of the state
    renamed_kind : (x : Text) → is_affected i m.name x ≡ true → kind_at (module_at (woven p i) at) (own_name x) ≡ a_variable state (type_of_kind (kind_in m x))
    renamed_kind x h =
        let s : (s : SliceTree) × Among (slices_of i m.name) s × (s.target ≡ x) = affected_slice (slices_of i m.name) x h in
        subst (λ y. kind_at (module_at (woven p i) at) (own_name y) ≡ a_variable state (type_of_kind (kind_in m y))) s.2
        (own_variable p i ok at m s.0 here s.1 ∙ finite_kind (type_of_kind (kind_in m s.0.target)) (type_finite m s.0.target))

    renamed : (R : Path → Type 0) (name : Path) → R name → ((x : Text) → is_affected i m.name x ≡ true → R (own_name x ∷ [])) → R (rename (is_affected i m.name) name)
    renamed R [] h k = h
    renamed R (x ∷ []) h k = by_test (is_affected i m.name x) refl
      where
        by_test : (b : Bool) → is_affected i m.name x ≡ b → R (if b then own_name x ∷ [] else x ∷ [])
        by_test true e = k x e
        by_test false e = h
    renamed R (x ∷ y ∷ name) h k = h

    renamed_valued : (name : Path) → Valued p at name → Valued (woven p i) at (rename (is_affected i m.name) name)
    renamed_valued name h = renamed (Valued (woven p i) at) name (still_valued p i ok at name h) (λ x e. variable_valued (woven p i) at (own_name x) (type_of_kind (kind_in m x)) (renamed_kind x e))

    renamed_quiet : (name : Path) → Quiet p at name → Quiet (woven p i) at (rename (is_affected i m.name) name)
    renamed_quiet name h = renamed (Quiet (woven p i) at) name (still_quiet p i ok at name h) (λ x e. variable_quiet (woven p i) at (own_name x) (type_of_kind (kind_in m x)) (renamed_kind x e))

    target_kept : (when : Moment) (target : Path) → (is_target p at when target ≡ false → ⊥) → is_target (woven p i) at when (rename (is_affected i m.name) target) ≡ false → ⊥
    target_kept when [] h b = h refl
    target_kept when (x ∷ y ∷ name) h b = h refl
    target_kept when (x ∷ []) h b = by_test (is_affected i m.name x) refl b
      where
        by_test : (b : Bool) → is_affected i m.name x ≡ b → is_target (woven p i) at when (if b then own_name x ∷ [] else x ∷ []) ≡ false → ⊥
        by_test true e c =
            let may : may_be_assigned when (kind_at (module_at (woven p i) at) (own_name x)) ≡ true = ap (may_be_assigned when) (renamed_kind x e) ∙ state_assigned when (type_of_kind (kind_in m x)) in
            let bad : true ≡ false = sym may ∙ c in cc
        by_test false e c = over_assigned when _ _ (kind_over p i ok at x) h c

    -- an item of the module, with affected variables renamed
    pub old_kept : (item : Item) → ItemKept p at item → ItemKept (woven p i) at (woven_item (is_affected i m.name) item)
    old_kept (a_declaration role d) h = declaration_kept role d.name d.what h
    old_kept (a_definition d) h = record {
      names = value_kept d.value h.names;
      target = h.target;
      loops = λ b. h.loops (b.0, leads_back p i ok (suc b.0) (define_key at d.name) (define_key at d.name) b.1);
      next = h.next;
      inputs = h.inputs;
    }
    old_kept (an_assignment a) h = record {
      names = value_kept a.value h.names;
      target = target_kept a.when a.target h.target;
      loops = h.loops;
      next = h.next;
      inputs = inputs_kept (inputs_judged (is_later a.when) a.value) h.inputs;
    }
    old_kept (some_constants xs) h = record { names = h.names; target = h.target; loops = h.loops; next = h.next; inputs = h.inputs }
    old_kept (an_init e) h = record {
      names = none_some (HasNoValue (woven p i) at) (leaves_in (tree_map_both (rename (is_affected i m.name)) same_path e))
          (both_leaves (Valued (woven p i) at) (rename (is_affected i m.name)) same_path e
          (each_more (Valued p at) _ (leaves_in e) (λ name k. (renamed_valued name k, still_valued p i ok at name k)) (each_not (HasNoValue p at) (leaves_in e) h.names)));
      target = h.target;
      loops = h.loops;
      next = λ b. h.next (sym (next_same (rename (is_affected i m.name)) same_path e) ∙ b);
      inputs = none_some (GivesInput (woven p i) at) (leaves_in (tree_map_both (rename (is_affected i m.name)) same_path e))
          (both_leaves (Quiet (woven p i) at) (rename (is_affected i m.name)) same_path e
          (each_more (Quiet p at) _ (leaves_in e) (λ name k. (renamed_quiet name k, still_quiet p i ok at name k)) (each_not (GivesInput p at) (leaves_in e) h.inputs)));
    }
    old_kept (an_invar e) h = record {
      names = value_kept e h.names;
      target = h.target;
      loops = h.loops;
      next = h.next;
      inputs = inputs_kept (leaves_in e) h.inputs;
    }
    old_kept (a_trans e) h = record {
      names = none_some (HasNoValue (woven p i) at) (leaves_in (tree_map_both same_path (rename (is_affected i m.name)) e))
          (both_leaves (Valued (woven p i) at) same_path (rename (is_affected i m.name)) e
          (each_more (Valued p at) _ (leaves_in e) (λ name k. (still_valued p i ok at name k, renamed_valued name k)) (each_not (HasNoValue p at) (leaves_in e) h.names)));
      target = h.target;
      loops = h.loops;
      next = λ b. h.next (sym (under_same same_path (rename (is_affected i m.name)) e) ∙ b);
      inputs = none_some (GivesInput (woven p i) at) (leaves_under (tree_map_both same_path (rename (is_affected i m.name)) e))
          (under_leaves (Quiet (woven p i) at) same_path (rename (is_affected i m.name)) e
          (each_more (Quiet p at) _ (leaves_under e) (λ name k. renamed_quiet name k) (each_not (GivesInput p at) (leaves_under e) h.inputs)));
    }
