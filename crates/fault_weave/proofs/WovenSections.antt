-- What the sections of a module say in the woven program, and what they say of read and own values.
use Rattle.std.proofs.Common.{◌≡◌, ◌↔◌, ℕ, suc, Bool, true, false, [], ◌∷◌, Some, refl, sym, ◌∙◌, subst}
use Rattle.std.specs.Prelude.{if◌then◌else◌}
use Rattle.smv_language.specs.declared.program.Moment.{Moment as When}
use Rattle.smv_language.specs.declared.program.Moment.TheVariants.{Always, First, After}
use Rattle.smv_language.specs.Language.{Text, Path, Formula, SectionTree, var, ivar, frozen, define, constants, assign, init, invar, trans, ModuleTree, ProgramTree, boolean, range, members, instance, DeclaredTree, Value, one, evaluate, Place, frozen_role, kind_declared, kind_in, a_variable, Valuation, name_values, Reading, reading, MayRead, May, Keeps, IsInstance, FirstAssigned, EachAssigned, NextAssigned, FirstSection, EachSection, StepSection}
use Rattle.smv_language.specs.Values.{truth}
use Rattle.smv_language.proofs.Monotone.{Extends, evaluate_below, name_values_more}
use Rattle.fault_instructions.specs.Instructions.{SliceTree, InstructionTree, slices_of, is_affected}
use Rattle.fault_weave.specs.ExtensionTraces as extended
use Rattle.fault_weave.specs.ExtensionTraces.{Moment, with_own, own_reading}
use Rattle.fault_instructions.specs.AddedNames.{own_name}
use Rattle.fault_weave.specs.Conservative.{IsSlice, IsCutMoment}
use Rattle.fault_weave.specs.WovenProgram.{rename, same_path, tree_map_both, woven_assignment, woven_section, woven}
use Rattle.fault_instructions.specs.Weavable.{Among, HasMeaning, IsReadable, IsLawfulTarget, IsLawfulAssignment, IsLawfulSection, IsWeavable, IsLawfulDecl}
use Rattle.fault_instructions.proofs.Equivalence.{iff_refl}
use Rattle.fault_instructions.proofs.AmongLaws.{each_iff, each_map, each_at}
use Rattle.fault_weave.proofs.Agreement.{evaluate_leaves, evaluate_map_both, values_agree, may_agree}
use Rattle.fault_weave.proofs.Added.{contains_among, affected_slice}
use Rattle.fault_weave.proofs.LeafValues.{slice_leaves}
use Rattle.smv_language.proofs.BoolLaws.{iff_trans}

module _ (p : ProgramTree) (i : InstructionTree) (ok : IsWeavable p i) where
  module _ (at : Place) (m : ModuleTree) (is : IsInstance p at m) where
    pub own_value : (v : Valuation) (mo : Moment) → IsCutMoment p i v mo → (x : Text) → is_affected i m.name x ≡ true → v at (own_name x) ≡ mo.own at x
    own_value v mo cut x h =
        let found : (s : SliceTree) × Among (slices_of i m.name) s × (s.target ≡ x) = affected_slice (slices_of i m.name) x h in
        subst (λ y. v at (own_name y) ≡ mo.own at y) found.2 (cut.own at found.0 (m, is, contains_among (slices_of i m.name) found.0 found.1))

    -- an expression with changed leaves, over readings that give what the changed leaves give
    may_renamed : (f g : Path → Path) (v v' : Valuation) (A B : Reading) → ((n : ℕ) → Extends (A n) (A (suc n))) → ((n : ℕ) → Extends (B n) (B (suc n))) →
        ((n : ℕ) (l : Path) → HasMeaning p at l → name_values (suc n) (woven p i) at v v' (f l) ≡ A (suc n) l) →
        ((n : ℕ) (l : Path) → HasMeaning p at l → name_values (suc n) (woven p i) at v' v' (g l) ≡ B (suc n) l) →
        (e : Formula) (x : Value) → IsReadable p at e → May (woven p i) at v v' (tree_map_both f g e) x ↔ MayRead A B e x
    may_renamed f g v v' A B more_A more_B same_A same_B e x readable = (
      (λ h. (
        suc h.0,
        h.1,
        sym (same h.0) ∙ evaluate_below (tree_map_both f g e) _ _ _ _ (name_values_more h.0 (woven p i) at v v') (name_values_more h.0 (woven p i) at v' v') h.1 h.2,
        h.3,
      )),
      (λ h. (suc h.0, h.1, same h.0 ∙ evaluate_below e _ _ _ _ (more_A h.0) (more_B h.0) h.1 h.2, h.3)),
    )
      where
        same : (n : ℕ) → evaluate (name_values (suc n) (woven p i) at v v') (name_values (suc n) (woven p i) at v' v') (tree_map_both f g e) ≡ evaluate (A (suc n)) (B (suc n)) e
        same n =
            evaluate_map_both f g e (name_values (suc n) (woven p i) at v v') (name_values (suc n) (woven p i) at v' v')
            ∙ evaluate_leaves (HasMeaning p at) e _ _ _ _ (same_A n) (same_B n) readable

    pub own_more : (own : Text → Value) (base : Reading) → ((n : ℕ) → Extends (base n) (base (suc n))) → (n : ℕ) →
        Extends (with_own (is_affected i m.name) own base n) (with_own (is_affected i m.name) own base (suc n))
    own_more own base more n [] vs h = more n [] vs h
    own_more own base more n (x ∷ y ∷ rest) vs h = more n (x ∷ y ∷ rest) vs h
    own_more own base more n (x ∷ []) vs h = go (is_affected i m.name x) h
      where
        go : (b : Bool) → (if b then Some (one (own x)) else base n (x ∷ [])) ≡ Some vs → (if b then Some (one (own x)) else base (suc n) (x ∷ [])) ≡ Some vs
        go true h = h
        go false h = more n (x ∷ []) vs h

    renamed_leaf : (v v' : Valuation) (mo mo' : Moment) → IsCutMoment p i v mo → IsCutMoment p i v' mo' → (n : ℕ) (l : Path) → HasMeaning p at l →
        name_values (suc n) (woven p i) at v v' (rename (is_affected i m.name) l) ≡ own_reading i m at mo (reading p at mo.read mo'.read) (suc n) l
    renamed_leaf v v' mo mo' cut cut' n [] h = values_agree p i ok (suc n) at v v' mo.read mo'.read cut.read cut'.read [] h
    renamed_leaf v v' mo mo' cut cut' n (x ∷ y ∷ rest) h = values_agree p i ok (suc n) at v v' mo.read mo'.read cut.read cut'.read (x ∷ y ∷ rest) h
    renamed_leaf v v' mo mo' cut cut' n (x ∷ []) h = go (is_affected i m.name x) refl
      where
        go : (b : Bool) → is_affected i m.name x ≡ b →
            name_values (suc n) (woven p i) at v v' (if b then own_name x ∷ [] else x ∷ []) ≡ (if b then Some (one (mo.own at x)) else name_values (suc n) p at mo.read mo'.read (x ∷ []))
        go true e =
            let found : (s : SliceTree) × Among (slices_of i m.name) s × (s.target ≡ x) = affected_slice (slices_of i m.name) x e in
            let there : IsSlice p i at found.0 = (m, is, contains_among (slices_of i m.name) found.0 found.1) in
            subst (λ y. name_values (suc n) (woven p i) at v v' (own_name y ∷ []) ≡ Some (one (mo.own at y))) found.2
            (slice_leaves p i ok n at m found.0 v v' (mo.own at found.0.target) (mo.mode at found.0.name) is found.1 (cut.own at found.0 there) (cut.mode at found.0 there)).own_leaf
        go false e = values_agree p i ok (suc n) at v v' mo.read mo'.read cut.read cut'.read (x ∷ []) h

    pub init_may : (v : Valuation) (mo : Moment) → IsCutMoment p i v mo → (e : Formula) (x : Value) → IsReadable p at e →
        May (woven p i) at v v (tree_map_both (rename (is_affected i m.name)) same_path e) x
        ↔ MayRead (own_reading i m at mo (reading p at mo.read mo.read)) (reading p at mo.read mo.read) e x
    init_may v mo cut e x readable =
        may_renamed (rename (is_affected i m.name)) same_path v v (own_reading i m at mo (reading p at mo.read mo.read)) (reading p at mo.read mo.read)
        (own_more (mo.own at) (reading p at mo.read mo.read) (λ n. name_values_more n p at mo.read mo.read)) (λ n. name_values_more n p at mo.read mo.read)
        (renamed_leaf v v mo mo cut cut) (λ n l h. values_agree p i ok (suc n) at v v mo.read mo.read cut.read cut.read l h) e x readable

    pub trans_may : (v v' : Valuation) (mo mo' : Moment) → IsCutMoment p i v mo → IsCutMoment p i v' mo' → (e : Formula) (x : Value) → IsReadable p at e →
        May (woven p i) at v v' (tree_map_both same_path (rename (is_affected i m.name)) e) x
        ↔ MayRead (reading p at mo.read mo'.read) (own_reading i m at mo' (reading p at mo'.read mo'.read)) e x
    trans_may v v' mo mo' cut cut' e x readable =
        may_renamed same_path (rename (is_affected i m.name)) v v' (reading p at mo.read mo'.read) (own_reading i m at mo' (reading p at mo'.read mo'.read))
        (λ n. name_values_more n p at mo.read mo'.read) (own_more (mo'.own at) (reading p at mo'.read mo'.read) (λ n. name_values_more n p at mo'.read mo'.read))
        (λ n l h. values_agree p i ok (suc n) at v v' mo.read mo'.read cut.read cut'.read l h) (renamed_leaf v' v' mo' mo' cut' cut') e x readable

    -- assignments: the value of the renamed target is that of the target
    assigned : (u v v' : Valuation) (mu mo mo' : Moment) → IsCutMoment p i u mu → IsCutMoment p i v mo → IsCutMoment p i v' mo' → (x : Text) (e : Formula) →
        IsLawfulTarget p at m (x ∷ []) → IsReadable p at e → (b : Bool) → is_affected i m.name x ≡ b →
        May (woven p i) at v v' e (if b then u at (own_name x) else u at x) ↔ May p at mo.read mo'.read e (if b then mu.own at x else mu.read at x)
    assigned u v v' mu mo mo' cut_u cut cut' x e target readable true q =
        subst (λ y. May (woven p i) at v v' e (u at (own_name x)) ↔ May p at mo.read mo'.read e y) (own_value u mu cut_u x q)
        (may_agree p i ok at v v' mo.read mo'.read cut.read cut'.read e (u at (own_name x)) readable)
    assigned u v v' mu mo mo' cut_u cut cut' x e target readable false q =
        subst (λ y. May (woven p i) at v v' e (u at x) ↔ May p at mo.read mo'.read e y) (cut_u.read at x target.0 target.1 (m, is, target.2))
        (may_agree p i ok at v v' mo.read mo'.read cut.read cut'.read e (u at x) readable)

    module _ (v : Valuation) (mo : Moment) (cut : IsCutMoment p i v mo) where
      first_assigned : (w : When) (target : Path) (e : Formula) → IsLawfulTarget p at m target → IsReadable p at e →
          FirstAssigned (woven p i) at v w (rename (is_affected i m.name) target) e ↔ extended.FirstAssigned p i at m mo w target e
      first_assigned First (x ∷ []) e target readable = go (is_affected i m.name x) refl
        where
          go : (b : Bool) → is_affected i m.name x ≡ b → FirstAssigned (woven p i) at v First (if b then own_name x ∷ [] else x ∷ []) e ↔ May p at mo.read mo.read e (if b then mo.own at x else mo.read at x)
          go true q = assigned v v v mo mo mo cut cut cut x e target readable true q
          go false q = assigned v v v mo mo mo cut cut cut x e target readable false q
      first_assigned First [] e target readable = iff_refl
      first_assigned First (x ∷ y ∷ rest) e target readable = iff_refl
      first_assigned Always target e lawful readable = iff_refl
      first_assigned After target e lawful readable = iff_refl

      each_assigned : (w : When) (target : Path) (e : Formula) → IsLawfulTarget p at m target → IsReadable p at e →
          EachAssigned (woven p i) at v w (rename (is_affected i m.name) target) e ↔ extended.EachAssigned p i at m mo w target e
      each_assigned Always (x ∷ []) e target readable = go (is_affected i m.name x) refl
        where
          go : (b : Bool) → is_affected i m.name x ≡ b → EachAssigned (woven p i) at v Always (if b then own_name x ∷ [] else x ∷ []) e ↔ May p at mo.read mo.read e (if b then mo.own at x else mo.read at x)
          go true q = assigned v v v mo mo mo cut cut cut x e target readable true q
          go false q = assigned v v v mo mo mo cut cut cut x e target readable false q
      each_assigned Always [] e target readable = iff_refl
      each_assigned Always (x ∷ y ∷ rest) e target readable = iff_refl
      each_assigned First target e lawful readable = iff_refl
      each_assigned After target e lawful readable = iff_refl

      pub section_first : (section : SectionTree) → IsLawfulSection p at m section → FirstSection (woven p i) at v (woven_section (is_affected i m.name) section) ↔ extended.FirstSection p i at m mo section
      section_first (init e) h = init_may v mo cut e (truth true) h
      section_first (assign list) h =
          iff_trans (each_map (λ a. FirstAssigned (woven p i) at v a.when a.target a.value) (woven_assignment (is_affected i m.name)) list)
          (each_iff _ _ list (λ a among. let good : IsLawfulAssignment p at m a = each_at (IsLawfulAssignment p at m) list a h among in first_assigned a.when a.target a.value good.0 good.1))
      section_first (var ds) h = iff_refl
      section_first (ivar ds) h = iff_refl
      section_first (frozen ds) h = iff_refl
      section_first (define ds) h = iff_refl
      section_first (constants xs) h = iff_refl
      section_first (invar e) h = iff_refl
      section_first (trans e) h = iff_refl

      pub section_each : (section : SectionTree) → IsLawfulSection p at m section → EachSection (woven p i) at v (woven_section (is_affected i m.name) section) ↔ extended.EachSection p i at m mo section
      section_each (invar e) h = may_agree p i ok at v v mo.read mo.read cut.read cut.read e (truth true) h
      section_each (assign list) h =
          iff_trans (each_map (λ a. EachAssigned (woven p i) at v a.when a.target a.value) (woven_assignment (is_affected i m.name)) list)
          (each_iff _ _ list (λ a among. let good : IsLawfulAssignment p at m a = each_at (IsLawfulAssignment p at m) list a h among in each_assigned a.when a.target a.value good.0 good.1))
      section_each (var ds) h = iff_refl
      section_each (ivar ds) h = iff_refl
      section_each (frozen ds) h = iff_refl
      section_each (define ds) h = iff_refl
      section_each (constants xs) h = iff_refl
      section_each (init e) h = iff_refl
      section_each (trans e) h = iff_refl

    module _ (v v' : Valuation) (mo mo' : Moment) (cut : IsCutMoment p i v mo) (cut' : IsCutMoment p i v' mo') where
      next_assigned : (w : When) (target : Path) (e : Formula) → IsLawfulTarget p at m target → IsReadable p at e →
          NextAssigned (woven p i) at v v' w (rename (is_affected i m.name) target) e ↔ extended.NextAssigned p i at m mo mo' w target e
      next_assigned After (x ∷ []) e target readable = go (is_affected i m.name x) refl
        where
          go : (b : Bool) → is_affected i m.name x ≡ b → NextAssigned (woven p i) at v v' After (if b then own_name x ∷ [] else x ∷ []) e ↔ May p at mo.read mo'.read e (if b then mo'.own at x else mo'.read at x)
          go true q = assigned v' v v' mo' mo mo' cut' cut cut' x e target readable true q
          go false q = assigned v' v v' mo' mo mo' cut' cut cut' x e target readable false q
      next_assigned After [] e target readable = iff_refl
      next_assigned After (x ∷ y ∷ rest) e target readable = iff_refl
      next_assigned First target e lawful readable = iff_refl
      next_assigned Always target e lawful readable = iff_refl

      frozen_same : (name : Text) (what : DeclaredTree) → kind_in m name ≡ kind_declared frozen_role what → Keeps v v' at name what ↔ Keeps mo.read mo'.read at name what
      frozen_same name what e = go what e
        where
          equal : (what : DeclaredTree) → kind_in m name ≡ a_variable frozen_role what → (v' at name ≡ v at name) ↔ (mo'.read at name ≡ mo.read at name)
          equal what e =
              let now : v at name ≡ mo.read at name = cut.read at name frozen_role what (m, is, e) in
              let next : v' at name ≡ mo'.read at name = cut'.read at name frozen_role what (m, is, e) in
              ((λ q. sym next ∙ q ∙ now), (λ q. next ∙ q ∙ sym now))

          go : (what : DeclaredTree) → kind_in m name ≡ kind_declared frozen_role what → Keeps v v' at name what ↔ Keeps mo.read mo'.read at name what
          go boolean e = equal boolean e
          go (range lo hi) e = equal (range lo hi) e
          go (members ms) e = equal (members ms) e
          go (instance n es) e = iff_refl

      pub section_step : (section : SectionTree) → IsLawfulSection p at m section → StepSection (woven p i) at v v' (woven_section (is_affected i m.name) section) ↔ extended.StepSection p i at m mo mo' section
      section_step (trans e) h = trans_may v v' mo mo' cut cut' e (truth true) h
      section_step (assign list) h =
          iff_trans (each_map (λ a. NextAssigned (woven p i) at v v' a.when a.target a.value) (woven_assignment (is_affected i m.name)) list)
          (each_iff _ _ list (λ a among. let good : IsLawfulAssignment p at m a = each_at (IsLawfulAssignment p at m) list a h among in next_assigned a.when a.target a.value good.0 good.1))
      section_step (frozen ds) h = each_iff _ _ ds (λ d among. frozen_same d.name d.what (each_at (IsLawfulDecl p at m frozen_role) ds d h among))
      section_step (var ds) h = iff_refl
      section_step (ivar ds) h = iff_refl
      section_step (define ds) h = iff_refl
      section_step (constants xs) h = iff_refl
      section_step (init e) h = iff_refl
      section_step (invar e) h = iff_refl
