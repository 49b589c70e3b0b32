-- The faultless extended traces, hidden, are the traces of the program; and the theorem.
use Rattle.std.proofs.Common.{◌≡◌, inl, ◌↔◌, ℕ, zero, suc, Bool, true, false, List, [], ◌∷◌, Some, None, refl, sym, ◌∙◌, ap, subst}
use Rattle.std.specs.Prelude.{map, if◌then◌else◌}
use Rattle.smv_language.specs.declared.program.Moment.{Moment as When}
use Rattle.smv_language.specs.declared.program.Moment.TheVariants.{Always, First, After}
use Rattle.smv_language.specs.Language.{Text, Path, Formula, DeclaredTree, boolean, range, members, instance, SectionTree, var, ivar, frozen, define, constants, assign, init, invar, trans, ModuleTree, ProgramTree, Value, one, evaluate, Place, Role, state, input, frozen_role, a_variable, kind_declared, kind_in, kind_at, module_at, means_in, Valuation, name_values, Reading, reading, MayRead, May, Keeps, Each, EachPair, AtFirst, IsInstance, Declares, FirstAssigned, EachAssigned, NextAssigned, FirstSection, EachSection, StepSection, DomainSection, IsFirst, IsMoment, IsStep, IsTrace, EachBoth}
use Rattle.smv_language.specs.Values.{truth}
use Rattle.smv_language.proofs.Monotone.{Extends, evaluate_below, name_values_more}
use Rattle.fault_instructions.specs.Instructions.{ModeTree, SliceTree, InstructionTree, slices_of, is_affected}
use Rattle.fault_instructions.specs.declared.instructions.Start.{Start}
use Rattle.fault_instructions.specs.declared.instructions.Start.TheVariants.{Nominal, Any}
use Rattle.fault_weave.specs.Moves.{Starts, Moves}
use Rattle.fault_weave.specs.ExtensionTraces as extended
use Rattle.fault_weave.specs.ExtensionTraces.{Moment, own_reading, target_value, FirstSlice, EachSlice, StepSlice, Effected, entered, IsExtended}
use Rattle.fault_weave.specs.Conservative.{IsSlice, IsFaultless, IsHidden, IsExtensionOf}
use Rattle.fault_weave.specs.WovenProgram.{woven}
use Rattle.fault_instructions.specs.Weavable.{Among, HasMeaning, IsReadable, IsLawfulTarget, IsLawfulAssignment, IsLawfulDecl, IsLawfulSection, IsWeavable}
use Rattle.fault_instructions.proofs.Equivalence.{iff_refl, iff_both}
use Rattle.fault_instructions.proofs.AmongLaws.{each_iff, each_at, each_all}
use Rattle.fault_weave.proofs.Agreement.{Agree, evaluate_leaves, sourced, meaning_same}
use Rattle.fault_weave.proofs.Added.{contains_among, among_contains, affected_slice}
use Rattle.fault_weave.proofs.LeafValues.{variable_leaf}
use Rattle.fault_weave.proofs.WovenSections.{own_more}
use Rattle.fault_weave.proofs.WovenMoments.{declares_same}
use Rattle.fault_weave.proofs.WovenTraces.{traces_iff}
use Rattle.fault_weave.proofs.WovenCuts.{cut_exists, whole_exists}
use Rattle.smv_language.proofs.BoolLaws.{iff_trans}

module _ (p : ProgramTree) (i : InstructionTree) (ok : IsWeavable p i) where
  -- names give the same under valuations that agree
  values_self : (n : ℕ) (at : Place) (v v' r r' : Valuation) → Agree p v r → Agree p v' r' → (name : Path) → name_values n p at v v' name ≡ name_values n p at r r' name
  values_self zero at v v' r r' a a' name = refl
  values_self (suc n) at v v' r r' a a' name =
      meaning_same p i ok (λ at' e. evaluate (name_values n p at' r r') (name_values n p at' r' r') e) (λ at' e. evaluate (name_values n p at' v v') (name_values n p at' v' v') e)
      v r (means_in (suc n) p at name) (sourced p i ok (suc n) at name) a
      (λ at' e good. evaluate_leaves (HasMeaning p at') e _ _ _ _ (λ l h. values_self n at' v v' r r' a a' l) (λ l h. values_self n at' v' v' r' r' a' a' l) good.0)

  -- readings that give the same at each depth but 0
  may_read_same : (A B A' B' : Reading) → ((n : ℕ) → Extends (A n) (A (suc n))) → ((n : ℕ) → Extends (B n) (B (suc n))) → ((n : ℕ) → Extends (A' n) (A' (suc n))) → ((n : ℕ) → Extends (B' n) (B' (suc n))) →
      ((n : ℕ) (l : Path) → A (suc n) l ≡ A' (suc n) l) → ((n : ℕ) (l : Path) → B (suc n) l ≡ B' (suc n) l) → (at : Place) (e : Formula) (x : Value) → IsReadable p at e → MayRead A B e x ↔ MayRead A' B' e x
  may_read_same A B A' B' mA mB mA' mB' sA sB at e x readable = (
    (λ h. (suc h.0, h.1, sym (same h.0) ∙ evaluate_below e _ _ _ _ (mA h.0) (mB h.0) h.1 h.2, h.3)),
    (λ h. (suc h.0, h.1, same h.0 ∙ evaluate_below e _ _ _ _ (mA' h.0) (mB' h.0) h.1 h.2, h.3)),
  )
    where
      same : (n : ℕ) → evaluate (A (suc n)) (B (suc n)) e ≡ evaluate (A' (suc n)) (B' (suc n)) e
      same n = evaluate_leaves (HasMeaning p at) e _ _ _ _ (λ l h. sA n l) (λ l h. sB n l) readable

  may_self : (at : Place) (v v' r r' : Valuation) → Agree p v r → Agree p v' r' → (e : Formula) (x : Value) → IsReadable p at e → May p at v v' e x ↔ May p at r r' e x
  may_self at v v' r r' a a' e x readable =
      may_read_same (reading p at v v') (reading p at v' v') (reading p at r r') (reading p at r' r')
      (λ n. name_values_more n p at v v') (λ n. name_values_more n p at v' v') (λ n. name_values_more n p at r r') (λ n. name_values_more n p at r' r')
      (λ n l. values_self (suc n) at v v' r r' a a' l) (λ n l. values_self (suc n) at v' v' r' r' a' a' l) at e x readable

  -- read and own values are the same
  abbrev pub Quiet : Moment → Type 0
  Quiet mo = (at : Place) (s : SliceTree) → IsSlice p i at s → (mo.mode at s.name ≡ None) × (mo.read at s.target ≡ mo.own at s.target)

  -- a quiet moment, as a valuation
  abbrev pub IsQuietOf : Moment → Valuation → Type 0
  IsQuietOf mo v = Quiet mo × Agree p v mo.read

  module _ (at : Place) (m : ModuleTree) (is : IsInstance p at m) where
    quiet_own : (mo : Moment) → Quiet mo → (x : Text) → is_affected i m.name x ≡ true → mo.own at x ≡ mo.read at x
    quiet_own mo q x h =
        let found : (s : SliceTree) × Among (slices_of i m.name) s × (s.target ≡ x) = affected_slice (slices_of i m.name) x h in
        subst (λ y. mo.own at y ≡ mo.read at y) found.2 (sym (q at found.0 (m, is, contains_among (slices_of i m.name) found.0 found.1)).1)

    affected_kind : (x : Text) → is_affected i m.name x ≡ true → (type : DeclaredTree) × (kind_in m x ≡ a_variable state type)
    affected_kind x h =
        let found : (s : SliceTree) × Among (slices_of i m.name) s × (s.target ≡ x) = affected_slice (slices_of i m.name) x h in
        ((ok.slices at m found.0 is found.1).type, subst (λ y. kind_in m y ≡ a_variable state (ok.slices at m found.0 is found.1).type) found.2 (ok.slices at m found.0 is found.1).target_kind)

    own_reading_quiet : (mo : Moment) (r' : Valuation) → Quiet mo → (n : ℕ) (l : Path) → name_values (suc n) p at mo.read r' l ≡ own_reading i m at mo (reading p at mo.read r') (suc n) l
    own_reading_quiet mo r' q n [] = refl
    own_reading_quiet mo r' q n (x ∷ y ∷ rest) = refl
    own_reading_quiet mo r' q n (x ∷ []) = go (is_affected i m.name x) refl
      where
        go : (b : Bool) → is_affected i m.name x ≡ b → name_values (suc n) p at mo.read r' (x ∷ []) ≡ (if b then Some (one (mo.own at x)) else name_values (suc n) p at mo.read r' (x ∷ []))
        go false e = refl
        go true e =
            let kind : (type : DeclaredTree) × (kind_in m x ≡ a_variable state type) = affected_kind x e in
            let here : kind_at (module_at p at) x ≡ a_variable state kind.0 = ap (λ o. kind_at o x) is ∙ kind.1 in
            variable_leaf n p at mo.read r' x state kind.0 here ∙ ap (λ y. Some (one y)) (sym (quiet_own mo q x e))

    target_quiet : (mo : Moment) → Quiet mo → (x : Text) → target_value i m at mo x ≡ mo.read at x
    target_quiet mo q x = go (is_affected i m.name x) refl
      where
        go : (b : Bool) → is_affected i m.name x ≡ b → (if b then mo.own at x else mo.read at x) ≡ mo.read at x
        go true e = quiet_own mo q x e
        go false e = refl

    assigned_quiet : (u v v' : Valuation) (mu mo mo' : Moment) → IsQuietOf mu u → Agree p v mo.read → Agree p v' mo'.read → (x : Text) (e : Formula) → IsLawfulTarget p at m (x ∷ []) → IsReadable p at e →
        May p at v v' e (u at x) ↔ May p at mo.read mo'.read e (target_value i m at mu x)
    assigned_quiet u v v' mu mo mo' q a a' x e target readable =
        subst (λ y. May p at v v' e (u at x) ↔ May p at mo.read mo'.read e y) (q.1 at x target.0 target.1 (m, is, target.2) ∙ sym (target_quiet mu q.0 x))
        (may_self at v v' mo.read mo'.read a a' e (u at x) readable)

    module _ (v : Valuation) (mo : Moment) (q : IsQuietOf mo v) where
      first_assigned : (w : When) (target : Path) (e : Formula) → IsLawfulTarget p at m target → IsReadable p at e → FirstAssigned p at v w target e ↔ extended.FirstAssigned p i at m mo w target e
      first_assigned First (x ∷ []) e target readable = assigned_quiet v v v mo mo mo q q.1 q.1 x e target readable
      first_assigned First [] e target readable = iff_refl
      first_assigned First (x ∷ y ∷ rest) e target readable = iff_refl
      first_assigned Always target e lawful readable = iff_refl
      first_assigned After target e lawful readable = iff_refl

      each_assigned : (w : When) (target : Path) (e : Formula) → IsLawfulTarget p at m target → IsReadable p at e → EachAssigned p at v w target e ↔ extended.EachAssigned p i at m mo w target e
      each_assigned Always (x ∷ []) e target readable = assigned_quiet v v v mo mo mo q q.1 q.1 x e target readable
      each_assigned Always [] e target readable = iff_refl
      each_assigned Always (x ∷ y ∷ rest) e target readable = iff_refl
      each_assigned First target e lawful readable = iff_refl
      each_assigned After target e lawful readable = iff_refl

      section_first : (section : SectionTree) → IsLawfulSection p at m section → FirstSection p at v section ↔ extended.FirstSection p i at m mo section
      section_first (init e) h =
          iff_trans (may_self at v v mo.read mo.read q.1 q.1 e (truth true) h)
          (may_read_same (reading p at mo.read mo.read) (reading p at mo.read mo.read) (own_reading i m at mo (reading p at mo.read mo.read)) (reading p at mo.read mo.read)
          (λ n. name_values_more n p at mo.read mo.read) (λ n. name_values_more n p at mo.read mo.read)
          (own_more p i ok at m is (mo.own at) (reading p at mo.read mo.read) (λ n. name_values_more n p at mo.read mo.read)) (λ n. name_values_more n p at mo.read mo.read)
          (own_reading_quiet mo mo.read q.0) (λ n l. refl) at e (truth true) h)
      section_first (assign list) h =
          each_iff _ _ list (λ a among. let good : IsLawfulAssignment p at m a = each_at (IsLawfulAssignment p at m) list a h among in first_assigned a.when a.target a.value good.0 good.1)
      section_first (var ds) h = iff_refl
      section_first (ivar ds) h = iff_refl
      section_first (frozen ds) h = iff_refl
      section_first (define ds) h = iff_refl
      section_first (constants xs) h = iff_refl
      section_first (invar e) h = iff_refl
      section_first (trans e) h = iff_refl

      section_each : (section : SectionTree) → IsLawfulSection p at m section → EachSection p at v section ↔ extended.EachSection p i at m mo section
      section_each (invar e) h = may_self at v v mo.read mo.read q.1 q.1 e (truth true) h
      section_each (assign list) h =
          each_iff _ _ list (λ a among. let good : IsLawfulAssignment p at m a = each_at (IsLawfulAssignment p at m) list a h among in each_assigned a.when a.target a.value good.0 good.1)
      section_each (var ds) h = iff_refl
      section_each (ivar ds) h = iff_refl
      section_each (frozen ds) h = iff_refl
      section_each (define ds) h = iff_refl
      section_each (constants xs) h = iff_refl
      section_each (init e) h = iff_refl
      section_each (trans e) h = iff_refl

      decl_domain : (role : Role) (name : Text) (what : DeclaredTree) → kind_in m name ≡ kind_declared role what → Declares v at name what ↔ extended.BothDeclared p i at m mo (record { name = name; what = what })
      decl_domain role name what e = go what e
        where
          both : (what : DeclaredTree) → v at name ≡ mo.read at name → Declares v at name what ↔ extended.BothDeclared p i at m mo (record { name = name; what = what })
          both what same = (
            (λ h. let read : Declares mo.read at name what = declares_same what v mo.read at name name same h in
                (read, λ a. declares_same what mo.read mo.own at name name (sym (quiet_own mo q.0 name a)) read)),
            (λ h. declares_same what mo.read v at name name (sym same) h.0),
          )

          go : (what : DeclaredTree) → kind_in m name ≡ kind_declared role what → Declares v at name what ↔ extended.BothDeclared p i at m mo (record { name = name; what = what })
          go boolean e = both boolean (q.1 at name role boolean (m, is, e))
          go (range lo hi) e = both (range lo hi) (q.1 at name role (range lo hi) (m, is, e))
          go (members ms) e = both (members ms) (q.1 at name role (members ms) (m, is, e))
          go (instance n es) e = ((λ h. (tt, λ a. tt)), (λ h. tt))

      section_domain : (section : SectionTree) → IsLawfulSection p at m section → DomainSection at v section ↔ extended.DomainSection p i at m mo section
      section_domain (var ds) h = each_iff _ _ ds (λ d a. decl_domain state d.name d.what (each_at (IsLawfulDecl p at m state) ds d h a))
      section_domain (ivar ds) h = each_iff _ _ ds (λ d a. decl_domain input d.name d.what (each_at (IsLawfulDecl p at m input) ds d h a))
      section_domain (frozen ds) h = each_iff _ _ ds (λ d a. decl_domain frozen_role d.name d.what (each_at (IsLawfulDecl p at m frozen_role) ds d h a))
      section_domain (define ds) h = iff_refl
      section_domain (constants xs) h = iff_refl
      section_domain (assign xs) h = iff_refl
      section_domain (init e) h = iff_refl
      section_domain (invar e) h = iff_refl
      section_domain (trans e) h = iff_refl

      -- each slice may start nominal, and then asks nothing more
      starts_nominal : (start : Start) (ms : List ModeTree) → Starts start ms None
      starts_nominal Nominal ms = refl
      starts_nominal Any ms = inl refl

      slice_quiet_first : (s : SliceTree) → Among (slices_of i m.name) s → FirstSlice p i at m mo s
      slice_quiet_first s a =
          let there : IsSlice p i at s = (m, is, contains_among (slices_of i m.name) s a) in (
            subst (Starts s.start s.modes) (sym (q.0 at s there).0) (starts_nominal s.start s.modes),
            subst (Effected p i at m mo s (mo.own at s.target) (λ n. true)) (sym (q.0 at s there).0) tt,
          )

    module _ (v v' : Valuation) (mo mo' : Moment) (q : IsQuietOf mo v) (q' : IsQuietOf mo' v') where
      next_assigned : (w : When) (target : Path) (e : Formula) → IsLawfulTarget p at m target → IsReadable p at e → NextAssigned p at v v' w target e ↔ extended.NextAssigned p i at m mo mo' w target e
      next_assigned After (x ∷ []) e target readable = assigned_quiet v' v v' mo' mo mo' q' q.1 q'.1 x e target readable
      next_assigned After [] e target readable = iff_refl
      next_assigned After (x ∷ y ∷ rest) e target readable = iff_refl
      next_assigned First target e lawful readable = iff_refl
      next_assigned Always target e lawful readable = iff_refl

      frozen_same : (name : Text) (what : DeclaredTree) → kind_in m name ≡ kind_declared frozen_role what → Keeps v v' at name what ↔ Keeps mo.read mo'.read at name what
      frozen_same name what e = go what e
        where
          equal : (what : DeclaredTree) → kind_in m name ≡ a_variable frozen_role what → (v' at name ≡ v at name) ↔ (mo'.read at name ≡ mo.read at name)
          equal what e =
              let now : v at name ≡ mo.read at name = q.1 at name frozen_role what (m, is, e) in
              let next : v' at name ≡ mo'.read at name = q'.1 at name frozen_role what (m, is, e) in
              ((λ q. sym next ∙ q ∙ now), (λ q. next ∙ q ∙ sym now))

          go : (what : DeclaredTree) → kind_in m name ≡ kind_declared frozen_role what → Keeps v v' at name what ↔ Keeps mo.read mo'.read at name what
          go boolean e = equal boolean e
          go (range lo hi) e = equal (range lo hi) e
          go (members ms) e = equal (members ms) e
          go (instance n es) e = iff_refl

      section_step : (section : SectionTree) → IsLawfulSection p at m section → StepSection p at v v' section ↔ extended.StepSection p i at m mo mo' section
      section_step (trans e) h =
          iff_trans (may_self at v v' mo.read mo'.read q.1 q'.1 e (truth true) h)
          (may_read_same (reading p at mo.read mo'.read) (reading p at mo'.read mo'.read) (reading p at mo.read mo'.read) (own_reading i m at mo' (reading p at mo'.read mo'.read))
          (λ n. name_values_more n p at mo.read mo'.read) (λ n. name_values_more n p at mo'.read mo'.read) (λ n. name_values_more n p at mo.read mo'.read)
          (own_more p i ok at m is (mo'.own at) (reading p at mo'.read mo'.read) (λ n. name_values_more n p at mo'.read mo'.read))
          (λ n l. refl) (own_reading_quiet mo' mo'.read q'.0) at e (truth true) h)
      section_step (assign list) h =
          each_iff _ _ list (λ a among. let good : IsLawfulAssignment p at m a = each_at (IsLawfulAssignment p at m) list a h among in next_assigned a.when a.target a.value good.0 good.1)
      section_step (frozen ds) h = each_iff _ _ ds (λ d among. frozen_same d.name d.what (each_at (IsLawfulDecl p at m frozen_role) ds d h among))
      section_step (var ds) h = iff_refl
      section_step (ivar ds) h = iff_refl
      section_step (define ds) h = iff_refl
      section_step (constants xs) h = iff_refl
      section_step (init e) h = iff_refl
      section_step (invar e) h = iff_refl

      -- where both moments are nominal a slice asks nothing of the step
      slice_quiet : (s : SliceTree) → Among (slices_of i m.name) s → StepSlice p i at m mo mo' s
      slice_quiet s a =
          let there : IsSlice p i at s = (m, is, contains_among (slices_of i m.name) s a) in (
            subst (λ t. Moves s.modes (λ g. May p at mo.read mo.read g (truth true)) t (mo'.mode at s.name)) (sym (q.0 at s there).0) (inl (q'.0 at s there).0),
            subst (Effected p i at m mo' s (mo.read at s.target) (entered p i at m (mo.mode at s.name))) (sym (q'.0 at s there).0) tt,
          )

  sections : (at : Place) (m : ModuleTree) → IsInstance p at m → (P Q : SectionTree → Type 0) → ((x : SectionTree) → IsLawfulSection p at m x → P x ↔ Q x) → Each P m.sections ↔ Each Q m.sections
  sections at m is P Q f = each_iff P Q m.sections (λ x a. f x (each_at (IsLawfulSection p at m) m.sections x (ok.instances at m is).sections a))

  quiet_first : (v : Valuation) (mo : Moment) → IsQuietOf mo v → IsFirst p v ↔ extended.IsFirst p i mo
  quiet_first v mo q = (
    (λ h at m is. (
      (sections at m is _ _ (section_first at m is v mo q)).0 (h at m is),
      each_all (FirstSlice p i at m mo) (slices_of i m.name) (slice_quiet_first at m is v mo q),
    )),
    (λ h at m is. (sections at m is _ _ (section_first at m is v mo q)).1 (h at m is).0),
  )

  quiet_moment : (v : Valuation) (mo : Moment) → IsQuietOf mo v → IsMoment p v ↔ extended.IsMoment p i mo
  quiet_moment v mo q = (
    (λ h at m is. (
      (sections at m is _ _ (section_domain at m is v mo q)).0 (h.0 at m is),
      (sections at m is _ _ (section_each at m is v mo q)).0 (h.1 at m is),
      each_all (EachSlice p i at m mo) (slices_of i m.name) (λ s a e. (q.0 at s (m, is, contains_among (slices_of i m.name) s a)).1),
    )),
    (λ h. ((λ at m is. (sections at m is _ _ (section_domain at m is v mo q)).1 (h at m is).0), (λ at m is. (sections at m is _ _ (section_each at m is v mo q)).1 (h at m is).1))),
  )

  quiet_step : (v v' : Valuation) (mo mo' : Moment) → IsQuietOf mo v → IsQuietOf mo' v' → IsStep p v v' ↔ extended.IsStep p i mo mo'
  quiet_step v v' mo mo' q q' = (
    (λ h at m is. ((sections at m is _ _ (section_step at m is v v' mo mo' q q')).0 (h at m is), each_all (StepSlice p i at m mo mo') (slices_of i m.name) (slice_quiet at m is v v' mo mo' q q'))),
    (λ h at m is. (sections at m is _ _ (section_step at m is v v' mo mo' q q')).1 (h at m is).0),
  )

  abbrev QuietAll : List Moment → List Valuation → Type 0
  QuietAll trace vs = EachBoth IsQuietOf trace vs

  quiet_moments : (trace : List Moment) (vs : List Valuation) → QuietAll trace vs → Each (IsMoment p) vs ↔ Each (extended.IsMoment p i) trace
  quiet_moments [] [] q = iff_refl
  quiet_moments [] (v ∷ vs) q = absurd q
  quiet_moments (mo ∷ trace) [] q = absurd q
  quiet_moments (mo ∷ trace) (v ∷ vs) q = iff_both (quiet_moment v mo q.0) (quiet_moments trace vs q.1)

  quiet_steps : (trace : List Moment) (vs : List Valuation) → QuietAll trace vs → EachPair (IsStep p) vs ↔ EachPair (extended.IsStep p i) trace
  quiet_steps [] [] q = iff_refl
  quiet_steps [] (v ∷ vs) q = absurd q
  quiet_steps (mo ∷ trace) [] q = absurd q
  quiet_steps (mo ∷ []) (v ∷ []) q = iff_refl
  quiet_steps (mo ∷ []) (v ∷ v' ∷ vs) q = absurd q.1
  quiet_steps (mo ∷ mo' ∷ trace) (v ∷ []) q = absurd q.1
  quiet_steps (mo ∷ mo' ∷ trace) (v ∷ v' ∷ vs) q = iff_both (quiet_step v v' mo mo' q.0 q.1.0) (quiet_steps (mo' ∷ trace) (v' ∷ vs) q.1)

  quiet_firsts : (trace : List Moment) (vs : List Valuation) → QuietAll trace vs → AtFirst (IsFirst p) vs ↔ AtFirst (extended.IsFirst p i) trace
  quiet_firsts [] [] q = iff_refl
  quiet_firsts [] (v ∷ vs) q = absurd q
  quiet_firsts (mo ∷ trace) [] q = absurd q
  quiet_firsts (mo ∷ trace) (v ∷ vs) q = quiet_first v mo q.0

  quiet_traces : (trace : List Moment) (vs : List Valuation) → QuietAll trace vs → IsTrace p vs ↔ IsExtended p i trace
  quiet_traces trace vs q = (
    (λ h. record { first = (quiet_firsts trace vs q).0 h.first; moments = (quiet_moments trace vs q).0 h.moments; steps = (quiet_steps trace vs q).0 h.steps }),
    (λ h. record { first = (quiet_firsts trace vs q).1 h.first; moments = (quiet_moments trace vs q).1 h.moments; steps = (quiet_steps trace vs q).1 h.steps }),
  )

  -- a valuation of the program, as a nominal moment
  abbrev nominal_of : Valuation → Moment
  nominal_of v = record { read = v; own = v; mode = λ at n. None }

  nominal_quiet : (vs : List Valuation) → QuietAll (map nominal_of vs) vs
  nominal_quiet [] = tt
  nominal_quiet (v ∷ vs) = (((λ at s is. (refl, refl)), (λ at x role type is. refl)), nominal_quiet vs)

  nominal_faultless : (vs : List Valuation) → IsFaultless p i (map nominal_of vs)
  nominal_faultless [] = tt
  nominal_faultless (v ∷ vs) = ((λ at s is. refl), nominal_faultless vs)

  nominal_hidden : (vs : List Valuation) → IsHidden p i (map nominal_of vs) vs
  nominal_hidden [] = tt
  nominal_hidden (v ∷ vs) = ((λ at x role type is. refl), nominal_hidden vs)

  hidden_quiet : (trace : List Moment) (vs : List Valuation) → Each (extended.IsMoment p i) trace → IsFaultless p i trace → IsHidden p i trace vs → QuietAll trace vs
  hidden_quiet [] [] good none hidden = tt
  hidden_quiet [] (v ∷ vs) good none hidden = absurd hidden
  hidden_quiet (mo ∷ trace) [] good none hidden = absurd hidden
  hidden_quiet (mo ∷ trace) (v ∷ vs) good none hidden = (
    ((λ at s is. (none.0 at s is, each_at (EachSlice p i at is.0 mo) (slices_of i is.0.name) s (good.0 at is.0 is.1).2 (among_contains (slices_of i is.0.name) s is.2) (none.0 at s is))), hidden.0),
    hidden_quiet trace vs good.1 none.1 hidden.1,
  )

  pub nominal_iff : (vs : List Valuation) → IsTrace p vs ↔ ((trace : List Moment) × IsExtended p i trace × IsFaultless p i trace × IsHidden p i trace vs)
  nominal_iff vs = (
    (λ h. (map nominal_of vs, (quiet_traces (map nominal_of vs) vs (nominal_quiet vs)).0 h, nominal_faultless vs, nominal_hidden vs)),
    (λ h. (quiet_traces h.0 vs (hidden_quiet h.0 vs h.1.moments h.2 h.3)).1 h.1),
  )

  -- THE THEOREM: the woven program is the extension of the program by the instructions
  pub woven_extends : IsExtensionOf p i (woven p i)
  woven_extends = record { traces = traces_iff p i ok; cut = cut_exists p i ok; whole = whole_exists p i ok; nominal = nominal_iff }
