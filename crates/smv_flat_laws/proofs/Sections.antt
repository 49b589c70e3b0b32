-- What the items of a module ask is what its sections ask, at every instance.
use Rattle.std.proofs.Common.{◌≡◌, ℕ, suc, ◌+◌, Bool, true, false, List, [], ◌∷◌, ◌++◌, Some, refl, sym, ◌∙◌, subst}
use Rattle.std.specs.Prelude.{slice_get, map, flat_map, ◌↔◌, length}
use Rattle.smv_language.specs.declared.program.Moment.{Moment}
use Rattle.smv_language.specs.declared.program.Moment.TheVariants.{Always, First, After}
use Rattle.smv_language.specs.Language.{Text, Path, Formula, DeclaredTree, boolean, range, members, instance, DeclTree, AssignmentTree, SectionTree, var, ivar, frozen, define, constants, assign, init, invar, trans, ModuleTree, ProgramTree, Place, state, input, frozen_role, find_module, Valuation, Keeps, Each, IsInstance, FirstAssigned, FirstSection, EachAssigned, EachSection, NextAssigned, StepSection, IsStep, FlatInstance, FlatModel, same_text}
use Rattle.smv_flat_laws.specs.Items.{Item, a_declaration, a_definition, an_assignment, NumberedItem, items_of_section, items_of, numbered_from, modules_from, items_found, items_named, instances_of}
use Rattle.smv_flat_laws.specs.Model.{Condition, kept_declared, assigned_first, assigned_each, assigned_step, first_conditions, each_conditions, step_conditions, kept_conditions, Written, written_at, conditions, IsFlatOf, IsFlattened}
use Rattle.smv_flat_laws.proofs.Reaches.{each_left, each_right}
use Rattle.smv_flat_laws.proofs.Conditions.{each_iff, each_join, each_flat, each_mapped, each_at, each_from, Asks, formulas_exactly}
use Rattle.smv_language.proofs.BoolLaws.{iff_trans}

-- the listed instances are those of the program
pub record AreInstances (p : ProgramTree) : Type 0 where
  pub real : (i : ℕ) (x : FlatInstance) → slice_get (instances_of p) i ≡ Some x →
      (m : ModuleTree) × IsInstance p x.place m × (find_module p x.module_name ≡ Some m)
  pub all : (at : Place) (m : ModuleTree) → IsInstance p at m → (i : ℕ) × (x : FlatInstance) × (slice_get (instances_of p) i ≡ Some x) × (x.place ≡ at)

-- an instance has one module
pub one_tree : (p : ProgramTree) (at : Place) (m k : ModuleTree) → IsInstance p at m → IsInstance p at k → m ≡ k
one_tree p at m k h g = let both : Some m ≡ Some k = sym h ∙ g in cc

-- numbers aside, the items are those of the module
each_numbered : (Q : Item → Type 0) (n : ℕ) (before items : List Item) → (Each (λ (i : NumberedItem). Q i.item) (numbered_from n before items) ↔ Each Q items)
each_numbered Q n before [] = ((λ h. tt), (λ h. tt))
each_numbered Q n before (i ∷ is) =
    ((λ h. (h.0, (each_numbered Q (suc n) (before ++ i ∷ []) is).0 h.1)), (λ h. (h.0, (each_numbered Q (suc n) (before ++ i ∷ []) is).1 h.1)))

pub items_are : (Q : Item → Type 0) (p : ProgramTree) (n : ℕ) (before : List ModuleTree) (x : Text) (m : ModuleTree) → find_module p x ≡ Some m →
    (Each (λ (i : NumberedItem). Q i.item) (items_found (modules_from n before p) x) ↔ Each Q (items_of m))
items_are Q [] n before x m e = (λ h. cc, λ h. cc)
items_are Q (first ∷ more) n before x m e = by_name (same_text first.name x) refl (λ found. items_are Q more (n + suc (length (items_of first))) (before ++ first ∷ []) x m found)
  where
    by_name : (b : Bool) → same_text first.name x ≡ b →
        (find_module more x ≡ Some m → (Each (λ (i : NumberedItem). Q i.item) (items_found (modules_from (n + suc (length (items_of first))) (before ++ first ∷ []) more) x) ↔ Each Q (items_of m))) →
        (Each (λ (i : NumberedItem). Q i.item) (items_found (modules_from n before (first ∷ more)) x) ↔ Each Q (items_of m))
    by_name true t rest =
        let found : Some first ≡ Some m = rw t at e in
        let same : first ≡ m = cc in
        rw t (subst (λ (k : ModuleTree). Each (λ (i : NumberedItem). Q i.item) (numbered_from (suc n) [] (items_of first)) ↔ Each Q (items_of k)) same (each_numbered Q (suc n) [] (items_of first)))
    by_name false t rest =
        let found : find_module more x ≡ Some m = rw t at e in
        rw t (rest found)

module _ (p : ProgramTree) (are : AreInstances p) where
  -- over the listed instances is over all instances
  at_instances : (C : Place → Item → Type 0) →
      (Each (λ (x : FlatInstance). Each (λ (i : NumberedItem). C x.place i.item) (items_named p x.module_name)) (instances_of p)
      ↔ ((at : Place) (m : ModuleTree) → IsInstance p at m → Each (C at) (items_of m)))
  at_instances C = (
    (λ h at m is. let l : (i : ℕ) × (x : FlatInstance) × (slice_get (instances_of p) i ≡ Some x) × (x.place ≡ at) = are.all at m is in
        let k : (k : ModuleTree) × IsInstance p l.1.place k × (find_module p l.1.module_name ≡ Some k) = are.real l.0 l.1 l.2 in
        let same : k.0 ≡ m = one_module k.0 m at l.1.place l.3 k.1 is in
        subst (λ a. Each (C a) (items_of m)) l.3 ((items_are (C l.1.place) p 1 [] l.1.module_name m (subst (λ q. find_module p l.1.module_name ≡ Some q) same k.2)).0
        (each_at (λ (x : FlatInstance). Each (λ (i : NumberedItem). C x.place i.item) (items_named p x.module_name)) (instances_of p) l.0 l.1 h l.2))),
    (λ h. each_from (λ (x : FlatInstance). Each (λ (i : NumberedItem). C x.place i.item) (items_named p x.module_name)) (instances_of p)
        (λ i x e. let k : (k : ModuleTree) × IsInstance p x.place k × (find_module p x.module_name ≡ Some k) = are.real i x e in
        (items_are (C x.place) p 1 [] x.module_name k.0 k.2).1 (h x.place k.0 k.1))),
  )
    where
      one_module : (k m : ModuleTree) (at bt : Place) → bt ≡ at → IsInstance p bt k → IsInstance p at m → k ≡ m
      one_module k m at bt e a b = let there : IsInstance p at k = subst (λ q. IsInstance p q k) e a in let both : Some k ≡ Some m = sym there ∙ b in cc

  -- the conditions of a kind, over all instances and items
  conditions_are : (what : Item → List Condition) (A : Place → Condition → Type 0) →
      (Each (λ (c : Written). A c.place c.condition) (conditions what p)
      ↔ ((at : Place) (m : ModuleTree) → IsInstance p at m → Each (λ i. Each (A at) (what i)) (items_of m)))
  conditions_are what A =
      iff_trans (each_flat (λ (c : Written). A c.place c.condition) (λ (x : FlatInstance). flat_map (written_at what x.place) (items_named p x.module_name)) (instances_of p))
      (iff_trans (each_iff (λ (x : FlatInstance). Each (λ (c : Written). A c.place c.condition) (flat_map (written_at what x.place) (items_named p x.module_name)))
      (λ (x : FlatInstance). Each (λ (i : NumberedItem). Each (A x.place) (what i.item)) (items_named p x.module_name)) (instances_of p)
      (λ x. iff_trans (each_flat (λ (c : Written). A c.place c.condition) (written_at what x.place) (items_named p x.module_name))
      (each_iff (λ (i : NumberedItem). Each (λ (c : Written). A c.place c.condition) (written_at what x.place i)) (λ (i : NumberedItem). Each (A x.place) (what i.item)) (items_named p x.module_name)
      (λ i. each_mapped (λ (c : Written). A c.place c.condition) (λ c. record { place = x.place; item = i.number; condition = c }) (what i.item)))))
      (at_instances (λ at i. Each (A at) (what i))))

  -- where none of a list's items asks anything
  nothing_asked : {T : Type 0} (A : Condition → Type 0) (what : Item → List Condition) (f : T → Item) (ts : List T) → ((t : T) → what (f t) ≡ []) → Each (λ i. Each A (what i)) (map f ts)
  nothing_asked A what f [] h = tt
  nothing_asked A what f (t ∷ ts) h = (subst (Each A) (sym (h t)) tt, nothing_asked A what f ts h)

  from_nothing : {B : Type 0} → B → (B ↔ Unit {0})
  from_nothing b = ((λ h. tt), (λ h. b))

  one_asked : {B : Type 0} → (((B × Unit {0}) × Unit {0}) ↔ B)
  one_asked = ((λ h. h.0.0), (λ b. ((b, tt), tt)))

  just_one : {B : Type 0} → ((B × Unit {0}) ↔ B)
  just_one = ((λ h. h.0), (λ b. (b, tt)))

  neutral : Unit {0} ↔ Unit {0}
  neutral = ((λ h. h), (λ h. h))

  first_assigned : (v : Valuation) (at : Place) (when : Moment) (target : Path) (e : Formula) → (Each (Asks p v v at) (assigned_first when target e) ↔ FirstAssigned p at v when target e)
  first_assigned v at First (x ∷ []) e = just_one
  first_assigned v at First [] e = neutral
  first_assigned v at First (x ∷ y ∷ more) e = neutral
  first_assigned v at Always target e = neutral
  first_assigned v at After target e = neutral

  each_assigned : (v : Valuation) (at : Place) (when : Moment) (target : Path) (e : Formula) → (Each (Asks p v v at) (assigned_each when target e) ↔ EachAssigned p at v when target e)
  each_assigned v at Always (x ∷ []) e = just_one
  each_assigned v at Always [] e = neutral
  each_assigned v at Always (x ∷ y ∷ more) e = neutral
  each_assigned v at First target e = neutral
  each_assigned v at After target e = neutral

  step_assigned : (v w : Valuation) (at : Place) (when : Moment) (target : Path) (e : Formula) → (Each (Asks p v w at) (assigned_step when target e) ↔ NextAssigned p at v w when target e)
  step_assigned v w at After (x ∷ []) e = just_one
  step_assigned v w at After [] e = neutral
  step_assigned v w at After (x ∷ y ∷ more) e = neutral
  step_assigned v w at First target e = neutral
  step_assigned v w at Always target e = neutral

  first_section : (v : Valuation) (at : Place) (s : SectionTree) → (Each (λ i. Each (Asks p v v at) (first_conditions i)) (items_of_section s) ↔ FirstSection p at v s)
  first_section v at (var ds) = from_nothing (nothing_asked (Asks p v v at) first_conditions (a_declaration state) ds (λ d. refl))
  first_section v at (ivar ds) = from_nothing (nothing_asked (Asks p v v at) first_conditions (a_declaration input) ds (λ d. refl))
  first_section v at (frozen ds) = from_nothing (nothing_asked (Asks p v v at) first_conditions (a_declaration frozen_role) ds (λ d. refl))
  first_section v at (define ds) = from_nothing (nothing_asked (Asks p v v at) first_conditions a_definition ds (λ d. refl))
  first_section v at (constants xs) = from_nothing (tt, tt)
  first_section v at (assign xs) =
      iff_trans (each_mapped (λ i. Each (Asks p v v at) (first_conditions i)) an_assignment xs)
      (each_iff (λ a. Each (Asks p v v at) (assigned_first a.when a.target a.value)) (λ a. FirstAssigned p at v a.when a.target a.value) xs (λ a. first_assigned v at a.when a.target a.value))
  first_section v at (init e) = one_asked
  first_section v at (invar e) = from_nothing (tt, tt)
  first_section v at (trans e) = from_nothing (tt, tt)

  each_section : (v : Valuation) (at : Place) (s : SectionTree) → (Each (λ i. Each (Asks p v v at) (each_conditions i)) (items_of_section s) ↔ EachSection p at v s)
  each_section v at (var ds) = from_nothing (nothing_asked (Asks p v v at) each_conditions (a_declaration state) ds (λ d. refl))
  each_section v at (ivar ds) = from_nothing (nothing_asked (Asks p v v at) each_conditions (a_declaration input) ds (λ d. refl))
  each_section v at (frozen ds) = from_nothing (nothing_asked (Asks p v v at) each_conditions (a_declaration frozen_role) ds (λ d. refl))
  each_section v at (define ds) = from_nothing (nothing_asked (Asks p v v at) each_conditions a_definition ds (λ d. refl))
  each_section v at (constants xs) = from_nothing (tt, tt)
  each_section v at (assign xs) =
      iff_trans (each_mapped (λ i. Each (Asks p v v at) (each_conditions i)) an_assignment xs)
      (each_iff (λ a. Each (Asks p v v at) (assigned_each a.when a.target a.value)) (λ a. EachAssigned p at v a.when a.target a.value) xs (λ a. each_assigned v at a.when a.target a.value))
  each_section v at (init e) = from_nothing (tt, tt)
  each_section v at (invar e) = one_asked
  each_section v at (trans e) = from_nothing (tt, tt)

  -- a frozen variable keeps its value, and an instance asks nothing
  declared_keeps : (v w : Valuation) (at : Place) (x : Text) (what : DeclaredTree) → (Each (Asks p v w at) (kept_declared x what) ↔ Keeps v w at x what)
  declared_keeps v w at x (instance m actuals) = ((λ h. tt), (λ h. tt))
  declared_keeps v w at x boolean = just_one
  declared_keeps v w at x (range lo hi) = just_one
  declared_keeps v w at x (members ms) = just_one

  -- a step's formulas and those of frozen variables
  abbrev SectionAsks : Valuation → Valuation → Place → SectionTree → Type 0
  SectionAsks v w at s = Each (λ i. Each (Asks p v w at) (step_conditions i)) (items_of_section s) × Each (λ i. Each (Asks p v w at) (kept_conditions i)) (items_of_section s)

  step_section : (v w : Valuation) (at : Place) (s : SectionTree) → (SectionAsks v w at s ↔ StepSection p at v w s)
  step_section v w at (var ds) =
      from_nothing (nothing_asked (Asks p v w at) step_conditions (a_declaration state) ds (λ d. refl), nothing_asked (Asks p v w at) kept_conditions (a_declaration state) ds (λ d. refl))
  step_section v w at (ivar ds) =
      from_nothing (nothing_asked (Asks p v w at) step_conditions (a_declaration input) ds (λ d. refl), nothing_asked (Asks p v w at) kept_conditions (a_declaration input) ds (λ d. refl))
  step_section v w at (frozen ds) =
      let kept_each : Each (λ i. Each (Asks p v w at) (kept_conditions i)) (map (a_declaration frozen_role) ds) ↔ Each (λ (d : DeclTree). Keeps v w at d.name d.what) ds =
      iff_trans (each_mapped (λ i. Each (Asks p v w at) (kept_conditions i)) (a_declaration frozen_role) ds)
      (each_iff (λ (d : DeclTree). Each (Asks p v w at) (kept_declared d.name d.what)) (λ (d : DeclTree). Keeps v w at d.name d.what) ds (λ d. declared_keeps v w at d.name d.what)) in
      ((λ h. kept_each.0 h.1), (λ h. (nothing_asked (Asks p v w at) step_conditions (a_declaration frozen_role) ds (λ d. refl), kept_each.1 h)))
  step_section v w at (define ds) =
      from_nothing (nothing_asked (Asks p v w at) step_conditions a_definition ds (λ d. refl), nothing_asked (Asks p v w at) kept_conditions a_definition ds (λ d. refl))
  step_section v w at (constants xs) = from_nothing ((tt, tt), (tt, tt))
  step_section v w at (assign xs) =
      let each_of : Each (λ i. Each (Asks p v w at) (step_conditions i)) (map an_assignment xs) ↔ Each (λ (a : AssignmentTree). NextAssigned p at v w a.when a.target a.value) xs =
      iff_trans (each_mapped (λ i. Each (Asks p v w at) (step_conditions i)) an_assignment xs)
      (each_iff (λ (a : AssignmentTree). Each (Asks p v w at) (assigned_step a.when a.target a.value)) (λ (a : AssignmentTree). NextAssigned p at v w a.when a.target a.value) xs (λ a. step_assigned v w at a.when a.target a.value)) in
      ((λ h. each_of.0 h.0), (λ h. (each_of.1 h, nothing_asked (Asks p v w at) kept_conditions an_assignment xs (λ d. refl))))
  step_section v w at (init e) = from_nothing ((tt, tt), (tt, tt))
  step_section v w at (invar e) = from_nothing ((tt, tt), (tt, tt))
  step_section v w at (trans e) = ((λ h. h.0.0.0), (λ h. (((h, tt), tt), (tt, tt))))

  -- item by item is section by section
  sections_are : (C : Place → Item → Type 0) (S : Place → SectionTree → Type 0) → ((at : Place) (s : SectionTree) → Each (C at) (items_of_section s) ↔ S at s) →
      (((at : Place) (m : ModuleTree) → IsInstance p at m → Each (C at) (items_of m)) ↔ ((at : Place) (m : ModuleTree) → IsInstance p at m → Each (S at) m.sections))
  sections_are C S h =
      ((λ g at m is. (at_module at m).0 (g at m is)), (λ g at m is. (at_module at m).1 (g at m is)))
    where
      at_module : (at : Place) (m : ModuleTree) → (Each (C at) (items_of m) ↔ Each (S at) m.sections)
      at_module at m = iff_trans (each_flat (C at) items_of_section m.sections) (each_iff (λ s. Each (C at) (items_of_section s)) (S at) m.sections (h at))

  two_each : {T : Type 0} (P Q R : T → Type 0) (ts : List T) → ((t : T) → (P t × Q t) ↔ R t) → ((Each P ts × Each Q ts) ↔ Each R ts)
  two_each P Q R [] h = ((λ g. tt), (λ g. (tt, tt)))
  two_each P Q R (t ∷ ts) h = (
    (λ g. ((h t).0 (g.0.0, g.1.0), (two_each P Q R ts h).0 (g.0.1, g.1.1))),
    (λ g. let a : P t × Q t = (h t).1 g.0 in let b : Each P ts × Each Q ts = (two_each P Q R ts h).1 g.1 in ((a.0, b.0), (a.1, b.1))),
  )

  steps_are : (v w : Valuation) →
      ((((at : Place) (m : ModuleTree) → IsInstance p at m → Each (λ i. Each (Asks p v w at) (step_conditions i)) (items_of m))
      × ((at : Place) (m : ModuleTree) → IsInstance p at m → Each (λ i. Each (Asks p v w at) (kept_conditions i)) (items_of m)))
      ↔ IsStep p v w)
  steps_are v w =
      ((λ g at m is. (at_module at m).0 (g.0 at m is, g.1 at m is)), (λ g. ((λ at m is. ((at_module at m).1 (g at m is)).0), (λ at m is. ((at_module at m).1 (g at m is)).1))))
    where
      at_module : (at : Place) (m : ModuleTree) →
          ((Each (λ i. Each (Asks p v w at) (step_conditions i)) (items_of m) × Each (λ i. Each (Asks p v w at) (kept_conditions i)) (items_of m)) ↔ Each (StepSection p at v w) m.sections)
      at_module at m =
          let a : Each (λ i. Each (Asks p v w at) (step_conditions i)) (items_of m) ↔ Each (λ s. Each (λ i. Each (Asks p v w at) (step_conditions i)) (items_of_section s)) m.sections =
          each_flat (λ i. Each (Asks p v w at) (step_conditions i)) items_of_section m.sections in
          let b : Each (λ i. Each (Asks p v w at) (kept_conditions i)) (items_of m) ↔ Each (λ s. Each (λ i. Each (Asks p v w at) (kept_conditions i)) (items_of_section s)) m.sections =
          each_flat (λ i. Each (Asks p v w at) (kept_conditions i)) items_of_section m.sections in
          iff_trans ((λ g. (a.0 g.0, b.0 g.1)), (λ g. (a.1 g.0, b.1 g.1)))
          (two_each (λ s. Each (λ i. Each (Asks p v w at) (step_conditions i)) (items_of_section s)) (λ s. Each (λ i. Each (Asks p v w at) (kept_conditions i)) (items_of_section s)) (StepSection p at v w) m.sections (step_section v w at))

  -- the law: the model's formulas hold exactly where the program's conditions do
  pub flattened : (m : FlatModel) → IsFlatOf p m → IsFlattened p m
  flattened m is = record {
    first = λ v named num.
        iff_trans (formulas_exactly p m is.written is.resolver is.sound is.definitions v v named named num num (conditions first_conditions p) m.at_first is.at_first)
        (iff_trans (conditions_are first_conditions (Asks p named named)) (sections_are (λ at i. Each (Asks p named named at) (first_conditions i)) (λ at. FirstSection p at named) (first_section named)));
    each = λ v named num.
        iff_trans (formulas_exactly p m is.written is.resolver is.sound is.definitions v v named named num num (conditions each_conditions p) m.at_each is.at_each)
        (iff_trans (conditions_are each_conditions (Asks p named named)) (sections_are (λ at i. Each (Asks p named named at) (each_conditions i)) (λ at. EachSection p at named) (each_section named)));
    step = λ v w now next num num'.
        iff_trans (formulas_exactly p m is.written is.resolver is.sound is.definitions v w now next num num' (conditions step_conditions p ++ conditions kept_conditions p) m.at_step is.at_step)
        (iff_trans (both now next) (steps_are now next));
  }
    where
      both : (now next : Valuation) →
          (Each (λ (c : Written). Asks p now next c.place c.condition) (conditions step_conditions p ++ conditions kept_conditions p)
          ↔ (((at : Place) (m : ModuleTree) → IsInstance p at m → Each (λ i. Each (Asks p now next at) (step_conditions i)) (items_of m))
          × ((at : Place) (m : ModuleTree) → IsInstance p at m → Each (λ i. Each (Asks p now next at) (kept_conditions i)) (items_of m))))
      both now next = (
        (λ h. (
          (conditions_are step_conditions (Asks p now next)).0 (each_left (λ (c : Written). Asks p now next c.place c.condition) (conditions step_conditions p) (conditions kept_conditions p) h),
          (conditions_are kept_conditions (Asks p now next)).0 (each_right (λ (c : Written). Asks p now next c.place c.condition) (conditions step_conditions p) (conditions kept_conditions p) h),
        )),
        (λ g. each_join (λ (c : Written). Asks p now next c.place c.condition) (conditions step_conditions p) (conditions kept_conditions p)
            ((conditions_are step_conditions (Asks p now next)).1 g.0) ((conditions_are kept_conditions (Asks p now next)).1 g.1)),
      )
