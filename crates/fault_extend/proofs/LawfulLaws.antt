-- The instances of a program that breaks no rule of names are such as the weave takes.
use Rattle.std.proofs.Common.{◌≡◌, ℕ, ◌+◌, false, List, [], ◌∷◌, ◌++◌, flat_map, Option, Some, None, refl, sym, ◌∙◌, ap, subst}
use Rattle.std.specs.Prelude.{slice_get}
use Rattle.smv_language.specs.declared.program.Moment.{Moment}
use Rattle.smv_language.specs.declared.program.Moment.TheVariants.{Always, First, After}
use Rattle.smv_language.specs.Language.{Tree, leaf, not_of, negate, next_of, binary, choice, case_of, set_of, span, Text, Path, Formula, DeclaredTree, instance, SectionTree, var, ivar, frozen, define, constants, assign, init, invar, trans, ModuleTree, ProgramTree, Place, Role, state, input, frozen_role, Kind, a_formal, a_variable, an_instance, undeclared, define_key, actual_key, kind_in, kind_at, plain_name, nth_formula, actual_of_kind, Each, IsInstance, EachBoth, FlatLeaf, FlatFormula, FlatModel}
use Rattle.smv_language.specs.Tree.{truth as is_truth, number as is_number}
use Rattle.smv_language.specs.Scope.{a_define}
use Rattle.fault_instructions.specs.Weavable.{NoNext, HasMeaning, IsReadable, IsLawfulTarget, IsLawfulAssignment, IsLawfulDecl, IsLawfulSection, IsLawfulInstance}
use Rattle.smv_flat_laws.specs.Looks.{ActualsMean}
use Rattle.smv_flat_laws.specs.Items.{Item, a_declaration, a_definition, an_assignment, some_constants, an_init, an_invar, a_trans, items_of_section, items_of}
use Rattle.smv_flat_laws.specs.NameResolution.{Definition, IsResolved, leaves_in}
use Rattle.smv_flat_laws.specs.Rules.{names_of_item, is_name_again, not_a_target, may_be_assigned, is_target, BreaksTarget, expression_of, expression_in, expression_of_kind, IsAccepted}
use Rattle.smv_flat_laws.specs.Model.{Condition, plain, now_among, next_among, kept, Written, conditions, first_conditions, each_conditions, step_conditions, kept_conditions, IsConditionTree, IsFormulaOf, Root, roots_of_type, roots_of, IsDefinitionOf, IsFlatOf}
use Rattle.smv_flat_laws.proofs.Conditions.{each_from}
use Rattle.smv_flat_laws.proofs.Lists.{each_more, each_of_map}
use Rattle.smv_flat_laws.proofs.Reaches.{each_left, each_right}
use Rattle.smv_flat_laws.proofs.Resolving.{Known, names_known, each_leaf}
use Rattle.smv_flat_laws.proofs.KindLaws.{DeclaredBy, kind_of_declaration}
use Rattle.smv_flat_laws.proofs.Places.{In, in_left}
use Rattle.smv_flat_laws.proofs.Variables.{both_at}
use Rattle.smv_flat_laws.proofs.Walkable.{accepted_walkable}
use Rattle.smv_flat_laws.proofs.Kept.{KeptItem, kept_at, declared_there}
use Rattle.smv_flat_laws.proofs.Listed.{root_written, ListedItem, listed_item, root_listed, condition_listed, DefinedBy, defined_there, actual_root}
use Rattle.smv_type_laws.proofs.ClosedLaws.{all_leaves}
use Rattle.fault_extend.proofs.JudgedModes.{no_next}
use Rattle.std.proofs.lemmas.Option.{some_pair_parts as both_parts}
use Rattle.std.proofs.Math.Nat.{zero-add}

module _ (p : ProgramTree) (accepted : IsAccepted p) (m : FlatModel) (is : IsFlatOf p m) (mean : ActualsMean p) where
  -- the names of a resolved expression mean something
  readable : (at : Place) (e : Formula) (flat : Tree FlatLeaf) → IsResolved (is.resolver at) e flat → IsReadable p at e
  readable at e flat h =
      all_leaves (HasMeaning p at) e (each_more (λ name. Known (λ l. Unit {0}) (is.resolver at name)) (HasMeaning p at) (leaves_in e)
      (λ name k. let l = is.sound at name k.found k.is in (l.0, l.1)) (names_known (λ l. Unit {0}) (is.resolver at) e flat h (each_leaf (leaves_in flat))))

  -- the expression of a definition is readable and has no `next`
  of_definition : (d : Definition) → In d is.written → IsReadable p d.place d.written × NoNext d.written
  of_definition d h = let f = is.definitions h.0 d h.1 in (readable d.place d.written f.0.value f.2, no_next d.written f.4)

  of_root : (r : Root) → In r (roots_of p) → (at : Place) (e : Formula) → expression_of p r.key ≡ Some (at, e) → IsReadable p at e × NoNext e
  of_root r h at e x =
      let d : (d : Definition) × In d is.written × (d.key ≡ r.key) = root_written p m is r h in
      let placed : (f : FlatFormula) × (slice_get m.definitions d.1.0 ≡ Some f) × IsDefinitionOf p m d.0 f = both_at (IsDefinitionOf p m) is.written m.definitions d.1.0 d.0 is.placed d.1.1 in
      let same = both_parts d.0.place at d.0.written e (sym placed.2.expression ∙ ap (expression_of p) d.2 ∙ x) in
      subst (λ a. IsReadable p a e × NoNext e) same.0 (subst (λ t. IsReadable p d.0.place t × NoNext t) same.1 (of_definition d.0 d.1))

  defines : (at : Place) (k : ModuleTree) → IsInstance p at k → (x : Text) (e : Formula) → kind_in k x ≡ a_define e → IsReadable p at e × NoNext e
  defines at k here x e kind =
      let by : DefinedBy (items_of k) x e = defined_there k x e kind in
      let l : ListedItem p at k (a_definition by.define) = listed_item p (accepted_walkable p accepted) at k here by.place (a_definition by.define) by.is in
      of_root (record { key = define_key at by.define.name; item = l.numbered.number }) (root_listed p at k (a_definition by.define) l _ (0, refl)) at e
      (ap (λ y. expression_of p (define_key at y)) by.name ∙ ap (λ o. expression_of_kind at (kind_at o x)) here ∙ ap (expression_of_kind at) kind)

  plain_leaf : (e : Formula) (name : Path) → plain_name e ≡ Some name → e ≡ leaf name
  plain_leaf (is_truth b) name h = cc
  plain_leaf (is_number n) name h = cc
  plain_leaf (leaf l) name h = let same : l ≡ name = cc in ap leaf same
  plain_leaf (not_of a) name h = cc
  plain_leaf (negate a) name h = cc
  plain_leaf (next_of a) name h = cc
  plain_leaf (binary o a b) name h = cc
  plain_leaf (choice c a b) name h = cc
  plain_leaf (case_of bs) name h = cc
  plain_leaf (set_of ts) name h = cc
  plain_leaf (span lo hi) name h = cc

  actuals : (at : Place) (k : ModuleTree) → IsInstance p at k → (x n : Text) (es : List Formula) (j : ℕ) (e : Formula) → kind_in k x ≡ an_instance n es → nth_formula es j ≡ Some e →
      IsReadable p at e × NoNext e
  actuals at k here x n es j e kind nth = by_plain (plain_name e) refl
    where
      by_plain : (o : Option Path) → plain_name e ≡ o → IsReadable p at e × NoNext e
      by_plain (Some name) q =
          let same : e ≡ leaf name = plain_leaf e name q in
          subst (λ t. IsReadable p at t × NoNext t) (sym same) (mean at k here x n es kind j name (nth ∙ ap Some same), tt)
      by_plain None q =
          let by : DeclaredBy (items_of k) x n es = declared_there k x n es kind in
          let item : Item = a_declaration by.role by.decl in
          let l : ListedItem p at k item = listed_item p (accepted_walkable p accepted) at k here by.place item by.is in
          let root : In (record { key = actual_key (x ∷ at) j; item = l.numbered.number }) (roots_of_type (x ∷ at) l.numbered.number (instance n es)) =
          subst (λ i. In (record { key = actual_key (x ∷ at) i; item = l.numbered.number }) (roots_of_type (x ∷ at) l.numbered.number (instance n es))) (zero-add j) (actual_root (x ∷ at) 0 l.numbered.number es j e nth q) in
          let listed : In (record { key = actual_key (x ∷ at) j; item = l.numbered.number }) (roots_of_type (by.decl.name ∷ at) l.numbered.number by.decl.what) =
          subst (λ y. In (record { key = actual_key (x ∷ at) j; item = l.numbered.number }) (roots_of_type (y ∷ at) l.numbered.number by.decl.what)) (sym by.name)
          (subst (λ t. In (record { key = actual_key (x ∷ at) j; item = l.numbered.number }) (roots_of_type (x ∷ at) l.numbered.number t)) (sym by.what) root) in
          of_root (record { key = actual_key (x ∷ at) j; item = l.numbered.number }) (root_listed p at k item l _ listed) at e
          (ap (λ o. expression_in at (actual_of_kind (kind_at o x) j)) here ∙ ap (λ t. expression_in at (actual_of_kind t j)) kind ∙ ap (expression_in at) nth)

  -- the expression of a condition
  abbrev expression_asked : Condition → Option Formula
  expression_asked (plain e) = Some e
  expression_asked (now_among x e) = Some e
  expression_asked (next_among x e) = Some e
  expression_asked (kept x) = None

  asked_readable : (at : Place) (c : Condition) (flat : Tree FlatLeaf) (e : Formula) → expression_asked c ≡ Some e → IsConditionTree m is.resolver at c flat → IsReadable p at e
  asked_readable at (plain f) flat e q h = let same : f ≡ e = cc in subst (IsReadable p at) same (readable at f flat h)
  asked_readable at (now_among x f) flat e q h = let same : f ≡ e = cc in subst (IsReadable p at) same (readable at f h.value h.resolved)
  asked_readable at (next_among x f) flat e q h = let same : f ≡ e = cc in subst (IsReadable p at) same (readable at f h.value h.resolved)
  asked_readable at (kept x) flat e q h = cc

  formula_readable : (ws : List Written) (fs : List FlatFormula) → EachBoth (IsFormulaOf m is.resolver) ws fs → (at : Place) (item : ℕ) (c : Condition) (e : Formula) →
      In (record { place = at; item = item; condition = c }) ws → expression_asked c ≡ Some e → IsReadable p at e
  formula_readable ws fs both at item c e h q =
      let f : (f : FlatFormula) × (slice_get fs h.0 ≡ Some f) × IsFormulaOf m is.resolver (record { place = at; item = item; condition = c }) f =
      both_at (IsFormulaOf m is.resolver) ws fs h.0 (record { place = at; item = item; condition = c }) both h.1 in
      asked_readable at c f.0.value e q f.2.tree

  -- what an item asks, whenever it asks it, is readable
  pub data Asks (item : Item) (e : Formula) : Type 0 where
    at_first : (c : Condition) → In c (first_conditions item) → expression_asked c ≡ Some e → Asks item e
    at_each : (c : Condition) → In c (each_conditions item) → expression_asked c ≡ Some e → Asks item e
    at_step : (c : Condition) → In c (step_conditions item) → expression_asked c ≡ Some e → Asks item e

  asks_readable : (at : Place) (k : ModuleTree) (item : Item) (l : ListedItem p at k item) (e : Formula) → Asks item e → IsReadable p at e
  asks_readable at k item l e (at_first c h q) = formula_readable (conditions first_conditions p) m.at_first is.at_first at l.numbered.number c e (condition_listed first_conditions p at k item l c h) q
  asks_readable at k item l e (at_each c h q) = formula_readable (conditions each_conditions p) m.at_each is.at_each at l.numbered.number c e (condition_listed each_conditions p at k item l c h) q
  asks_readable at k item l e (at_step c h q) =
      formula_readable (conditions step_conditions p ++ conditions kept_conditions p) m.at_step is.at_step at l.numbered.number c e
      (in_left _ (conditions step_conditions p) (conditions kept_conditions p) (condition_listed step_conditions p at k item l c h)) q

  -- Targets.
  assignable : (at : Place) (k : ModuleTree) → IsInstance p at k → (when : Moment) (x : Text) → (is_target p at when (x ∷ []) ≡ false → ⊥) → (role : Role) × (type : DeclaredTree) × (kind_in k x ≡ a_variable role type)
  assignable at k here when x fine = by_kind (kind_in k x) refl
    where
      not_this : (kind : Kind) → kind_in k x ≡ kind → may_be_assigned when kind ≡ false → ⊥
      not_this kind q h = fine (ap (λ o. may_be_assigned when (kind_at o x)) here ∙ ap (may_be_assigned when) q ∙ h)

      by_kind : (kind : Kind) → kind_in k x ≡ kind → (role : Role) × (type : DeclaredTree) × (kind_in k x ≡ a_variable role type)
      by_kind (a_formal i) q = absurd (not_this (a_formal i) q (none when))
        where
          none : (when : Moment) → may_be_assigned when (a_formal i) ≡ false
          none Always = refl
          none First = refl
          none After = refl
      by_kind (a_variable role what) q = (role, what, q)
      by_kind (a_define e) q = absurd (not_this (a_define e) q (none when))
        where
          none : (when : Moment) → may_be_assigned when (a_define e) ≡ false
          none Always = refl
          none First = refl
          none After = refl
      by_kind (an_instance n es) q = absurd (not_this (an_instance n es) q (none when))
        where
          none : (when : Moment) → may_be_assigned when (an_instance n es) ≡ false
          none Always = refl
          none First = refl
          none After = refl
      by_kind undeclared q = absurd (not_this undeclared q (none when))
        where
          none : (when : Moment) → may_be_assigned when undeclared ≡ false
          none Always = refl
          none First = refl
          none After = refl

  value_asked : (when : Moment) (x : Text) (e : Formula) → Asks (an_assignment (record { when = when; target = x ∷ []; value = e })) e
  value_asked Always x e = at_each (now_among x e) (0, refl) refl
  value_asked First x e = at_first (now_among x e) (0, refl) refl
  value_asked After x e = at_step (next_among x e) (0, refl) refl

  assignment : (at : Place) (k : ModuleTree) → IsInstance p at k → (j : ℕ) (when : Moment) (target : Path) (e : Formula) →
      slice_get (items_of k) j ≡ Some (an_assignment (record { when = when; target = target; value = e })) → IsLawfulTarget p at k target × IsReadable p at e
  assignment at k here j when target e q = by_target target refl
    where
      item : Item
      item = an_assignment (record { when = when; target = target; value = e })

      kept' : KeptItem p at item
      kept' = kept_at p accepted at k here j item q

      fine : is_target p at when target ≡ false → ⊥
      fine h = kept'.kept not_a_target (subst (λ i. BreaksTarget p kept'.of.place i) (sym kept'.is) (subst (λ a. BreaksTarget p a item) (sym kept'.place) h))

      listed : ListedItem p at k item
      listed = listed_item p (accepted_walkable p accepted) at k here j item q

      by_target : (t : Path) → target ≡ t → IsLawfulTarget p at k target × IsReadable p at e
      by_target [] same = absurd (fine (ap (is_target p at when) same))
      by_target (x ∷ []) same = (
        subst (IsLawfulTarget p at k) (sym same) (assignable at k here when x (λ h. fine (ap (is_target p at when) same ∙ h))),
        asks_readable at k item listed e (subst (λ t. Asks (an_assignment (record { when = when; target = t; value = e })) e) (sym same) (value_asked when x e)),
      )
      by_target (x ∷ (y ∷ more)) same = absurd (fine (ap (is_target p at when) same))

  -- Items and sections.
  abbrev LawfulItem : Place → ModuleTree → Item → Type 0
  LawfulItem at k (a_declaration role d) = IsLawfulDecl p at k role d
  LawfulItem at k (a_definition d) = Unit {0}
  LawfulItem at k (an_assignment a) = IsLawfulAssignment p at k a
  LawfulItem at k (some_constants xs) = Unit {0}
  LawfulItem at k (an_init e) = IsReadable p at e
  LawfulItem at k (an_invar e) = IsReadable p at e
  LawfulItem at k (a_trans e) = IsReadable p at e

  lawful_item : (at : Place) (k : ModuleTree) → IsInstance p at k → (j : ℕ) (item : Item) → slice_get (items_of k) j ≡ Some item → LawfulItem at k item
  lawful_item at k here j (a_declaration role d) q =
      let l : ListedItem p at k (a_declaration role d) = listed_item p (accepted_walkable p accepted) at k here j (a_declaration role d) q in
      kind_of_declaration k l.numbered.before role d l.facts.after (l.facts.among ∙ ap (λ i. l.numbered.before ++ i ∷ l.facts.after) l.item_is)
      (subst (λ i. is_name_again (k.formals ++ flat_map names_of_item l.numbered.before) (names_of_item i) ≡ false) l.item_is l.facts.fresh)
  lawful_item at k here j (a_definition d) q = tt
  lawful_item at k here j (an_assignment a) q = assignment at k here j a.when a.target a.value q
  lawful_item at k here j (some_constants xs) q = tt
  lawful_item at k here j (an_init e) q = asks_readable at k (an_init e) (listed_item p (accepted_walkable p accepted) at k here j (an_init e) q) e (at_first (plain e) (0, refl) refl)
  lawful_item at k here j (an_invar e) q = asks_readable at k (an_invar e) (listed_item p (accepted_walkable p accepted) at k here j (an_invar e) q) e (at_each (plain e) (0, refl) refl)
  lawful_item at k here j (a_trans e) q = asks_readable at k (a_trans e) (listed_item p (accepted_walkable p accepted) at k here j (a_trans e) q) e (at_step (plain e) (0, refl) refl)

  of_section : (at : Place) (k : ModuleTree) (s : SectionTree) → Each (LawfulItem at k) (items_of_section s) → IsLawfulSection p at k s
  of_section at k (var ds) h = each_of_map (LawfulItem at k) (a_declaration state) ds h
  of_section at k (ivar ds) h = each_of_map (LawfulItem at k) (a_declaration input) ds h
  of_section at k (frozen ds) h = each_of_map (LawfulItem at k) (a_declaration frozen_role) ds h
  of_section at k (define ds) h = tt
  of_section at k (constants xs) h = tt
  of_section at k (assign list) h = each_of_map (LawfulItem at k) an_assignment list h
  of_section at k (init e) h = h.0
  of_section at k (invar e) h = h.0
  of_section at k (trans e) h = h.0

  of_sections : (at : Place) (k : ModuleTree) (ss : List SectionTree) → Each (LawfulItem at k) (flat_map items_of_section ss) → Each (IsLawfulSection p at k) ss
  of_sections at k [] h = tt
  of_sections at k (s ∷ ss) h =
      (of_section at k s (each_left (LawfulItem at k) (items_of_section s) _ h), of_sections at k ss (each_right (LawfulItem at k) (items_of_section s) _ h))

  -- each instance of the program is such as the weave takes
  pub lawful_instance : (at : Place) (k : ModuleTree) → IsInstance p at k → IsLawfulInstance p at k
  lawful_instance at k here =
      record { defines = defines at k here; actuals = actuals at k here; sections = of_sections at k k.sections (each_from (LawfulItem at k) (items_of k) (lawful_item at k here)) }
