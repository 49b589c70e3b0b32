-- What a slice adds at an instance breaks no rule.
use Rattle.std.proofs.Common.{◌≡◌, ℕ, Bool, true, false, List, [], ◌∷◌, flat_map, refl, sym, ap, ◌∙◌, subst}
use Rattle.smv_language.specs.declared.expr.Op.TheVariants as op
use Rattle.smv_language.specs.Language.{Tree, leaf, next_of, binary, AllLeaves, Text, Path, Formula, DeclaredTree, SectionTree, var, ivar, frozen, define, constants, assign, init, invar, trans, ModuleTree, ProgramTree, Place, Role, state, kind_in, Each, IsInstance, IsVariable, FlatLeaf, flat_variable, FlatModel}
use Rattle.fault_instructions.specs.Instructions.{ModeTree, SliceTree, InstructionTree, slices_of}
use Rattle.fault_instructions.specs.AddedNames.{mode_variable}
use Rattle.fault_instructions.specs.Templates.{rules}
use Rattle.fault_weave.specs.WovenProgram.{start_tree, start_rules, mode_rules, mode_type, moves_tree, read_tree, slice_sections, added_sections, woven}
use Rattle.fault_instructions.specs.KindTypes.{type_of_kind}
use Rattle.fault_instructions.specs.Weavable.{Among, IsLawfulSlice, IsWeavable}
use Rattle.fault_weave.proofs.LeafValues.{mode_variable_kind, read_variable}
use Rattle.fault_instructions.proofs.AmongLaws.{each_all}
use Rattle.fault_rules.specs.Sites.{item_sites}
use Rattle.fault_rules.specs.Rules.{broken_at}
use Rattle.fault_rules.specs.FirstBroken.{AllKept}
use Rattle.smv_flat_laws.specs.Items.{Item, items_of_section}
use Rattle.smv_flat_laws.specs.Rules.{IsWalkable}
use Rattle.smv_flat_laws.specs.Model.{plain, now_among, next_among, IsFlatOf}
use Rattle.smv_flat_laws.proofs.Conditions.{each_flat, each_join}
use Rattle.smv_type_laws.specs.ExpressionKinds.{Class, truth_class, symbol_class, Kind, Judged, judge}
use Rattle.smv_type_laws.specs.DeclaredKinds.{judged_declared, class_declared}
use Rattle.smv_type_laws.specs.Models.{kind_of_leaf, judged_in, broken_condition, breaches}
use Rattle.fault_extend_laws.specs.Expressions.{AllUsesKept}
use Rattle.fault_woven_laws.proofs.Rightly.{Rightly, condition_right, same_right}
use Rattle.fault_woven_laws.proofs.Effects.{SliceKinds, RuleRight, rules_right, start_right}
use Rattle.fault_woven_laws.proofs.Moves.{ModesJudged, start_state_right, moves_right, read_right}
use Rattle.smv_type_laws.proofs.Leaves.{kind_given, HasLeaf, resolved_judged, has_leaves, variable_kind}
use Rattle.fault_woven_laws.proofs.Items.{KeepsAt}
use Rattle.smv_type_laws.proofs.StandFor.{variable_there}
use Rattle.fault_woven_laws.proofs.Kept.{EachAsked}
use Rattle.fault_woven_laws.proofs.Uses.{slice_kinds, modes_judged}

-- Of one model.
module _ (q : ProgramTree) (w : FlatModel) (also : IsWalkable q) (iw : IsFlatOf q w) (at : Place) where
  abbrev after : Path → Kind
  after name = kind_given w (iw.resolver at name)

  abbrev resolved : Path → Type 0
  resolved = HasLeaf (iw.resolver at)

  right_flat : (c : Class) (sets : Bool) (e : Formula) (flat : Tree FlatLeaf) → Rightly c (judge after sets e) → judged_in w sets flat ≡ judge after sets e → Rightly c (judged_in w sets flat)
  right_flat c sets e flat r same = record { kept = ap (λ (j : Judged). j.broken) same ∙ r.kept; class = ap (λ (j : Judged). j.kind.class) same ∙ r.class }

  -- a formula that is a truth value
  pub plain_right : (e : Formula) → (AllLeaves resolved e → Rightly truth_class (judge after false e)) → KeepsAt w iw.resolver at (plain e)
  plain_right e right flat is =
      condition_right (judged_in w false flat) (right_flat truth_class false e flat (right (has_leaves (iw.resolver at) e flat is)) (resolved_judged w (iw.resolver at) e flat false is))

  alone_right : (c : Class) (type : DeclaredTree) → class_declared type ≡ c → (j : ℕ) → kind_of_leaf w (flat_variable j) ≡ (judged_declared type).kind →
      Rightly c (judged_in w false (leaf (flat_variable j)))
  alone_right c type same j is = record { kept = refl; class = ap (λ (kind : Kind). kind.class) is ∙ same }

  -- a variable among the values of a formula of its class, now and at the next moment
  module _ (c : Class) (x : Text) (role : Role) (type : DeclaredTree) (there : IsVariable q at x role type) (same : class_declared type ≡ c) (e : Formula) (right : AllLeaves resolved e → Rightly c (judge after true e)) where
    pub now_right : KeepsAt w iw.resolver at (now_among x e)
    now_right flat among =
        let kind = variable_kind q w also iw at x role type among.number there among.is_number in
        let value = right_flat c true e among.value (right (has_leaves (iw.resolver at) e among.value among.resolved)) (resolved_judged w (iw.resolver at) e among.value true among.resolved) in
        ap (λ f. broken_condition (judged_in w false f)) among.is
        ∙ condition_right (judged_in w false (binary op.Within (leaf (flat_variable among.number)) among.value))
        (same_right c (judged_in w false (leaf (flat_variable among.number))) (judged_in w true among.value) (alone_right c type same among.number kind) value)

    pub next_right : KeepsAt w iw.resolver at (next_among x e)
    next_right flat among =
        let kind = variable_kind q w also iw at x role type among.number there among.is_number in
        let value = right_flat c true e among.value (right (has_leaves (iw.resolver at) e among.value among.resolved)) (resolved_judged w (iw.resolver at) e among.value true among.resolved) in
        ap (λ f. broken_condition (judged_in w false f)) among.is
        ∙ condition_right (judged_in w false (binary op.Within (next_of (leaf (flat_variable among.number))) among.value))
        (same_right c (judged_in w false (leaf (flat_variable among.number))) (judged_in w true among.value) (alone_right c type same among.number kind) value)

  abbrev pub ItemKeeps : Item → Type 0
  ItemKeeps = EachAsked (KeepsAt w iw.resolver at)

  -- a rule section
  rule_keeps : (section : SectionTree) → RuleRight after resolved section → Each ItemKeeps (items_of_section section)
  rule_keeps (invar e) h = ((tt, (plain_right e h, tt), tt), tt)
  rule_keeps (trans e) h = ((tt, tt, (plain_right e h, tt)), tt)
  rule_keeps (var ds) h = absurd h
  rule_keeps (ivar ds) h = absurd h
  rule_keeps (frozen ds) h = absurd h
  rule_keeps (define ds) h = absurd h
  rule_keeps (constants xs) h = absurd h
  rule_keeps (assign list) h = absurd h
  rule_keeps (init e) h = (((plain_right e h, tt), tt, tt), tt)

  abbrev SectionKeeps : SectionTree → Type 0
  SectionKeeps section = Each ItemKeeps (items_of_section section)

  sections_keep : (ss : List SectionTree) → Each (RuleRight after resolved) ss → Each SectionKeeps ss
  sections_keep [] h = tt
  sections_keep (section ∷ ss) h = (rule_keeps section h.0, sections_keep ss h.1)

  rules_keep : (s : SliceTree) (type : DeclaredTree) → SliceKinds after resolved s type → (ms : List ModeTree) → ModesJudged after resolved s type ms → Each SectionKeeps (flat_map (λ m. mode_rules s.start m.effect s.name m.name s.target) ms)
  rules_keep s type kinds [] j = tt
  rules_keep s type kinds (m ∷ ms) j =
      each_join SectionKeeps (mode_rules s.start m.effect s.name m.name s.target) (flat_map (λ n. mode_rules s.start n.effect s.name n.name s.target) ms)
      (each_join SectionKeeps (rules m.effect s.name m.name s.target) (start_rules s.start m.effect s.name m.name s.target)
      (sections_keep (rules m.effect s.name m.name s.target) (rules_right after resolved m.effect s type m.name kinds j.0.0 j.0.1.allowed))
      (sections_keep (start_rules s.start m.effect s.name m.name s.target) (start_right after resolved s.start m.effect s type m.name kinds j.0.0 j.0.1.allowed)))
      (rules_keep s type kinds ms j.1)

module _ (p : ProgramTree) (i : InstructionTree) (ok : IsWeavable p i) (m w : FlatModel) (walkable : IsWalkable p) (also : IsWalkable (woven p i)) (is : IsFlatOf p m) (iw : IsFlatOf (woven p i) w)
    (right : breaches m ≡ []) (kept : AllKept (broken_at p) (item_sites i)) (used : AllUsesKept p m i) (at : Place) (k : ModuleTree) (here : IsInstance p at k) where
  abbrev Keeps : Item → Type 0
  Keeps = ItemKeeps (woven p i) w also iw at

  abbrev KeepsSection : SectionTree → Type 0
  KeepsSection section = Each Keeps (items_of_section section)

  slice_keeps : (s : SliceTree) → Among (slices_of i k.name) s → Each KeepsSection (slice_sections k s)
  slice_keeps s a =
      let q = woven p i in
      let lawful : IsLawfulSlice p at k s = ok.slices at k s here a in
      let type = type_of_kind (kind_in k s.target) in
      let same : lawful.type ≡ type = sym (ap type_of_kind lawful.target_kind) in
      let K = λ (name : Path). kind_given w (iw.resolver at name) in
      let P = HasLeaf (iw.resolver at) in
      let kinds : SliceKinds K P s type = subst (SliceKinds K P s) same (slice_kinds p i ok m w walkable also is iw right kept used at k s here a) in
      let judged : ModesJudged K P s type s.modes = subst (λ t. ModesJudged K P s t s.modes) same (modes_judged p i ok m w walkable also is iw right kept used at k s here a) in
      let mode_there : IsVariable q at (mode_variable s.name) state (mode_type s) = variable_there q at (mode_variable s.name) state (mode_type s) (mode_variable_kind p i ok at k s here a) in
      let read_there : IsVariable q at s.target state lawful.type = variable_there q at s.target state lawful.type (read_variable p i ok at k s.target state lawful.type here lawful.target_kind) in
      let target_there : IsVariable q at s.target state type = subst (IsVariable q at s.target state) same read_there in (
        ((tt, tt, tt), ((tt, tt, tt), tt)),
        (
          (
            ((now_right q w also iw at symbol_class (mode_variable s.name) state (mode_type s) mode_there refl (start_tree s.name s.start s.modes) (λ h. start_state_right K P s type kinds s.start judged h), tt), tt, tt),
            (
              (tt, tt, (next_right q w also iw at symbol_class (mode_variable s.name) state (mode_type s) mode_there refl (moves_tree s) (λ h. moves_right K P s type kinds judged h), tt)),
              ((tt, (now_right q w also iw at (class_declared type) s.target state type target_there refl (read_tree type s) (λ h. read_right K P s type kinds judged h), tt), tt), tt),
            ),
          ),
          rules_keep q w also iw at s type kinds s.modes judged,
        ),
      )

  -- each item that the module's slices add
  pub added_keep : Each Keeps (flat_map items_of_section (added_sections i k))
  added_keep =
      (each_flat Keeps items_of_section (added_sections i k)).1
      ((each_flat KeepsSection (slice_sections k) (slices_of i k.name)).1
      (each_all (λ s. Each KeepsSection (slice_sections k s)) (slices_of i k.name) slice_keeps))
