-- The expressions of modes are judged in the woven program's flat model as they were, and the names of a slice have
-- the kinds that its templates ask.
use Rattle.std.proofs.Common.{◌≡◌, inl, inr, ℕ, suc, true, false, List, [], ◌∷◌, ◌++◌, Option, Some, None, refl, sym, ap, ◌∙◌, subst}
use Rattle.std.specs.Prelude.{slice_get, if◌then◌else◌}
use Rattle.smv_language.specs.declared.program.Member.{Member}
use Rattle.smv_language.specs.declared.program.Member.TheVariants as member
use Rattle.smv_language.specs.Language.{Tree, AllLeaves, Text, Path, Formula, DeclaredTree, ModuleTree, ProgramTree, same_text, Place, Role, state, a_variable, undeclared, kind_in, kind_at as name_kind_at, module_at, find_module, is_symbol, is_symbol_of_members, is_symbol_of_type, Each, IsInstance, IsVariable, FlatLeaf, FlatInstance, FlatVariable, FlatModel}
use Rattle.smv_language.proofs.ValueLaws.{same_text_refl}
use Rattle.fault_instructions.specs.Instructions.{ModeTree, SliceTree, InstructionTree, slices_of}
use Rattle.fault_instructions.specs.AddedNames.{own_name, mode_variable, mode_symbol}
use Rattle.fault_instructions.specs.Effects.{fault_of}
use Rattle.fault_weave.specs.WovenProgram.{mode_type, woven}
use Rattle.fault_instructions.specs.KindTypes.{type_of_kind}
use Rattle.fault_instructions.specs.Weavable.{Among, IsFreeMember, SymbolsAreFree, IsLawfulSlice, IsWeavable}
use Rattle.fault_weave.proofs.Declared.{or_true, variable_symbol}
use Rattle.fault_weave.proofs.LeafValues.{instance_among, mode_variable_kind, symbol_kind, read_variable}
use Rattle.fault_weave.proofs.Meanings.{Kept, kind_kept}
use Rattle.fault_weave.proofs.WovenSlices.{mode_known}
use Rattle.fault_rules.specs.Sites.{OwnedSlice, owned, Site, an_extension, a_slice, a_mode, item_sites}
use Rattle.fault_rules.specs.Rules.{target_kind, broken_at}
use Rattle.fault_rules.specs.FirstBroken.{AllKept}
use Rattle.fault_rules.proofs.KeptFacts.{mode_facts, instance_found}
use Rattle.smv_flat_laws.specs.Items.{instances_of}
use Rattle.smv_flat_laws.specs.Rules.{IsWalkable}
use Rattle.smv_flat_laws.specs.Model.{IsFlatOf}
use Rattle.smv_flat_laws.proofs.Conditions.{each_at, each_flat}
use Rattle.smv_flat_laws.proofs.Reaches.{each_left, each_right}
use Rattle.smv_flat_laws.proofs.Variables.{variables_are}
use Rattle.smv_type_laws.specs.ExpressionKinds.{Class, truth_class, Kind, KindRule, mismatch, not_boolean, unless_class, Judged, judge}
use Rattle.smv_type_laws.specs.DeclaredKinds.{judged_declared, class_declared}
use Rattle.smv_type_laws.specs.Models.{judged_in, least, breaches}
use Rattle.smv_type_laws.proofs.Flags.{same_judged}
use Rattle.smv_type_laws.proofs.Parts.{none_first, none_second, class_kept}
use Rattle.fault_extend_laws.specs.Uses.{use_of_site, uses_from, uses_at}
use Rattle.fault_extend_laws.specs.Expressions.{IsForm, broken_by, class_of_followed, class_of_guard, or_else, kind_rule, KeepsUse, AllUsesKept}
use Rattle.fault_woven_laws.proofs.Rightly.{Rightly}
use Rattle.fault_woven_laws.proofs.Domains.{MemberKnown}
use Rattle.fault_woven_laws.proofs.Effects.{SliceKinds, ModeKinds, of_followed}
use Rattle.fault_woven_laws.proofs.Moves.{ModesJudged}
use Rattle.smv_type_laws.proofs.Leaves.{kind_given, HasLeaf, declared_so}
use Rattle.fault_woven_laws.proofs.Definitions.{written_agrees}
use Rattle.smv_type_laws.proofs.StandFor.{variable_there}
use Rattle.fault_woven_laws.proofs.Items.{one_module, parts_of}
use Rattle.fault_woven_laws.proofs.Renamed.{name_variable, name_symbol}
use Rattle.fault_woven_laws.proofs.Kept.{own_kind_at, target_kind_at}
use Rattle.fault_woven_laws.proofs.Sites.{SliceItems, slice_items, HasItem, mode_items}
use Rattle.smv_type_laws.proofs.Least.{least_none as none_least}
use Rattle.smv_type_laws.proofs.TraceLaws.{one_type}
use Rattle.smv_language.proofs.ProgramLaws.{found_named}
use Rattle.smv_flat_laws.proofs.Flattening.{all_instances}

neither : (a b : Option KindRule) → or_else a b ≡ None → (a ≡ None) × (b ≡ None)
neither None b e = (refl, e)
neither (Some r) b e = cc

-- a mode for which no rule of kinds is told breaks none
record BreaksNone (m : FlatModel) (type : DeclaredTree) (follows_as guard_as : Option (Tree FlatLeaf)) : Type 0 where
  followed_kept : broken_by m follows_as ≡ []
  guard_kept : broken_by m guard_as ≡ []
  followed_class : class_of_followed m type follows_as ≡ []
  guard_class : class_of_guard m guard_as ≡ []

breaks_none : (m : FlatModel) (type : DeclaredTree) (follows_as guard_as : Option (Tree FlatLeaf)) → kind_rule m type follows_as guard_as ≡ None → BreaksNone m type follows_as guard_as
breaks_none m type follows_as guard_as e =
    let both = neither (least (broken_by m follows_as ++ broken_by m guard_as)) (least (class_of_followed m type follows_as ++ class_of_guard m guard_as)) e in
    let rules = none_least (broken_by m follows_as ++ broken_by m guard_as) both.0 in
    let classes = none_least (class_of_followed m type follows_as ++ class_of_guard m guard_as) both.1 in
    record {
      followed_kept = none_first (broken_by m follows_as) (broken_by m guard_as) rules;
      guard_kept = none_second (broken_by m follows_as) (broken_by m guard_as) rules;
      followed_class = none_first (class_of_followed m type follows_as) (class_of_guard m guard_as) classes;
      guard_class = none_second (class_of_followed m type follows_as) (class_of_guard m guard_as) classes;
    }

module _ (p : ProgramTree) (m : FlatModel) where
  -- a mode's item is judged at an instance of its slice's module
  abbrev pub IsUsedAt : FlatInstance → Site → Type 0
  IsUsedAt x (an_extension owner) = Unit {0}
  IsUsedAt x (a_slice before o) = Unit {0}
  IsUsedAt x (a_mode before o earlier mode) =
      same_text o.owner x.module_name ≡ true → (n : ℕ) × KeepsUse p m (record { place = x.place; item = n; type = type_of_kind (target_kind p o); mode = mode })

  used_from : (x : FlatInstance) (n : ℕ) (sites : List Site) → Each (KeepsUse p m) (uses_from p x n sites) → Each (IsUsedAt x) sites
  used_from x n [] h = tt
  used_from x n (an_extension owner ∷ sites) h = (tt, used_from x (suc n) sites h)
  used_from x n (a_slice before o ∷ sites) h = (tt, used_from x (suc n) sites h)
  used_from x n (a_mode before o earlier mode ∷ sites) h = (
    λ e. (n, (subst (Each (KeepsUse p m)) (here e) (each_left (KeepsUse p m) (use_of_site p x n (a_mode before o earlier mode)) (uses_from p x (suc n) sites) h)).0),
    used_from x (suc n) sites (each_right (KeepsUse p m) (use_of_site p x n (a_mode before o earlier mode)) (uses_from p x (suc n) sites) h),
  )
    where
      here : same_text o.owner x.module_name ≡ true → use_of_site p x n (a_mode before o earlier mode) ≡ record { place = x.place; item = n; type = type_of_kind (target_kind p o); mode = mode } ∷ []
      here e = ap (λ b. if b then record { place = x.place; item = n; type = type_of_kind (target_kind p o); mode = mode } ∷ [] else []) e

-- the type of a variable breaks no rule
pub type_right : (p : ProgramTree) (m : FlatModel) → IsWalkable p → IsFlatOf p m → breaches m ≡ [] → (at : Place) (x : Text) (role : Role) (type : DeclaredTree) → IsVariable p at x role type → (judged_declared type).broken ≡ []
type_right p m walkable is right at x role type there =
    let numbered : (j : ℕ) × (v : FlatVariable) × (slice_get m.variables j ≡ Some v) × (v.place ≡ at) × (v.name ≡ x) = (variables_are p walkable m is at x).0 (role, type, there) in
    let v = numbered.1 in
    let so : IsVariable p at x v.role v.declared = subst (λ a. IsVariable p a x v.role v.declared) numbered.3 (subst (λ y. IsVariable p v.place y v.role v.declared) numbered.4 (declared_so p m walkable is numbered.0 v numbered.2)) in
    subst (λ t. (judged_declared t).broken ≡ []) (one_type p at x v.role role v.declared type so there)
    (each_at (λ (y : FlatVariable). (judged_declared y.declared).broken ≡ []) m.variables numbered.0 v (parts_of m right).variables numbered.2)

-- the items of a slice of a module break no rule
pub kept_items : (p : ProgramTree) (i : InstructionTree) → AllKept (broken_at p) (item_sites i) → (k : ModuleTree) (s : SliceTree) → Among (slices_of i k.name) s → SliceItems (λ site. broken_at p site ≡ None) (owned k.name s)
kept_items p i rules k s a = slice_items (λ site. broken_at p site ≡ None) [] i.extensions k.name s rules a

module _ (p : ProgramTree) (i : InstructionTree) (ok : IsWeavable p i) (m w : FlatModel) (walkable : IsWalkable p) (also : IsWalkable (woven p i)) (is : IsFlatOf p m) (iw : IsFlatOf (woven p i) w)
    (right : breaches m ≡ []) (rules : AllKept (broken_at p) (item_sites i)) (used : AllUsesKept p m i) where
  module _ (at : Place) (k : ModuleTree) (s : SliceTree) (here : IsInstance p at k) (a : Among (slices_of i k.name) s) where
    abbrev after : Path → Kind
    after name = kind_given w (iw.resolver at name)

    abbrev resolved : Path → Type 0
    resolved = HasLeaf (iw.resolver at)

    abbrev pub lawful : IsLawfulSlice p at k s
    lawful = ok.slices at k s here a

    target_is : target_kind p (owned k.name s) ≡ a_variable state lawful.type
    target_is = ap (λ o. name_kind_at o s.target) (instance_found p at k here) ∙ lawful.target_kind

    target_right : (judged_declared lawful.type).broken ≡ []
    target_right = type_right p m walkable is right at s.target state lawful.type (variable_there p at s.target state lawful.type (target_kind_at p i ok at k s here a))

    symbol_there : (y : Text) → kind_in k y ≡ undeclared → is_symbol p y ≡ true → name_kind_at (module_at (woven p i) at) y ≡ undeclared
    symbol_there y e known =
        let there : name_kind_at (module_at p at) y ≡ undeclared = ap (λ o. name_kind_at o y) here ∙ e in
        (subst (λ c. Kept p (woven p i) y c (name_kind_at (module_at (woven p i) at) y)) there (kind_kept p i ok at y)).0 known

    members_known : (ms : List Member) → Each (IsFreeMember k) ms → ((y : Text) → is_symbol_of_members ms y ≡ true → is_symbol p y ≡ true) → Each (MemberKnown after resolved) ms
    members_known [] free known = tt
    members_known (member.Number n ∷ ms) free known = ((λ x e h. cc), members_known ms free.1 known)
    members_known (member.Symbol y ∷ ms) free known = (
      (λ x e h. let same : y ≡ x = cc in
          name_symbol (woven p i) w also iw iw.resolver iw.sound at x (subst (λ z. name_kind_at (module_at (woven p i) at) z ≡ undeclared) same (symbol_there y free.0 (known y (or_true (same_text y y) _ (inl (same_text_refl y)))))) h),
      members_known ms free.1 (λ z h. known z (or_true (same_text y z) _ (inr h))),
    )

    -- the names of the slice have the kinds that are asked
    pub slice_kinds : SliceKinds after resolved s lawful.type
    slice_kinds = record {
      right = target_right;
      target = λ h. name_variable (woven p i) w also iw iw.resolver iw.sound at s.target state lawful.type (read_variable p i ok at k s.target state lawful.type here lawful.target_kind) h;
      own = λ h. name_variable (woven p i) w also iw iw.resolver iw.sound at (own_name s.target) state lawful.type (own_kind_at p i ok at k s here a) h;
      mode = λ h. ap (λ (kind : Kind). kind.class) (name_variable (woven p i) w also iw iw.resolver iw.sound at (mode_variable s.name) state (mode_type s) (mode_variable_kind p i ok at k s here a) h);
      symbols = λ st known h. name_symbol (woven p i) w also iw iw.resolver iw.sound at (mode_symbol s.name st) (symbol_kind p i ok at k s st here a known) h;
      members = λ ms e. members_known ms (subst (SymbolsAreFree k) e lawful.symbols_free)
          (λ y h. variable_symbol p k s.target state lawful.type y (instance_among p i ok at k here) lawful.target_kind (subst (λ t. is_symbol_of_type t y ≡ true) (sym e) h));
    }

    -- a mode is judged at the instance
    used_here : (mode : ModeTree) (before : List OwnedSlice) → HasItem (IsUsedAt p m (record { place = at; module_name = k.name })) before (owned k.name s) mode →
        (n : ℕ) × KeepsUse p m (record { place = at; item = n; type = lawful.type; mode = mode })
    used_here mode before item =
        let found : (n : ℕ) × KeepsUse p m (record { place = at; item = n; type = type_of_kind (target_kind p (owned k.name s)); mode = mode }) = item.1 (same_text_refl k.name) in
        (found.0, subst (λ c. KeepsUse p m (record { place = at; item = found.0; type = type_of_kind c; mode = mode })) target_is found.1)

    sites_used : Each (IsUsedAt p m (record { place = at; module_name = k.name })) (item_sites i)
    sites_used =
        let l : (j : ℕ) × (x : FlatInstance) × (slice_get (instances_of p) j ≡ Some x) × (x.place ≡ at) = (all_instances p walkable).all at k here in
        let real : (n : ModuleTree) × IsInstance p l.1.place n × (find_module p l.1.module_name ≡ Some n) = (all_instances p walkable).real l.0 l.1 l.2 in
        let same : real.0 ≡ k = one_module p real.0 k at l.1.place l.3 real.1 here in
        let name : k.name ≡ l.1.module_name = found_named p l.1.module_name k (subst (λ n. find_module p l.1.module_name ≡ Some n) same real.2) in
        let uses_here : Each (KeepsUse p m) (uses_at p i l.1) = each_at (λ x. Each (KeepsUse p m) (uses_at p i x)) (instances_of p) l.0 l.1 ((each_flat (KeepsUse p m) (uses_at p i) (instances_of p)).0 used) l.2 in
        subst (λ y. Each (IsUsedAt p m (record { place = at; module_name = y })) (item_sites i)) (sym name)
        (subst (λ b. Each (IsUsedAt p m (record { place = b; module_name = l.1.module_name })) (item_sites i)) l.3 (used_from p m l.1 1 (item_sites i) uses_here))

    form_right : (e : Formula) (flat : Option (Tree FlatLeaf)) → IsForm p m at (Some e) flat → broken_by m flat ≡ [] → AllLeaves resolved e →
        (judge after false e).broken ≡ []
    form_right e None form kept h = absurd form
    form_right e (Some flat) form kept h =
        let r = form is in
        ap (λ (j : Judged). j.broken) (sym (written_agrees p i ok m w walkable also is iw r.0 iw.resolver r.1 iw.sound at e flat false r.2 h)) ∙ kept

    form_class : (c : Class) (rule : KindRule) (e : Formula) (flat : Tree FlatLeaf) → IsForm p m at (Some e) (Some flat) → unless_class c rule (judged_in m false flat).kind ≡ [] → AllLeaves resolved e →
        (judge after false e).kind.class ≡ c
    form_class c rule e flat form kept h =
        let r = form is in
        ap (λ (j : Judged). j.kind.class) (sym (written_agrees p i ok m w walkable also is iw r.0 iw.resolver r.1 iw.sound at e flat false r.2 h)) ∙ class_kept c rule (judged_in m false flat).kind kept

    guard_right : (g : Formula) (flat : Option (Tree FlatLeaf)) → IsForm p m at (Some g) flat → broken_by m flat ≡ [] → class_of_guard m flat ≡ [] → AllLeaves resolved g → Rightly truth_class (judge after false g)
    guard_right g None form kept class h = absurd form
    guard_right g (Some flat) form kept class h = record { kept = form_right g (Some flat) form kept h; class = form_class truth_class not_boolean g flat form class h }

    followed_right : (e : Formula) (flat : Option (Tree FlatLeaf)) → IsForm p m at (Some e) flat → broken_by m flat ≡ [] → class_of_followed m lawful.type flat ≡ [] → AllLeaves resolved e →
        Rightly (class_declared lawful.type) (judge after true e)
    followed_right e None form kept class h = absurd form
    followed_right e (Some flat) form kept class h =
        let right = form_right e (Some flat) form kept h in
        let same = same_judged after e right in
        record { kept = ap (λ (j : Judged). j.broken) same ∙ right; class = ap (λ (j : Judged). j.kind.class) same ∙ form_class (class_declared lawful.type) mismatch e flat form class h }

    mode_kinds : (mode : ModeTree) (n : ℕ) → fault_of mode.effect lawful.type ≡ None → KeepsUse p m (record { place = at; item = n; type = lawful.type; mode = mode }) → ModeKinds after resolved lawful.type mode
    mode_kinds mode n allowed one =
        let none : BreaksNone m lawful.type one.forms.follows_as one.forms.guard_as = breaks_none m lawful.type one.forms.follows_as one.forms.guard_as one.kinds in
        record {
          allowed = allowed;
          following = of_followed (λ f. AllLeaves resolved f → Rightly (class_declared lawful.type) (judge after true f)) mode.effect
              (λ e same h. followed_right e one.forms.follows_as (subst (λ o. IsForm p m at o one.forms.follows_as) same one.forms.is_followed) none.followed_kept none.followed_class h);
          guard = λ g same h. guard_right g one.forms.guard_as (subst (λ o. IsForm p m at o one.forms.guard_as) same one.forms.is_guard) none.guard_kept none.guard_class h;
        }

    each_mode : (ms : List ModeTree) (before before' : List OwnedSlice) → ((mode : ModeTree) → Among ms mode → Among s.modes mode) → Each (HasItem (λ site. broken_at p site ≡ None) before (owned k.name s)) ms →
        Each (HasItem (IsUsedAt p m (record { place = at; module_name = k.name })) before' (owned k.name s)) ms → ModesJudged after resolved s lawful.type ms
    each_mode [] before before' among h g = tt
    each_mode (mode ∷ ms) before before' among h g =
        let allowed : fault_of mode.effect lawful.type ≡ None = subst (λ c. fault_of mode.effect (type_of_kind c) ≡ None) target_is (mode_facts p before (owned k.name s) h.0.0 mode h.0.1).effect in
        let one : (n : ℕ) × KeepsUse p m (record { place = at; item = n; type = lawful.type; mode = mode }) = used_here mode before' g.0 in
        ((mode_known s s.modes mode (among mode (inl refl)), mode_kinds mode one.0 allowed one.1), each_mode ms before before' (λ o b. among o (inr b)) h.1 g.1)

    -- the modes of the slice are judged
    pub modes_judged : ModesJudged after resolved s lawful.type s.modes
    modes_judged =
        let others : SliceItems (IsUsedAt p m (record { place = at; module_name = k.name })) (owned k.name s) = slice_items (IsUsedAt p m (record { place = at; module_name = k.name })) [] i.extensions k.name s sites_used a in
        let own = kept_items p i rules k s a in
        each_mode s.modes own.before others.before (λ mode b. b) (mode_items (λ site. broken_at p site ≡ None) own.before (owned k.name s) [] s.modes own.modes)
        (mode_items (IsUsedAt p m (record { place = at; module_name = k.name })) others.before (owned k.name s) [] s.modes others.modes)
