-- The conditions on a first moment, each moment and each step.
use Rattle.std.proofs.Common.{◌≡◌, ◌↔◌, true, List, [], ◌∷◌, Option, Some, None, refl, sym, ◌∙◌, ap, subst}
use Rattle.std.specs.Prelude.{IsTrue, map, option_map, ◌||◌}
use Rattle.smv_language.specs.declared.program.Member.{Member}
use Rattle.smv_language.specs.declared.program.Member.TheVariants as member
use Rattle.smv_language.specs.Language.{Text, DeclaredTree, boolean, range, members, instance, SectionTree, var, ivar, frozen, define, constants, assign, init, invar, trans, ModuleTree, ProgramTree, IsType, Value, symbol, same_text, Place, Role, state, input, frozen_role, a_variable, kind_declared, kind_in_sections, formal_from, kind_in, module_at, is_symbol_of_members, Valuation, May, Each, IsInstance, in_domain, is_member, Declares, FirstSection, EachSection, DomainSection}
use Rattle.fault_instructions.specs.Instructions.{SliceTree, InstructionTree, slices_of, is_affected}
use Rattle.fault_instructions.specs.AddedNames.{ModeState, own_name, mode_variable, mode_symbol}
use Rattle.fault_weave.specs.ExtensionTraces as extended
use Rattle.fault_weave.specs.ExtensionTraces.{Moment, EachSlice, BothDeclared}
use Rattle.fault_weave.specs.Moves.{Starts}
use Rattle.fault_weave.specs.Conservative.{IsSlice, IsStateOf, IsCutMoment}
use Rattle.fault_weave.specs.WovenProgram.{mode_type, mode_rules, slice_sections, slice_rules, woven_section, added_sections, woven_module, woven}
use Rattle.fault_instructions.specs.KindTypes.{type_of_kind}
use Rattle.fault_instructions.specs.Weavable.{Among, IsLawfulDecl, IsLawfulSection, IsWeavable}
use Rattle.fault_instructions.specs.Types.{IsKnown}
use Rattle.fault_instructions.proofs.Equivalence.{iff_refl, iff_both}
use Rattle.fault_instructions.proofs.AmongLaws.{each_iff, each_map, each_append, each_flat_map, each_at, each_all, each_both, each_mono}
use Rattle.fault_weave.proofs.ModeRules.{mode_rules_plain}
use Rattle.fault_weave.proofs.Meanings.{module_woven}
use Rattle.fault_weave.proofs.Added.{contains_among, affected_slice, target_affected, type_symbol}
use Rattle.fault_weave.proofs.Declared.{sections_find}
use Rattle.fault_instructions.proofs.EffectRows.{BranchAllows, RuleNow, RuleStep}
use Rattle.fault_weave.proofs.WovenSlices.{slice_each}
use Rattle.fault_weave.proofs.WovenMoves.{slice_first}
use Rattle.fault_weave.proofs.WovenSections.{own_value, section_first, section_each}
use Rattle.smv_language.proofs.BoolLaws.{iff_trans}
use Rattle.smv_language.proofs.ProgramLaws.{after_formals}
use Rattle.fault_instructions.specs.EffectLaw.{stands_at}
use Rattle.fault_instructions.specs.declared.effects.EffectRule.{EffectRule}
use Rattle.fault_instructions.specs.declared.effects.EffectRule.TheVariants.{NotOwn, AsBefore, AsEntered, Falling}
use Rattle.fault_instructions.specs.Effects.{branch_of, rule_of}
use Rattle.fault_instructions.specs.Templates.{rule_trees}

pub known_of : (p : ProgramTree) (i : InstructionTree) (s : SliceTree) (st : ModeState) → IsStateOf p i s st → IsKnown s st
known_of p i s None h = tt
known_of p i s (Some n) h = h

pub declares_same : (what : DeclaredTree) (u u' : Valuation) (at : Place) (x x' : Text) → u at x ≡ u' at x' → Declares u at x what → Declares u' at x' what
declares_same boolean u u' at x x' e h = subst (λ y. IsTrue (in_domain boolean y)) e h
declares_same (range lo hi) u u' at x x' e h = subst (λ y. IsTrue (in_domain (range lo hi) y)) e h
declares_same (members ms) u u' at x x' e h = subst (λ y. IsTrue (in_domain (members ms) y)) e h
declares_same (instance m es) u u' at x x' e h = tt

pub declares_domain : (what : DeclaredTree) (u : Valuation) (at : Place) (x : Text) → IsType what → Declares u at x what → IsTrue (in_domain what (u at x))
declares_domain boolean u at x f h = h
declares_domain (range lo hi) u at x f h = h
declares_domain (members ms) u at x f h = h
declares_domain (instance m es) u at x f h = absurd f

symbol_member : (ms : List Member) (y : Text) → is_member ms (symbol y) ≡ is_symbol_of_members ms y
symbol_member [] y = refl
symbol_member (member.Number n ∷ ms) y = symbol_member ms y
symbol_member (member.Symbol x ∷ ms) y = ap (λ b. same_text x y || b) (symbol_member ms y)

module _ (p : ProgramTree) (i : InstructionTree) (ok : IsWeavable p i) where
  -- the instances of the woven program are those of the program, woven
  pub all_instances : (Q : Place → ModuleTree → Type 0) →
      ((at : Place) (m : ModuleTree) → IsInstance (woven p i) at m → Q at m) ↔ ((at : Place) (m : ModuleTree) → IsInstance p at m → Q at (woven_module i m))
  all_instances Q = (
    (λ h at m is. h at (woven_module i m) (module_woven p i ok at ∙ rw is refl)),
    (λ h at m is. from h at m (module_at p at) refl (sym (module_woven p i ok at) ∙ is)),
  )
    where
      from : ((at : Place) (m : ModuleTree) → IsInstance p at m → Q at (woven_module i m)) → (at : Place) (m : ModuleTree) (o : Option ModuleTree) → module_at p at ≡ o →
          option_map (woven_module i) (module_at p at) ≡ Some m → Q at m
      from h at m None e q = let none : None ≡ Some m = rw e at q in cc
      from h at m (Some n) e q = let same : Some (woven_module i n) ≡ Some m = rw e at q in let equal : woven_module i n ≡ m = cc in subst (Q at) equal (h at n e)

  -- sections of the woven module: the module's own, changed, and those of its slices
  pub split : (P : SectionTree → Type 0) (m : ModuleTree) →
      Each P (woven_module i m).sections ↔ (Each (λ x. P (woven_section (is_affected i m.name) x)) m.sections × Each (λ s. Each P (slice_sections m s)) (slices_of i m.name))
  split P m =
      iff_trans (each_append P (map (woven_section (is_affected i m.name)) m.sections) (added_sections i m))
      (iff_both (each_map P (woven_section (is_affected i m.name)) m.sections) (each_flat_map P (slice_sections m) (slices_of i m.name)))

  module _ (at : Place) (m : ModuleTree) (is : IsInstance p at m) (v : Valuation) (mo : Moment) (cut : IsCutMoment p i v mo) where
    pub slice_at : (s : SliceTree) → Among (slices_of i m.name) s → IsSlice p i at s
    slice_at s a = (m, is, contains_among (slices_of i m.name) s a)

    decl_read : (name : Text) (what : DeclaredTree) (role : Role) → kind_in m name ≡ kind_declared role what → Declares v at name what ↔ Declares mo.read at name what
    decl_read name boolean role e =
        let same : v at name ≡ mo.read at name = cut.read at name role boolean (m, is, e) in (declares_same boolean v mo.read at name name same, declares_same boolean mo.read v at name name (sym same))
    decl_read name (range lo hi) role e =
        let same : v at name ≡ mo.read at name = cut.read at name role (range lo hi) (m, is, e) in (declares_same (range lo hi) v mo.read at name name same, declares_same (range lo hi) mo.read v at name name (sym same))
    decl_read name (members ms) role e =
        let same : v at name ≡ mo.read at name = cut.read at name role (members ms) (m, is, e) in (declares_same (members ms) v mo.read at name name same, declares_same (members ms) mo.read v at name name (sym same))
    decl_read name (instance n es) role e = iff_refl

    -- the own values of all slices are in their domains
    abbrev OwnDomains : Type 0
    OwnDomains = Each (λ s. Declares v at (own_name s.target) (type_of_kind (kind_in m s.target))) (slices_of i m.name)

    own_part : (name : Text) (what : DeclaredTree) → type_of_kind (kind_in m name) ≡ what → OwnDomains → is_affected i m.name name ≡ true → Declares mo.own at name what
    own_part name what e h affected =
        let found : (s : SliceTree) × Among (slices_of i m.name) s × (s.target ≡ name) = affected_slice (slices_of i m.name) name affected in
        let there : Declares v at (own_name found.0.target) (type_of_kind (kind_in m found.0.target)) = each_at (λ s. Declares v at (own_name s.target) (type_of_kind (kind_in m s.target))) (slices_of i m.name) found.0 h found.1 in
        let here : Declares v at (own_name name) (type_of_kind (kind_in m name)) = subst (λ x. Declares v at (own_name x) (type_of_kind (kind_in m x))) found.2 there in
        declares_same what v mo.own at (own_name name) name (own_value p i ok at m is v mo cut name affected) (subst (Declares v at (own_name name)) e here)

    own_declared : (name : Text) (what : DeclaredTree) (role : Role) → kind_in m name ≡ kind_declared role what → OwnDomains → is_affected i m.name name ≡ true → Declares mo.own at name what
    own_declared name boolean role e h affected = own_part name boolean (ap type_of_kind e) h affected
    own_declared name (range lo hi) role e h affected = own_part name (range lo hi) (ap type_of_kind e) h affected
    own_declared name (members ms) role e h affected = own_part name (members ms) (ap type_of_kind e) h affected
    own_declared name (instance n es) role e h affected = tt

    section_domain : (section : SectionTree) → IsLawfulSection p at m section → OwnDomains → DomainSection at v (woven_section (is_affected i m.name) section) → extended.DomainSection p i at m mo section
    section_domain (var ds) h own d = each_mono _ _ ds (λ x a q. ((decl_read x.name x.what state (each_at (IsLawfulDecl p at m state) ds x h a)).0 q, λ f. own_declared x.name x.what state (each_at (IsLawfulDecl p at m state) ds x h a) own f)) d
    section_domain (ivar ds) h own d = each_mono _ _ ds (λ x a q. ((decl_read x.name x.what input (each_at (IsLawfulDecl p at m input) ds x h a)).0 q, λ f. own_declared x.name x.what input (each_at (IsLawfulDecl p at m input) ds x h a) own f)) d
    section_domain (frozen ds) h own d = each_mono _ _ ds (λ x a q. ((decl_read x.name x.what frozen_role (each_at (IsLawfulDecl p at m frozen_role) ds x h a)).0 q, λ f. own_declared x.name x.what frozen_role (each_at (IsLawfulDecl p at m frozen_role) ds x h a) own f)) d
    section_domain (define ds) h own d = tt
    section_domain (constants xs) h own d = tt
    section_domain (assign xs) h own d = tt
    section_domain (init t) h own d = tt
    section_domain (invar t) h own d = tt
    section_domain (trans t) h own d = tt

    section_domain_back : (section : SectionTree) → IsLawfulSection p at m section → extended.DomainSection p i at m mo section → DomainSection at v (woven_section (is_affected i m.name) section)
    section_domain_back (var ds) h d = each_mono _ _ ds (λ x a q. (decl_read x.name x.what state (each_at (IsLawfulDecl p at m state) ds x h a)).1 q.0) d
    section_domain_back (ivar ds) h d = each_mono _ _ ds (λ x a q. (decl_read x.name x.what input (each_at (IsLawfulDecl p at m input) ds x h a)).1 q.0) d
    section_domain_back (frozen ds) h d = each_mono _ _ ds (λ x a q. (decl_read x.name x.what frozen_role (each_at (IsLawfulDecl p at m frozen_role) ds x h a)).1 q.0) d
    section_domain_back (define ds) h d = tt
    section_domain_back (constants xs) h d = tt
    section_domain_back (assign xs) h d = tt
    section_domain_back (init t) h d = tt
    section_domain_back (invar t) h d = tt
    section_domain_back (trans t) h d = tt

    -- from the extended condition on domains: the read and own values of a slice's target
    abbrev ExtendedDomains : Type 0
    ExtendedDomains = Each (extended.DomainSection p i at m mo) m.sections

    target_in_sections : (s : SliceTree) (a : Among (slices_of i m.name) s) → kind_in_sections m.sections s.target ≡ a_variable state (ok.slices at m s is a).type
    target_in_sections s a = after_formals (formal_from 0 m.formals s.target) (kind_in_sections m.sections s.target) state (ok.slices at m s is a).type (ok.slices at m s is a).target_kind

    pub target_declared : (s : SliceTree) (a : Among (slices_of i m.name) s) → ExtendedDomains → Declares mo.read at s.target (ok.slices at m s is a).type × Declares mo.own at s.target (ok.slices at m s is a).type
    target_declared s a h =
        sections_find (BothDeclared p i at m mo) (Declares mo.read at s.target (ok.slices at m s is a).type × Declares mo.own at s.target (ok.slices at m s is a).type)
        s.target state (ok.slices at m s is a).type
        (λ d both name what.
        let affected : is_affected i m.name d.name ≡ true = subst (λ x. is_affected i m.name x ≡ true) (sym name) (target_affected (slices_of i m.name) s a) in (
          subst (λ x. Declares mo.read at x (ok.slices at m s is a).type) name (subst (Declares mo.read at d.name) what both.0),
          subst (λ x. Declares mo.own at x (ok.slices at m s is a).type) name (subst (Declares mo.own at d.name) what (both.1 affected)),
        ))
        (extended.DomainSection p i at m mo) (λ ds q. q) (λ ds q. q) (λ ds q. q) m.sections (target_in_sections s a) h

    pub type_same : (s : SliceTree) (a : Among (slices_of i m.name) s) → type_of_kind (kind_in m s.target) ≡ (ok.slices at m s is a).type
    type_same s a = ap type_of_kind (ok.slices at m s is a).target_kind

    pub read_same : (s : SliceTree) (a : Among (slices_of i m.name) s) → v at s.target ≡ mo.read at s.target
    read_same s a = cut.read at s.target state (ok.slices at m s is a).type (m, is, (ok.slices at m s is a).target_kind)

    mode_domain : (s : SliceTree) (a : Among (slices_of i m.name) s) → IsTrue (in_domain (mode_type s) (v at (mode_variable s.name)))
    mode_domain s a =
        let known : IsKnown s (mo.mode at s.name) = known_of p i s (mo.mode at s.name) (cut.known at s (slice_at s a)) in
        subst (λ y. IsTrue (in_domain (mode_type s) y)) (sym (cut.mode at s (slice_at s a))) (symbol_member (member.Symbol (mode_symbol s.name None) ∷ map (λ k. member.Symbol (mode_symbol s.name (Some k.name))) s.modes) (mode_symbol s.name (mo.mode at s.name)) ∙ type_symbol s (mo.mode at s.name) known)

    rules_domain : (s : SliceTree) → Each (DomainSection at v) (slice_rules s)
    rules_domain s =
        (each_flat_map (DomainSection at v) (λ k. mode_rules s.start k.effect s.name k.name s.target) s.modes).1
        (each_all _ s.modes (λ k b. (mode_rules_plain (DomainSection at v) (λ f. tt) s.start k.effect s.name k.name s.target).1 (none (rule_of k.effect) s.name k.name s.target)))
      where
        none : (r : Option EffectRule) (slice mode x : Text) → Each (DomainSection at v) (rule_trees r slice mode x)
        none None slice mode x = tt
        none (Some NotOwn) slice mode x = (tt, tt)
        none (Some AsBefore) slice mode x = (tt, tt)
        none (Some AsEntered) slice mode x = (tt, tt)
        none (Some (Falling d f)) slice mode x = (tt, tt)

    -- domains of the woven module and of the extended one
    pub domains_iff : Each (DomainSection at v) (woven_module i m).sections ↔ ExtendedDomains
    domains_iff = iff_trans (split (DomainSection at v) m) (to, from)
      where
        to : Each (λ x. DomainSection at v (woven_section (is_affected i m.name) x)) m.sections × Each (λ s. Each (DomainSection at v) (slice_sections m s)) (slices_of i m.name) → ExtendedDomains
        to h =
            let own : OwnDomains = each_mono (λ s. Each (DomainSection at v) (slice_sections m s)) (λ s. Declares v at (own_name s.target) (type_of_kind (kind_in m s.target))) (slices_of i m.name) (λ s a q. q.0.0) h.1 in
            each_mono _ _ m.sections (λ x a q. section_domain x (each_at (IsLawfulSection p at m) m.sections x (ok.instances at m is).sections a) own q) h.0

        from : ExtendedDomains → Each (λ x. DomainSection at v (woven_section (is_affected i m.name) x)) m.sections × Each (λ s. Each (DomainSection at v) (slice_sections m s)) (slices_of i m.name)
        from h = (
          each_mono _ _ m.sections (λ x a q. section_domain_back x (each_at (IsLawfulSection p at m) m.sections x (ok.instances at m is).sections a) q) h,
          each_all _ (slices_of i m.name) (λ s a. (
            (
              subst (Declares v at (own_name s.target)) (sym (type_same s a)) (declares_same (ok.slices at m s is a).type mo.own v at s.target (own_name s.target) (sym (cut.own at s (slice_at s a))) (target_declared s a h).1),
              (mode_domain s a, tt),
            ),
            (tt, rules_domain s),
          )),
        )

    pub slice_known : (s : SliceTree) → Among (slices_of i m.name) s → IsKnown s (mo.mode at s.name)
    slice_known s a = known_of p i s (mo.mode at s.name) (cut.known at s (slice_at s a))

    -- what the mode that stands says of the moment alone
    abbrev pub NowRow : SliceTree → Type 0
    NowRow s =
        Each (λ k. stands_at (mo.mode at s.name) k.name ≡ true → BranchAllows (branch_of k.effect) (λ f y. May p at mo.read mo.read f y) (type_of_kind (kind_in m s.target)) (mo.own at s.target) (mo.read at s.target)) s.modes
        × Each (λ k. stands_at (mo.mode at s.name) k.name ≡ true → RuleNow (rule_of k.effect) (mo.own at s.target) (mo.read at s.target)) s.modes

    abbrev Row : SliceTree → DeclaredTree → Value → Value → Type 0
    Row s t x o = (mo.mode at s.name ≡ None → x ≡ o)
        × (Each (λ k. stands_at (mo.mode at s.name) k.name ≡ true → BranchAllows (branch_of k.effect) (λ f y. May p at mo.read mo.read f y) t o x) s.modes
        × Each (λ k. stands_at (mo.mode at s.name) k.name ≡ true → RuleNow (rule_of k.effect) o x) s.modes)

    pub target_finite : (s : SliceTree) (a : Among (slices_of i m.name) s) → IsType (ok.slices at m s is a).type
    target_finite s a = (ok.slices at m s is a).finite

    -- the read and the own value of a slice's target are in the domain
    read_inside : ExtendedDomains → (s : SliceTree) (a : Among (slices_of i m.name) s) → IsTrue (in_domain (ok.slices at m s is a).type (v at s.target))
    read_inside domains s a =
        declares_domain (ok.slices at m s is a).type v at s.target (target_finite s a) (declares_same (ok.slices at m s is a).type mo.read v at s.target s.target (sym (read_same s a)) (target_declared s a domains).0)

    own_inside : ExtendedDomains → (s : SliceTree) (a : Among (slices_of i m.name) s) → IsTrue (in_domain (ok.slices at m s is a).type (v at (own_name s.target)))
    own_inside domains s a =
        declares_domain (ok.slices at m s is a).type v at (own_name s.target) (target_finite s a)
        (declares_same (ok.slices at m s is a).type mo.own v at s.target (own_name s.target) (sym (cut.own at s (slice_at s a))) (target_declared s a domains).1)

    -- what a slice's sections ask of a first moment: where it starts, and what the mode's INIT says
    abbrev StartRowOf : SliceTree → Value → Value → Type 0
    StartRowOf s x o = Starts s.start s.modes (mo.mode at s.name) × Each (λ k. stands_at (mo.mode at s.name) k.name ≡ true → RuleStep (rule_of k.effect) o true x) s.modes

    abbrev pub StartRow : SliceTree → Type 0
    StartRow s = StartRowOf s (mo.read at s.target) (mo.own at s.target)

    slice_start : ExtendedDomains → (s : SliceTree) (a : Among (slices_of i m.name) s) → Each (FirstSection (woven p i) at v) (slice_sections m s) ↔ StartRow s
    slice_start domains s a =
        subst (λ x. Each (FirstSection (woven p i) at v) (slice_sections m s) ↔ StartRowOf s x (mo.own at s.target)) (read_same s a)
        (subst (λ o. Each (FirstSection (woven p i) at v) (slice_sections m s) ↔ StartRowOf s (v at s.target) o) (cut.own at s (slice_at s a))
        (slice_first p i ok at m is s a v (mo.mode at s.name) (slice_known s a) (cut.mode at s (slice_at s a)) (read_inside domains s a) (own_inside domains s a)))

    -- of a first moment
    pub first_iff : ExtendedDomains → Each (FirstSection (woven p i) at v) (woven_module i m).sections
        ↔ (Each (extended.FirstSection p i at m mo) m.sections × Each StartRow (slices_of i m.name))
    first_iff domains =
        iff_trans (split (FirstSection (woven p i) at v) m)
        (iff_both (each_iff _ _ m.sections (λ x a. section_first p i ok at m is v mo cut x (each_at (IsLawfulSection p at m) m.sections x (ok.instances at m is).sections a)))
        (each_iff _ _ (slices_of i m.name) (slice_start domains)))

    slice_moment : ExtendedDomains → (s : SliceTree) (a : Among (slices_of i m.name) s) →
        Each (EachSection (woven p i) at v) (slice_sections m s) ↔ (EachSlice p i at m mo s × NowRow s)
    slice_moment domains s a =
        subst (λ x. Each (EachSection (woven p i) at v) (slice_sections m s) ↔ Row s (type_of_kind (kind_in m s.target)) x (mo.own at s.target)) (read_same s a)
        (subst (λ o. Each (EachSection (woven p i) at v) (slice_sections m s) ↔ Row s (type_of_kind (kind_in m s.target)) (v at s.target) o) (cut.own at s (slice_at s a))
        (subst (λ t. Each (EachSection (woven p i) at v) (slice_sections m s) ↔ Row s t (v at s.target) (v at (own_name s.target))) (sym (type_same s a))
        (slice_each p i ok at m is s a v (mo.mode at s.name) (slice_known s a) (cut.mode at s (slice_at s a)) mo.read cut.read (read_inside domains s a) (own_inside domains s a))))

    -- of each moment
    pub moment_iff : (Each (DomainSection at v) (woven_module i m).sections × Each (EachSection (woven p i) at v) (woven_module i m).sections)
        ↔ ((Each (extended.DomainSection p i at m mo) m.sections × Each (extended.EachSection p i at m mo) m.sections × Each (EachSlice p i at m mo) (slices_of i m.name)) × Each NowRow (slices_of i m.name))
    moment_iff = (to, from)
      where
        own_part' : Each (λ x. EachSection (woven p i) at v (woven_section (is_affected i m.name) x)) m.sections ↔ Each (extended.EachSection p i at m mo) m.sections
        own_part' = each_iff _ _ m.sections (λ x a. section_each p i ok at m is v mo cut x (each_at (IsLawfulSection p at m) m.sections x (ok.instances at m is).sections a))

        slice_part : ExtendedDomains → Each (λ s. Each (EachSection (woven p i) at v) (slice_sections m s)) (slices_of i m.name) ↔ Each (λ s. EachSlice p i at m mo s × NowRow s) (slices_of i m.name)
        slice_part d = each_iff _ _ (slices_of i m.name) (slice_moment d)

        to : Each (DomainSection at v) (woven_module i m).sections × Each (EachSection (woven p i) at v) (woven_module i m).sections →
            (Each (extended.DomainSection p i at m mo) m.sections × Each (extended.EachSection p i at m mo) m.sections × Each (EachSlice p i at m mo) (slices_of i m.name)) × Each NowRow (slices_of i m.name)
        to h =
            let d : ExtendedDomains = domains_iff.0 h.0 in
            let parts : Each (λ x. EachSection (woven p i) at v (woven_section (is_affected i m.name) x)) m.sections × Each (λ s. Each (EachSection (woven p i) at v) (slice_sections m s)) (slices_of i m.name) =
            (split (EachSection (woven p i) at v) m).0 h.1 in
            let rows : Each (EachSlice p i at m mo) (slices_of i m.name) × Each NowRow (slices_of i m.name) = (each_both (EachSlice p i at m mo) NowRow (slices_of i m.name)).1 ((slice_part d).0 parts.1) in
            ((d, own_part'.0 parts.0, rows.0), rows.1)

        from : (Each (extended.DomainSection p i at m mo) m.sections × Each (extended.EachSection p i at m mo) m.sections × Each (EachSlice p i at m mo) (slices_of i m.name)) × Each NowRow (slices_of i m.name) →
            Each (DomainSection at v) (woven_module i m).sections × Each (EachSection (woven p i) at v) (woven_module i m).sections
        from h =
            (domains_iff.1 h.0.0, (split (EachSection (woven p i) at v) m).1 (own_part'.1 h.0.1, (slice_part h.0.0).1 ((each_both (EachSlice p i at m mo) NowRow (slices_of i m.name)).0 (h.0.2, h.1))))
