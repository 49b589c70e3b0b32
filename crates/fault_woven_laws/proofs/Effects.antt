-- What the templates of a slice are judged as, where its names have the kinds that they are to have.
use Rattle.std.proofs.Common.{◌≡◌, Bool, true, false, [], ◌∷◌, Option, Some, None, ℤ, ◌+ℤ◌, ◌-ℤ◌, refl, ap, ◌∙◌}
use Rattle.std.specs.Prelude.{◌&&◌, IsTrue}
use Rattle.smv_language.specs.declared.expr.Op.TheVariants as op
use Rattle.smv_language.specs.Language.{next_of, binary, AllLeaves, Text, Path, Formula, DeclaredTree, boolean, range, members, instance, SectionTree, init, invar, trans, at_most, is_between, Each, in_domain}
use Rattle.smv_language.specs.Values.{number}
use Rattle.smv_language.proofs.ValueLaws.{both_true}
use Rattle.fault_instructions.specs.declared.instructions.Start.{Start}
use Rattle.fault_instructions.specs.declared.instructions.Start.TheVariants.{Nominal, Any}
use Rattle.fault_instructions.specs.declared.effects.EffectRule.{EffectRule}
use Rattle.fault_instructions.specs.declared.effects.EffectRule.TheVariants.{NotOwn, AsBefore, AsEntered, Falling}
use Rattle.fault_instructions.specs.EffectForms.{Demand, no_demand, one_of_its, truth_values, two_values, a_range, Branch, the_constant, the_formula, the_opposite, the_sum, any_value}
use Rattle.fault_instructions.specs.Effects.{row, branch_of, rule_of, fault_of}
use Rattle.fault_instructions.specs.Instructions.{EffectTree, plain, of_constant, of_expression, of_number, of_numbers, EachArgument, ModeTree, SliceTree}
use Rattle.fault_instructions.specs.AddedNames.{ModeState, own_name, mode_variable, mode_symbol}
use Rattle.fault_instructions.specs.Types.{IsKnown, IsBoolean, Demanded}
use Rattle.fault_instructions.specs.Templates.{named, number_tree, clipped_tree, branch, branch_tree, greater_tree, stands, stands_next, stays_tree, rules, rule_trees, first_trees}
use Rattle.fault_weave.specs.WovenProgram.{start_rules}
use Rattle.fault_instructions.specs.declared.fault.EffectFault.{EffectFault}
use Rattle.fault_instructions.specs.declared.fault.EffectFault.TheVariants.{Outside}
use Rattle.fault_instructions.specs.AllowedEffects.{is_small, offset_fits, ramp_fits, fault_unless, is_of_kind, demand_fault}
use Rattle.smv_type_laws.specs.Intervals.{Interval, just, sum_of, difference_of, fits}
use Rattle.smv_type_laws.specs.ExpressionKinds.{Class, truth_class, number_class, symbol_class, Kind, Judged, judged_number, judge}
use Rattle.smv_type_laws.specs.DeclaredKinds.{judged_declared, class_declared}
use Rattle.fault_woven_laws.proofs.Rightly.{Rightly, not_right, connective_right, order_right, same_right, choice_right, choice_alone}
use Rattle.fault_woven_laws.proofs.Numbers.{numbers_in, numbers_right, small_fits, between_fits, number_judged, sum_judged, difference_judged}
use Rattle.fault_woven_laws.proofs.Domains.{range_kept, range_kind, MembersKnown, domain_right, value_right}
use Rattle.fault_rules.proofs.KeptFacts.{constant_within}
use Rattle.fault_extend_laws.specs.Expressions.{followed}
use Rattle.fault_instructions.proofs.EffectRows.{BranchAsks, RuleAsks, BranchHolds, row_law}

-- no fault
pub unless_none : (b : Bool) (f : EffectFault) → fault_unless b f ≡ None → b ≡ true
unless_none true f e = refl
unless_none false f e = cc

-- a range whose ends pass
abbrev IsRangeThat : (ℤ → ℤ → Bool) → DeclaredTree → Type 0
IsRangeThat passes (range lo hi) = passes lo hi ≡ true
IsRangeThat passes _ = ⊥

-- what an effect that is refused for nothing demands is so
demanded : (d : Demand) (type : DeclaredTree) → demand_fault d type ≡ None → Demanded (λ c. IsTrue (in_domain type c)) (IsBoolean type) (λ passes. IsRangeThat passes type) d
demanded no_demand type e = tt
demanded (one_of_its c) type e = constant_within (is_of_kind type c) (in_domain type c) e
demanded two_values type e = tt
demanded truth_values boolean e = tt
demanded truth_values (range lo hi) e = cc
demanded truth_values (members ms) e = cc
demanded truth_values (instance n actuals) e = cc
demanded (a_range passes) (range lo hi) e = unless_none (passes lo hi) Outside e
demanded (a_range passes) boolean e = cc
demanded (a_range passes) (members ms) e = cc
demanded (a_range passes) (instance n actuals) e = cc

-- what holds of what is followed holds of each expression of an effect
pub of_followed : (F : Formula → Type 0) (e : EffectTree) → ((f : Formula) → followed e ≡ Some f → F f) → EachArgument (λ c. Unit {0}) F (λ n. Unit {0}) e
of_followed F (plain k) h = tt
of_followed F (of_constant k c) h = tt
of_followed F (of_expression k f) h = h f refl
of_followed F (of_number k n) h = tt
of_followed F (of_numbers k m n) h = (tt, tt)

module _ (K : Path → Kind) (P : Path → Type 0) where
  -- the names of a slice have the kinds that they are to have
  pub record SliceKinds (s : SliceTree) (type : DeclaredTree) : Type 0 where
    pub right : (judged_declared type).broken ≡ []
    pub target : P (s.target ∷ []) → K (s.target ∷ []) ≡ (judged_declared type).kind
    pub own : P (own_name s.target ∷ []) → K (own_name s.target ∷ []) ≡ (judged_declared type).kind
    pub mode : P (mode_variable s.name ∷ []) → (K (mode_variable s.name ∷ [])).class ≡ symbol_class
    pub symbols : (st : ModeState) → IsKnown s st → P (mode_symbol s.name st ∷ []) → (K (mode_symbol s.name st ∷ [])).class ≡ symbol_class
    pub members : MembersKnown K P type

  -- the expressions of a mode are judged, and its effect is allowed
  pub record ModeKinds (type : DeclaredTree) (m : ModeTree) : Type 0 where
    pub allowed : fault_of m.effect type ≡ None
    pub following : EachArgument (λ c. Unit {0}) (λ f. AllLeaves P f → Rightly (class_declared type) (judge K true f)) (λ n. Unit {0}) m.effect
    pub guard : (g : Formula) → m.guard ≡ Some g → AllLeaves P g → Rightly truth_class (judge K false g)

  named_right : (sets : Bool) (c : Class) (x : Text) → (K (x ∷ [])).class ≡ c → Rightly c (judge K sets (named x))
  named_right sets c x e = record { kept = refl; class = e }

  module _ (s : SliceTree) (type : DeclaredTree) (kinds : SliceKinds s type) where
    target_right : (sets : Bool) → P (s.target ∷ []) → Rightly (class_declared type) (judge K sets (named s.target))
    target_right sets h = named_right sets (class_declared type) s.target (ap (λ (k : Kind). k.class) (kinds.target h))

    pub own_right : (sets : Bool) → P (own_name s.target ∷ []) → Rightly (class_declared type) (judge K sets (named (own_name s.target)))
    own_right sets h = named_right sets (class_declared type) (own_name s.target) (ap (λ (k : Kind). k.class) (kinds.own h))

    pub symbol_right : (sets : Bool) (st : ModeState) → IsKnown s st → P (mode_symbol s.name st ∷ []) → Rightly symbol_class (judge K sets (named (mode_symbol s.name st)))
    symbol_right sets st known h = named_right sets symbol_class (mode_symbol s.name st) (kinds.symbols st known h)

    pub stands_right : (mode : Text) → IsKnown s (Some mode) → AllLeaves P (stands s.name mode) → Rightly truth_class (judge K false (stands s.name mode))
    stands_right mode known h =
        same_right symbol_class (judge K false (named (mode_variable s.name))) (judge K false (named (mode_symbol s.name (Some mode))))
        (named_right false symbol_class (mode_variable s.name) (kinds.mode h.0)) (symbol_right false (Some mode) known h.1)

    stands_next_right : (mode : Text) → IsKnown s (Some mode) → AllLeaves P (stands_next s.name mode) → Rightly truth_class (judge K false (stands_next s.name mode))
    stands_next_right mode known h =
        same_right symbol_class (judge K false (named (mode_variable s.name))) (judge K false (named (mode_symbol s.name (Some mode))))
        (named_right false symbol_class (mode_variable s.name) (kinds.mode h.0)) (symbol_right false (Some mode) known h.1)

    stays_right : AllLeaves P (stays_tree s.target) → Rightly truth_class (judge K false (stays_tree s.target))
    stays_right h = same_right (class_declared type) (judge K false (named s.target)) (judge K false (named s.target)) (target_right false h.0) (target_right false h.1)

  -- Of a range.
  module _ (s : SliceTree) (lo hi : ℤ) (kinds : SliceKinds s (range lo hi)) where
    ends : Interval
    ends = record { lo = lo; hi = hi }

    read_judged : P (s.target ∷ []) → judge K false (named s.target) ≡ numbers_in ends
    unfolding ends
    read_judged h = ap (λ (k : Kind). record { kind = k; is_set = false; broken = [] }) (kinds.target h ∙ range_kind lo hi kinds.right)

    own_judged : P (own_name s.target ∷ []) → judge K false (named (own_name s.target)) ≡ numbers_in ends
    unfolding ends
    own_judged h = ap (λ (k : Kind). record { kind = k; is_set = false; broken = [] }) (kinds.own h ∙ range_kind lo hi kinds.right)

    -- the own value and a distance, clipped
    clipped_right : (d : ℤ) → offset_fits d lo hi ≡ true → AllLeaves P (clipped_tree (range lo hi) (binary op.Plus (named (own_name s.target)) (number_tree d))) →
        Rightly number_class (judge K true (clipped_tree (range lo hi) (binary op.Plus (named (own_name s.target)) (number_tree d))))
    unfolding ends
    clipped_right d e h =
        let parts = both_true (is_small d) (is_small (lo +ℤ d) && is_small (hi +ℤ d)) e in
        let moved = both_true (is_small (lo +ℤ d)) (is_small (hi +ℤ d)) parts.1 in
        let k = range_kept lo hi kinds.right in
        let sum_fits : fits (sum_of ends (just d)) ≡ true = rw (small_fits (lo +ℤ d) moved.0, small_fits (hi +ℤ d) moved.1) refl in
        let sum : judge K false (binary op.Plus (named (own_name s.target)) (number_tree d)) ≡ numbers_in (sum_of ends (just d)) =
        (λ i. judged_number op.Plus (own_judged h.0.0.0 i) (number_judged K false d (small_fits d parts.0) i)) ∙ sum_judged ends (just d) sum_fits in
        let moved_right : Rightly number_class (judge K true (binary op.Plus (named (own_name s.target)) (number_tree d))) = numbers_right _ (sum_of ends (just d)) sum in
        let most : Rightly number_class (judge K true (number_tree hi)) = numbers_right _ (just hi) (number_judged K true hi k.fits_hi) in
        let least : Rightly number_class (judge K true (number_tree lo)) = numbers_right _ (just lo) (number_judged K true lo k.fits_lo) in
        let over = order_right (judge K false (binary op.Plus (named (own_name s.target)) (number_tree d))) (judge K false (number_tree hi)) (numbers_right _ (sum_of ends (just d)) sum) (numbers_right _ (just hi) (number_judged K false hi k.fits_hi)) in
        let under = order_right (judge K false (binary op.Plus (named (own_name s.target)) (number_tree d))) (judge K false (number_tree lo)) (numbers_right _ (sum_of ends (just d)) sum) (numbers_right _ (just lo) (number_judged K false lo k.fits_lo)) in
        choice_right number_class _ _ _ over most (choice_right number_class _ _ _ under least moved_right)

    -- a value of the range less the step, and the floor
    greater_right : (x : Text) → judge K false (named x) ≡ numbers_in ends → (d f : ℤ) → ramp_fits d f lo hi ≡ true →
        Rightly number_class (judge K false (greater_tree (binary op.Minus (named x) (number_tree d)) f))
    unfolding ends
    greater_right x value d f e =
        let parts = both_true (at_most _ d && is_small d) (is_between lo hi (number f) && (is_small (lo -ℤ d) && is_small (hi -ℤ d))) e in
        let step = both_true (at_most _ d) (is_small d) parts.0 in
        let rest = both_true (is_between lo hi (number f)) (is_small (lo -ℤ d) && is_small (hi -ℤ d)) parts.1 in
        let moved = both_true (is_small (lo -ℤ d)) (is_small (hi -ℤ d)) rest.1 in
        let k = range_kept lo hi kinds.right in
        let difference_fits : fits (difference_of ends (just d)) ≡ true = rw (small_fits (lo -ℤ d) moved.0, small_fits (hi -ℤ d) moved.1) refl in
        let difference : judge K false (binary op.Minus (named x) (number_tree d)) ≡ numbers_in (difference_of ends (just d)) =
        (λ i. judged_number op.Minus (value i) (number_judged K false d (small_fits d step.1) i)) ∙ difference_judged ends (just d) difference_fits in
        let floor = number_judged K false f (between_fits lo hi f k.fits_lo k.fits_hi rest.0) in
        let left = numbers_right _ (difference_of ends (just d)) difference in
        let right = numbers_right _ (just f) floor in
        choice_alone number_class _ _ _ (order_right _ _ left right) left right (ap (λ (j : Judged). j.is_set) difference) (ap (λ (j : Judged). j.is_set) floor)

  -- the branch of a mode has the class of the variable
  branch_kept : (b : Branch) (s : SliceTree) (type : DeclaredTree) → SliceKinds s type → BranchAsks (λ c. IsTrue (in_domain type c)) (IsBoolean type) (λ passes. IsRangeThat passes type) b →
      BranchHolds (λ c. Unit {0}) (λ f. AllLeaves P f → Rightly (class_declared type) (judge K true f)) (λ n. Unit {0}) b → AllLeaves P (branch_tree b type s.target) → Rightly (class_declared type) (judge K true (branch_tree b type s.target))
  branch_kept (the_constant c) s type kinds a f h = value_right K P true type c kinds.right kinds.members a h
  branch_kept (the_formula e) s type kinds a f h = f h
  branch_kept the_opposite s boolean kinds a f h = not_right (judge K false (named (own_name s.target))) (own_right s boolean kinds false h)
  branch_kept the_opposite s (range lo hi) kinds a f h = absurd a
  branch_kept the_opposite s (members ms) kinds a f h = absurd a
  branch_kept the_opposite s (instance n actuals) kinds a f h = absurd a
  branch_kept (the_sum d) s (range lo hi) kinds a f h = clipped_right s lo hi kinds d a h
  branch_kept (the_sum d) s boolean kinds a f h = absurd a
  branch_kept (the_sum d) s (members ms) kinds a f h = absurd a
  branch_kept (the_sum d) s (instance n actuals) kinds a f h = absurd a
  branch_kept any_value s type kinds a f h = domain_right K P type kinds.right kinds.members h

  pub branch_right : (e : EffectTree) (s : SliceTree) (type : DeclaredTree) → SliceKinds s type → fault_of e type ≡ None →
      EachArgument (λ c. Unit {0}) (λ f. AllLeaves P f → Rightly (class_declared type) (judge K true f)) (λ n. Unit {0}) e → AllLeaves P (branch e type s.target) → Rightly (class_declared type) (judge K true (branch e type s.target))
  branch_right e s type kinds a f h =
      branch_kept (branch_of e) s type kinds ((row_law e).asks _ _ _ (demanded (row e).demand type a)).0 ((row_law e).holds _ _ _ f).0 h

  -- a rule section is a condition that breaks no rule
  abbrev pub RuleRight : SectionTree → Type 0
  RuleRight (invar e) = AllLeaves P e → Rightly truth_class (judge K false e)
  RuleRight (init e) = AllLeaves P e → Rightly truth_class (judge K false e)
  RuleRight (trans e) = AllLeaves P e → Rightly truth_class (judge K false e)
  RuleRight _ = ⊥

  -- each rule section of a mode breaks no rule
  rules_kept : (r : Option EffectRule) (s : SliceTree) (type : DeclaredTree) (mode : Text) → SliceKinds s type → IsKnown s (Some mode) → RuleAsks (λ passes. IsRangeThat passes type) r → Each RuleRight (rule_trees r s.name mode s.target)
  rules_kept None s type mode kinds known a = tt
  rules_kept (Some NotOwn) s type mode kinds known a = (
    λ h. connective_right (judge K false (stands s.name mode)) (judge K false (binary op.Differs (named s.target) (named (own_name s.target)))) (stands_right s type kinds mode known h.0)
        (same_right (class_declared type) (judge K false (named s.target)) (judge K false (named (own_name s.target))) (target_right s type kinds false h.1.0) (own_right s type kinds false h.1.1)),
    tt,
  )
  rules_kept (Some AsBefore) s type mode kinds known a = (
    λ h. connective_right (judge K false (stands_next s.name mode)) (judge K false (stays_tree s.target)) (stands_next_right s type kinds mode known h.0) (stays_right s type kinds h.1),
    tt,
  )
  rules_kept (Some AsEntered) s type mode kinds known a = (
    λ h. connective_right (judge K false (binary op.And (stands s.name mode) (stands_next s.name mode))) (judge K false (stays_tree s.target))
        (connective_right (judge K false (stands s.name mode)) (judge K false (stands_next s.name mode)) (stands_right s type kinds mode known h.0.0) (stands_next_right s type kinds mode known h.0.1))
        (stays_right s type kinds h.1),
    tt,
  )
  rules_kept (Some (Falling d f)) s boolean mode kinds known a = absurd a
  rules_kept (Some (Falling d f)) s (range lo hi) mode kinds known a = (
    λ h. connective_right (judge K false (stands_next s.name mode)) (judge K false (binary op.Equal (next_of (named s.target)) (greater_tree (binary op.Minus (named s.target) (number_tree d)) f)))
        (stands_next_right s (range lo hi) kinds mode known h.0)
        (same_right number_class (judge K false (named s.target)) (judge K false (greater_tree (binary op.Minus (named s.target) (number_tree d)) f)) (target_right s (range lo hi) kinds false h.1.0)
        (greater_right s lo hi kinds s.target (read_judged s lo hi kinds h.1.0) d f a)),
    tt,
  )
  rules_kept (Some (Falling d f)) s (members ms) mode kinds known a = absurd a
  rules_kept (Some (Falling d f)) s (instance n actuals) mode kinds known a = absurd a

  pub rules_right : (e : EffectTree) (s : SliceTree) (type : DeclaredTree) (mode : Text) → SliceKinds s type → IsKnown s (Some mode) → fault_of e type ≡ None → Each RuleRight (rules e s.name mode s.target)
  rules_right e s type mode kinds known a = rules_kept (rule_of e) s type mode kinds known ((row_law e).asks _ _ _ (demanded (row e).demand type a)).1

  -- and each first rule section
  first_kept : (r : Option EffectRule) (s : SliceTree) (type : DeclaredTree) (mode : Text) → SliceKinds s type → IsKnown s (Some mode) → RuleAsks (λ passes. IsRangeThat passes type) r → Each RuleRight (first_trees r s.name mode s.target)
  first_kept None s type mode kinds known a = tt
  first_kept (Some NotOwn) s type mode kinds known a = tt
  first_kept (Some AsEntered) s type mode kinds known a = tt
  first_kept (Some AsBefore) s type mode kinds known a = (
    λ h. connective_right (judge K false (stands s.name mode)) (judge K false (binary op.Equal (named s.target) (named (own_name s.target)))) (stands_right s type kinds mode known h.0)
        (same_right (class_declared type) (judge K false (named s.target)) (judge K false (named (own_name s.target))) (target_right s type kinds false h.1.0) (own_right s type kinds false h.1.1)),
    tt,
  )
  first_kept (Some (Falling d f)) s boolean mode kinds known a = absurd a
  first_kept (Some (Falling d f)) s (range lo hi) mode kinds known a = (
    λ h. connective_right (judge K false (stands s.name mode)) (judge K false (binary op.Equal (named s.target) (greater_tree (binary op.Minus (named (own_name s.target)) (number_tree d)) f)))
        (stands_right s (range lo hi) kinds mode known h.0)
        (same_right number_class (judge K false (named s.target)) (judge K false (greater_tree (binary op.Minus (named (own_name s.target)) (number_tree d)) f)) (target_right s (range lo hi) kinds false h.1.0)
        (greater_right s lo hi kinds (own_name s.target) (own_judged s lo hi kinds h.1.1.0.0.0) d f a)),
    tt,
  )
  first_kept (Some (Falling d f)) s (members ms) mode kinds known a = absurd a
  first_kept (Some (Falling d f)) s (instance n actuals) mode kinds known a = absurd a

  pub start_right : (start : Start) (e : EffectTree) (s : SliceTree) (type : DeclaredTree) (mode : Text) → SliceKinds s type → IsKnown s (Some mode) → fault_of e type ≡ None →
      Each RuleRight (start_rules start e s.name mode s.target)
  start_right Nominal e s type mode kinds known a = tt
  start_right Any e s type mode kinds known a = first_kept (rule_of e) s type mode kinds known ((row_law e).asks _ _ _ (demanded (row e).demand type a)).1
