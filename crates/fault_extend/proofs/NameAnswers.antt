-- The first rule of names of a mode, from what is told of its expressions.
use Rattle.std.proofs.Common.{◌≡◌, inl, inr, ℕ, ◌<◌, Bool, true, false, Option, Some, None, refl, sym, subst, arith}
use Rattle.std.specs.Prelude.{IfSome, MatchOption, nat_lt, if◌then◌else◌, Result, Ok, Err, IfOk, IfErr, OnOk}
use Rattle.std.specs.Option.{option_map}
use Rattle.std.proofs.lemmas.Bool.{ltb-true, ltb-false}
use Rattle.smv_language.specs.Language.{Path, Formula, ProgramTree, tree_of, Place, FlatModel, flat_tree}
use Rattle.smv_language.specs.declared.expr.Expr.{Expr}
use Rattle.fault_instructions.specs.Instructions.{guard_tree}
use Rattle.smv_flat_laws.specs.Rules.{Rule, number_of, no_main, main_has_parameters, double_module, double_name, no_such_module, wrong_count, module_loop, no_such_name, not_a_target, double_assign, define_loop, next_here, input_here, too_many, IsAccepted}
use Rattle.smv_scope.specs.declared.fault.FlatFault.{FlatFault}
use Rattle.smv_flat_laws.specs.ValueRules.{IsLeastBroken}
use Rattle.smv_scope.specs.Faults.{rule_of, IsFaultOf}
use Rattle.smv_flat.specs.ResolvedAt.{IsValueFault}
use Rattle.smv_language.specs.declared.model.Flat.{Flat}
use Rattle.smv_flat.proofs.FlatFaults.{no_rule}
use Rattle.fault_rules.specs.declared.fault.InstructionRule.TheVariants.{OutOfMemory}
use Rattle.fault_extend_laws.specs.Uses.{Use}
use Rattle.fault_extend_laws.specs.Expressions.{followed, BreaksNames, IsLeastOfNames, KeepsNames, IsForm, of_names, IsBrokenAt, by_names}
use Rattle.fault_extend.specs.declared.fault.WeaveCause.{WeaveCause}
use Rattle.fault_extend.specs.declared.fault.WeaveCause.TheVariants as causes
use Rattle.fault_extend.specs.GuardJudgement.{IsLeastOfSome, IsSomeKept, IsSomeFault, told_number, lower_fault, both_forms}
use Rattle.fault_extend.specs.FirstRefusal.{IsWantOr}

-- how a fault of names is told
abbrev pub IsFlatCause : FlatFault → WeaveCause → Type 0
IsFlatCause f cause = MatchOption (rule_of f.rule) (cause ≡ causes.Weave OutOfMemory) (λ r. cause ≡ causes.Flat f)

-- of an accepted program there is want of memory alone
pub want_told : (p : ProgramTree) (f : FlatFault) (cause : WeaveCause) → IsAccepted p → IsFaultOf p f → IsFlatCause f cause → cause ≡ causes.Weave OutOfMemory
want_told p f cause accepted fault h = subst (λ o. MatchOption o (cause ≡ causes.Weave OutOfMemory) (λ r. cause ≡ causes.Flat f)) (no_rule p f accepted fault) h

positive : (r : Rule) → 0 < number_of r
positive no_main = omega arith
positive main_has_parameters = omega arith
positive double_module = omega arith
positive double_name = omega arith
positive no_such_module = omega arith
positive wrong_count = omega arith
positive module_loop = omega arith
positive no_such_name = omega arith
positive not_a_target = omega arith
positive double_assign = omega arith
positive define_loop = omega arith
positive next_here = omega arith
positive input_here = omega arith
positive too_many = omega arith

module _ (p : ProgramTree) (u : Use) where
  -- the fault is the least rule of names that the mode breaks, or want of memory
  abbrev pub IsNamesFault : FlatFault → Type 0
  IsNamesFault f = IfSome (rule_of f.rule) (λ r. (f.item ≡ 0) × IsLeastOfNames p u r)

  pub both_kept : IsSomeKept p u.place false (followed u.mode.effect) → IsSomeKept p u.place true u.mode.guard → KeepsNames p u
  both_kept a b r (inl h) = a r h
  both_kept a b r (inr h) = b r h

  pub follows_told : (f : FlatFault) → IsSomeFault p u.place false (followed u.mode.effect) f → IsSomeKept p u.place true u.mode.guard → IsNamesFault f
  follows_told f h kept = by_rule (rule_of f.rule) h
    where
      lowest : (r : Rule) → IsLeastOfSome p u.place false (followed u.mode.effect) r → (other : Rule) → number_of other < number_of r → BreaksNames p u other → ⊥
      lowest r l other less (inl b) = l.lowest other less b
      lowest r l other less (inr b) = kept other b

      by_rule : (o : Option Rule) → IfSome o (λ r. (f.item ≡ 0) × IsLeastOfSome p u.place false (followed u.mode.effect) r) → IfSome o (λ r. (f.item ≡ 0) × IsLeastOfNames p u r)
      by_rule None g = tt
      by_rule (Some r) g = (g.0, record { broken = inl g.1.broken; lowest = lowest r g.1 })

  pub guard_told : (f : FlatFault) → IsSomeKept p u.place false (followed u.mode.effect) → IsSomeFault p u.place true u.mode.guard f → IsNamesFault f
  guard_told f kept h = by_rule (rule_of f.rule) h
    where
      lowest : (r : Rule) → IsLeastOfSome p u.place true u.mode.guard r → (other : Rule) → number_of other < number_of r → BreaksNames p u other → ⊥
      lowest r l other less (inl b) = kept other b
      lowest r l other less (inr b) = l.lowest other less b

      by_rule : (o : Option Rule) → IfSome o (λ r. (f.item ≡ 0) × IsLeastOfSome p u.place true u.mode.guard r) → IfSome o (λ r. (f.item ≡ 0) × IsLeastOfNames p u r)
      by_rule None g = tt
      by_rule (Some r) g = (g.0, record { broken = inr g.1.broken; lowest = lowest r g.1 })

  -- of two faults the lower one
  module _ (f g : FlatFault) where
    abbrev Lower : Bool → FlatFault
    Lower b = if b then g else f

    both_some : (r q : Rule) (b : Bool) → nat_lt (number_of q) (number_of r) ≡ b → (f.item ≡ 0) × IsLeastOfSome p u.place false (followed u.mode.effect) r →
        (g.item ≡ 0) × IsLeastOfSome p u.place true u.mode.guard q → rule_of f.rule ≡ Some r → rule_of g.rule ≡ Some q → IsNamesFault (Lower b)
    both_some r q true t a c is also = subst (λ o. IfSome o (λ r. (g.item ≡ 0) × IsLeastOfNames p u r)) (sym also) (c.0, record { broken = inr c.1.broken; lowest = lowest })
      where
        lowest : (other : Rule) → number_of other < number_of q → BreaksNames p u other → ⊥
        lowest other less (inl b) = a.1.lowest other (below (number_of other) (number_of q) (number_of r) less (ltb-true _ _ t)) b
          where
            below : (i j k : ℕ) → i < j → j < k → i < k
            below i j k x y = omega arith
        lowest other less (inr b) = c.1.lowest other less b
    both_some r q false t a c is also = subst (λ o. IfSome o (λ r. (f.item ≡ 0) × IsLeastOfNames p u r)) (sym is) (a.0, record { broken = inl a.1.broken; lowest = lowest })
      where
        lowest : (other : Rule) → number_of other < number_of r → BreaksNames p u other → ⊥
        lowest other less (inl b) = a.1.lowest other less b
        lowest other less (inr b) = c.1.lowest other (omega (arith, less, ltb-false _ _ t)) b

    by_rules : (x y : Option Rule) → rule_of f.rule ≡ x → rule_of g.rule ≡ y → (b : Bool) → nat_lt (told_number y) (told_number x) ≡ b →
        IfSome x (λ r. (f.item ≡ 0) × IsLeastOfSome p u.place false (followed u.mode.effect) r) → IfSome y (λ r. (g.item ≡ 0) × IsLeastOfSome p u.place true u.mode.guard r) → IsNamesFault (Lower b)
    by_rules None y is also true t a c = absurd (omega (arith, ltb-true _ _ t))
    by_rules None y is also false t a c = subst (λ o. IfSome o (λ r. (f.item ≡ 0) × IsLeastOfNames p u r)) (sym is) tt
    by_rules (Some r) None is also true t a c = subst (λ o. IfSome o (λ r. (g.item ≡ 0) × IsLeastOfNames p u r)) (sym also) tt
    by_rules (Some r) None is also false t a c = absurd (omega (arith, positive r, ltb-false _ _ t))
    by_rules (Some r) (Some q) is also b t a c = both_some r q b t a c is also

    pub both_told : IsSomeFault p u.place false (followed u.mode.effect) f → IsSomeFault p u.place true u.mode.guard g → IsNamesFault (lower_fault f g)
    both_told a c = by_rules (rule_of f.rule) (rule_of g.rule) refl refl (nat_lt (told_number (rule_of g.rule)) (told_number (rule_of f.rule))) refl a c

  -- and how that is told
  pub names_cause : (m : FlatModel) (f : FlatFault) (cause : WeaveCause) → IsFlatCause f cause → IsNamesFault f → IsWantOr cause (IsBrokenAt p m u)
  names_cause m f cause told fault = by_rule (rule_of f.rule) refl told fault
    where
      by_rule : (o : Option Rule) → rule_of f.rule ≡ o → MatchOption o (cause ≡ causes.Weave OutOfMemory) (λ r. cause ≡ causes.Flat f) → IfSome o (λ r. (f.item ≡ 0) × IsLeastOfNames p u r) →
          IsWantOr cause (IsBrokenAt p m u)
      by_rule None is t g = subst (λ x. IsWantOr x (IsBrokenAt p m u)) (sym t) refl
      by_rule (Some r) is t g = subst (λ x. IsWantOr x (IsBrokenAt p m u)) (sym t) (record { rule = of_names r; is_cause = (is, g.0); holds = by_names r g.1 })

-- of an expression that is there, what is told of it as a value
pub some_fault : (p : ProgramTree) (at : Place) (inputs : Bool) (e : Formula) (f : FlatFault) → IsValueFault p at inputs e f → IsSomeFault p at inputs (Some e) f
some_fault p at inputs e f h = by_rule (rule_of f.rule) h
  where
    by_rule : (o : Option Rule) → IfSome o (λ r. (f.item ≡ 0) × IsLeastBroken p at inputs e r) → IfSome o (λ r. (f.item ≡ 0) × IsLeastOfSome p at inputs (Some e) r)
    by_rule None g = tt
    by_rule (Some r) g = (g.0, record { broken = g.1.broken; lowest = g.1.lowest })

-- what is told of both expressions of a mode
pub both_answered : (p : ProgramTree) (u : Use) (follows guard : Result (Option (Expr Flat)) FlatFault) → OnOk follows (IsSomeKept p u.place false (followed u.mode.effect)) →
    IfErr follows (IsSomeFault p u.place false (followed u.mode.effect)) → OnOk guard (IsSomeKept p u.place true u.mode.guard) → IfErr guard (IsSomeFault p u.place true u.mode.guard) →
    OnOk (both_forms follows guard) (KeepsNames p u) × IfErr (both_forms follows guard) (IsNamesFault p u)
both_answered p u (Ok f) (Ok g) a b c d = (both_kept p u a c, tt)
both_answered p u (Ok f) (Err y) a b c d = (tt, guard_told p u y a d)
both_answered p u (Err x) (Ok g) a b c d = (tt, follows_told p u x b c)
both_answered p u (Err x) (Err y) a b c d = (tt, both_told p u x y b d)

-- a form of one that is there, of both
pub both_formed : (p : ProgramTree) (m : FlatModel) (u : Use) (follows guard : Result (Option (Expr Flat)) FlatFault) → IfOk follows (λ made. IsForm p m u.place (followed u.mode.effect) (option_map flat_tree made)) →
    IfOk guard (λ made. IsForm p m u.place u.mode.guard (option_map flat_tree made)) → IfOk (both_forms follows guard) (λ r. IsForm p m u.place (followed u.mode.effect) (option_map flat_tree r.follows))
    × IfOk (both_forms follows guard) (λ r. IsForm p m u.place u.mode.guard (option_map flat_tree r.guard))
both_formed p m u (Ok f) (Ok g) a b = (a, b)
both_formed p m u (Ok f) (Err y) a b = (tt, tt)
both_formed p m u (Err x) (Ok g) a b = (tt, tt)
both_formed p m u (Err x) (Err y) a b = (tt, tt)

pub guard_same : (g : Option (Expr Path)) → option_map tree_of g ≡ guard_tree g
guard_same None = refl
guard_same (Some e) = refl
