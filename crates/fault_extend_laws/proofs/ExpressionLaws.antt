-- At a mode of an instance one rule is told, and so the first mode that breaks one is one.
use Rattle.std.proofs.Common.{◌≡◌, inl, inr, ℕ, ◌<◌, arith, Bool, true, false, length, Option, Some, None, refl, sym, ◌∙◌, ap, subst}
use Rattle.std.specs.Prelude.{nat_eq, if◌then◌else◌}
use Rattle.smv_language.specs.Language.{Formula, ProgramTree, Place, Each, FlatModel}
use Rattle.fault_instructions.specs.Instructions.{InstructionTree}
use Rattle.smv_flat_laws.specs.Rules.{Rule, number_of, no_main, main_has_parameters, double_module, double_name, no_such_module, wrong_count, module_loop, no_such_name, not_a_target, double_assign, define_loop, next_here, input_here, too_many, IsAccepted}
use Rattle.smv_flat_laws.specs.Model.{IsFlatOf}
use Rattle.smv_flat_laws.specs.ValueRules.{BreaksValue}
use Rattle.fault_extend_laws.specs.Uses.{Use}
use Rattle.fault_extend_laws.specs.Expressions.{followed, SomeBreaks, BreaksNames, IsLeastOfNames, Forms, kind_rule, KeepsUse, AllUsesKept, UseRule, of_names, of_kinds, IsBrokenAt, by_names, by_kinds, IsFirstUse}
use Rattle.fault_extend_laws.proofs.OneForm.{same_form}
use Rattle.fault_extend_laws.proofs.Splits.{one_split, none_broken}

-- a rule that a value may break, by its number
abbrev of_number : ℕ → Rule
of_number n = if nat_eq n 8 then no_such_name else if nat_eq n 12 then next_here else input_here

value_rule : (p : ProgramTree) (at : Place) (inputs : Bool) (e : Formula) (r : Rule) → BreaksValue p at inputs e r → of_number (number_of r) ≡ r
value_rule p at inputs e no_main b = absurd b
value_rule p at inputs e main_has_parameters b = absurd b
value_rule p at inputs e double_module b = absurd b
value_rule p at inputs e double_name b = absurd b
value_rule p at inputs e no_such_module b = absurd b
value_rule p at inputs e wrong_count b = absurd b
value_rule p at inputs e module_loop b = absurd b
value_rule p at inputs e no_such_name b = refl
value_rule p at inputs e not_a_target b = absurd b
value_rule p at inputs e double_assign b = absurd b
value_rule p at inputs e define_loop b = absurd b
value_rule p at inputs e next_here b = refl
value_rule p at inputs e input_here b = refl
value_rule p at inputs e too_many b = absurd b

module _ (p : ProgramTree) (u : Use) where
  some_rule : (inputs : Bool) (e : Option Formula) (r : Rule) → SomeBreaks p u.place inputs e r → of_number (number_of r) ≡ r
  some_rule inputs None r b = absurd b
  some_rule inputs (Some e) r b = value_rule p u.place inputs e r b

  names_rule : (r : Rule) → BreaksNames p u r → of_number (number_of r) ≡ r
  names_rule r (inl b) = some_rule false (followed u.mode.effect) r b
  names_rule r (inr b) = some_rule true u.mode.guard r b

  -- the least rule of names is one
  one_least : (r q : Rule) → IsLeastOfNames p u r → IsLeastOfNames p u q → r ≡ q
  one_least r q a b =
      sym (names_rule r a.broken) ∙ ap of_number (by_order (number_of r) (number_of q) (λ less. b.lowest r less a.broken) (λ less. a.lowest q less b.broken)) ∙ names_rule q b.broken
    where
      by_order : (m n : ℕ) → (m < n → ⊥) → (n < m → ⊥) → m ≡ n
      by_order m n f g = omega (arith, f, g)

  module _ (m : FlatModel) (accepted : IsAccepted p) (is : IsFlatOf p m) where
    one_kind_rule : (f g : Forms p m u) → kind_rule m u.type f.follows_as f.guard_as ≡ kind_rule m u.type g.follows_as g.guard_as
    one_kind_rule f g =
        ap (λ t. kind_rule m u.type t f.guard_as) (same_form p m accepted is u.place (followed u.mode.effect) f.follows_as g.follows_as f.is_followed g.is_followed)
        ∙ ap (kind_rule m u.type g.follows_as) (same_form p m accepted is u.place u.mode.guard f.guard_as g.guard_as f.is_guard g.is_guard)

    -- at a mode of an instance one rule is told
    one_rule : (r q : UseRule) → IsBrokenAt p m u r → IsBrokenAt p m u q → r ≡ q
    one_rule r q (by_names x a) (by_names y b) = ap of_names (one_least x y a b)
    one_rule r q (by_names x a) (by_kinds y kept g e) = absurd (kept x a.broken)
    one_rule r q (by_kinds x kept f e) (by_names y b) = absurd (kept y b.broken)
    one_rule r q (by_kinds x kept f e) (by_kinds y also g h) = let same : Some x ≡ Some y = sym e ∙ one_kind_rule f g ∙ h in let one : x ≡ y = cc in ap of_kinds one

    kept_unbroken : (r : UseRule) → KeepsUse p m u → IsBrokenAt p m u r → ⊥
    kept_unbroken r k (by_names x a) = k.names x a.broken
    kept_unbroken r k (by_kinds x kept f e) = let bad : None ≡ Some x = sym k.kinds ∙ one_kind_rule k.forms f ∙ e in cc

abbrev IsBroken : ProgramTree → FlatModel → Use → Type 0
IsBroken p m u = (r : UseRule) × IsBrokenAt p m u r

-- the first mode that breaks a rule is one, and so is the rule
pub one_use : (p : ProgramTree) (m : FlatModel) (i : InstructionTree) (r q : UseRule) (n k : ℕ) → IsAccepted p → IsFlatOf p m → IsFirstUse p m i r n → IsFirstUse p m i q k → (r ≡ q) × (n ≡ k)
one_use p m i r q n k accepted is a b =
    let never : (u : Use) → KeepsUse p m u → IsBroken p m u → ⊥ = λ u kept broken. kept_unbroken p u m accepted is broken.0 kept broken.1 in
    let same : (a.here ≡ b.here) × (length a.before ≡ length b.before) =
    one_split (KeepsUse p m) (IsBroken p m) never a.before b.before a.here b.here a.after b.after (sym a.in_order ∙ b.in_order) a.kept_before b.kept_before (r, a.broken) (q, b.broken) in
    (one_rule p b.here m accepted is r q (subst (λ u. IsBrokenAt p m u r) same.0 a.broken) b.broken, a.at_item ∙ ap (λ (u : Use). u.item) same.0 ∙ sym b.at_item)

-- where all keep the rules, none breaks one
pub none_first : (p : ProgramTree) (m : FlatModel) (i : InstructionTree) (r : UseRule) (n : ℕ) → IsAccepted p → IsFlatOf p m → AllUsesKept p m i → IsFirstUse p m i r n → ⊥
none_first p m i r n accepted is kept a =
    none_broken (KeepsUse p m) (IsBroken p m) (λ u k broken. kept_unbroken p u m accepted is broken.0 k broken.1) a.before a.here a.after (subst (Each (KeepsUse p m)) a.in_order kept) (r, a.broken)
