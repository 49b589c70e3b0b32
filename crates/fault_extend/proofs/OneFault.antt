-- Of instructions for a program at most one fault is told, want of memory apart.
use Rattle.std.proofs.Common.{◌≡◌, ◌≢◌, ℕ, suc, List, Option, Some, None, length, sym, ◌∙◌, ap, subst}
use Rattle.smv_language.specs.Language.{Text, ProgramTree, FlatModel}
use Rattle.fault_instructions.specs.Instructions.{InstructionTree}
use Rattle.smv_flat_laws.specs.Rules as rules
use Rattle.smv_flat_laws.specs.Rules.{IsAccepted}
use Rattle.smv_flat_laws.specs.Model.{IsFlatOf}
use Rattle.smv_scope.specs.declared.fault.FlatRule.{FlatRule}
use Rattle.smv_scope.specs.declared.fault.FlatRule.TheVariants as flat
use Rattle.smv_scope.specs.declared.fault.FlatFault.{FlatFault}
use Rattle.smv_scope.specs.Faults.{rule_of}
use Rattle.fault_rules.specs.declared.fault.InstructionRule.{InstructionRule}
use Rattle.fault_rules.specs.declared.fault.InstructionRule.TheVariants.{OutOfMemory}
use Rattle.fault_rules.specs.Sites.{Site, item_sites}
use Rattle.fault_rules.specs.Rules.{broken_at}
use Rattle.fault_rules.specs.CountLimits.{count_broken_at}
use Rattle.fault_rules.specs.FirstBroken.{AllKept, IsFirstBroken}
use Rattle.fault_extend_laws.specs.Expressions.{AllUsesKept, UseRule, of_names, of_kinds, IsFirstUse}
use Rattle.fault_extend_laws.proofs.Splits.{one_split, none_broken}
use Rattle.fault_extend_laws.proofs.ExpressionLaws.{one_use, none_first}
use Rattle.fault_extend.specs.declared.fault.WeaveCause.{WeaveCause}
use Rattle.fault_extend.specs.declared.fault.WeaveCause.TheVariants.{Weave, Flat, Kinds}
use Rattle.fault_extend.specs.declared.fault.WeaveFault.{WeaveFault}
use Rattle.fault_extend.specs.FirstRefusal.{KeepsRules, IsFirstOfGroups, of_items, of_counts, IsCauseOf, TellsRule, IsToldOfUses, IsToldBy, IsTold, IsWant}

-- Items.
abbrev BreaksOne : (Site → Option InstructionRule) → Site → Type 0
BreaksOne told site = (rule : InstructionRule) × (told site ≡ Some rule)

abbrev KeepsAll : (Site → Option InstructionRule) → Site → Type 0
KeepsAll told site = told site ≡ None

never : (told : Site → Option InstructionRule) (site : Site) → KeepsAll told site → BreaksOne told site → ⊥
never told site kept broken = let bad : None ≡ Some broken.0 = sym kept ∙ broken.1 in cc

one_item : (told : Site → Option InstructionRule) (sites : List Site) (r q : InstructionRule) (n k : ℕ) → IsFirstBroken told sites r n → IsFirstBroken told sites q k → (r ≡ q) × (n ≡ k)
one_item told sites r q n k a b =
    let same : (a.site ≡ b.site) × (length a.before ≡ length b.before) =
    one_split (KeepsAll told) (BreaksOne told) (never told) a.before b.before a.site b.site a.after b.after (sym a.in_order ∙ b.in_order) a.kept_before b.kept_before (r, a.broken) (q, b.broken) in
    let rules : Some r ≡ Some q = sym a.broken ∙ ap told same.0 ∙ b.broken in
    let one : r ≡ q = cc in (one, a.at_item ∙ ap suc same.1 ∙ sym b.at_item)

no_item : (told : Site → Option InstructionRule) (sites : List Site) (r : InstructionRule) (n : ℕ) → AllKept told sites → IsFirstBroken told sites r n → ⊥
no_item told sites r n kept a = none_broken (KeepsAll told) (BreaksOne told) (never told) a.before a.site a.after (subst (AllKept told) a.in_order kept) (r, a.broken)

module _ (p : ProgramTree) (i : InstructionTree) (modules : List Text) where
  one_of_groups : (r q : InstructionRule) (n k : ℕ) → IsFirstOfGroups p i modules r n → IsFirstOfGroups p i modules q k → (r ≡ q) × (n ≡ k)
  one_of_groups r q n k (of_items a) (of_items b) = one_item (broken_at p) (item_sites i) r q n k a b
  one_of_groups r q n k (of_items a) (of_counts kept b) = absurd (no_item (broken_at p) (item_sites i) r n kept a)
  one_of_groups r q n k (of_counts kept a) (of_items b) = absurd (no_item (broken_at p) (item_sites i) q k kept b)
  one_of_groups r q n k (of_counts kept a) (of_counts also b) = one_item (count_broken_at modules) (item_sites i) r q n k a b

  none_of_groups : (r : InstructionRule) (n : ℕ) → KeepsRules p i modules → IsFirstOfGroups p i modules r n → ⊥
  none_of_groups r n kept (of_items a) = no_item (broken_at p) (item_sites i) r n kept.items a
  none_of_groups r n kept (of_counts also a) = no_item (count_broken_at modules) (item_sites i) r n kept.counts a

-- Causes.
abbrev told_flat : rules.Rule → FlatRule
told_flat rules.no_main = flat.NoMain
told_flat rules.main_has_parameters = flat.MainHasParameters
told_flat rules.double_module = flat.DoubleModule
told_flat rules.double_name = flat.DoubleName
told_flat rules.no_such_module = flat.NoSuchModule
told_flat rules.wrong_count = flat.WrongCount
told_flat rules.module_loop = flat.ModuleLoop
told_flat rules.no_such_name = flat.NoSuchName
told_flat rules.not_a_target = flat.NotATarget
told_flat rules.double_assign = flat.DoubleAssign
told_flat rules.define_loop = flat.DefineLoop
told_flat rules.next_here = flat.NextHere
told_flat rules.input_here = flat.InputHere
told_flat rules.too_many = flat.TooMany

flat_back : (f : FlatRule) (r : rules.Rule) → rule_of f ≡ Some r → f ≡ told_flat r
flat_back flat.NoMain r e = let same : rules.no_main ≡ r = cc in ap told_flat same
flat_back flat.MainHasParameters r e = let same : rules.main_has_parameters ≡ r = cc in ap told_flat same
flat_back flat.DoubleModule r e = let same : rules.double_module ≡ r = cc in ap told_flat same
flat_back flat.DoubleName r e = let same : rules.double_name ≡ r = cc in ap told_flat same
flat_back flat.NoSuchModule r e = let same : rules.no_such_module ≡ r = cc in ap told_flat same
flat_back flat.WrongCount r e = let same : rules.wrong_count ≡ r = cc in ap told_flat same
flat_back flat.ModuleLoop r e = let same : rules.module_loop ≡ r = cc in ap told_flat same
flat_back flat.NoSuchName r e = let same : rules.no_such_name ≡ r = cc in ap told_flat same
flat_back flat.NotATarget r e = let same : rules.not_a_target ≡ r = cc in ap told_flat same
flat_back flat.DoubleAssign r e = let same : rules.double_assign ≡ r = cc in ap told_flat same
flat_back flat.DefineLoop r e = let same : rules.define_loop ≡ r = cc in ap told_flat same
flat_back flat.NextHere r e = let same : rules.next_here ≡ r = cc in ap told_flat same
flat_back flat.InputHere r e = let same : rules.input_here ≡ r = cc in ap told_flat same
flat_back flat.TooMany r e = let same : rules.too_many ≡ r = cc in ap told_flat same
flat_back flat.OutOfMemory r e = cc

same_flat : (f g : FlatFault) → f.rule ≡ g.rule → f.item ≡ g.item → f ≡ g
same_flat f g a b = ap (λ r. record { rule = r; item = f.item }) a ∙ ap (λ n. record { rule = g.rule; item = n }) b

-- a rule is told by one cause
one_cause : (a b : WeaveCause) (r : UseRule) → IsCauseOf a r → IsCauseOf b r → a ≡ b
one_cause (Weave x) b r h g = absurd h
one_cause (Flat x) (Weave y) r h g = absurd g
one_cause (Flat x) (Flat y) (of_names r) h g = ap Flat (same_flat x y (flat_back x.rule r h.0 ∙ sym (flat_back y.rule r g.0)) (h.1 ∙ sym g.1))
one_cause (Flat x) (Flat y) (of_kinds r) h g = absurd h
one_cause (Flat x) (Kinds y) (of_names r) h g = absurd g
one_cause (Flat x) (Kinds y) (of_kinds r) h g = absurd h
one_cause (Kinds x) (Weave y) r h g = absurd g
one_cause (Kinds x) (Flat y) (of_names r) h g = absurd h
one_cause (Kinds x) (Flat y) (of_kinds r) h g = absurd g
one_cause (Kinds x) (Kinds y) (of_names r) h g = absurd h
one_cause (Kinds x) (Kinds y) (of_kinds r) h g = ap Kinds (h ∙ sym g)

module _ (p : ProgramTree) (m : FlatModel) (i : InstructionTree) (modules : List Text) (accepted : IsAccepted p) (is : IsFlatOf p m) where
  one_of_uses : (a b : WeaveCause) (n k : ℕ) → IsToldOfUses p m i modules a n → IsToldOfUses p m i modules b k → (a ≡ b) × (n ≡ k)
  one_of_uses a b n k h g =
      let x : TellsRule a (λ r. IsFirstUse p m i r n) = h.first accepted is in
      let y : TellsRule b (λ r. IsFirstUse p m i r k) = g.first accepted is in
      let same : (x.rule ≡ y.rule) × (n ≡ k) = one_use p m i x.rule y.rule n k accepted is x.holds y.holds in
      (one_cause a b y.rule (subst (IsCauseOf a) same.0 x.is_cause) y.is_cause, same.1)

  differ : (r : InstructionRule) (n : ℕ) (c : WeaveCause) (k : ℕ) → IsFirstOfGroups p i modules r n → IsToldOfUses p m i modules c k → ⊥
  differ r n c k h g = none_of_groups p i modules r n g.kept h

  not_want : (r : InstructionRule) → (◌≡◌ {A = WeaveCause} (Weave r) (Weave OutOfMemory) → ⊥) → r ≢ OutOfMemory
  not_want r other e = other (ap Weave e)

  one_told_by : (a b : WeaveCause) (n k : ℕ) → IsToldBy p m i modules a n → IsToldBy p m i modules b k → (a ≡ Weave OutOfMemory → ⊥) → (b ≡ Weave OutOfMemory → ⊥) → (a ≡ b) × (n ≡ k)
  one_told_by (Weave r) (Weave q) n k h g x y =
      let same : (r ≡ q) × (n ≡ k) = one_of_groups p i modules r q n k (h (not_want r x)) (g (not_want q y)) in (ap Weave same.0, same.1)
  one_told_by (Weave r) (Flat f) n k h g x y = absurd (differ r n (Flat f) k (h (not_want r x)) g)
  one_told_by (Weave r) (Kinds f) n k h g x y = absurd (differ r n (Kinds f) k (h (not_want r x)) g)
  one_told_by (Flat f) (Weave q) n k h g x y = absurd (differ q k (Flat f) n (g (not_want q y)) h)
  one_told_by (Flat f) (Flat e) n k h g x y = one_of_uses (Flat f) (Flat e) n k h g
  one_told_by (Flat f) (Kinds e) n k h g x y = one_of_uses (Flat f) (Kinds e) n k h g
  one_told_by (Kinds f) (Weave q) n k h g x y = absurd (differ q k (Kinds f) n (g (not_want q y)) h)
  one_told_by (Kinds f) (Flat e) n k h g x y = one_of_uses (Kinds f) (Flat e) n k h g
  one_told_by (Kinds f) (Kinds e) n k h g x y = one_of_uses (Kinds f) (Kinds e) n k h g

  none_of_uses : (c : WeaveCause) (n : ℕ) → AllUsesKept p m i → IsToldOfUses p m i modules c n → ⊥
  none_of_uses c n kept h = let x : TellsRule c (λ r. IsFirstUse p m i r n) = h.first accepted is in none_first p m i x.rule n accepted is kept x.holds

pub one_told : (p : ProgramTree) (m : FlatModel) (i : InstructionTree) (modules : List Text) (a b : WeaveFault) → IsAccepted p → IsFlatOf p m → IsTold p m i modules a → IsTold p m i modules b →
    (IsWant a → ⊥) → (IsWant b → ⊥) → a ≡ b
one_told p m i modules a b accepted is h g x y =
    let same : (a.cause ≡ b.cause) × (a.item ≡ b.item) = one_told_by p m i modules accepted is a.cause b.cause a.item b.item h g x y in
    ap (λ c. record { cause = c; item = a.item }) same.0 ∙ ap (λ n. record { cause = b.cause; item = n }) same.1

pub none_told : (p : ProgramTree) (m : FlatModel) (i : InstructionTree) (modules : List Text) (fault : WeaveFault) → IsAccepted p → IsFlatOf p m → KeepsRules p i modules → AllUsesKept p m i →
    IsTold p m i modules fault → (IsWant fault → ⊥) → ⊥
none_told p m i modules fault accepted is kept uses told x = by_cause fault.cause told x
  where
    by_cause : (c : WeaveCause) → IsToldBy p m i modules c fault.item → (c ≡ Weave OutOfMemory → ⊥) → ⊥
    by_cause (Weave r) h other = none_of_groups p i modules r fault.item kept (h (not_want p m i modules accepted is r other))
    by_cause (Flat f) h other = none_of_uses p m i modules accepted is (Flat f) fault.item uses h
    by_cause (Kinds f) h other = none_of_uses p m i modules accepted is (Kinds f) fault.item uses h
