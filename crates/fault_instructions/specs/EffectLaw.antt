-- What an effect's branch and rule sections allow, where the names of a slice give its values.
use Rattle.std.specs.Prelude.{◌≡◌, ◌≢◌, ◌↔◌, IsTrue, Bool, true, false, List, [], ◌∷◌, Some, None, codes}
use Rattle.smv_language.specs.declared.program.Member.{Member}
use Rattle.smv_language.specs.declared.program.Member.TheVariants as member
use Rattle.smv_language.specs.Language.{Text, Path, Formula, DeclaredTree, members, SectionTree, init, invar, trans, Value, symbol, Values}
use Rattle.smv_language.specs.Language.{one, has, opposite, same_text, Leaves, evaluate, Each, in_domain}
use Rattle.smv_language.specs.Values.{truth}
use Rattle.fault_instructions.specs.Instructions.{EffectTree, SliceTree}
use Rattle.fault_instructions.specs.AddedNames.{ModeState, own_name, mode_variable, mode_symbol}
use Rattle.fault_instructions.specs.Effects.{row, Allows}
use Rattle.fault_instructions.specs.Templates.{branch, rules, first_rules}
use Rattle.fault_instructions.specs.Types.{IsKnown, IsUniform, Meets}

-- what the leaves of the templates give
pub record SliceLeaves (s : SliceTree) (type : DeclaredTree) (now : Leaves Path) (read own : Value) (st : ModeState) : Type 0 where
  pub read_leaf : now (s.target ∷ []) ≡ Some (one read)
  pub own_leaf : now (own_name s.target ∷ []) ≡ Some (one own)
  pub mode_leaf : now (mode_variable s.name ∷ []) ≡ Some (one (symbol (mode_symbol s.name st)))
  pub symbol_leaves : (st' : ModeState) → IsKnown s st' → now (mode_symbol s.name st' ∷ []) ≡ Some (one (symbol (mode_symbol s.name st')))
  pub type_leaves : (ms : List Member) → type ≡ members ms →
      Each (λ d. (x : Text) → d ≡ member.Symbol x → now (x ∷ []) ≡ Some (one (symbol x))) ms

-- the mode of this name stands
abbrev pub stands_at : ModeState → Text → Bool
stands_at None m = false
stands_at (Some n) m = same_text n m

-- the effect may stand at a variable of the type
abbrev pub MayStand : EffectTree → DeclaredTree → Type 0
MayStand e type = Meets (row e).demand type

-- a formula may have the value
abbrev pub Gives : Leaves Path → Leaves Path → Formula → Value → Type 0
Gives now next e x = (vs : Values) × (evaluate now next e ≡ Some vs) × IsTrue (has vs x)

-- a rule section holds: an INVAR of the second moment, a TRANS of the step
abbrev pub RuleHolds : Leaves Path → Leaves Path → SectionTree → Type 0
RuleHolds now next (invar e) = Gives next next e (truth true)
RuleHolds now next (trans e) = Gives now next e (truth true)
RuleHolds now next _ = Unit {0}

-- a rule section holds of a first moment: an INVAR or an INIT
abbrev pub FirstRuleHolds : Leaves Path → SectionTree → Type 0
FirstRuleHolds now (invar e) = Gives now now e (truth true)
FirstRuleHolds now (init e) = Gives now now e (truth true)
FirstRuleHolds now _ = Unit {0}

-- in a mode that stands next, the branch and the rule sections allow a read value exactly where the effect does
abbrev pub EffectLaw : Type 0
EffectLaw =
    (e : EffectTree) (s : SliceTree) (type : DeclaredTree) (mode : Text) (now next : Leaves Path) (before own_before own x : Value)
    (st : ModeState) →
    IsKnown s (Some mode) → mode ≢ codes "nominal" → MayStand e type → IsUniform type → IsTrue (in_domain type before) →
    IsTrue (in_domain type own) → IsTrue (in_domain type x) →
    SliceLeaves s type now before own_before st → SliceLeaves s type next x own (Some mode) →
    ((Gives next next (branch e type s.target) x × Each (RuleHolds now next) (rules e s.name mode s.target))
    ↔ Allows e (Gives next next) type own before (opposite (stands_at st mode)) x)

-- In a mode that stands at the first moment, the branch, the rule sections and the first ones allow a read value
-- exactly where the effect does with the own value for the one before, and the mode entered.
abbrev pub FirstEffectLaw : Type 0
FirstEffectLaw =
    (e : EffectTree) (s : SliceTree) (type : DeclaredTree) (mode : Text) (now : Leaves Path) (own x : Value) →
    IsKnown s (Some mode) → mode ≢ codes "nominal" → MayStand e type → IsUniform type → IsTrue (in_domain type own) →
    IsTrue (in_domain type x) →
    SliceLeaves s type now x own (Some mode) →
    ((Gives now now (branch e type s.target) x × Each (FirstRuleHolds now) (rules e s.name mode s.target)
    × Each (FirstRuleHolds now) (first_rules e s.name mode s.target))
    ↔ Allows e (Gives now now) type own own true x)
