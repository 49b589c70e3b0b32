-- The laws of kinds of a woven program, as statements.
use Rattle.std.specs.Prelude.{◌≡◌, ℕ, List, [], Some, slice_get}
use Rattle.smv_language.specs.Language.{Text, ProgramTree, Each, FlatModel}
use Rattle.fault_instructions.specs.Instructions.{InstructionTree}
use Rattle.fault_weave.specs.WovenProgram.{woven}
use Rattle.fault_instructions.specs.Weavable.{IsWeavable}
use Rattle.fault_rules.specs.Sites.{item_sites}
use Rattle.fault_rules.specs.Rules.{broken_at}
use Rattle.fault_rules.specs.FirstBroken.{AllKept}
use Rattle.smv_flat_laws.specs.FlatTrace.{IsModeOf}
use Rattle.smv_flat_laws.specs.History.{Mode, with_history}
use Rattle.smv_flat_laws.specs.Model.{IsFlatOf}
use Rattle.smv_flat_laws.specs.Rules.{IsWalkable}
use Rattle.smv_type_laws.specs.ExpressionKinds.{KindRule, too_large}
use Rattle.smv_type_laws.specs.Laws.{IsClosed}
use Rattle.smv_type_laws.specs.Models.{breaches, IsFault}
use Rattle.fault_extend_laws.specs.Expressions.{AllUsesKept}
use Rattle.fault_woven_laws.specs.Modes.{HasSymbols, IsSliceMode}

-- A program with its flat model and instructions, of which none breaks a rule of kinds, and the flat model of what is
-- woven of them.
pub record AreWoven (p : ProgramTree) (m : FlatModel) (i : InstructionTree) (w : FlatModel) : Type 0 where
  pub program : IsWalkable p
  pub flat : IsFlatOf p m
  pub no_breach : breaches m ≡ []
  pub weavable : IsWeavable p i
  pub items : AllKept (broken_at p) (item_sites i)
  pub expressions : AllUsesKept p m i
  pub woven_program : IsWalkable (woven p i)
  pub woven_flat : IsFlatOf (woven p i) w

-- the woven program's flat model breaks no rule at an item
abbrev pub WovenBreaksNone : Type 0
WovenBreaksNone = (p : ProgramTree) (m : FlatModel) (i : InstructionTree) (w : FlatModel) → AreWoven p m i w → breaches w ≡ []

-- the variables of its modes have symbols
abbrev pub ModesHaveSymbols : Type 0
ModesHaveSymbols = (p : ProgramTree) (m : FlatModel) (i : InstructionTree) (w : FlatModel) → AreWoven p m i w → (f : Mode) →
    IsSliceMode p i w f → HasSymbols w f

-- and where their symbols are the model's, they are modes of it, whose history can be told
abbrev pub SliceModesAreModes : Type 0
SliceModesAreModes =
    (p : ProgramTree) (m : FlatModel) (i : InstructionTree) (w : FlatModel) → AreWoven p m i w → (f : Mode) → IsSliceMode p i w f →
    (x : Text) → slice_get w.symbols f.symbol ≡ Some x → IsModeOf w f

-- a model with the history of such modes breaks no rule at an item where the model breaks none
abbrev pub HistoryBreaksNone : Type 0
HistoryBreaksNone = (m : FlatModel) (fs : List Mode) → IsClosed m → Each (HasSymbols m) fs → breaches m ≡ [] →
    breaches (with_history m fs) ≡ []

-- so the one fault of kinds that the woven program's flat model may have, with its history or without, is that of its size
abbrev pub WovenBreaksSizeAlone : Type 0
WovenBreaksSizeAlone =
    (p : ProgramTree) (m : FlatModel) (i : InstructionTree) (w : FlatModel) → AreWoven p m i w → (fs : List Mode) →
    Each (IsSliceMode p i w) fs → (rule : KindRule) (item : ℕ) →
    (IsFault w rule item → (rule ≡ too_large) × (item ≡ 0)) × (IsFault (with_history w fs) rule item → (rule ≡ too_large) × (item ≡ 0))
