-- Whether the symbol of a mode is taken, asked of the names that begin with the name of its slice.
use Rattle.std.specs.Prelude.{◌≡◌, ℕ, ◌+◌, Bool, ◌||◌, List, [], ◌∷◌, ◌++◌, Option, None, codes}
use Rattle.smv_language.specs.Language.{Text, declared_tree, is_among}
use Rattle.fault_instructions.specs.Instructions.{ModeTree}
use Rattle.fault_instructions.specs.Effects.{fault_of}
use Rattle.fault_rules.specs.Rules.{first_of, effect_rules}
use Rattle.fault_rules.specs.KeyedLists.{with_text}
use Rattle.fault_rules.specs.Faults.{fault_at}
use Rattle.fault_rules.specs.declared.fault.InstructionRule.{InstructionRule}
use Rattle.fault_rules.specs.declared.fault.InstructionRule.TheVariants.{DoubleMode, NameTaken}
use Rattle.fault_rules.specs.declared.fault.RuleFault.{RuleFault}
use Rattle.fault_rules.specs.declared.modes.JudgedSlice.{JudgedSlice}
use Rattle.fault_rules.specs.declared.modes.TakenSymbols.{TakenSymbols}

-- the text is one of a set, after the beginning that was gone through
abbrev pub is_after : List Text × Text → Text → Bool
is_after after text = is_among after.0 (after.1 ++ text)

-- the symbol of the mode of this name is taken
abbrev pub has_symbol : TakenSymbols → Text → Bool
has_symbol symbols mode = is_after symbols.known mode || (is_after symbols.states mode || is_after symbols.owns mode)

-- these are the names that may be taken, after the name of the slice
pub record AreSymbolsOf (judged : JudgedSlice) (states : List Text) (symbols : TakenSymbols) : Type 0 where
  pub known : symbols.known ≡ (judged.known.now.names, judged.slice.now.name ++ codes "#")
  pub states_are : symbols.states ≡ (states, judged.slice.now.name ++ codes "#")
  pub owns : symbols.owns ≡ (judged.owns.now, judged.slice.now.name ++ codes "#")

-- the first rule that a mode breaks, after modes of these names
abbrev pub rule_among : JudgedSlice → TakenSymbols → List Text → ModeTree → Option InstructionRule
rule_among judged symbols names m =
    first_of ((is_among names m.name, DoubleMode)
    ∷ (effect_rules (fault_of m.effect (declared_tree judged.declared.now)) ++ (has_symbol symbols m.name, NameTaken) ∷ []))

-- the first rule that modes break, after modes of these names and the item of this number
abbrev pub faults_among : JudgedSlice → TakenSymbols → List Text → ℕ → List ModeTree → Option RuleFault
faults_among judged symbols names n [] = None
faults_among judged symbols names n (m ∷ ms) =
    fault_at (rule_among judged symbols names m) (n + 1) (faults_among judged symbols (with_text names m.name) (n + 1) ms)
