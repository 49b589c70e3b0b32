-- What the generator's models and instructions keep, as statements.
use Rattle.std.specs.Prelude.{◌≡◌, ℕ, ◌<◌, ◌≤◌, false, List, [], None, length, codes}
use Rattle.base_values.specs.declared.limits.TheConstants.{MOST_INSTANCES, MOST_STAGES}
use Rattle.smv_language.specs.Language.{Tree, ProgramTree, program_text, Each, HasDepths, FlatLeaf, FlatModel}
use Rattle.fault_instructions.specs.InstructionText.{instructions_text}
use Rattle.fault_reader.specs.InstructionDepths.{HaveInstructionDepths, AreInstructionsTooDeep}
use Rattle.fault_reader.specs.Symbols.{IsInstructions}
use Rattle.smv_expression_reader.specs.declared.fault.ParseFault.{ParseFault}
use Rattle.smv_expression_reader.specs.declared.fault.ParseFault.TheVariants.{OutOfMemory}
use Rattle.smv_expression_reader.specs.Stops.{IsExpression, IsTooDeep, FaultMeans}
use Rattle.smv_model_reader.specs.Symbols.{IsProgram}
use Rattle.smv_model_reader.specs.ProgramDepths.{HasProgramDepths, IsProgramTooDeep}
use Rattle.smv_flat_laws.specs.History.{Mode, with_history}
use Rattle.smv_flat_laws.specs.Items.{modules_of_instances}
use Rattle.smv_flat_laws.specs.Rules.{Rule, too_many, sites, Breaks, IsFirstBroken, IsAccepted}
use Rattle.smv_flat_laws.specs.ValueRules.{BreaksValue}
use Rattle.smv_flat_laws.specs.ResolvedAt.{IsResolvedAt}
use Rattle.smv_flat_laws.specs.Model.{IsFlatOf}
use Rattle.smv_type_laws.specs.Models.{is_too_large, IsTyped, top_fault}
use Rattle.fault_weave.specs.Faults.{Fault, HasFaults}
use Rattle.fault_weave.specs.WovenProgram.{woven}
use Rattle.fault_rules.specs.Sites.{item_sites}
use Rattle.fault_rules.specs.Rules.{broken_at}
use Rattle.fault_rules.specs.CountLimits.{count_broken_at}
use Rattle.fault_rules.specs.FirstBroken.{AllKept}
use Rattle.fault_extend_laws.specs.Expressions.{AllUsesKept}
use Rattle.fault_generator.specs.Generator.{generated_model, generated_instructions, generated_top}

-- a generated model of fewer stages than `MOST_INSTANCES` breaks no rule of flattening: one of as many has an instance too many
abbrev pub GeneratedIsAccepted : Type 0
GeneratedIsAccepted = (number stages : ℕ) → stages < MOST_INSTANCES → IsAccepted (generated_model number stages)

-- and its flat model breaks no rule of kinds, and is not too large
abbrev pub GeneratedIsTyped : Type 0
GeneratedIsTyped = (number stages : ℕ) → stages < MOST_INSTANCES → (m : FlatModel) → IsFlatOf (generated_model number stages) m → IsTyped m

-- `dead` breaks no rule of names as a top event of it
abbrev pub GeneratedTopKeepsNames : Type 0
GeneratedTopKeepsNames = (number stages : ℕ) → stages < MOST_INSTANCES → (rule : Rule) →
    BreaksValue (generated_model number stages) [] false generated_top rule → ⊥

-- nor, over its flat model, one of kinds
abbrev pub GeneratedTopIsTyped : Type 0
GeneratedTopIsTyped =
    (number stages : ℕ) → stages < MOST_INSTANCES → (m : FlatModel) → IsFlatOf (generated_model number stages) m → (tree : Tree FlatLeaf) →
    IsResolvedAt (generated_model number stages) m [] generated_top tree → top_fault m tree ≡ None

-- the generator's instructions break no rule of items at it
abbrev pub GeneratedItemsAreKept : Type 0
GeneratedItemsAreKept = (number stages : ℕ) → stages < MOST_INSTANCES →
    AllKept (broken_at (generated_model number stages)) (item_sites generated_instructions)

-- nor, up to 256 stages, the rule on numbers of faults
abbrev pub GeneratedFaultsAreFew : Type 0
GeneratedFaultsAreFew = (number stages : ℕ) → stages ≤ 256 →
    AllKept (count_broken_at (modules_of_instances (generated_model number stages))) (item_sites generated_instructions)

-- nor any on expressions, whatever the program: no mode has a guard or follows anything
abbrev pub GeneratedUsesAreKept : Type 0
GeneratedUsesAreKept = (p : ProgramTree) (m : FlatModel) → AllUsesKept p m generated_instructions

-- their extension has three variables a stage, and passes no limit of numbers
abbrev pub WovenIsWithinNumbers : Type 0
WovenIsWithinNumbers =
    (number stages : ℕ) → stages ≤ 256 →
    Each (λ site. Breaks (woven (generated_model number stages) generated_instructions) too_many site →
    ⊥) (sites (woven (generated_model number stages) generated_instructions))

-- so that it is not that limit that it breaks first
abbrev pub WovenBreaksNoNumber : Type 0
WovenBreaksNoNumber =
    (number stages : ℕ) → stages ≤ 256 → (item : ℕ) →
    IsFirstBroken (woven (generated_model number stages) generated_instructions) too_many item → ⊥

-- and its flat model, with history bits for as many faults as stages, is not too large
abbrev pub WovenIsSmall : Type 0
WovenIsSmall =
    (number stages : ℕ) → stages ≤ 256 → (m : FlatModel) → IsFlatOf (woven (generated_model number stages) generated_instructions) m →
    (modes : List Mode) → length modes ≤ stages →
    is_too_large (with_history m modes) ≡ false

-- there are as many faults as stages
abbrev pub GeneratedFaultsAreStages : Type 0
GeneratedFaultsAreStages = (number stages : ℕ) → stages < MOST_INSTANCES → (faults : List Fault) →
    HasFaults (generated_model number stages) generated_instructions faults → length faults ≡ stages

-- up to `MOST_STAGES` the text of a generated model has at most 2,000 bytes
abbrev pub GeneratedTextIsShort : Type 0
GeneratedTextIsShort = (number stages : ℕ) → stages ≤ MOST_STAGES → length (program_text (generated_model number stages)) ≤ 2000

-- so that its expressions are within the depths
abbrev pub GeneratedTextHasDepths : Type 0
GeneratedTextHasDepths = (number stages : ℕ) → stages ≤ MOST_STAGES →
    HasProgramDepths (program_text (generated_model number stages)) (generated_model number stages)

-- and so is the text of the instructions
abbrev pub InstructionTextIsShort : Type 0
InstructionTextIsShort = length (instructions_text generated_instructions) ≤ 2000

-- with its expressions
abbrev pub InstructionTextHasDepths : Type 0
InstructionTextHasDepths = HaveInstructionDepths (instructions_text generated_instructions) generated_instructions

-- and the word of the top event
abbrev pub TopTextHasDepths : Type 0
TopTextHasDepths = HasDepths (codes "dead") generated_top

-- so that reading the text of the model fails for want of memory alone
abbrev pub GeneratedTextIsRead : Type 0
GeneratedTextIsRead =
    (number stages : ℕ) → stages ≤ MOST_STAGES → (f : ParseFault) →
    FaultMeans IsProgram (IsProgramTooDeep (program_text (generated_model number stages)))
    (program_text (generated_model number stages)) f →
    f ≡ OutOfMemory

-- and that of the instructions
abbrev pub InstructionTextIsRead : Type 0
InstructionTextIsRead =
    (f : ParseFault) → FaultMeans IsInstructions (AreInstructionsTooDeep (instructions_text generated_instructions))
    (instructions_text generated_instructions) f → f ≡ OutOfMemory

-- and that of the word of the top event
abbrev pub TopTextIsRead : Type 0
TopTextIsRead = (f : ParseFault) → FaultMeans IsExpression (IsTooDeep (codes "dead")) (codes "dead") f → f ≡ OutOfMemory
