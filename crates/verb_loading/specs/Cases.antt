-- What the files of a command come to: a model with its faults, and top events.
use Rattle.std.specs.Prelude.{◌≡◌, ℕ, ◌≤◌, ◌<◌, false, List, [], length, Some, None}
use Rattle.base_values.specs.declared.limits.TheConstants.{MOST_TOP_BYTES, MOST_TOPS}
use Rattle.base_files.specs.declared.files.NamedFile.{NamedFile}
use Rattle.smv_language.specs.Language.{Tree, Text, Formula, ProgramTree, BytesSpellExpr, HasDepths, Each, EachBoth, FlatLeaf, FlatModel}
use Rattle.smv_expression_reader.specs.declared.fault.ParseFault.{ParseFault}
use Rattle.smv_expression_reader.specs.Stops.{IsExpression, IsTooDeep, FaultMeans}
use Rattle.smv_expression_reader.specs.Lists.{BytesSpellExpressions}
use Rattle.smv_expression_reader.specs.ExpressionDepths.{HaveDepths}
use Rattle.smv_flat_laws.specs.History.{Mode, with_history}
use Rattle.smv_flat_laws.specs.ResolvedAt.{IsResolvedAt}
use Rattle.smv_flat_laws.specs.Rules.{Rule}
use Rattle.smv_flat_laws.specs.ValueRules.{BreaksValue, IsLeastBroken}
use Rattle.smv_type_laws.specs.ExpressionKinds.{KindRule}
use Rattle.smv_type_laws.specs.Models.{IsTyped, top_fault}
use Rattle.fault_instructions.specs.Instructions.{InstructionTree}
use Rattle.fault_weave.specs.Faults.{Fault, HasFaults}
use Rattle.fault_weave.specs.WovenProgram.{woven}
use Rattle.verb_loading.specs.declared.status.InputFault.{InputFault}
use Rattle.verb_loading.specs.declared.status.Part.TheVariants as part
use Rattle.verb_loading.specs.declared.wrong.Wrong.TheVariants as wrong
use Rattle.verb_loading.specs.Wrongs.{parse_wrong, names_fault, kinds_fault}
use Rattle.verb_loading.specs.Models.{IsModelOf}
use Rattle.verb_loading.specs.Wholes.{IsWithinLimits}
use Rattle.verb_loading.specs.Inputs.{HasBytes, HoldsModel, IsInstructionText, AreTaken}
use Rattle.cert_laws.specs.ExtendedTraces.{IsModeOfFault}

-- a model and its instructions, the faults, the extension's flat model, and the modes of the faults in it
pub record Case : Type 0 where
  pub program : ProgramTree
  pub instructions : InstructionTree
  pub faults : List Fault
  pub flat : FlatModel
  pub modes : List Mode

-- the program of a case's extension
abbrev pub extension_of : Case → ProgramTree
extension_of c = woven c.program c.instructions

-- the flat model of the extension with a history bit for each fault
abbrev pub whole_of : Case → FlatModel
whole_of c = with_history c.flat c.modes

-- instructions that are taken for a program, with their faults, and the flat models of the extension, which pass no limit
pub record IsCase (c : Case) : Type 0 where
  pub taken : AreTaken c.program c.instructions
  pub are_faults : HasFaults c.program c.instructions c.faults
  pub within : IsWithinLimits (extension_of c) c.faults
  pub is_flat : IsModelOf (extension_of c) c.flat
  pub are_modes : EachBoth (IsModeOfFault c.flat) c.faults c.modes
  pub typed : IsTyped (whole_of c)

-- the two files hold the case's model and instructions
pub record HoldsCase (files : List NamedFile) (model faults : Text) (c : Case) : Type 0 where
  pub program : HoldsModel files model c.program
  pub bytes : List ℕ
  pub has : HasBytes files faults bytes
  pub is_text : IsInstructionText bytes c.instructions
  pub is_case : IsCase c

-- Top events.
-- the expression keeps every rule of a top event of the program
pub record IsTop (p : ProgramTree) (e : Formula) : Type 0 where
  pub names : (rule : Rule) → BreaksValue p [] false e rule → ⊥
  pub flat : FlatModel
  pub is_flat : IsModelOf p flat
  pub tree : Tree FlatLeaf
  pub resolved : IsResolvedAt p flat [] e tree
  pub kinds : top_fault flat tree ≡ None

-- the first rule that it breaks, of names or else of kinds, told at this place
pub data IsWrongTop (p : ProgramTree) (e : Formula) (place : ℕ) (fault : InputFault) : Type 0 where
  by_names : (rule : Rule) → IsLeastBroken p [] false e rule → fault ≡ names_fault rule place → IsWrongTop p e place fault
  by_kinds : (flat : FlatModel) (tree : Tree FlatLeaf) (rule : KindRule) → ((other : Rule) → BreaksValue p [] false e other → ⊥) →
      IsModelOf p flat → IsResolvedAt p flat [] e tree →
      top_fault flat tree ≡ Some rule → fault ≡ kinds_fault rule place → IsWrongTop p e place fault

-- the word of `--top` spells a top event of the program
pub record IsTopWord (p : ProgramTree) (bytes : Text) (e : Formula) : Type 0 where
  pub short : length bytes ≤ MOST_TOP_BYTES
  pub spelled : BytesSpellExpr bytes e
  pub only : (f : Formula) → BytesSpellExpr bytes f → e ≡ f
  pub depths : HasDepths bytes e
  pub is_top : IsTop p e

-- what is wrong with it: its length, what it spells, or the first rule
pub data IsWrongWord (p : ProgramTree) (bytes : Text) (fault : InputFault) : Type 0 where
  too_long : MOST_TOP_BYTES < length bytes →
      fault ≡ record { part = part.Length; number = 1; place = MOST_TOP_BYTES } → IsWrongWord p bytes fault
  not_spelled : (f : ParseFault) → length bytes ≤ MOST_TOP_BYTES → FaultMeans IsExpression (IsTooDeep bytes) bytes f →
      wrong.Refused fault ≡ parse_wrong f → IsWrongWord p bytes fault
  not_kept : (e : Formula) → length bytes ≤ MOST_TOP_BYTES → BytesSpellExpr bytes e → HasDepths bytes e → IsWrongTop p e 0 fault →
      IsWrongWord p bytes fault

-- the file of `--tops` holds these, at most `MOST_TOPS`, each a top event of the program
pub record HoldsTops (files : List NamedFile) (name : Text) (p : ProgramTree) (tops : List Formula) : Type 0 where
  pub bytes : List ℕ
  pub has : HasBytes files name bytes
  pub spelled : BytesSpellExpressions bytes tops
  pub only : (es : List Formula) → BytesSpellExpressions bytes es → tops ≡ es
  pub depths : HaveDepths bytes tops
  pub few : length tops ≤ MOST_TOPS
  pub are_tops : Each (IsTop p) tops
