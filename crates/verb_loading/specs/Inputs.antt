-- What the input files come to: what is wrong with a file, and what it holds.
use Rattle.std.specs.Prelude.{ℕ, ◌≡◌, ◌⊎◌, ◌≤◌, ◌<◌, List, [], ◌∷◌, ◌++◌, length, map, Some, None}
use Rattle.base_values.specs.declared.limits.TheConstants.{MOST_FILE_BYTES, MOST_TRACE_BYTES, MOST_CERT_BYTES}
use Rattle.base_files.specs.declared.files.NamedFile.{NamedFile}
use Rattle.base_files.specs.Files.{file_of, content_of}
use Rattle.base_files.specs.declared.desk.WriteStop.{WriteStop}
use Rattle.base_files.specs.declared.desk.WriteStop.TheVariants as write_stop
use Rattle.smv_language.specs.Language.{Text, Path, ProgramTree, program_text, FlatModel, name_of_fault}
use Rattle.smv_expression_reader.specs.declared.fault.ParseFault.{ParseFault}
use Rattle.smv_expression_reader.specs.Stops.{FaultMeans}
use Rattle.smv_flat_laws.specs.Items.{modules_of_instances}
use Rattle.smv_flat_laws.specs.Model.{IsFlatOf}
use Rattle.fault_extend_laws.specs.Expressions.{AllUsesKept}
use Rattle.fault_instructions.specs.Instructions.{InstructionTree}
use Rattle.fault_instructions.specs.SpellsInstructions.{BytesSpellInstructions}
use Rattle.fault_reader.specs.Symbols.{IsInstructions}
use Rattle.fault_reader.specs.InstructionDepths.{HaveInstructionDepths, AreInstructionsTooDeep}
use Rattle.fault_weave.specs.Faults.{Fault, HasFaults}
use Rattle.fault_weave.specs.WovenProgram.{woven}
use Rattle.fault_instructions.specs.Weavable.{IsWeavable}
use Rattle.fault_extend.specs.FirstRefusal.{KeepsRules, IsTold}
use Rattle.fault_extend.specs.NumberedFaults.{parts_of}
use Rattle.fault_extend.specs.declared.faults.WovenFault.{WovenFault}
use Rattle.smv_language.specs.declared.model.Fault.{Fault as Numbered}
use Rattle.fault_extend.specs.declared.fault.WeaveFault.{WeaveFault}
use Rattle.verb_loading.specs.declared.status.InputFault.{InputFault}
use Rattle.verb_loading.specs.declared.status.Part.TheVariants as part
use Rattle.verb_loading.specs.declared.status.Objection.TheVariants as objection
use Rattle.verb_loading.specs.declared.status.Refusal.{Refusal}
use Rattle.verb_loading.specs.declared.status.Refusal.TheVariants as refusal
use Rattle.verb_loading.specs.declared.wrong.Wrong.{Wrong}
use Rattle.verb_loading.specs.declared.wrong.Wrong.TheVariants as wrong
use Rattle.verb_loading.specs.declared.input.Input.{Input}
use Rattle.verb_loading.specs.declared.input.Input.TheVariants as input
use Rattle.verb_loading.specs.declared.input.Stop.{Stop}
use Rattle.verb_loading.specs.declared.input.Stop.TheVariants as stop
use Rattle.verb_loading.specs.declared.faults.Made.{Made}
use Rattle.verb_loading.specs.Statuses.{absent}
use Rattle.verb_loading.specs.Wrongs.{parse_wrong, weave_wrong}
use Rattle.verb_loading.specs.Models.{IsModelText, IsLawful, IsWrongModel}
use Rattle.verb_loading.specs.Wholes.{PassesLimit, IsWithinLimits}
use Rattle.verb_loading.specs.Reports.{report_text}

-- the refusal of an input file, or of the top event
abbrev pub refusal_at : Input → InputFault → Refusal
refusal_at input.Model fault = refusal.Model fault
refusal_at input.Faults fault = refusal.Faults fault
refusal_at input.Top fault = refusal.Top fault
refusal_at input.Causes fault = refusal.Causes fault
refusal_at input.Trace fault = refusal.NotAccepted (objection.Trace fault)
refusal_at input.Certificate fault = refusal.NotAccepted (objection.Cert fault)

-- the most bytes that it may have
abbrev pub limit_of : Input → ℕ
limit_of input.Model = MOST_FILE_BYTES
limit_of input.Faults = MOST_FILE_BYTES
limit_of input.Top = MOST_FILE_BYTES
limit_of input.Causes = MOST_FILE_BYTES
limit_of input.Trace = MOST_TRACE_BYTES
limit_of input.Certificate = MOST_CERT_BYTES

-- why the work can't go on where this is wrong with a file
abbrev pub stop_at : Input → Wrong → Stop
stop_at i (wrong.Refused fault) = stop.Refused (refusal_at i fault)
stop_at i wrong.Memory = stop.Memory

-- why it can't where the writing does not
abbrev pub stop_of_write : WriteStop → Stop
stop_of_write write_stop.Failed = stop.Desk
stop_of_write write_stop.OutOfMemory = stop.Memory

-- the file is not there, or has more bytes than this
abbrev pub IsRefusedAbove : ℕ → List NamedFile → Text → InputFault → Type 0
IsRefusedAbove limit files name fault =
    ((fault ≡ absent) × (file_of files name ≡ None))
    ⊎ ((fault ≡ record { part = part.Length; number = 1; place = limit }) × (limit < length (content_of files name)))

-- the file has these bytes, at most so many
pub record HasAtMost (limit : ℕ) (files : List NamedFile) (name : Text) (bytes : List ℕ) : Type 0 where
  pub held : file_of files name ≡ Some bytes
  pub short : length bytes ≤ limit

-- the same of a file that may have `MOST_FILE_BYTES`
abbrev pub IsRefusedFile : List NamedFile → Text → InputFault → Type 0
IsRefusedFile = IsRefusedAbove MOST_FILE_BYTES

abbrev pub HasBytes : List NamedFile → Text → List ℕ → Type 0
HasBytes = HasAtMost MOST_FILE_BYTES

-- the model file is refused
pub data RefusesModel (files : List NamedFile) (name : Text) (r : Refusal) : Type 0 where
  model_file : (fault : InputFault) → r ≡ refusal.Model fault → IsRefusedFile files name fault → RefusesModel files name r
  model_bytes : (bytes : List ℕ) (fault : InputFault) → r ≡ refusal.Model fault → HasBytes files name bytes → IsWrongModel bytes fault →
      RefusesModel files name r

-- the file holds a model that is taken: the text of this program
pub record HoldsModel (files : List NamedFile) (name : Text) (p : ProgramTree) : Type 0 where
  pub bytes : List ℕ
  pub has : HasBytes files name bytes
  pub is_text : IsModelText bytes p
  pub flat : FlatModel
  pub lawful : IsLawful p flat

-- the bytes spell these instructions and no others, within the depths
pub record IsInstructionText (bytes : List ℕ) (i : InstructionTree) : Type 0 where
  pub spelled : BytesSpellInstructions bytes i
  pub only : (j : InstructionTree) → BytesSpellInstructions bytes j → i ≡ j
  pub depths : HaveInstructionDepths bytes i

-- what a fault of reading says of the bytes of instructions
abbrev pub IsFaultOfInstructions : List ℕ → ParseFault → Type 0
IsFaultOfInstructions bytes f = FaultMeans IsInstructions (AreInstructionsTooDeep bytes) bytes f

-- instructions that a weave takes: they keep its rules, and no guard and nothing that is followed breaks one
pub record AreTaken (p : ProgramTree) (i : InstructionTree) : Type 0 where
  pub weavable : IsWeavable p i
  pub kept : KeepsRules p i (modules_of_instances p)
  pub uses : (m : FlatModel) → IsFlatOf p m → AllUsesKept p m i

-- what is wrong with the bytes of instructions for a program: they spell no instructions within the depths, these break a rule
-- of the weave, or the extension passes a limit
pub data IsWrongFaults (p : ProgramTree) (bytes : List ℕ) (fault : InputFault) : Type 0 where
  not_spelled : (f : ParseFault) → IsFaultOfInstructions bytes f → wrong.Refused fault ≡ parse_wrong f → IsWrongFaults p bytes fault
  not_woven : (i : InstructionTree) (m : FlatModel) (f : WeaveFault) → IsInstructionText bytes i → IsFlatOf p m →
      IsTold p m i (modules_of_instances p) f → wrong.Refused fault ≡ weave_wrong f →
      IsWrongFaults p bytes fault
  past_limit : (i : InstructionTree) (faults : List Fault) → IsInstructionText bytes i → AreTaken p i → HasFaults p i faults →
      PassesLimit (woven p i) faults fault →
      IsWrongFaults p bytes fault

-- the instruction file is refused
pub data RefusesFaults (files : List NamedFile) (name : Text) (p : ProgramTree) (r : Refusal) : Type 0 where
  faults_file : (fault : InputFault) → r ≡ refusal.Faults fault → IsRefusedFile files name fault → RefusesFaults files name p r
  faults_bytes : (bytes : List ℕ) (fault : InputFault) → r ≡ refusal.Faults fault → HasBytes files name bytes →
      IsWrongFaults p bytes fault → RefusesFaults files name p r

-- The text is that of the extension of the program by the instructions that the bytes spell, which passes no limit, and the
-- report tells the faults of the two.
pub record IsExtensionText (p : ProgramTree) (bytes : List ℕ) (text report : Text) : Type 0 where
  pub instructions : InstructionTree
  pub faults : List Fault
  pub is_text : IsInstructionText bytes instructions
  pub taken : AreTaken p instructions
  pub are_faults : HasFaults p instructions faults
  pub within : IsWithinLimits (woven p instructions) faults
  pub printed : text ≡ program_text (woven p instructions)
  pub told : report ≡ report_text faults

-- the file holds instructions that are taken, and this is the extension's text and its report
pub record HoldsFaults (files : List NamedFile) (name : Text) (p : ProgramTree) (text report : Text) : Type 0 where
  pub bytes : List ℕ
  pub has : HasBytes files name bytes
  pub extension : IsExtensionText p bytes text report

-- the file holds instructions that are taken, and what the code made is the text and the report of the extension
abbrev pub HoldsExtension : List NamedFile → Text → ProgramTree → Made → Type 0
HoldsExtension files name p made = HoldsFaults files name p made.text.items made.report

-- a fault's name is its path, slice and mode
abbrev pub path_of : WovenFault → Path
path_of w = parts_of w.path ++ (w.slice ∷ w.mode ∷ [])

-- the faults have the names of the woven ones, in their order
abbrev pub AreListed : List WovenFault → List Numbered → Type 0
AreListed woven faults = map name_of_fault faults ≡ map path_of woven
