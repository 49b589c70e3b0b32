-- What the reading of a causes file says: the causes that the bytes spell, or why they are none.
use Rattle.std.specs.Prelude.{◌≡◌, ◌⊎◌, ℕ, ◌-◌, ◌<◌, false, List, Some, map, take, slice_get}
use Rattle.smv_language.specs.Language.{Path, ProgramTree, EachBoth}
use Rattle.fault_weave.specs.Faults.{Fault as WovenFault}
use Rattle.smv_language.specs.declared.model.Fault.{Fault}
use Rattle.smv_expression_reader.specs.Stops.{FaultMeans}
use Rattle.fault_cause_laws.specs.Causes.{CommonCause}
use Rattle.fault_cause_laws.specs.CausesText.{WrittenCause, BytesSpellCauses}
use Rattle.fault_cause_laws.specs.CauseRules.{CauseRule as Rule, fault_path, is_path_among, IsBrokenAt, AreOwnsTaken, AreLawful, AreReadAs}
use Rattle.fault_causes_reader.specs.declared.fault.CauseFault.{CauseFault}
use Rattle.fault_causes_reader.specs.declared.fault.CauseFault.TheVariants as f
use Rattle.fault_causes_reader.specs.CauseStages.{IsCauses}
use Rattle.fault_causes_reader.specs.FaultPaths.{paths_of}
use Rattle.fault_causes_reader.specs.BrokenRules.{rule_of}

-- the list has the names of these faults of a woven program
abbrev pub AreNamed : List Fault → List WovenFault → Type 0
AreNamed faults woven = paths_of faults ≡ map fault_path woven

-- the number, from one on, is that of the first path of the list that is this one
abbrev pub IsNumberOf : List Path → Path → ℕ → Type 0
IsNumberOf paths p i = (0 < i) × (slice_get paths (i - 1) ≡ Some p) × (is_path_among (take (i - 1) paths) p ≡ false)

-- the strikes are the numbers of the faults that the written ones name
abbrev pub AreStrikes : List Path → WrittenCause → CommonCause → Type 0
AreStrikes paths written c = EachBoth (IsNumberOf paths) written.strikes c.strikes

-- the bytes spell causes that break no rule, and these are the causes, with faults by their numbers
pub record AreRead (faults : List WovenFault) (w : ProgramTree) (bytes : List ℕ) (causes : List CommonCause) : Type 0 where
  pub written : List WrittenCause
  pub spelled : BytesSpellCauses bytes written
  pub lawful : AreLawful faults w written
  pub read_as : AreReadAs faults w written causes
  pub strikes : EachBoth (AreStrikes (map fault_path faults)) written causes

-- the bytes spell causes of which the one of this number, or for 0 what is added after all, is the first to break this rule
pub record BreakRule (faults : List WovenFault) (w : ProgramTree) (bytes : List ℕ) (rule : Rule) (number : ℕ) : Type 0 where
  pub written : List WrittenCause
  pub spelled : BytesSpellCauses bytes written
  pub broken : IsBrokenAt faults w written rule number ⊎ AreOwnsTaken faults w written rule number

-- what a fault says of the bytes; nothing is too deep
abbrev pub FaultSays : List WovenFault → ProgramTree → List ℕ → CauseFault → Type 0
FaultSays faults w bytes (f.Parse fault) = FaultMeans IsCauses ⊥ bytes fault
FaultSays faults w bytes (f.Broken rule number) = BreakRule faults w bytes (rule_of rule) number
FaultSays faults w bytes f.OutOfMemory = Unit {0}

-- the bytes are read as these causes, for each extension whose faults have these names
pub record IsReading (faults : List Fault) (w : ProgramTree) (bytes : List ℕ) (causes : List CommonCause) : Type 0 where
  pub of_each : (woven : List WovenFault) → AreNamed faults woven → AreRead woven w bytes causes

-- the bytes are refused by this fault, for each extension whose faults have these names
pub record IsRefusal (faults : List Fault) (w : ProgramTree) (bytes : List ℕ) (fault : CauseFault) : Type 0 where
  pub of_each : (woven : List WovenFault) → AreNamed faults woven → FaultSays woven w bytes fault

-- the cause that is written, with paths by their numbers
pub record IsReadIn (paths : List Path) (written : WrittenCause) (c : CommonCause) : Type 0 where
  pub name : c.name ≡ written.name
  pub from : c.from ≡ written.from
  pub to : c.to ≡ written.to
  pub strikes : AreStrikes paths written c
