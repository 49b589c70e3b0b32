-- What is said of a case, over all verbs: its faults and its bits; and told files and said bytes.
use Rattle.std.specs.Prelude.{◌≡◌, ℕ, List, ◌++◌, Option, Some, None, length, codes}
use Rattle.std.specs.Fmt.{decimal}
use Rattle.base_files.specs.declared.files.NamedFile.{NamedFile}
use Rattle.smv_language.specs.ProgramTree.{Text}
use Rattle.smv_type_laws.specs.Costs.{state_bits}
use Rattle.fault_weave.specs.Faults.{Fault}
use Rattle.verb_loading.specs.Reports.{fault_lines}
use Rattle.verb_loading.specs.Cases.{Case, whole_of}
use Rattle.base_files.specs.Desk.{told_with, WritesPrefix}

-- the number of the faults and their lines
abbrev pub faults_text : List Fault → Text
faults_text faults = codes "faults " ++ (decimal (length faults) ++ (codes "\n" ++ fault_lines 1 faults))

-- the bits of a state with history
abbrev pub bits_of : Case → ℕ
bits_of c = state_bits (whole_of c)

-- Told files and said bytes.
abbrev pub Told : Type 0
Told = Option (List NamedFile)

-- bytes that were said, where it is told
abbrev pub Said : Type 0
Said = Option (List ℕ)

-- the files once the text was written, where there is one
abbrev pub told_maybe : Told → Text → Option (List ℕ) → Told
told_maybe told name None = told
told_maybe told name (Some bytes) = told_with told name bytes

-- a beginning of the text was written, where there is a text
abbrev pub WritesPrefixMaybe : Told → Told → Text → Option (List ℕ) → Type 0
WritesPrefixMaybe before after name None = after ≡ before
WritesPrefixMaybe before after name (Some bytes) = WritesPrefix before after name bytes
