-- What holds of all words: they mean at most one command, break at most one rule first, and never both.
use Rattle.std.specs.Prelude.{◌≡◌, ℕ, List}
use Rattle.verb_command_line.specs.Commands.{Text, Command}
use Rattle.verb_command_line.specs.Meaning.{Means, BreaksFirst}

abbrev pub OneCommand : List Text → Type 0
OneCommand words = (c d : Command) → Means words c → Means words d → c ≡ d

abbrev pub OneFault : List Text → Type 0
OneFault words = (rule place rule' place' : ℕ) → BreaksFirst words rule place → BreaksFirst words rule' place' →
    (rule ≡ rule') × (place ≡ place')

abbrev pub CommandsHaveNoFault : List Text → Type 0
CommandsHaveNoFault words = (c : Command) (rule place : ℕ) → Means words c → BreaksFirst words rule place → ⊥
