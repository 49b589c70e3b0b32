-- What the words of a command line ask for, or none.
use Rattle.std.specs.Prelude.{ℕ, List, Option, Some, None}
use Rattle.verb_command_line.specs.declared.fault.WordFault.{WordFault}
use Rattle.verb_command_line.specs.Commands.{Text, Command, extend, replay, analyse, check, fmea, make, causes, check_causes, orders}
use Rattle.verb_command_line.specs.Commands.{check_orders, odds}
use Rattle.verb_command_line.specs.Meaning.{Means, BreaksFirst}
use Rattle.verb_command_line.specs.CommandView.{rule_of, place_of}

-- the words ask to extend the model by the instructions into a file
abbrev pub AsksToExtend : List Text → Text → Text → Text → Type 0
AsksToExtend words model faults extended = Means words (extend model faults extended)

-- the words ask to replay the trace of a file over the extension of the model by the instructions, for a top event
abbrev pub AsksToReplay : List Text → Text → Text → Text → Text → Type 0
AsksToReplay words model faults trace top = Means words (replay model faults trace top)

-- the words ask to analyse the extension of the model by the instructions for a top event, by so many steps and of at most so many
-- faults where a size is given, into a file for the extension and one for a certificate
abbrev pub AsksToAnalyse : List Text → (model faults top : Text) → ℕ → (extended cert : Text) → Option ℕ → Type 0
AsksToAnalyse words model faults top depth extended cert size = Means words (analyse model faults top depth extended cert size)

-- the words ask to check the certificate of a file, over the extension of the model by the instructions, for a top event
abbrev pub AsksToCheck : List Text → Text → Text → Text → Text → Type 0
AsksToCheck words model faults top cert = Means words (check model faults top cert)

-- the words ask for the table of the top events of a file, with a row for each set of at most so many faults, by so many steps
abbrev pub AsksToTabulate : List Text → (model faults tops : Text) → (size depth : ℕ) → Type 0
AsksToTabulate words model faults tops size depth = Means words (fmea model faults tops size depth)

-- the words ask to generate the case of a number and so many stages into two files, and to analyse it by so many steps
abbrev pub AsksToMake : List Text → (number stages depth : ℕ) → (model faults : Text) → Type 0
AsksToMake words number stages depth model faults = Means words (make number stages depth model faults)

-- the words ask to search the extension with the common causes of a file for a top event, by so many steps, into a file for a certificate
abbrev pub AsksForCauses : List Text → (model faults file top : Text) → ℕ → Text → Type 0
AsksForCauses words model faults file top depth cert = Means words (causes model faults file top depth cert)

-- the words ask to check a certificate of faults and common causes
abbrev pub AsksToCheckCauses : List Text → Text → Text → Text → Text → Text → Type 0
AsksToCheckCauses words model faults file top cert = Means words (check_causes model faults file top cert)

-- the words ask for the order of two faults of a set, by so many steps, into a file for a certificate
abbrev pub AsksForOrder : List Text → (model faults top set : Text) → (first second depth : ℕ) → Text → Type 0
AsksForOrder words model faults top set first second depth cert = Means words (orders model faults top set first second depth cert)

-- the words ask to check a certificate of what is claimed of two faults of a set
abbrev pub AsksToCheckOrder : List Text → (model faults top set : Text) → (first second : ℕ) → (claim cert : Text) → Type 0
AsksToCheckOrder words model faults top set first second claim cert =
    Means words (check_orders model faults top set first second claim cert)

-- the words ask for bounds of the probabilities of cut sets, by so many steps
abbrev pub AsksForOdds : List Text → (model faults top : Text) → ℕ → Type 0
AsksForOdds words model faults top depth = Means words (odds model faults top depth)

-- in how many steps a command searches at most, where it searches
abbrev pub depth_of : Command → Option ℕ
depth_of (extend model faults extended) = None
depth_of (replay model faults trace top) = None
depth_of (analyse model faults top depth extended cert size) = Some depth
depth_of (check model faults top cert) = None
depth_of (fmea model faults tops size depth) = Some depth
depth_of (make number stages depth model faults) = Some depth
depth_of (causes model faults file top depth cert) = Some depth
depth_of (check_causes model faults file top cert) = None
depth_of (orders model faults top set first second depth cert) = Some depth
depth_of (check_orders model faults top set first second claim cert) = None
depth_of (odds model faults top depth) = Some depth

-- the words are refused by the rule that they break first
abbrev pub RefusesWords : List Text → WordFault → Type 0
RefusesWords words f = BreaksFirst words (rule_of f) (place_of f)
