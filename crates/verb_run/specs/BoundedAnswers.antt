-- How far a bounded answer goes.
use Rattle.std.specs.Prelude.{◌≡◌, ℕ, ◌+◌, ◌^◌, ◌<◌, List, [], Some}
use Rattle.base_files.specs.declared.files.NamedFile.{NamedFile}
use Rattle.smv_flat_laws.specs.History.{with_history}
use Rattle.smv_type_laws.specs.Costs.{state_bits}
use Rattle.verb_command_line.specs.Commands.{Command, extend, replay, analyse, check, fmea, make, causes, check_causes, orders}
use Rattle.verb_command_line.specs.Commands.{check_orders, odds}
use Rattle.verb_command_line.specs.Sets.{numbers_of}
use Rattle.verb_loading.specs.declared.status.Status.{Status}
use Rattle.verb_loading.specs.declared.status.Status.TheVariants as status
use Rattle.verb_loading.specs.CaseAnswers.{bits_of}
use Rattle.verb_loading.specs.Cases.{Case, HoldsCase}
use Rattle.verb_causes.specs.declared.staged.StagedEvent.{StagedEvent}
use Rattle.verb_causes.specs.Causes.{staged_in, events_in, HoldsStaged}
use Rattle.verb_orders.specs.Pairs.{HoldsPair}
use Rattle.verb_orders.specs.Orders.{staged_of}
use Rattle.verb_run.specs.Requests.{depth_of}
use Rattle.verb_run.specs.GeneratedCase.{IsGenerated}

-- how a command that was carried out may end, whatever the files hold: bounded only by the depth that it asks for, and never as refused
-- words
abbrev pub IsOfCommand : Command → Status → Type 0
IsOfCommand c (status.Words f) = ⊥
IsOfCommand c (status.Bounded k) = depth_of c ≡ Some k
IsOfCommand c _ = Unit {0}

-- the number is the depth, which is below two more than the number of states that so many bits allow
abbrev pub IsBelow : ℕ → ℕ → ℕ → Type 0
IsBelow bits depth k = (k ≡ depth) × (k < 2 ^ bits + 2)

-- A bounded answer is bounded by the depth that was asked for, which is below two more than the number of states that the bits of the
-- searched model allow: of the extension with the history of its faults, or of what is staged. Where nothing is searched, none is.
abbrev pub IsShort : Command → List NamedFile → ℕ → Type 0
IsShort (extend model faults extended) files k = ⊥
IsShort (replay model faults trace top) files k = ⊥
IsShort (analyse model faults top depth extended cert size) files k = (c : Case) × HoldsCase files model faults c
    × IsBelow (bits_of c) depth k
IsShort (check model faults top cert) files k = ⊥
IsShort (fmea model faults tops size depth) files k = (c : Case) × HoldsCase files model faults c × IsBelow (bits_of c) depth k
IsShort (make number stages depth model faults) files k = (c : Case) × IsGenerated number stages c × IsBelow (bits_of c) depth k
IsShort (causes model faults file top depth cert) files k =
    (l : StagedEvent) × HoldsStaged files model faults file top l × IsBelow (state_bits (with_history (staged_in l) (events_in l))) depth k
IsShort (check_causes model faults file top cert) files k = ⊥
IsShort (orders model faults top set first second depth cert) files k =
    (c : Case) × HoldsPair files model faults (numbers_of set) first second c
    × IsBelow (state_bits (with_history (staged_of c first second) [])) depth k
IsShort (check_orders model faults top set first second claim cert) files k = ⊥
IsShort (odds model faults top depth) files k = (c : Case) × HoldsCase files model faults c × IsBelow (bits_of c) depth k
