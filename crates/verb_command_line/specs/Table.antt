-- The verbs, their options, and what the values of options are.
use Rattle.std.specs.Prelude.{◌≡◌, ◌⊎◌, ℕ, ◌≤◌, Bool, true, false, List, [], ◌∷◌, Option, Some, None, codes, if◌then◌else◌}
use Rattle.std.specs.Str.{bytes_eq}
use Rattle.base_values.specs.declared.limits.TheConstants.{MOST_FAULTS, GREATEST_DEPTH, GREATEST_CASE, MOST_STAGES}
use Rattle.verb_command_line.specs.declared.choice.OptionKind.{OptionKind}
use Rattle.verb_command_line.specs.declared.choice.OptionKind.TheVariants as kind
use Rattle.verb_command_line.specs.declared.verb.Verb.{Verb}
use Rattle.verb_command_line.specs.declared.verb.Verb.TheVariants as verb
use Rattle.verb_command_line.specs.Commands.{Text}
use Rattle.verb_command_line.specs.Sets.{number_of, IsNumeral, IsSet}

-- an option of a verb: its name, what its value is, and whether it may not be left out
pub record Choice : Type 0 where
  pub name : Text
  pub kind : OptionKind
  pub required : Bool

abbrev pub name_of : Verb → Text
name_of verb.Extend = codes "extend"
name_of verb.Replay = codes "replay"
name_of verb.Analyse = codes "analyse"
name_of verb.Check = codes "check"
name_of verb.Fmea = codes "fmea"
name_of verb.Make = codes "make"
name_of verb.Causes = codes "causes"
name_of verb.CheckCauses = codes "check-causes"
name_of verb.Orders = codes "orders"
name_of verb.CheckOrders = codes "check-orders"
name_of verb.Odds = codes "odds"

-- an option that may not be left out
abbrev pub needed : Text → OptionKind → Choice
needed name kind = record { name = name; kind = kind; required = true }

-- the options of a verb, in the order in which a missing one is told
abbrev pub options_of : Verb → List Choice
options_of verb.Extend =
    needed (codes "--model") kind.File ∷ needed (codes "--faults") kind.File ∷ needed (codes "--extended") kind.File ∷ []
options_of verb.Replay =
    needed (codes "--model") kind.File ∷ needed (codes "--faults") kind.File ∷ needed (codes "--trace") kind.File
    ∷ needed (codes "--top") kind.Event ∷ []
options_of verb.Analyse =
    needed (codes "--model") kind.File ∷ needed (codes "--faults") kind.File ∷ needed (codes "--top") kind.Event
    ∷ needed (codes "--depth") (kind.Number 0 GREATEST_DEPTH) ∷ needed (codes "--extended") kind.File ∷ needed (codes "--cert") kind.File
    ∷ record { name = codes "--size"; kind = kind.Number 0 MOST_FAULTS; required = false } ∷ []
options_of verb.Check =
    needed (codes "--model") kind.File ∷ needed (codes "--faults") kind.File ∷ needed (codes "--top") kind.Event
    ∷ needed (codes "--cert") kind.File ∷ []
options_of verb.Fmea =
    needed (codes "--model") kind.File ∷ needed (codes "--faults") kind.File ∷ needed (codes "--tops") kind.File
    ∷ needed (codes "--size") (kind.Number 0 2) ∷ needed (codes "--depth") (kind.Number 0 GREATEST_DEPTH) ∷ []
options_of verb.Make =
    needed (codes "--number") (kind.Number 0 GREATEST_CASE) ∷ needed (codes "--stages") (kind.Number 1 MOST_STAGES)
    ∷ needed (codes "--depth") (kind.Number 0 GREATEST_DEPTH)
    ∷ needed (codes "--model") kind.File ∷ needed (codes "--faults") kind.File ∷ []
options_of verb.Causes =
    needed (codes "--model") kind.File ∷ needed (codes "--faults") kind.File ∷ needed (codes "--causes") kind.File
    ∷ needed (codes "--top") kind.Event
    ∷ needed (codes "--depth") (kind.Number 0 GREATEST_DEPTH) ∷ needed (codes "--cert") kind.File ∷ []
options_of verb.CheckCauses =
    needed (codes "--model") kind.File ∷ needed (codes "--faults") kind.File ∷ needed (codes "--causes") kind.File
    ∷ needed (codes "--top") kind.Event
    ∷ needed (codes "--cert") kind.File ∷ []
options_of verb.Orders =
    needed (codes "--model") kind.File ∷ needed (codes "--faults") kind.File ∷ needed (codes "--top") kind.Event
    ∷ needed (codes "--set") kind.Set
    ∷ needed (codes "--first") (kind.Number 1 MOST_FAULTS) ∷ needed (codes "--second") (kind.Number 1 MOST_FAULTS)
    ∷ needed (codes "--depth") (kind.Number 0 GREATEST_DEPTH)
    ∷ needed (codes "--cert") kind.File ∷ []
options_of verb.CheckOrders =
    needed (codes "--model") kind.File ∷ needed (codes "--faults") kind.File ∷ needed (codes "--top") kind.Event
    ∷ needed (codes "--set") kind.Set
    ∷ needed (codes "--first") (kind.Number 1 MOST_FAULTS) ∷ needed (codes "--second") (kind.Number 1 MOST_FAULTS)
    ∷ needed (codes "--claim") kind.Claim
    ∷ needed (codes "--cert") kind.File ∷ []
options_of verb.Odds =
    needed (codes "--model") kind.File ∷ needed (codes "--faults") kind.File ∷ needed (codes "--top") kind.Event
    ∷ needed (codes "--depth") (kind.Number 0 GREATEST_DEPTH) ∷ []

-- what the value of an option is, where the options have one of this name
abbrev pub kind_in : List Choice → Text → Option OptionKind
kind_in [] option = None
kind_in (c ∷ cs) option = if bytes_eq c.name option then Some c.kind else kind_in cs option

-- the word is a number within these limits
pub record IsWithin (least most : ℕ) (word : Text) : Type 0 where
  pub numeral : IsNumeral word
  pub above : least ≤ number_of word
  pub below : number_of word ≤ most

-- the word is a claim
abbrev pub IsClaim : Text → Type 0
IsClaim word = (word ≡ codes "before") ⊎ ((word ≡ codes "after") ⊎ ((word ≡ codes "together") ⊎ (word ≡ codes "none")))

-- the word may be the value of an option
abbrev pub Fits : OptionKind → Text → Type 0
Fits kind.File word = Unit {0}
Fits kind.Event word = Unit {0}
Fits (kind.Number least most) word = IsWithin least most word
Fits kind.Set word = IsSet word
Fits kind.Claim word = IsClaim word
