-- How words are read: what the code computes, which laws of proofs/ join to Meaning.
use Rattle.std.specs.Prelude.{ℕ, suc, ◌+◌, ◌*◌, ◌^◌, ◌&&◌, ◌||◌, Bool, true, false, not, nat_lt, nat_le, nat_eq, List, [], ◌∷◌, ◌++◌}
use Rattle.std.specs.Prelude.{Option, Some, None, Result, Ok, Err, length, codes, unwrap_or, option_and_then, if◌then◌else◌}
use Rattle.std.specs.Str.{bytes_eq}
use Rattle.std.specs.Char.{is_ascii_digit}
use Rattle.std.specs.List.{list_all}
use Rattle.base_values.specs.declared.limits.TheConstants.{MOST_FAULTS}
use Rattle.verb_command_line.specs.declared.choice.OptionKind.{OptionKind}
use Rattle.verb_command_line.specs.declared.choice.OptionKind.TheVariants as kind
use Rattle.verb_command_line.specs.declared.verb.Verb.{Verb}
use Rattle.verb_command_line.specs.declared.verb.Verb.TheVariants as verb
use Rattle.verb_command_line.specs.declared.fault.WordFault.{WordFault}
use Rattle.verb_command_line.specs.declared.fault.WordFault.TheVariants as fault
use Rattle.verb_command_line.specs.Commands.{Text, Command, extend, replay, analyse, check, fmea, make, causes, check_causes, orders}
use Rattle.verb_command_line.specs.Commands.{check_orders, odds, Given}
use Rattle.verb_command_line.specs.Sets.{number_of, words_of}
use Rattle.verb_command_line.specs.Table.{Choice, options_of, kind_in}

-- the verb of a name
abbrev pub verb_in : Text → Option Verb
verb_in name =
    if bytes_eq name (codes "extend") then Some verb.Extend
    else (if bytes_eq name (codes "replay") then Some verb.Replay
    else (if bytes_eq name (codes "analyse") then Some verb.Analyse
    else (if bytes_eq name (codes "check") then Some verb.Check
    else (if bytes_eq name (codes "fmea") then Some verb.Fmea
    else (if bytes_eq name (codes "make") then Some verb.Make
    else (if bytes_eq name (codes "causes") then Some verb.Causes
    else (if bytes_eq name (codes "check-causes") then Some verb.CheckCauses
    else (if bytes_eq name (codes "orders") then Some verb.Orders
    else (if bytes_eq name (codes "check-orders") then Some verb.CheckOrders
    else (if bytes_eq name (codes "odds") then Some verb.Odds
    else None))))))))))

-- Numbers.
abbrev pub is_numeral : Text → Bool
is_numeral word = nat_lt 0 (length word) && (nat_le (length word) 10 && list_all is_ascii_digit word)

-- the number of 1 to 10 digits
abbrev pub number_in : Text → Option ℕ
number_in word = if is_numeral word then Some (number_of word) else None

abbrev pub if_small : Option ℕ → Option ℕ
if_small None = None
if_small (Some n) = if nat_lt n (2 ^ 32) then Some n else None

-- the same, where it has 32 bits
abbrev pub small_number_in : Text → Option ℕ
small_number_in word = if_small (number_in word)

abbrev pub is_within : ℕ → ℕ → Option ℕ → Bool
is_within least most None = false
is_within least most (Some n) = nat_le least n && nat_le n most

-- Sets.
abbrev pub rises : ℕ → ℕ → Bool
rises last n = nat_lt last n && nat_le n MOST_FAULTS

abbrev pub rises_by : ℕ → Option ℕ → Bool
rises_by last None = false
rises_by last (Some n) = rises last n

abbrev pub is_rising : ℕ → List Text → Bool
is_rising last [] = true
is_rising last (w ∷ ws) = rises_by last (number_in w) && is_rising (number_of w) ws

abbrev pub is_set_text : Text → Bool
is_set_text word = nat_lt 1 (length (words_of word)) && is_rising 0 (words_of word)

-- both are numbers, and one
abbrev pub same_number : Option ℕ → Option ℕ → Bool
same_number (Some m) (Some n) = nat_eq m n
same_number (Some m) None = false
same_number None o = false

abbrev pub has_number : List Text → Option ℕ → Bool
has_number [] n = false
has_number (w ∷ ws) n = same_number (number_in w) n || has_number ws n

-- the words that are left, and how many bytes there are and one more
abbrev pub words_left : Option Text → List Text
words_left None = []
words_left (Some text) = words_of text

abbrev pub left_length : Option Text → ℕ
left_length None = 0
left_length (Some text) = suc (length text)

-- the numbers of 32 bits among words
abbrev pub small_then : Option ℕ → List ℕ → List ℕ
small_then None ns = ns
small_then (Some n) ns = n ∷ ns

abbrev pub smalls : List Text → List ℕ
smalls [] = []
smalls (w ∷ ws) = small_then (small_number_in w) (smalls ws)

abbrev pub is_claim : Text → Bool
is_claim word = bytes_eq word (codes "before")
    || (bytes_eq word (codes "after") || (bytes_eq word (codes "together") || bytes_eq word (codes "none")))

-- whether a word may be the value of an option
abbrev pub fits : OptionKind → Text → Bool
fits kind.File word = true
fits kind.Event word = true
fits (kind.Number least most) word = is_within least most (number_in word)
fits kind.Set word = is_set_text word
fits kind.Claim word = is_claim word

abbrev pub is_file_kind : OptionKind → Bool
is_file_kind kind.File = true
is_file_kind kind.Event = false
is_file_kind (kind.Number least most) = false
is_file_kind kind.Set = false
is_file_kind kind.Claim = false

-- Words as pairs; a last word alone is passed over.
abbrev pub pairs_of : List Text → List Given
pairs_of [] = []
pairs_of (option ∷ []) = []
pairs_of (option ∷ value ∷ rest) = record { option = option; value = value } ∷ pairs_of rest

-- the value of an option
abbrev pub value_in : List Given → Text → Option Text
value_in [] option = None
value_in (p ∷ ps) option = if bytes_eq p.option option then Some p.value else value_in ps option

abbrev pub text_in : List Given → Text → Text
text_in pairs option = unwrap_or (value_in pairs option) []

abbrev pub small_number_at : List Given → Text → Option ℕ
small_number_at pairs option = option_and_then small_number_in (value_in pairs option)

abbrev pub number_at : List Given → Text → ℕ
number_at pairs option = unwrap_or (small_number_at pairs option) 0

-- The rules.
abbrev pub first_of : Option WordFault → Option WordFault → Option WordFault
first_of None next = next
first_of (Some f) next = Some f

-- the fault of an option at this place with what the table and the words before it say of it, and the word after it
abbrev pub fault_by : Option OptionKind → Option Text → Option Text → ℕ → Option WordFault
fault_by None earlier value at = Some (fault.UnknownOption at)
fault_by (Some k) (Some e) value at = Some (fault.Twice at)
fault_by (Some k) None None at = Some (fault.NoValue at)
fault_by (Some k) None (Some v) at = if fits k v then None else Some (fault.BadNumber (at + 1))

abbrev pub fault_here : List Choice → List Given → Text → Option Text → Option WordFault
fault_here options before option value = fault_by (kind_in options option) (value_in before option) value (2 * length before + 2)

-- the first fault of an option or its value, after these pairs
abbrev pub pair_fault : List Choice → List Given → List Text → Option WordFault
pair_fault options before [] = None
pair_fault options before (option ∷ []) = fault_here options before option None
pair_fault options before (option ∷ value ∷ rest) =
    first_of (fault_here options before option (Some value)) (pair_fault options (before ++ record { option = option; value = value }
    ∷ []) rest)

abbrev pub missing_by : Bool → Option Text → ℕ → Option WordFault
missing_by true None place = Some (fault.Missing place)
missing_by true (Some v) place = None
missing_by false value place = None

-- the first missing option, where these options begin at this place
abbrev pub missing_from : ℕ → List Choice → List Given → Option WordFault
missing_from place [] pairs = None
missing_from place (c ∷ cs) pairs = first_of (missing_by c.required (value_in pairs c.name) place) (missing_from (place + 1) cs pairs)

abbrev pub is_file_of : Option OptionKind → Bool
is_file_of None = false
is_file_of (Some k) = is_file_kind k

abbrev pub is_file_in : List Choice → Text → Bool
is_file_in options option = is_file_of (kind_in options option)

-- a file of the pairs has this name
abbrev pub has_file : List Choice → List Given → Text → Bool
has_file options [] name = false
has_file options (p ∷ ps) name = (is_file_in options p.option && bytes_eq p.value name) || has_file options ps name

abbrev pub same_here : List Choice → List Given → Given → Option WordFault
same_here options before p =
    if is_file_in options p.option && has_file options before p.value then Some (fault.SameName (2 * length before + 2 + 1)) else None

-- the first file that has the name of an earlier one, after these pairs
abbrev pub same_from : List Choice → List Given → List Given → Option WordFault
same_from options before [] = None
same_from options before (p ∷ ps) = first_of (same_here options before p) (same_from options (before ++ p ∷ []) ps)

-- the first fault of options and values
abbrev pub option_fault : List Choice → List Text → Option WordFault
option_fault options words =
    first_of (pair_fault options [] words) (first_of (missing_from 1 options (pairs_of words)) (same_from options [] (pairs_of words)))

-- The two faults of a set.
abbrev pub is_second : Text → Bool
is_second option = bytes_eq option (codes "--second")

abbrev pub is_of_pair : Text → Bool
is_of_pair option = bytes_eq option (codes "--first") || is_second option

abbrev pub is_outside : Text → Text → Text → Text → Bool
is_outside set first option value =
    (is_of_pair option && not (has_number (words_of set) (number_in value)))
    || (is_second option && same_number (number_in first) (number_in value))

abbrev pub outside_here : Text → Text → List Given → Given → Option WordFault
outside_here set first before p = if is_outside set first p.option p.value then Some (fault.NotInSet (2 * length before + 2 + 1)) else None

-- the first that is outside, after these pairs
abbrev pub outside_from : Text → Text → List Given → List Given → Option WordFault
outside_from set first before [] = None
outside_from set first before (p ∷ ps) = first_of (outside_here set first before p) (outside_from set first (before ++ p ∷ []) ps)

abbrev pub set_fault_by : Option Text → List Given → Option WordFault
set_fault_by None pairs = None
set_fault_by (Some set) pairs = outside_from set (text_in pairs (codes "--first")) [] pairs

abbrev pub set_fault : List Given → Option WordFault
set_fault pairs = set_fault_by (value_in pairs (codes "--set")) pairs

-- the first fault of the words after a verb, the two faults of a set last
abbrev pub fault_after : Verb → List Text → Option WordFault
fault_after v words = first_of (option_fault (options_of v) words) (set_fault (pairs_of words))

-- the command of a verb and its values
abbrev pub made : Verb → List Given → Command
made verb.Extend ps = extend (text_in ps (codes "--model")) (text_in ps (codes "--faults")) (text_in ps (codes "--extended"))
made verb.Replay ps =
    replay (text_in ps (codes "--model")) (text_in ps (codes "--faults")) (text_in ps (codes "--trace")) (text_in ps (codes "--top"))
made verb.Analyse ps =
    analyse (text_in ps (codes "--model")) (text_in ps (codes "--faults")) (text_in ps (codes "--top")) (number_at ps (codes "--depth"))
    (text_in ps (codes "--extended")) (text_in ps (codes "--cert")) (small_number_at ps (codes "--size"))
made verb.Check ps = check (text_in ps (codes "--model")) (text_in ps (codes "--faults")) (text_in ps (codes "--top"))
    (text_in ps (codes "--cert"))
made verb.Fmea ps = fmea (text_in ps (codes "--model")) (text_in ps (codes "--faults")) (text_in ps (codes "--tops"))
    (number_at ps (codes "--size")) (number_at ps (codes "--depth"))
made verb.Make ps = make (number_at ps (codes "--number")) (number_at ps (codes "--stages")) (number_at ps (codes "--depth"))
    (text_in ps (codes "--model")) (text_in ps (codes "--faults"))
made verb.Causes ps =
    causes (text_in ps (codes "--model")) (text_in ps (codes "--faults")) (text_in ps (codes "--causes")) (text_in ps (codes "--top"))
    (number_at ps (codes "--depth")) (text_in ps (codes "--cert"))
made verb.CheckCauses ps =
    check_causes (text_in ps (codes "--model")) (text_in ps (codes "--faults")) (text_in ps (codes "--causes"))
    (text_in ps (codes "--top")) (text_in ps (codes "--cert"))
made verb.Orders ps =
    orders (text_in ps (codes "--model")) (text_in ps (codes "--faults")) (text_in ps (codes "--top")) (text_in ps (codes "--set"))
    (number_at ps (codes "--first"))
    (number_at ps (codes "--second")) (number_at ps (codes "--depth")) (text_in ps (codes "--cert"))
made verb.CheckOrders ps =
    check_orders (text_in ps (codes "--model")) (text_in ps (codes "--faults")) (text_in ps (codes "--top")) (text_in ps (codes "--set"))
    (number_at ps (codes "--first"))
    (number_at ps (codes "--second")) (text_in ps (codes "--claim")) (text_in ps (codes "--cert"))
made verb.Odds ps = odds (text_in ps (codes "--model")) (text_in ps (codes "--faults")) (text_in ps (codes "--top"))
    (number_at ps (codes "--depth"))

-- what is read: the command where there is no fault
abbrev pub command_or : {C : Type 0} → Option WordFault → C → Result C WordFault
command_or None c = Ok c
command_or (Some f) c = Err f

abbrev pub verb_read : Option Verb → List Text → Result Command WordFault
verb_read None words = Err (fault.UnknownVerb 1)
verb_read (Some v) words = command_or (fault_after v words) (made v (pairs_of words))

abbrev pub reading : List Text → Result Command WordFault
reading [] = Err (fault.NoVerb 0)
reading (name ∷ words) = verb_read (verb_in name) words
