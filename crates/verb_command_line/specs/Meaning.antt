-- The command that words mean, and the rule that they break first, with its place. Places of words count from 1.
use Rattle.std.specs.Prelude.{◌≡◌, ◌≢◌, ◌⊎◌, ℕ, ◌+◌, ◌*◌, true, List, [], ◌∷◌, ◌++◌, Option, Some, None, length, codes}
use Rattle.verb_command_line.specs.declared.choice.OptionKind.{OptionKind}
use Rattle.verb_command_line.specs.declared.choice.OptionKind.TheVariants as kind
use Rattle.verb_command_line.specs.declared.verb.Verb.{Verb}
use Rattle.verb_command_line.specs.declared.verb.Verb.TheVariants as verb
use Rattle.verb_command_line.specs.Commands.{Text, Command, extend, replay, analyse, check, fmea, make, causes, check_causes, orders}
use Rattle.verb_command_line.specs.Commands.{check_orders, odds, Given, spread}
pub use Rattle.verb_command_line.specs.Sets.{Each}
use Rattle.verb_command_line.specs.Sets.{number_of, numbers_of}
use Rattle.verb_command_line.specs.Table.{Choice, name_of, options_of, kind_in, Fits}

-- each two of the list, the earlier one first
abbrev pub EachTwo : {A : Type 0} → (A → A → Type 0) → List A → Type 0
EachTwo R [] = Unit {0}
EachTwo R (x ∷ xs) = Each (R x) xs × EachTwo R xs

-- the pairs give the option this value
abbrev pub Gives : List Given → Text → Text → Type 0
Gives [] option value = ⊥
Gives (p ∷ ps) option value = ((p.option ≡ option) × (p.value ≡ value)) ⊎ Gives ps option value

abbrev pub IsGiven : List Given → Text → Type 0
IsGiven pairs option = (value : Text) × Gives pairs option value

abbrev pub IsNotGiven : List Given → Text → Type 0
IsNotGiven pairs option = Each (λ p. p.option ≢ option) pairs

-- the pair is one of the options with a value that fits it
pub record IsLawful (options : List Choice) (pair : Given) : Type 0 where
  pub kind : OptionKind
  pub known : kind_in options pair.option ≡ Some kind
  pub fits : Fits kind pair.value

-- each pair is one of the options with a value that fits it, and no option comes twice
pub record AreLawful (options : List Choice) (pairs : List Given) : Type 0 where
  pub each : Each (IsLawful options) pairs
  pub once : EachTwo (λ p q. p.option ≢ q.option) pairs

-- the option is there, or may be left out
abbrev pub IsThere : List Given → Choice → Type 0
IsThere pairs c = c.required ≡ true → IsGiven pairs c.name

-- no option is left out that may not be
abbrev pub AreThere : List Choice → List Given → Type 0
AreThere options pairs = Each (IsThere pairs) options

-- the value of the pair is the name of a file
abbrev pub IsFile : List Choice → Given → Type 0
IsFile options p = kind_in options p.option ≡ Some kind.File

-- both are files and have one name
pub record SameFile (options : List Choice) (p q : Given) : Type 0 where
  pub first : IsFile options p
  pub second : IsFile options q
  pub same : p.value ≡ q.value

-- no two files have one name
abbrev pub AreDifferent : List Choice → List Given → Type 0
AreDifferent options pairs = EachTwo (λ p q. SameFile options p q → ⊥) pairs

-- the pairs give the option this number
pub record GivesNumber (pairs : List Given) (option : Text) (number : ℕ) : Type 0 where
  pub value : Text
  pub given : Gives pairs option value
  pub is : number_of value ≡ number

-- they give it this number, or the option is left out
abbrev pub MayGiveNumber : List Given → Text → Option ℕ → Type 0
MayGiveNumber pairs option None = IsNotGiven pairs option
MayGiveNumber pairs option (Some number) = GivesNumber pairs option number

-- The two faults of a set.
abbrev pub IsOfPair : Text → Type 0
IsOfPair option = (option ≡ codes "--first") ⊎ (option ≡ codes "--second")

abbrev pub IsOneOf : List ℕ → ℕ → Type 0
IsOneOf [] n = ⊥
IsOneOf (m ∷ ms) n = (m ≡ n) ⊎ IsOneOf ms n

-- the pair gives one of two faults, which is not in the set; or the second, which is the first too
pub data IsOutside (set first : Text) (p : Given) : Type 0 where
  not_of_set : IsOfPair p.option → (IsOneOf (numbers_of set) (number_of p.value) → ⊥) → IsOutside set first p
  both_one : p.option ≡ codes "--second" → number_of first ≡ number_of p.value → IsOutside set first p

abbrev pub IsInside : Text → Text → Given → Type 0
IsInside set first p = IsOutside set first p → ⊥

-- where the pairs give a set, its two faults are in it and differ
abbrev pub AreInside : List Given → Type 0
AreInside pairs = (set first : Text) → Gives pairs (codes "--set") set → Gives pairs (codes "--first") first →
    Each (IsInside set first) pairs

-- the verb with the values of the pairs makes the command
pub data Makes (pairs : List Given) : Verb → Command → Type 0 where
  extends : (model faults extended : Text) → Gives pairs (codes "--model") model → Gives pairs (codes "--faults") faults →
      Gives pairs (codes "--extended") extended →
      Makes pairs verb.Extend (extend model faults extended)
  replays : (model faults trace top : Text) → Gives pairs (codes "--model") model → Gives pairs (codes "--faults") faults →
      Gives pairs (codes "--trace") trace → Gives pairs (codes "--top") top →
      Makes pairs verb.Replay (replay model faults trace top)
  analyses : (model faults top : Text) (depth : ℕ) (extended cert : Text) (size : Option ℕ) → Gives pairs (codes "--model") model →
      Gives pairs (codes "--faults") faults →
      Gives pairs (codes "--top") top → GivesNumber pairs (codes "--depth") depth → Gives pairs (codes "--extended") extended →
      Gives pairs (codes "--cert") cert →
      MayGiveNumber pairs (codes "--size") size → Makes pairs verb.Analyse (analyse model faults top depth extended cert size)
  checks : (model faults top cert : Text) → Gives pairs (codes "--model") model → Gives pairs (codes "--faults") faults →
      Gives pairs (codes "--top") top → Gives pairs (codes "--cert") cert →
      Makes pairs verb.Check (check model faults top cert)
  tabulates : (model faults tops : Text) (size depth : ℕ) → Gives pairs (codes "--model") model → Gives pairs (codes "--faults") faults →
      Gives pairs (codes "--tops") tops →
      GivesNumber pairs (codes "--size") size → GivesNumber pairs (codes "--depth") depth →
      Makes pairs verb.Fmea (fmea model faults tops size depth)
  generates : (number stages depth : ℕ) (model faults : Text) → GivesNumber pairs (codes "--number") number →
      GivesNumber pairs (codes "--stages") stages →
      GivesNumber pairs (codes "--depth") depth → Gives pairs (codes "--model") model → Gives pairs (codes "--faults") faults →
      Makes pairs verb.Make (make number stages depth model faults)
  finds_causes : (model faults file top : Text) (depth : ℕ) (cert : Text) → Gives pairs (codes "--model") model →
      Gives pairs (codes "--faults") faults → Gives pairs (codes "--causes") file →
      Gives pairs (codes "--top") top → GivesNumber pairs (codes "--depth") depth → Gives pairs (codes "--cert") cert →
      Makes pairs verb.Causes (causes model faults file top depth cert)
  checks_causes : (model faults file top cert : Text) → Gives pairs (codes "--model") model → Gives pairs (codes "--faults") faults →
      Gives pairs (codes "--causes") file →
      Gives pairs (codes "--top") top → Gives pairs (codes "--cert") cert →
      Makes pairs verb.CheckCauses (check_causes model faults file top cert)
  finds_orders : (model faults top set : Text) (first second depth : ℕ) (cert : Text) → Gives pairs (codes "--model") model →
      Gives pairs (codes "--faults") faults → Gives pairs (codes "--top") top →
      Gives pairs (codes "--set") set → GivesNumber pairs (codes "--first") first → GivesNumber pairs (codes "--second") second →
      GivesNumber pairs (codes "--depth") depth →
      Gives pairs (codes "--cert") cert → Makes pairs verb.Orders (orders model faults top set first second depth cert)
  checks_orders : (model faults top set : Text) (first second : ℕ) (claim cert : Text) → Gives pairs (codes "--model") model →
      Gives pairs (codes "--faults") faults → Gives pairs (codes "--top") top →
      Gives pairs (codes "--set") set → GivesNumber pairs (codes "--first") first → GivesNumber pairs (codes "--second") second →
      Gives pairs (codes "--claim") claim →
      Gives pairs (codes "--cert") cert → Makes pairs verb.CheckOrders (check_orders model faults top set first second claim cert)
  finds_odds : (model faults top : Text) (depth : ℕ) → Gives pairs (codes "--model") model → Gives pairs (codes "--faults") faults →
      Gives pairs (codes "--top") top →
      GivesNumber pairs (codes "--depth") depth → Makes pairs verb.Odds (odds model faults top depth)

-- the words are a verb and pairs of its options and their values, which make the command
pub record Means (words : List Text) (command : Command) : Type 0 where
  pub verb : Verb
  pub pairs : List Given
  pub spelled : words ≡ name_of verb ∷ spread pairs
  pub lawful : AreLawful (options_of verb) pairs
  pub complete : AreThere (options_of verb) pairs
  pub different : AreDifferent (options_of verb) pairs
  pub inside : AreInside pairs
  pub makes : Makes pairs verb command

-- the place of the option after these pairs
abbrev pub option_place : List Given → ℕ
option_place before = 2 * length before + 2

-- what is broken first by the words after the verb, where these are its options: the pairs from left to right, in each the
-- option before its value; then the options that are missing; then the names of files
pub data BreaksOption (options : List Choice) (words : List Text) : ℕ → ℕ → Type 0 where
  unknown_option : (before : List Given) (option : Text) (after : List Text) → words ≡ spread before ++ option ∷ after →
      AreLawful options before →
      kind_in options option ≡ None → BreaksOption options words 3 (option_place before)
  comes_twice : (before : List Given) (option : Text) (after : List Text) (k : OptionKind) → words ≡ spread before ++ option ∷ after →
      AreLawful options before →
      kind_in options option ≡ Some k → IsGiven before option → BreaksOption options words 4 (option_place before)
  no_value : (before : List Given) (option : Text) (k : OptionKind) → words ≡ spread before ++ option ∷ [] → AreLawful options before →
      kind_in options option ≡ Some k → IsNotGiven before option → BreaksOption options words 6 (option_place before)
  bad_number : (before : List Given) (option value : Text) (after : List Text) (k : OptionKind) →
      words ≡ spread before ++ option ∷ value ∷ after → AreLawful options before →
      kind_in options option ≡ Some k → IsNotGiven before option → (Fits k value → ⊥) →
      BreaksOption options words 7 (option_place before + 1)
  missing : (pairs : List Given) (front : List Choice) (c : Choice) (back : List Choice) → words ≡ spread pairs → AreLawful options pairs →
      options ≡ front ++ c ∷ back → Each (IsThere pairs) front → c.required ≡ true → IsNotGiven pairs c.name →
      BreaksOption options words 5 (length front + 1)
  same_name : (before : List Given) (p : Given) (after : List Given) (q : Given) → words ≡ spread (before ++ p ∷ after) →
      AreLawful options (before ++ p ∷ after) →
      AreThere options (before ++ p ∷ after) → AreDifferent options before → Gives before q.option q.value → SameFile options q p →
      BreaksOption options words 8 (option_place before + 1)

-- the rule that the words break first, and its place; the two faults of a set come last
pub data BreaksFirst (words : List Text) : ℕ → ℕ → Type 0 where
  no_verb : words ≡ [] → BreaksFirst words 1 0
  unknown_verb : (name : Text) (rest : List Text) → words ≡ name ∷ rest → ((v : Verb) → name_of v ≢ name) → BreaksFirst words 2 1
  not_in_set : (v : Verb) (before : List Given) (p : Given) (after : List Given) (set first : Text) →
      words ≡ name_of v ∷ spread (before ++ p ∷ after) → AreLawful (options_of v) (before ++ p ∷ after) →
      AreThere (options_of v) (before ++ p ∷ after) → AreDifferent (options_of v) (before ++ p ∷ after) →
      Gives (before ++ p ∷ after) (codes "--set") set →
      Gives (before ++ p ∷ after) (codes "--first") first → Each (IsInside set first) before → IsOutside set first p →
      BreaksFirst words 9 (option_place before + 1)
  an_option : (v : Verb) (rest : List Text) (rule place : ℕ) → words ≡ name_of v ∷ rest → BreaksOption (options_of v) rest rule place →
      BreaksFirst words rule place
