-- The laws of encoding, as statements.
use Rattle.std.specs.Prelude.{◌<◌, ◌≡◌, ◌≢◌, length, ℕ, ◌-◌, ◌^◌, ℤ, pos, neg_ℤ, ◌≤ℤ◌, ◌<ℤ◌, Bool, true, false, List, [], Some}
use Rattle.smv_language.specs.Language.{Tree, DeclaredTree, members, ProgramTree, Each, Value, one, evaluate, FlatLeaf, FlatModel}
use Rattle.smv_language.specs.Language.{leaves_at}
use Rattle.smv_flat_laws.specs.FlatTrace.{AreInDomains}
use Rattle.smv_flat_laws.specs.Model.{IsFlatOf}
use Rattle.smv_flat_laws.specs.Rules.{IsAccepted}
use Rattle.sat_clauses.specs.Models.{TotalAssignment}
use Rattle.sat_circuits.specs.Circuit.{Circuit}
use Rattle.sat_circuits.specs.Meaning.{Means}
use Rattle.smv_type_laws.specs.Intervals.{Interval, IsIn, fits}
use Rattle.smv_type_laws.specs.Models.{judged_in, IsTyped}
use Rattle.smv_type_laws.specs.Laws.{ReadsOwn}
use Rattle.smv_type_laws.specs.LeastValues.{AreByRole}
use Rattle.sat_encoding_laws.specs.Widths.{kind_width, word_width}
use Rattle.sat_encoding_laws.specs.Signals.{Signal}
use Rattle.sat_encoding_laws.specs.Expressions.{Asked, its_value, whether_has, Names, encoded}
use Rattle.sat_encoding_laws.specs.Meanings.{HasValue, IsSignal, IsReady, Answers}
use Rattle.sat_encoding_laws.specs.Bits.{state_of, inputs_of}
use Rattle.sat_encoding_laws.specs.Lists.{system_of, bad_list}
use Rattle.sat_encoding_laws.specs.Encodable.{IsKnownName, IsEncodable, IsFitTop, IsStateBoolean}
use Rattle.sat_encoding_laws.specs.Encodings.{IsEncodingOf, IsBadListOf}

-- names of a model whose signals may be used in a circuit, with words as wide as their kinds
pub record AreNamesOf (m : FlatModel) (s : Circuit) (c : Names FlatLeaf) : Type 0 where
  pub now : (l : FlatLeaf) → IsSignal s (c.now l)
  pub next : (l : FlatLeaf) → IsSignal s (c.next l)
  pub width : (e : Tree FlatLeaf) → c.width e ≡ kind_width m.symbols (judged_in m false e).kind

-- the signals of a model's names have the values that these give at a valuation
abbrev pub HaveValues : FlatModel → TotalAssignment → (FlatLeaf → Signal) → List Value → Type 0
HaveValues m a signals v = (l : FlatLeaf) → IsKnownName m l → (x : Value) → leaves_at m v l ≡ Some (one x) →
    HasValue m.symbols a (signals l) x

-- the signal that is asked for may be used
abbrev pub IsAskedIn : Circuit → Asked → Type 0
IsAskedIn s its_value = Unit {0}
IsAskedIn s (whether_has u) = IsSignal s u

-- a set may stand where it is asked whether it has a value
abbrev pub IsAskedOf : Asked → Bool → Type 0
IsAskedOf its_value sets = sets ≡ false
IsAskedOf (whether_has u) sets = Unit {0}

-- An expression that breaks no rule becomes gates onto which every assignment of the variables so far extends, and where
-- these hold, and the names have their values now and at the next moment, the signal that is given has the value that
-- the expression gives, or says whether the value of a signal is among those that it gives.
abbrev pub ExpressionsAreEncoded : Type 0
ExpressionsAreEncoded =
    (m : FlatModel) → IsEncodable m → (c : Names FlatLeaf) (s : Circuit) → IsReady s → AreNamesOf m s c → (asked : Asked) →
    IsAskedIn s asked → (sets : Bool) → IsAskedOf asked sets →
    (e : Tree FlatLeaf) → ReadsOwn m e → (judged_in m sets e).broken ≡ [] →
    Means s (encoded c asked e s) IsSignal
    (λ a signal. (v w : List Value) → AreInDomains m.variables v → AreInDomains m.variables w → HaveValues m a c.now v →
    HaveValues m a c.next w →
    Answers m.symbols a asked (judged_in m sets e).kind.class (evaluate (leaves_at m v) (leaves_at m w) e) signal)

-- The word of an interval within 32 bits holds its numbers, in two's complement.
abbrev pub WordsHoldKinds : Type 0
WordsHoldKinds =
    (i : Interval) (z : ℤ) → fits i ≡ true → IsIn i z → (neg_ℤ (pos (2 ^ (word_width i - 1))) ≤ℤ z) × (z <ℤ pos (2 ^ (word_width i - 1)))

-- The clause lists of an encodable model can be made true with the bits of valuations exactly where these are first
-- moments and steps of the model.
abbrev pub ModelsAreEncoded : Type 0
ModelsAreEncoded = (m : FlatModel) → IsEncodable m → IsEncodingOf m (system_of m) (state_of m) (inputs_of m)

-- And the list of bad states with the bits of exactly these: at a moment of the model at which the top event is TRUE,
-- which has failed at most so many faults, and all of no listed set.
abbrev pub BadStatesAreEncoded : Type 0
BadStatesAreEncoded =
    (m : FlatModel) → IsEncodable m → (top : Tree FlatLeaf) → IsFitTop m top → (history : List ℕ) → Each (IsStateBoolean m) history →
    (sets : List (List ℕ)) (size : ℕ) →
    IsBadListOf m (system_of m) (state_of m) top history sets size (bad_list m top history sets size)

-- The bits of a valuation are those of its variables by their roles.
abbrev pub BitsGoByRole : Type 0
BitsGoByRole = (m : FlatModel) → AreByRole m (state_of m) (inputs_of m)

-- the type has a member, where it is a list of members, as each written one has
abbrev pub HasMember : DeclaredTree → Type 0
HasMember (members ms) = ms ≢ []
HasMember _ = Unit {0}

-- The typed flat model of an accepted program is encodable: by the rules its symbols are different, those of its types
-- are among them, and inputs are read where they may be. Symbols are fewer than 2 ^ 31.
abbrev pub FlatModelsAreEncodable : Type 0
FlatModelsAreEncodable =
    (p : ProgramTree) (m : FlatModel) → IsAccepted p → IsFlatOf p m → IsTyped m → length m.symbols < 2 ^ 31 →
    Each (λ x. HasMember x.declared) m.variables → IsEncodable m
