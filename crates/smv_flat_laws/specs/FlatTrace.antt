-- The traces of a flat model, and what its history bits say of them.
use Rattle.std.specs.Prelude.{◌≡◌, ◌↔◌, ℕ, ◌<◌, Bool, false, ◌||◌, IsTrue, List, [], ◌∷◌, ◌++◌, length, map, Option, Some, slice_get}
use Rattle.smv_language.specs.Language.{Text, Value, symbol, same_text, Each, EachPair, AtFirst, in_domain, FlatLeaf, flat_variable}
use Rattle.smv_language.specs.Language.{flat_symbol, flat_definition, FlatVariable, FlatFormula, FlatModel, Holds}
use Rattle.smv_language.specs.Values.{truth}
use Rattle.smv_flat_laws.specs.NameResolution.{leaves_in}
use Rattle.smv_flat_laws.specs.History.{Mode, with_history}

-- a value for each variable, each within its declared type
abbrev pub AreInDomains : List FlatVariable → List Value → Type 0
AreInDomains [] [] = Unit {0}
AreInDomains (x ∷ xs) (v ∷ vs) = IsTrue (in_domain x.declared v) × AreInDomains xs vs
AreInDomains _ _ = ⊥

-- a valuation by number that meets what each one must
pub record IsFlatMoment (m : FlatModel) (v : List Value) : Type 0 where
  pub domains : AreInDomains m.variables v
  pub holds : Each (Holds m v v) m.at_each

-- what a valuation and the next must meet
abbrev pub IsFlatStep : FlatModel → List Value → List Value → Type 0
IsFlatStep m v w = Each (Holds m v w) m.at_step

-- a trace of a flat model: a list of valuations by number that is not empty
pub record IsFlatTrace (m : FlatModel) (trace : List (List Value)) : Type 0 where
  pub first : AtFirst (λ v. Each (Holds m v v) m.at_first) trace
  pub moments : Each (IsFlatMoment m) trace
  pub steps : EachPair (IsFlatStep m) trace

-- the value is the symbol
abbrev pub is_symbol_value : Option Text → Option Value → Bool
is_symbol_value (Some x) (Some (symbol y)) = same_text y x
is_symbol_value _ _ = false

-- the mode stands in a valuation
abbrev pub stands : FlatModel → Mode → List Value → Bool
stands m f v = is_symbol_value (slice_get m.symbols f.symbol) (slice_get v f.variable)

-- the mode stands in some of the valuations
abbrev pub stands_in_some : FlatModel → Mode → List (List Value) → Bool
stands_in_some m f [] = false
stands_in_some m f (v ∷ vs) = stands m f v || stands_in_some m f vs

-- for each fault whether its mode stands in some valuation up to this one
abbrev pub bits_after : FlatModel → List Mode → List (List Value) → List Value
bits_after m fs moments = map (λ f. truth (stands_in_some m f moments)) fs

-- each valuation of a trace with the bits of its history, where others came before
abbrev pub told_from : FlatModel → List Mode → List (List Value) → List (List Value) → List (List Value)
told_from m fs before [] = []
told_from m fs before (v ∷ vs) = (v ++ bits_after m fs (before ++ v ∷ [])) ∷ told_from m fs (before ++ v ∷ []) vs

-- a name is no variable but one of so many
abbrev pub IsOwnName : ℕ → FlatLeaf → Type 0
IsOwnName n (flat_variable i) = i < n
IsOwnName n (flat_symbol i) = Unit {0}
IsOwnName n (flat_definition i) = Unit {0}

-- a formula reads no variable but one of so many
abbrev pub IsOwnFormula : ℕ → FlatFormula → Type 0
IsOwnFormula n f = Each (IsOwnName n) (leaves_in f.value)

-- the model's formulas read its own variables alone
pub record NamesOwn (m : FlatModel) : Type 0 where
  pub definitions : Each (IsOwnFormula (length m.variables)) m.definitions
  pub at_first : Each (IsOwnFormula (length m.variables)) m.at_first
  pub at_each : Each (IsOwnFormula (length m.variables)) m.at_each
  pub at_step : Each (IsOwnFormula (length m.variables)) m.at_step

-- the mode has a variable of the model, whose type has symbols alone, and a symbol of the model
pub record IsModeOf (m : FlatModel) (f : Mode) : Type 0 where
  pub variable : FlatVariable
  pub is_variable : slice_get m.variables f.variable ≡ Some variable
  pub symbols_alone : (v : Value) → IsTrue (in_domain variable.declared v) → (x : Text) × (v ≡ symbol x)
  pub text : Text
  pub is_symbol : slice_get m.symbols f.symbol ≡ Some text

-- The traces of one model are those of another, each with one value of the bit of every mode, which is TRUE
-- at a moment exactly where the mode stands there or stood before.
abbrev pub TellsHistory : FlatModel → List Mode → FlatModel → Type 0
TellsHistory m fs made =
    (long : List (List Value)) →
    (IsFlatTrace made long ↔ ((trace : List (List Value)) × IsFlatTrace m trace × (long ≡ told_from m fs [] trace)))

-- The law of history.
abbrev pub HistoryIsExact : Type 0
HistoryIsExact = (m : FlatModel) (fs : List Mode) → NamesOwn m → Each (IsModeOf m) fs → TellsHistory m fs (with_history m fs)
