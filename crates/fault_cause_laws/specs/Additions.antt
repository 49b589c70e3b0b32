-- A flat model with further variables, symbols and formulas after its own, and its traces.
use Rattle.std.specs.Prelude.{◌≡◌, ℕ, ◌<◌, List, [], ◌∷◌, ◌++◌, length}
use Rattle.smv_language.specs.Language.{Text, Value, Each, EachPair, AtFirst, FlatLeaf, flat_variable, flat_symbol, flat_definition}
use Rattle.smv_language.specs.Language.{FlatVariable, FlatFormula, FlatModel, Holds}
use Rattle.smv_flat_laws.specs.FlatTrace.{AreInDomains}
use Rattle.smv_flat_laws.specs.NameResolution.{leaves_in}

-- what is added to a model
pub record Addition : Type 0 where
  pub variables : List FlatVariable
  pub symbols : List Text
  pub at_first : List FlatFormula
  pub at_each : List FlatFormula
  pub at_step : List FlatFormula

-- the model with these at the end of its own
abbrev pub with_addition : FlatModel → Addition → FlatModel
with_addition m a =
    record {
      instances = m.instances;
      variables = m.variables ++ a.variables;
      definitions = m.definitions;
      symbols = m.symbols ++ a.symbols;
      at_first = m.at_first ++ a.at_first;
      at_each = m.at_each ++ a.at_each;
      at_step = m.at_step ++ a.at_step;
    }

-- a name is no variable and no symbol but one of so many
abbrev pub IsKnownName : ℕ → ℕ → FlatLeaf → Type 0
IsKnownName variables symbols (flat_variable i) = i < variables
IsKnownName variables symbols (flat_symbol i) = i < symbols
IsKnownName variables symbols (flat_definition i) = Unit {0}

-- a formula reads no variable and no symbol but one of so many
abbrev pub IsKnownFormula : ℕ → ℕ → FlatFormula → Type 0
IsKnownFormula variables symbols f = Each (IsKnownName variables symbols) (leaves_in f.value)

-- formulas read no variable and no symbol but those of a model
abbrev pub ReadsKnown : FlatModel → List FlatFormula → Type 0
ReadsKnown m fs = Each (IsKnownFormula (length m.variables) (length m.symbols)) fs

-- the model's formulas read its own variables and symbols alone
pub record KnowsNames (m : FlatModel) : Type 0 where
  pub definitions : ReadsKnown m m.definitions
  pub at_first : ReadsKnown m m.at_first
  pub at_each : ReadsKnown m m.at_each
  pub at_step : ReadsKnown m m.at_step

-- each valuation with values of the added variables after its own
abbrev pub beside : List (List Value) → List (List Value) → List (List Value)
beside [] more = []
beside (v ∷ vs) [] = []
beside (v ∷ vs) (x ∷ xs) = (v ++ x) ∷ beside vs xs

-- the values of the added variables beside those of a trace meet what is asked of them
pub record AreAdded (m : FlatModel) (a : Addition) (trace more : List (List Value)) : Type 0 where
  pub one_each : length more ≡ length trace
  pub domains : Each (AreInDomains a.variables) more
  pub first : AtFirst (λ v. Each (Holds (with_addition m a) v v) a.at_first) (beside trace more)
  pub moments : Each (λ v. Each (Holds (with_addition m a) v v) a.at_each) (beside trace more)
  pub steps : EachPair (λ v w. Each (Holds (with_addition m a) v w) a.at_step) (beside trace more)
