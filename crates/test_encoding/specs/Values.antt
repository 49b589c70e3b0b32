-- What the tests find out of a value before it is evaluated.
use Rattle.std.specs.Prelude.{◌≡◌, ℕ, ◌<◌, IsTrue, Some, slice_get}
use Rattle.smv_language.specs.Language.{declared_tree, in_domain, told_value}
use Rattle.base_values.specs.declared.value.Value.{Value}
use Rattle.base_values.specs.declared.value.Value.TheVariants.{Bool as truth, Num, Sym}
use Rattle.smv_language.specs.declared.model.Variable.{Variable}
use Rattle.smv_language.specs.declared.model.FlatModel.{FlatModel}
use Rattle.smv_evaluation.specs.EvaluableModels.{IsNumbered}

-- a value that is a symbol has one of so many numbers
abbrev pub IsKnownSymbol : ℕ → Value → Type 0
IsKnownSymbol symbols (truth b) = Unit {0}
IsKnownSymbol symbols (Num n) = Unit {0}
IsKnownSymbol symbols (Sym i) = i < symbols

-- the value is one of the model's variable of this number, and a symbol has the number of one
pub record HasAt (m : FlatModel) (i : ℕ) (value : Value) : Type 0 where
  pub domain : (x : Variable) → slice_get m.variables i ≡ Some x →
      IsTrue (in_domain (declared_tree x.declared) (told_value m.symbols value))
  pub numbered : IsNumbered m.symbols value
