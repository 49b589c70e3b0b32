-- Variables by their printed names, and values by their texts.
use Rattle.std.specs.Prelude.{◌≡◌, ◌≢◌, ℕ, IsTrue, Option, Some, None, slice_get}
use Rattle.smv_language.specs.Language.{Text, Value, value_text, in_domain, FlatVariable, FlatModel, told_value}
use Rattle.cut_text_laws.specs.TraceText.{variable_text}
use Rattle.cut_text_laws.specs.TraceFaults.{IsNameIn}
use Rattle.base_values.specs.declared.value.Value.{Value as Numbered}

-- the variable of this number is printed so
pub record IsNamedAt (m : FlatModel) (name : Text) (i : ℕ) : Type 0 where
  pub variable : FlatVariable
  pub is_variable : slice_get m.variables i ≡ Some variable
  pub is_name : variable_text variable ≡ name

-- the number of the variable that is printed so, where one is
abbrev pub IsPlaceOf : FlatModel → Text → Option ℕ → Type 0
IsPlaceOf m name None = IsNameIn m name → ⊥
IsPlaceOf m name (Some i) = IsNamedAt m name i

-- the value of a variable's type has the text
pub record IsValueAt (m : FlatModel) (i : ℕ) (text : Text) (v : Numbered) : Type 0 where
  pub inside : (x : FlatVariable) → slice_get m.variables i ≡ Some x → IsTrue (in_domain x.declared (told_value m.symbols v))
  pub is_text : value_text (told_value m.symbols v) ≡ text

-- no value of the variable's type has the text
abbrev pub HasNoValue : FlatModel → ℕ → Text → Type 0
HasNoValue m i text = (x : FlatVariable) → slice_get m.variables i ≡ Some x → (w : Value) → IsTrue (in_domain x.declared w) →
    value_text w ≢ text

-- the value of the variable's type that has the text, where one has it
abbrev pub IsFoundAt : FlatModel → ℕ → Text → Option Numbered → Type 0
IsFoundAt m i text None = HasNoValue m i text
IsFoundAt m i text (Some v) = IsValueAt m i text v
