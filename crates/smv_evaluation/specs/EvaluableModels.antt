-- What can be evaluated: models, values whose symbols have texts, and tables of values and of what definitions give.
use Rattle.std.specs.Prelude.{◌≡◌, ℕ, ◌<◌, ◌^◌, Option, Some, false, List, [], length, map, slice_get}
use Rattle.smv_language.specs.Language.{Text, Tree, Each, Values, one, FlatLeaf, FlatModel, table_after, FlatGives, FlatMay, AreApart}
use Rattle.smv_language.specs.Language.{told_moment, told_value}
use Rattle.smv_language.specs.Values as told
use Rattle.base_values.specs.declared.value.Value.{Value}
use Rattle.base_values.specs.declared.value.Value.TheVariants.{Bool as truth, Num, Sym}
use Rattle.smv_flat_laws.specs.FlatTrace.{AreInDomains}
use Rattle.smv_type_laws.specs.Laws.{IsClosed, ReadsOwn}
use Rattle.smv_type_laws.specs.Models.{judged_in, broken_condition}
use Rattle.smv_evaluation.specs.Entries.{Entries}

-- the number is that of a symbol
pub record IsPlaceOf (symbols : List Text) (i : ℕ) : Type 0 where
  pub text : Text
  pub there : slice_get symbols i ≡ Some text

-- a value that is a symbol has the number of one
abbrev pub IsNumbered : List Text → Value → Type 0
IsNumbered symbols (truth b) = Unit {0}
IsNumbered symbols (Num n) = Unit {0}
IsNumbered symbols (Sym i) = IsPlaceOf symbols i

-- a model whose formulas name its own variables, symbols and earlier definitions, and whose symbols differ
pub record IsEvaluable (m : FlatModel) : Type 0 where
  pub closed : IsClosed m
  pub apart : AreApart m.symbols

-- a value for each variable of a model, each of its domain
pub record IsLawful (m : FlatModel) (v : List Value) : Type 0 where
  pub domains : AreInDomains m.variables (told_moment m.symbols v)
  pub numbered : Each (IsNumbered m.symbols) v

-- what a definition gives that has this one value
abbrev pub gives_one : List Text → Value → Option Values
gives_one symbols v = Some (one (told_value symbols v))

-- moments by number that can be replayed: there are some, fewer than 2^32, and each has a value of its type for each variable
pub record CanBeReplayed (m : FlatModel) (trace : List (List Value)) : Type 0 where
  pub some : 0 < length trace
  pub few : length trace < 2 ^ 32
  pub lawful : Each (IsLawful m) trace

-- an expression that is TRUE or FALSE at a moment: it names what the model has, and breaks no rule of conditions
pub record IsCondition (m : FlatModel) (e : Tree FlatLeaf) : Type 0 where
  pub own : ReadsOwn m e
  pub right : broken_condition (judged_in m false e) ≡ []

-- a table with the values of a moment, and what the definitions give there
pub record IsFilled (m : FlatModel) (e : Entries) : Type 0 where
  pub lawful : IsLawful m e.variables
  pub definitions : map (gives_one m.symbols) e.definitions ≡ table_after m.symbols (told_moment m.symbols e.variables) [] m.definitions
  pub numbered : Each (IsNumbered m.symbols) e.definitions

-- the values of a moment from its table
abbrev pub values_in : FlatModel → Entries → List told.Value
values_in m e = told_moment m.symbols e.variables

-- from the tables now and next the expression gives this one value alone
pub record Gives (m : FlatModel) (now next : Entries) (e : Tree FlatLeaf) (v : Value) : Type 0 where
  pub gives : FlatGives m (told_moment m.symbols now.variables) (told_moment m.symbols next.variables) e (one (told_value m.symbols v))
  pub numbered : IsNumbered m.symbols v

-- from the tables now and next the expression may have this value
abbrev pub MayGive : FlatModel → Entries → Entries → Tree FlatLeaf → Value → Type 0
MayGive m now next e v = FlatMay m (told_moment m.symbols now.variables) (told_moment m.symbols next.variables) e (told_value m.symbols v)
