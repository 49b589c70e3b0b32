-- The numbers that faults have in a flat model.
use Rattle.std.specs.Prelude.{◌≡◌, ◌≤◌, ℕ, List, [], ◌∷◌, ◌++◌, Option, Some, None, slice_get}
use Rattle.smv_language.specs.Language.{Text, Path, Each, AtSome}
use Rattle.fault_instructions.specs.AddedNames.{mode_variable, mode_symbol}
use Rattle.smv_language.specs.declared.model.Variable.{Variable}
use Rattle.smv_language.specs.declared.model.FlatModel.{FlatModel}
use Rattle.smv_language.specs.declared.model.Fault.{Fault}
use Rattle.fault_extend.specs.declared.faults.WovenFault.{WovenFault}
use Rattle.fault_extend.specs.declared.list.SymbolNumbers.{SymbolNumbers}

-- a path from `main` on; `main` has none
abbrev pub parts_of : Option Path → Path
parts_of None = []
parts_of (Some path) = path

-- the variable of this number has this path
pub record HasPath (variables : List Variable) (number : ℕ) (path : Path) : Type 0 where
  pub variable : Variable
  pub is : slice_get variables number ≡ Some variable
  pub same : variable.path ≡ path

-- a variable from this number on has this path
pub record IsThere (variables : List Variable) (from : ℕ) (path : Path) : Type 0 where
  pub number : ℕ
  pub after : from ≤ number
  pub has : HasPath variables number path

-- the model has the variable that holds the state of the fault's slice at its instance, and the symbol of its mode
pub record HasMode (m : FlatModel) (w : WovenFault) : Type 0 where
  pub number : ℕ
  pub variable : HasPath m.variables number (parts_of w.path ++ mode_variable w.slice ∷ [])
  pub symbol : ℕ
  pub is_symbol : slice_get m.symbols symbol ≡ Some (mode_symbol w.slice (Some w.mode))

-- of each of these faults
abbrev pub HaveModes : FlatModel → List WovenFault → Type 0
HaveModes m ws = Each (HasMode m) ws

-- The fault's name is its path, slice and mode; its variable is the one that holds the slice's state at its instance,
-- and its symbol is that of its mode.
pub record IsNumbered (m : FlatModel) (w : WovenFault) (f : Fault) : Type 0 where
  pub name : f.name ≡ parts_of w.path ++ (w.slice ∷ w.mode ∷ [])
  pub variable : HasPath m.variables f.variable (parts_of w.path ++ mode_variable w.slice ∷ [])
  pub is_symbol : slice_get m.symbols f.symbol ≡ Some (mode_symbol w.slice (Some w.mode))

-- each fault of a list with that of the other at its place
abbrev pub AreNumbered : FlatModel → List WovenFault → List Fault → Type 0
AreNumbered m [] [] = Unit {0}
AreNumbered m (w ∷ ws) (f ∷ fs) = IsNumbered m w f × AreNumbered m ws fs
AreNumbered m [] (f ∷ fs) = ⊥
AreNumbered m (w ∷ ws) [] = ⊥

-- each kept number is that of the symbol beside it
abbrev pub AreSymbols : SymbolNumbers → Type 0
AreSymbols s = Each (λ e. slice_get s.names.now e.1 ≡ Some e.0.now) s.numbers.entries

-- the number of this symbol is kept
abbrev pub KnowsSymbol : SymbolNumbers → Text → Type 0
KnowsSymbol s x = AtSome (λ e. e.0.now ≡ x) s.numbers.entries
