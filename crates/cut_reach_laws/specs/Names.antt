-- The names that causes add to a model, and that these are new.
use Rattle.std.specs.Prelude.{◌≡◌, ◌≢◌, ℕ, suc, List, [], ◌∷◌, ◌++◌, Some, slice_get}
use Rattle.smv_language.specs.Language.{Text, IsName, Each, FlatVariable, FlatModel}
use Rattle.smv_flat_laws.specs.History.{Mode}
use Rattle.fault_cause_laws.specs.Causes.{CommonCause}
use Rattle.fault_cause_laws.specs.StagedModel.{age_name, event_name, quiet_name, now_name, hit_name, own_name, none_name, self_name}

-- no text stands twice, one after another
abbrev pub AreDistinct : List Text → Type 0
AreDistinct [] = Unit {0}
AreDistinct (x ∷ xs) = Each (λ y. x ≢ y) xs × AreDistinct xs

-- no variable of `main` has the name, and no symbol is it
pub record IsNewName (m : FlatModel) (x : Text) : Type 0 where
  pub no_variable : (i : ℕ) (v : FlatVariable) → slice_get m.variables i ≡ Some v → v.place ≡ [] → v.name ≡ x → ⊥
  pub no_symbol : (i : ℕ) → slice_get m.symbols i ≡ Some x → ⊥

-- the names of a cause's hits, which go on from a number
abbrev pub hit_names_of : Text → ℕ → List ℕ → List Text
hit_names_of x k [] = []
hit_names_of x k (i ∷ is) = hit_name x k ∷ hit_names_of x (suc k) is

-- all names that a cause adds
abbrev pub names_added_by : CommonCause → List Text
names_added_by c = age_name c.name ∷ event_name c.name ∷ quiet_name c.name ∷ now_name c.name ∷ hit_names_of c.name 1 c.strikes

-- those of causes before others
abbrev pub names_of_each : List CommonCause → List Text → List Text
names_of_each [] left = left
names_of_each (c ∷ cs) left = names_added_by c ++ names_of_each cs left

-- those of the events of faults, whose numbers go on from one
abbrev pub own_names_from : ℕ → List Mode → List Text
own_names_from i [] = []
own_names_from i (f ∷ fs) = own_name i ∷ none_name i ∷ self_name i ∷ own_names_from (suc i) fs

-- all that are added
abbrev pub names_added : List Mode → List CommonCause → List Text
names_added fs cs = names_of_each cs (own_names_from 1 fs)

-- these are different names, and each is new
pub record AreNewNames (m : FlatModel) (names : List Text) : Type 0 where
  pub new : Each (IsNewName m) names
  pub distinct : AreDistinct names
  pub words : Each IsName names
