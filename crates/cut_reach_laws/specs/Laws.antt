-- When a staged model can be searched.
use Rattle.std.specs.Prelude.{ℕ, ◌≤◌, List, [], Option, length}
use Rattle.base_values.specs.declared.limits.TheConstants.{MOST_FAULTS, MOST_TOP_COST}
use Rattle.smv_language.specs.Language.{Tree, FlatLeaf, FlatModel}
use Rattle.smv_flat_laws.specs.History.{Mode}
use Rattle.smv_type_laws.specs.Costs.{cost_of}
use Rattle.smv_type_laws.specs.Models.{IsTyped}
use Rattle.cut_search_laws.specs.Searchable.{IsSearchable}
use Rattle.fault_orders.specs.declared.Relation.{Relation}
use Rattle.fault_orders.specs.Stage.{stage, against}

-- the number is that of one of so many faults
pub record IsFaultNumber (faults i : ℕ) : Type 0 where
  pub counts : 1 ≤ i
  pub within : i ≤ faults

-- A model with at most `MOST_FAULTS` that can be searched with a top event of a cost within the limit: where it is typed once it is
-- staged for two of the faults, it can be searched with what speaks against a claim. It has no faults of its own.
abbrev pub StagedAreSearchable : Type 0
StagedAreSearchable =
    (m : FlatModel) (fs : List Mode) (top : Tree FlatLeaf) → IsSearchable m fs top → cost_of top ≤ MOST_TOP_COST → length fs ≤ MOST_FAULTS →
    (first second : ℕ) → IsFaultNumber (length fs) first → IsFaultNumber (length fs) second → IsTyped (stage m fs first second) →
    (set : List ℕ) (claim : Option Relation) →
    IsSearchable (stage m fs first second) [] (against (stage m fs first second) (length fs) top set claim)
