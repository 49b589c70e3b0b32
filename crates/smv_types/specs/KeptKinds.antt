-- The kinds that are kept of what was judged.
use Rattle.std.specs.Prelude.{◌≡◌, false, List, map, flat_map}
use Rattle.smv_language.specs.Language.{tree_of, FlatModel}
use Rattle.smv_type_laws.specs.ExpressionKinds.{Kind, Judged, judge}
use Rattle.smv_type_laws.specs.Models.{judged_variables, judged_definitions, broken_condition, Breach, breaches_at}
use Rattle.smv_language.specs.declared.model.Flat.{Flat}
use Rattle.smv_language.specs.declared.model.Formula.{Formula}
use Rattle.smv_types.specs.Answers.{told_sort}
use Rattle.smv_types.specs.declared.sort.Sort.{Sort}
use Rattle.smv_types.specs.declared.judge.Sorts.{Sorts}

-- the class and the interval alone
abbrev pub kept_sort : Judged → Sort
kept_sort j = told_sort j.kind

-- of each
abbrev pub kept_sorts : List Judged → List Sort
kept_sorts js = map kept_sort js

-- The kinds are those of variables and definitions that were judged so.
pub record AreKept (variables definitions : List Judged) (s : Sorts) : Type 0 where
  pub of_variables : s.variables.items ≡ kept_sorts variables
  pub of_definitions : s.definitions.items ≡ kept_sorts definitions

-- the kinds are those of the model's variables and definitions
abbrev pub AreKindsOf : FlatModel → Sorts → Type 0
AreKindsOf m s = AreKept (judged_variables m.variables) (judged_definitions m) s

-- what a condition breaks over names of these kinds
abbrev pub formula_breaches : (Flat → Kind) → List Formula → List Breach
formula_breaches k fs = flat_map (λ f. breaches_at f.«instance» f.item (broken_condition (judge k false (tree_of f.value)))) fs
