-- The laws of where moments stop and of the models of programs, as statements.
use Rattle.std.specs.Prelude.{◌≡◌, ℕ, List}
use Rattle.smv_language.specs.Language.{Tree, ProgramTree, Value, FlatLeaf, FlatModel}
use Rattle.smv_flat_laws.specs.Model.{IsFlatOf}
use Rattle.smv_evaluation.specs.EvaluableModels.{IsEvaluable}
use Rattle.smv_evaluation.specs.Stops.{Why, Stops}
use Rattle.smv_evaluation.specs.Replay.{IsReaching}

-- moments stop at most once, for one reason
abbrev pub OneStop : Type 0
OneStop =
    (m : FlatModel) (top : Tree FlatLeaf) (trace : List (List Value)) (i j : ℕ) (why other : Why) → Stops m top trace i why →
    Stops m top trace j other → (i ≡ j) × (why ≡ other)

-- and do not where they are a trace that reaches the event
abbrev pub ReachingDoesNotStop : Type 0
ReachingDoesNotStop = (m : FlatModel) (top : Tree FlatLeaf) (trace : List (List Value)) (i : ℕ) (why : Why) → Stops m top trace i why →
    IsReaching m top trace → ⊥

-- a program's flat model names its own and has different symbols
abbrev pub FlatModelsAreEvaluable : Type 0
FlatModelsAreEvaluable = (p : ProgramTree) (m : FlatModel) → IsFlatOf p m → IsEvaluable m
