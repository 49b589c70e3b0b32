-- What becomes of a list of moments, as it is found moment by moment, and what that means.
use Rattle.std.specs.Prelude.{ℕ, suc, ◌-◌, Bool, List, [], ◌∷◌, length, if◌then◌else◌}
use Rattle.smv_language.specs.Language.{Tree, FlatLeaf, FlatModel as ModelTree}
use Rattle.smv_language.specs.Values as told
use Rattle.base_values.specs.declared.value.Value.{Value}
use Rattle.smv_flat_laws.specs.FlatTrace.{IsFlatTrace}
use Rattle.smv_language.specs.declared.model.Flat.{Flat}
use Rattle.smv_language.specs.declared.model.FlatModel.{FlatModel}
use Rattle.sat_encoding_laws.specs.FlatTraces.{ReachesTop}
use Rattle.smv_evaluation.specs.declared.ask.AskedValue.TheVariants.{ItsValue}
use Rattle.smv_evaluation.specs.declared.trace.Replayed.{Replayed}
use Rattle.smv_evaluation.specs.declared.trace.Replayed.TheVariants.{Reaches, NoTop, BadFirst, BadStep}
use Rattle.smv_evaluation.specs.OperatorValues.{is_true}
use Rattle.smv_evaluation.specs.Entries.{Entries}
use Rattle.smv_evaluation.specs.MomentTables.{filled, answer_in, first_holds, step_holds}
use Rattle.smv_evaluation.specs.Stops.{Stops, at_first, at_step, at_top}

-- the event is TRUE where the last moment has these entries
abbrev pub is_reached : Tree Flat → Entries → Bool
is_reached top last = is_true (answer_in last last ItsValue top)

-- what becomes of a trace whose last moment has these entries
abbrev pub ended : Tree Flat → Entries → Replayed
ended top last = if is_reached top last then Reaches else NoTop

-- where the moment before the next one, of number i, has these entries
abbrev pub replayed_from : FlatModel → Tree Flat → Entries → ℕ → List (List Value) → Replayed
replayed_from m top now i [] = ended top now
replayed_from m top now i (v ∷ vs) = if step_holds m now (filled m v) then replayed_from m top (filled m v) (suc i) vs else BadStep i

-- all moments; a list of none has no first one
abbrev pub replayed : FlatModel → Tree Flat → List (List Value) → Replayed
replayed m top [] = BadFirst
replayed m top (v ∷ vs) = if first_holds m (filled m v) then replayed_from m top (filled m v) 1 vs else BadFirst

-- the moments are a trace, and reach the event
pub record IsReaching (m : ModelTree) (top : Tree FlatLeaf) (trace : List (List told.Value)) : Type 0 where
  pub is_trace : IsFlatTrace m trace
  pub reaches : ReachesTop m top trace

-- what each answer means
abbrev pub IsReplayed : ModelTree → Tree FlatLeaf → List (List told.Value) → Replayed → Type 0
IsReplayed m top trace Reaches = IsReaching m top trace
IsReplayed m top trace NoTop = Stops m top trace (length trace - 1) at_top
IsReplayed m top trace BadFirst = Stops m top trace 0 at_first
IsReplayed m top trace (BadStep i) = Stops m top trace i at_step
