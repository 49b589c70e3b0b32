-- Causes of the code as definitions see them, and what is added for one.
use Rattle.std.specs.Prelude.{suc, List, [], ◌∷◌, Option, Some, None, length}
use Rattle.smv_language.specs.declared.expr.Op.TheVariants as op
use Rattle.smv_language.specs.Language.{Tree, binary, Path, FlatLeaf, FlatModel}
use Rattle.smv_flat_laws.specs.History.{Mode}
use Rattle.fault_cause_laws.specs.Causes.{CommonCause}
use Rattle.fault_cause_laws.specs.StagedModel.{joined, joined_after}
use Rattle.fault_staging.specs.declared.cause.Cause.{Cause}

-- the cause in memory as the definitions see it
abbrev pub cause_of : Cause → CommonCause
cause_of c = record { name = c.name; from = c.from; to = c.to; strikes = c.strikes }

-- the name by which a cause's event is told
abbrev pub told_cause : Cause → Path
told_cause c = c.name ∷ []

-- the event of a cause that is added to a model, as a mode: its variable comes after the age
abbrev pub event_mode : FlatModel → Mode
event_mode m = record { variable = suc (length m.variables); symbol = suc (length m.symbols) }

-- an expression, or one before it
abbrev pub either_tree : Option (Tree FlatLeaf) → Tree FlatLeaf → Tree FlatLeaf
either_tree None e = e
either_tree (Some before) e = binary op.Or before e

-- expressions joined by `|` behind one, where there is one
abbrev pub joined_from : Option (Tree FlatLeaf) → List (Tree FlatLeaf) → Tree FlatLeaf
joined_from None es = joined es
joined_from (Some e) es = joined_after e es
