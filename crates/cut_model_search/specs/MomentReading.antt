-- What a moment of a path is read as.
use Rattle.std.specs.Prelude.{Bool, true, false, List}
use Rattle.smv_language.specs.Language.{Value as Told, FlatModel}
use Rattle.base_values.specs.declared.value.Value.{Value}
use Rattle.sat_clauses.specs.Assignment.{Assignment}
use Rattle.sat_encoding.specs.Values.{StandFor, HasState, HasMoment}
use Rattle.cut_search_laws.specs.Searchable.{with_least}

-- the values stand for those whose bits the moment has; the last moment has no inputs, which get the least values
abbrev pub IsRead : FlatModel → Bool → Assignment → List Value → Type 0
IsRead m true a v = (values : List Told) → HasState m a values → StandFor m.symbols v (with_least m values)
IsRead m false a v = (values : List Told) → HasMoment m a values → StandFor m.symbols v values
