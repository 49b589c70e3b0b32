-- The kinds of names, from those of variables and definitions by their numbers.
use Rattle.std.specs.Prelude.{Option, Some, None, slice_get}
use Rattle.smv_language.specs.declared.model.Flat.{Flat}
use Rattle.smv_language.specs.declared.model.Flat.TheVariants as flat
use Rattle.smv_type_laws.specs.ExpressionKinds.{Kind}
use Rattle.smv_types.specs.Answers.{seen_sort}
use Rattle.smv_types.specs.declared.sort.Class.TheVariants.{Truth, Symbol}
use Rattle.smv_types.specs.declared.sort.Sort.{Sort}
use Rattle.smv_types.specs.declared.judge.Sorts.{Sorts}

-- what is not there has no values
abbrev pub sort_at : Option Sort → Sort
sort_at None = record { class = Truth; interval = None }
sort_at (Some s) = s

-- what is known of a name: of a variable, a definition or a symbol
abbrev pub name_sort : Sorts → Flat → Sort
name_sort s (flat.Var i) = sort_at (slice_get s.variables.items i)
name_sort s (flat.Definition i) = sort_at (slice_get s.definitions.items i)
name_sort s (flat.Symbol i) = record { class = Symbol; interval = None }

-- the kind of a name
abbrev pub name_kind : Sorts → Flat → Kind
name_kind s name = seen_sort (name_sort s name)
