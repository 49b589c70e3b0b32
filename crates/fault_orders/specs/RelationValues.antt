-- What the two booleans tell of a trace.
use Rattle.std.specs.Prelude.{ℕ, suc, Bool, true, false, List, [], ◌∷◌, take, if◌then◌else◌}
use Rattle.smv_language.specs.Values.{Value, truth}
use Rattle.smv_language.specs.Flat.{FlatModel}
use Rattle.smv_flat_laws.specs.History.{Mode}
use Rattle.smv_flat_laws.specs.FlatTrace.{stands, told_from}
use Rattle.fault_cause_laws.specs.Columns.{with_value}
use Rattle.fault_orders.specs.declared.Relation.{Relation}
use Rattle.fault_orders.specs.declared.Relation.TheVariants.{Before, After, Together}

-- the mode stands at some moment, and the other at none up to that moment
abbrev pub begins_before : FlatModel → Mode → Mode → List (List Value) → Bool
begins_before m f g [] = false
begins_before m f g (v ∷ vs) = if stands m g v then false else (if stands m f v then true else begins_before m f g vs)

-- whether the one mode has begun before the other, up to the moment of a number, counted from 0
abbrev pub order_value : FlatModel → Mode → Mode → List (List Value) → ℕ → Value
order_value m f g trace k = truth (begins_before m f g (take (suc k) trace))

-- each valuation of a trace with the bits of its history and with `ahead` and `behind`
abbrev pub ordered_told : FlatModel → List Mode → Mode → Mode → List (List Value) → List (List Value)
ordered_told m fs f g trace = with_value (order_value m g f trace) (with_value (order_value m f g trace) (told_from m fs [] trace))

-- the relation that `ahead` and `behind` tell at the end of a trace in which both modes stand
abbrev pub told_relation : Bool → Bool → Relation
told_relation ahead behind = if ahead then Before else (if behind then After else Together)
