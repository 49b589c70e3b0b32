-- The law of additions.
use Rattle.std.specs.Prelude.{◌≡◌, ◌↔◌, List}
use Rattle.smv_language.specs.Language.{Value, FlatModel}
use Rattle.smv_flat_laws.specs.FlatTrace.{IsFlatTrace}
use Rattle.fault_cause_laws.specs.Additions.{Addition, with_addition, KnowsNames, beside, AreAdded}

-- The traces of a model with an addition are its own traces, each with values of the added variables that meet what is
-- asked of them.
abbrev pub AdditionsAreExact : Type 0
AdditionsAreExact =
    (m : FlatModel) (a : Addition) → KnowsNames m → (long : List (List Value)) →
    (IsFlatTrace (with_addition m a) long
    ↔ ((trace : List (List Value)) × (more : List (List Value)) × IsFlatTrace m trace × AreAdded m a trace more
    × (long ≡ beside trace more)))
