-- Which states a slice may start in, and which state may follow a state.
use Rattle.std.specs.Prelude.{◌≡◌, ◌⊎◌, List, Option, Some, None}
use Rattle.fault_instructions.specs.declared.instructions.Dynamics.{Dynamics}
use Rattle.fault_instructions.specs.declared.instructions.Dynamics.TheVariants.{Permanent, Transient}
use Rattle.fault_instructions.specs.declared.instructions.Start.{Start}
use Rattle.fault_instructions.specs.declared.instructions.Start.TheVariants.{Nominal, Any}
use Rattle.smv_language.specs.Language.{Text, Formula, AtSome}
use Rattle.fault_instructions.specs.Instructions.{ModeTree}
use Rattle.fault_instructions.specs.AddedNames.{ModeState}

-- in the first moment nominal, or in any of its modes where the slice starts so; guards say nothing of it
abbrev pub Starts : Start → List ModeTree → ModeState → Type 0
Starts Nominal modes new = new ≡ None
Starts Any modes new = (new ≡ None) ⊎ AtSome (λ m. new ≡ Some m.name) modes

-- the guard holds; none always does
abbrev pub Guarded : (Formula → Type 0) → Option Formula → Type 0
Guarded holds None = Unit {0}
Guarded holds (Some g) = holds g

-- a permanent mode stays, a transient one stays or returns
abbrev pub Stays : Dynamics → Text → ModeState → Type 0
Stays Permanent m new = new ≡ Some m
Stays Transient m new = (new ≡ Some m) ⊎ (new ≡ None)

-- from one moment to the next, where `holds` says which guards were TRUE in the moment before
abbrev pub Moves : List ModeTree → (Formula → Type 0) → ModeState → ModeState → Type 0
Moves modes holds None new = (new ≡ None) ⊎ AtSome (λ m. (new ≡ Some m.name) × Guarded holds m.guard) modes
Moves modes holds (Some name) new = AtSome (λ m. (m.name ≡ name) × Stays m.dynamics name new) modes
