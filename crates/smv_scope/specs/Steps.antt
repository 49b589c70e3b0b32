-- One step of a look-up: what a part of a name means, or which formal it is; and the items of an instance.
use Rattle.std.specs.Prelude.{ℕ, Bool, true, false, if◌then◌else◌, Option, Some, None, slice_get, length, Vec}
use Rattle.std.specs.Borrow.{Bor}
use Rattle.std.specs.declared.alloc.Global.{Global}
use Rattle.smv_language.specs.ProgramTree.{Text, Path}
use Rattle.smv_scope.specs.TableLookUps.{names_of_spot, local_at, own_at, formal_at, symbol_at, told}
use Rattle.smv_scope.specs.declared.modules.Local.{Local}
use Rattle.smv_scope.specs.declared.modules.Local.TheVariants as local
use Rattle.smv_scope.specs.declared.items.Numbered.{Numbered}
use Rattle.smv_scope.specs.declared.modules.ModuleNames.{ModuleNames}
use Rattle.smv_scope.specs.declared.walk.Spot.{Spot}
use Rattle.smv_scope.specs.declared.walk.Meaning.{Meaning as Found}
use Rattle.smv_scope.specs.declared.walk.Meaning.TheVariants as found
use Rattle.smv_scope.specs.declared.names.Formal.{Formal}
use Rattle.smv_scope.specs.declared.names.Formal.TheVariants as known
use Rattle.smv_scope.specs.declared.formals.LookUpFrame.{LookUpFrame}
use Rattle.smv_scope.specs.declared.formals.PartMeaning.{PartMeaning}
use Rattle.smv_scope.specs.declared.formals.PartMeaning.TheVariants as part
use Rattle.smv_scope.specs.declared.formals.Progress.{Progress}
use Rattle.smv_scope.specs.declared.formals.Progress.TheVariants as progress
use Rattle.smv_scope.specs.declared.names.Scene.{Scene}
use Rattle.smv_scope.specs.declared.names.LookUpStep.{LookUpStep}
use Rattle.smv_scope.specs.declared.names.LookUpStep.TheVariants as step

-- one step of a look-up, by what the part is in its module
abbrev pub step_by_local : Scene → ℕ → Bool → Text → Option Local → LookUpStep
step_by_local s spot last x (Some (local.Formal i)) = step.Formal i
step_by_local s spot last x (Some (local.Item place)) = step.Means (own_at s spot place)
step_by_local s spot last x None = step.Means (if last then symbol_at s x else found.Nothing)

-- the step of a part at an instance, where it is the last part or not
abbrev pub step_at : Scene → ℕ → Bool → Text → LookUpStep
step_at s spot last x = step_by_local s spot last x (local_at s spot x)

-- what a step finds, once all formals are answered
abbrev pub found_by : Scene → ℕ → LookUpStep → Found
found_by s spot (step.Means f) = f
found_by s spot (step.Formal i) = told (formal_at s spot i)

-- the item at a place of these names of a module
abbrev pub numbered_in : Option ModuleNames → ℕ → Option Numbered
numbered_in None place = None
numbered_in (Some names) place = slice_get names.items.items place

-- the item at a place of an instance's module
abbrev pub numbered_at : Scene → ℕ → ℕ → Option Numbered
numbered_at s spot place = numbered_in (names_of_spot s (slice_get s.spots.items spot)) place

-- the number of items of an instance, where it is there
abbrev pub count_in : Option Spot → ℕ
count_in None = 0
count_in (Some spot) = length spot.own.items

-- there is no answer yet
abbrev pub is_open : Formal → Bool
is_open known.Unknown = true
is_open known.Begun = true
is_open known.Circle = false
is_open (known.Means f) = false

-- the look-up has begun
abbrev pub is_begun : Formal → Bool
is_begun known.Begun = true
is_begun known.Unknown = false
is_begun known.Circle = false
is_begun (known.Means f) = false

-- the number of formals in a row, where it is there
abbrev pub row_count_in : Option (Vec Formal Global) → ℕ
row_count_in None = 0
row_count_in (Some v) = length v.items

-- the number of formals of an instance
abbrev pub row_count : Scene → ℕ → ℕ
row_count s spot = row_count_in (slice_get s.formals.items spot)

-- what a step comes to: a formal that has no answer makes it wait
abbrev pub known_by : Scene → ℕ → LookUpStep → PartMeaning
known_by s spot (step.Means f) = part.Known f
known_by s spot (step.Formal i) = if is_open (formal_at s spot i) then part.Waits i else part.Known (told (formal_at s spot i))

-- what a part means at an instance, or the formal without an answer that it is
abbrev pub known_at : Scene → ℕ → Text → PartMeaning
known_at s spot x = known_by s spot (step_at s spot true x)

-- a look-up goes on inside what its part means
abbrev pub gone_inside : LookUpFrame → Bor Path → Found → Progress
gone_inside f more (found.Instance k) = progress.Further (record { spot = f.spot; formal = f.formal; here = k; rest = more })
gone_inside f more found.Loop = progress.Ended found.Loop
gone_inside f more _ = progress.Ended found.Nothing
