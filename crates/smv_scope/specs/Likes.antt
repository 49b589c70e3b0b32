-- Which instances of a scene repeat an earlier one: the table, how it grows, and what it has at least.
use Rattle.std.specs.Prelude.{◌≡◌, ℕ, ◌<◌, ◌-◌, ◌==◌, nat_lt, true, if◌then◌else◌, List, [], length, set, Option, Some, None, slice_get}
use Rattle.smv_language.specs.Language.{Text, Path}
use Rattle.smv_scope.specs.Components.{joined}
use Rattle.smv_scope.specs.KnownFormals.{formals_at}
use Rattle.smv_scope.specs.TableLookUps.{part_at}
use Rattle.smv_scope.specs.declared.modules.ModuleNames.{ModuleNames}
use Rattle.smv_scope.specs.declared.walk.Meaning.{Meaning as Found}
use Rattle.smv_scope.specs.declared.walk.Meaning.TheVariants as found
use Rattle.smv_scope.specs.declared.walk.Spot.{Spot}
use Rattle.smv_scope.specs.declared.names.Scene.{Scene}

-- what is known at a place of a table
abbrev pub like_at : List (Option ℕ) → ℕ → Option ℕ
like_at likes k = joined (slice_get likes k)

-- each instance of a module without formals repeats one, where there is an earlier one of its module
abbrev pub AreFound : Scene → List (Option ℕ) → Type 0
AreFound s likes =
    (k j : ℕ) (a b : Spot) (names : ModuleNames) → j < k → slice_get s.spots.items k ≡ Some a → slice_get s.spots.items j ≡ Some b →
    a.«module» ≡ b.«module» → slice_get s.modules.list.items a.«module» ≡ Some names → names.«module».now.formals ≡ [] →
    (i : ℕ) × (slice_get likes k ≡ Some (Some i))

-- the name that an instance is declared by, the last part of its path; `main` has none
abbrev pub last_of : Option Path → Option Text
last_of None = None
last_of (Some path) = slice_get path (length path - 1)

-- the instance that is meant, if it comes before this one
abbrev pub earlier_of : ℕ → Found → Option ℕ
earlier_of k (found.Instance j) = if nat_lt j k then Some j else None
earlier_of k f = None

-- what has a name in an instance, if that is an instance before this one
abbrev pub named_inside : Scene → ℕ → Option ℕ → Option Text → Option ℕ
named_inside s k (Some caller) (Some own) = earlier_of k (part_at s caller true own)
named_inside s k caller own = None

-- what an instance repeats: the first of its module, where that has no formals, and else what has its name in the
-- instance that its caller repeats
abbrev pub like_of : Scene → List (Option ℕ) → List (Option ℕ) → ℕ → Option Spot → Option ℕ
like_of s likes firsts k None = None
like_of s likes firsts k (Some spot) =
    if formals_at s k == 0 then like_at firsts spot.«module» else named_inside s k (like_at likes spot.caller) (last_of spot.path)

-- the firsts of the modules with this instance for one, unless there is one
abbrev pub with_first_in : List (Option ℕ) → ℕ → ℕ → Option ℕ → List (Option ℕ)
with_first_in firsts m k (Some j) = firsts
with_first_in firsts m k None = set firsts m (Some k)

-- the same with an instance, where it is there
abbrev pub with_first : List (Option ℕ) → ℕ → Option Spot → List (Option ℕ)
with_first firsts k None = firsts
with_first firsts k (Some spot) = with_first_in firsts spot.«module» k (like_at firsts spot.«module»)
