-- What the tables of a scene tell of a name, part by part.
use Rattle.std.specs.Prelude.{ℕ, Bool, true, false, if◌then◌else◌, [], ◌∷◌, Option, Some, None, slice_get, nat_lt, Vec}
use Rattle.std.specs.declared.alloc.Global.{Global}
use Rattle.smv_language.specs.Language.{Text, Path, first_with, texts, formal_from}
use Rattle.smv_scope.specs.SceneTree.{named}
use Rattle.smv_scope.specs.declared.modules.Local.{Local}
use Rattle.smv_scope.specs.declared.modules.Local.TheVariants as local
use Rattle.smv_scope.specs.declared.modules.ModuleNames.{ModuleNames}
use Rattle.smv_scope.specs.declared.walk.Meaning.{Meaning as Found}
use Rattle.smv_scope.specs.declared.walk.Meaning.TheVariants as found
use Rattle.smv_scope.specs.declared.walk.Spot.{Spot}
use Rattle.smv_scope.specs.declared.names.Formal.{Formal}
use Rattle.smv_scope.specs.declared.names.Formal.TheVariants as known
use Rattle.smv_scope.specs.declared.names.Scene.{Scene}

-- the names of an instance's module, where the instance is there
abbrev pub names_of_spot : Scene → Option Spot → Option ModuleNames
names_of_spot s None = None
names_of_spot s (Some spot) = slice_get s.modules.list.items spot.«module»

-- what a name is in these names of a module
abbrev pub local_in : Option ModuleNames → Text → Option Local
local_in None x = None
local_in (Some n) x = first_with (named n.locals.entries) x

-- what a name is in the module of an instance
abbrev pub local_at : Scene → ℕ → Text → Option Local
local_at s spot x = local_in (names_of_spot s (slice_get s.spots.items spot)) x

-- what is found, or nothing
abbrev pub found_or : Option Found → Found
found_or None = found.Nothing
found_or (Some f) = f

-- what the item at a place means at this instance
abbrev pub own_in : Option Spot → ℕ → Found
own_in None place = found.Nothing
own_in (Some spot) place = found_or (slice_get spot.own.items place)

-- what the item at a place means at an instance
abbrev pub own_at : Scene → ℕ → ℕ → Found
own_at s spot place = own_in (slice_get s.spots.items spot) place

-- what is known of a formal; one that is not there means nothing
abbrev pub formal_or : Option Formal → Formal
formal_or None = known.Means found.Nothing
formal_or (Some f) = f

-- what is known of the formal of a number, in the row of an instance
abbrev pub formal_in : Option (Vec Formal Global) → ℕ → Formal
formal_in None i = known.Means found.Nothing
formal_in (Some fs) i = formal_or (slice_get fs.items i)

-- what is known of a formal of an instance
abbrev pub formal_at : Scene → ℕ → ℕ → Formal
formal_at s spot i = formal_in (slice_get s.formals.items spot) i

-- what a formal means: one that comes back, or has no answer, is part of a loop
abbrev pub told : Formal → Found
told (known.Means f) = f
told known.Circle = found.Loop
told known.Begun = found.Loop
told known.Unknown = found.Loop

-- the symbol of this number, where there is one of 32 bits
abbrev pub symbol_or : Option ℕ → Found
symbol_or None = found.Nothing
symbol_or (Some k) = if nat_lt k 4294967296 then found.Symbol k else found.Nothing

-- the symbol of a name, where its number has 32 bits
abbrev pub symbol_at : Scene → Text → Found
symbol_at s x = symbol_or (formal_from 0 (texts s.symbols.keys) x)

-- what a part of a name means, by what it is in its module: only the last part may be a symbol
abbrev pub by_local : Scene → ℕ → Bool → Text → Option Local → Found
by_local s spot last x (Some (local.Formal i)) = told (formal_at s spot i)
by_local s spot last x (Some (local.Item place)) = own_at s spot place
by_local s spot last x None = if last then symbol_at s x else found.Nothing

-- what a part of a name means at an instance, where it is the last part or not
abbrev pub part_at : Scene → ℕ → Bool → Text → Found
part_at s spot last x = by_local s spot last x (local_at s spot x)

-- the parts after one go on inside the instance that it means
abbrev pub found_inside : (ℕ → Found) → Found → Found
found_inside look (found.Instance k) = look k
found_inside look found.Loop = found.Loop
found_inside look _ = found.Nothing

-- what a name means at an instance
abbrev pub found_at : Scene → ℕ → Path → Found
found_at s spot [] = found.Nothing
found_at s spot (x ∷ []) = part_at s spot true x
found_at s spot (x ∷ (y ∷ rest)) = found_inside (λ k. found_at s k (y ∷ rest)) (part_at s spot false x)
