-- The slices among items, each with its number and the type of its variable.
use Rattle.std.specs.Prelude.{ℕ, suc, List, [], ◌∷◌, ◌++◌, map}
use Rattle.smv_language.specs.ProgramTree.{DeclaredTree, ProgramTree, declared_tree}
use Rattle.fault_instructions.specs.KindTypes.{type_of_kind}
use Rattle.fault_rules.specs.Sites.{OwnedSlice, Site, an_extension, a_slice, a_mode}
use Rattle.fault_rules.specs.Rules.{target_kind}
use Rattle.fault_rules.specs.Faults.{placed_tree}
use Rattle.fault_rules.specs.declared.placed.Placed.{Placed}
use Rattle.fault_rules.specs.declared.items.MetItems.{MetItems}

-- a slice with its module, its item and the type of its variable; its modes are the items after it
pub record PlacedSlice : Type 0 where
  pub of : OwnedSlice
  pub item : ℕ
  pub type : DeclaredTree

-- the item of this number, where it is a slice
abbrev pub placed_at : ProgramTree → ℕ → Site → List PlacedSlice
placed_at p n (an_extension m) = []
placed_at p n (a_slice before o) = record { of = o; item = n; type = type_of_kind (target_kind p o) } ∷ []
placed_at p n (a_mode before o earlier m) = []

-- the slices among items after a number of others
abbrev pub placed_from : ProgramTree → ℕ → List Site → List PlacedSlice
placed_from p n [] = []
placed_from p n (s ∷ ss) = placed_at p (suc n) s ++ placed_from p (suc n) ss

-- a placed slice of the code, with its item and the type of its variable
abbrev pub seen_placed : Placed → PlacedSlice
seen_placed placed = record { of = placed_tree placed; item = placed.item; type = declared_tree placed.declared.now }

-- the placed slices so far
abbrev pub places_in : MetItems → List PlacedSlice
places_in met = map seen_placed met.placed.items
