-- Where the expressions of modes are judged: by instances in depth-first order, then by items.
use Rattle.std.specs.Prelude.{ℕ, suc, List, [], ◌∷◌, ◌++◌, flat_map, if◌then◌else◌}
use Rattle.smv_language.specs.Language.{DeclaredTree, ProgramTree, Place, same_text, FlatInstance}
use Rattle.fault_instructions.specs.Instructions.{ModeTree, InstructionTree}
use Rattle.smv_flat_laws.specs.Items.{instances_of}
use Rattle.fault_instructions.specs.KindTypes.{type_of_kind}
use Rattle.fault_rules.specs.Sites.{Site, an_extension, a_slice, a_mode, item_sites}
use Rattle.fault_rules.specs.Rules.{target_kind}

-- a mode with its item at an instance of its slice's module, and the type of the slice's variable
pub record Use : Type 0 where
  pub place : Place
  pub item : ℕ
  pub type : DeclaredTree
  pub mode : ModeTree

-- the item of this number, where it is a mode of the instance's module
abbrev pub use_of_site : ProgramTree → FlatInstance → ℕ → Site → List Use
use_of_site p at n (an_extension m) = []
use_of_site p at n (a_slice before o) = []
use_of_site p at n (a_mode before o earlier m) =
    if same_text o.owner at.module_name then record { place = at.place; item = n; type = type_of_kind (target_kind p o); mode = m }
    ∷ [] else []

-- items from this number on
abbrev pub uses_from : ProgramTree → FlatInstance → ℕ → List Site → List Use
uses_from p at n [] = []
uses_from p at n (s ∷ ss) = use_of_site p at n s ++ uses_from p at (suc n) ss

-- the modes of the instance's module, by their items
abbrev pub uses_at : ProgramTree → InstructionTree → FlatInstance → List Use
uses_at p i at = uses_from p at 1 (item_sites i)

-- all of them
abbrev pub uses : ProgramTree → InstructionTree → List Use
uses p i = flat_map (uses_at p i) (instances_of p)
