-- Items with their numbers, as definitions see them.
use Rattle.std.specs.Prelude.{ℕ, suc, ◌+◌, List, [], ◌∷◌, ◌++◌, length, map}
use Rattle.smv_language.specs.Language.{decl_tree, define_tree, assignment_tree, tree_of, role_of}
use Rattle.smv_scope.specs.declared.items.Item.{Item}
use Rattle.smv_scope.specs.declared.items.Item.TheVariants as code
use Rattle.smv_scope.specs.declared.items.Numbered.{Numbered}
use Rattle.smv_scope.specs.declared.items.ItemList.{ItemList}
use Rattle.smv_flat_laws.specs.Items.{Item as ItemOf, a_declaration, a_definition, an_assignment, some_constants, an_init, an_invar}
use Rattle.smv_flat_laws.specs.Items.{a_trans}

-- an item of a module
abbrev pub item_tree : Item → ItemOf
item_tree (code.Declared role d) = a_declaration (role_of role) (decl_tree d.now)
item_tree (code.Defined d) = a_definition (define_tree d.now)
item_tree (code.Assigned a) = an_assignment (assignment_tree a.now)
item_tree (code.Constants xs) = some_constants xs.now
item_tree (code.Init e) = an_init (tree_of e.now)
item_tree (code.Invar e) = an_invar (tree_of e.now)
item_tree (code.Trans e) = a_trans (tree_of e.now)

-- an item and its number
abbrev pub numbered_tree : Numbered → ℕ × ItemOf
numbered_tree n = (n.number, item_tree n.item)

-- items so far, and the last number
pub record Counted : Type 0 where
  pub items : List (ℕ × ItemOf)
  pub last : ℕ

-- the items of a list of the code, and its last number
abbrev pub counted_of : ItemList → Counted
counted_of list = record { items = map numbered_tree list.items.items; last = list.last }

-- with one more item
abbrev pub with_item : Counted → ItemOf → Counted
with_item c i = record { items = c.items ++ (suc c.last, i) ∷ []; last = suc c.last }

-- with more items, whose numbers go on
abbrev pub with_items : Counted → List ItemOf → Counted
with_items c [] = c
with_items c (i ∷ is) = with_items (with_item c i) is

-- items with numbers from this one on
abbrev pub counted_from : ℕ → List ItemOf → List (ℕ × ItemOf)
counted_from n [] = []
counted_from n (i ∷ is) = (n, i) ∷ counted_from (suc n) is

-- the items below a header of this number
abbrev pub counted_below : ℕ → List ItemOf → Counted
counted_below header is = record { items = counted_from (suc header) is; last = header + length is }
