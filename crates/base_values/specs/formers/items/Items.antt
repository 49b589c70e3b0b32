-- How an `Items` stores its items, for types that reach themselves through one (as an expression reaches its
-- parts). Its value is the list of the items, and its only field is the vector that keeps them, so each
-- statement here is the vector's own, seen through the view:
--     the_former       the shape of a value is a list of the shapes of its items
--     the_weighed      its measure is the largest among its items'
--     the_empty        one may hold nothing
--     the_items        the items in order, which are the value itself
--     the_places       two layouts of one item give two layouts of the list
use Rattle.std.specs.Prelude.{◌≡◌, List, []}
use mathlib.Core.Path.{refl, sym}
use mathlib.Core.Former.{Former, this, list, via, children}
use base.Stored.{code_map}
use denote.RattleType.{RattleType}
use denote.HoleLaws.{Alike}
use denote.HolePlaces.{Recodes, struct_places, laid}
use denote.Hole.Carrier.{listed, list-listed}
use denote.Hole.Fix.{Over, over}
use denote.Param.Weighed.{Weighed, w_list}
use denote.Model.Placed.{view_places}
use Rattle.std.specs.formers.vec.Vec as vector
use Rattle.std.specs.declared.alloc.Global.{Global}
use Rattle.std.specs.contracts.alloc.Global as global
use Rattle.std.specs.contracts.impls.GlobalAllocator.TheImpl.{ghosts}
use Rattle.base_values.specs.declared.items.Items.TheInside.{Inside}
use Rattle.base_values.specs.declared.items.Items.TheView.{view, invariant}
use Rattle.base_values.specs.contracts.items.Items as shown
use Rattle.base_values.specs.contracts.items.Items.TheInside as kept

-- the shape of a list, from that of its items
abbrev pub the_former : Former {0} → Former {0}
the_former item = list item

-- the measure of a list is the largest of its items'
abbrev pub the_weighed : {item : Former {0}} → Weighed item → Weighed (the_former item)
the_weighed weighed = w_list weighed

-- a list may be empty
pub the_empty : List ⊥
the_empty = []

-- what a list holds: its items in order
abbrev pub the_items : (A : Type 0) → List A → List A
the_items A items = items

-- and this is what its shape says
pub the_items_listed : (A : Type 0) (items : List A) → listed _ (children (the_former this) A items) ≡ the_items A items
the_items_listed A items = list-listed A items

-- the one field, as a vector of items
abbrev one_field : Former {0}
one_field =
    via (vector.the_former this Global) Inside (λ A inside. inside.items) (λ A items. record { items = items })
    (λ A inside. refl) (λ A items. refl)

-- the row of what is kept and the row of what is shown, for a type of items
abbrev kept_row : (Item : RattleType) → Over (Inside Item.Denot)
kept_row Item = over (kept.the_row Item)

module _ (Here There : RattleType) (along : Here.Denot → There.Denot) where
  pub the_places : Alike Here There along →
      Alike (shown.the_row Here) (shown.the_row There) ((the_former this).map Here.Denot There.Denot along)
  the_places alike =
      let vectors = vector.the_places global.the_row ghosts Here There along alike in
      let fields =
      struct_places (kept.the_type Here) (kept.the_type There) (vector.mapped along, tt) _ (λ place. refl) refl
      (laid _ _ _ vectors, tt) in
      view_places one_field (the_former this) view (λ A B f inside. refl) (λ A inside. refl) Here.Denot There.Denot along
      (shown.the_row Here).coded (shown.the_row There).coded (invariant Here.Denot) (invariant There.Denot)
      (λ inside p q. refl) (λ inside p q. refl) (λ inside holds. tt) (λ inside holds. tt)
      (kept_row Here) (kept_row There) fields

  pub the_codes_placed : Recodes Here There along →
      Recodes (shown.the_row Here) (shown.the_row There) ((the_former this).map Here.Denot There.Denot along)
  the_codes_placed recodes items = sym (code_map Here.coded.code There.coded.code along (λ item. sym (recodes item)) items)
