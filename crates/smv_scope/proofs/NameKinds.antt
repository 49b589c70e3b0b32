-- What the names of a module tell of a name is what it is in the module.
use Rattle.std.proofs.Common.{◌≡◌, ℕ, suc, ◌+◌, arith, Bool, true, false, List, [], ◌∷◌, ◌++◌, Option, Some, None, refl, sym, ◌∙◌, ap}
use Rattle.std.specs.Prelude.{slice_get}
use Rattle.smv_language.specs.Language.{Text, ModuleTree, same_text, first_with, undeclared, formal_from, kind_after_formals, kind_in}
use Rattle.smv_flat_laws.specs.Items.{Item, a_declaration, a_definition, an_assignment, some_constants, an_init, an_invar, a_trans, items_of}
use Rattle.smv_flat_laws.proofs.KindLaws.{kind_of_item, kind_in_items, sections_kind}
use Rattle.smv_scope.specs.SceneTree.{gives_name, item_from, local_after, local_of, formal_entries, item_entries, local_entries}
use Rattle.smv_scope.specs.declared.modules.Local.{Local}
use Rattle.smv_scope.specs.declared.modules.Local.TheVariants as local
use Rattle.smv_scope.proofs.LookSplit.{never}
use Rattle.std.proofs.lemmas.Option.{same_Some as of_some}

after_formal : Option ℕ → Option Local → Option Local
after_formal (Some i) o = Some (local.Formal i)
after_formal None o = o

formals_told : (k : ℕ) (xs : List Text) (es : List (Text × Local)) (x : Text) → first_with (formal_entries k xs ++ es) x ≡ after_formal (formal_from k xs x) (first_with es x)
unfolding after_formal
formals_told k [] es x = refl
formals_told k (y ∷ xs) es x = by_name (same_text y x) refl (formals_told (suc k) xs es x)
  where
    by_name : (b : Bool) → same_text y x ≡ b → first_with (formal_entries (suc k) xs ++ es) x ≡ after_formal (formal_from (suc k) xs x) (first_with es x) →
        first_with (formal_entries k (y ∷ xs) ++ es) x ≡ after_formal (formal_from k (y ∷ xs) x) (first_with es x)
    by_name true t rest = rw t refl
    by_name false t rest = rw t rest

items_told : (k : ℕ) (is : List Item) (x : Text) → first_with (item_entries k is) x ≡ local_after None (item_from k is x)
items_told k [] x = refl
items_told k (a_declaration role d ∷ is) x = by_name (same_text d.name x) refl (items_told (suc k) is x)
  where
    by_name : (b : Bool) → same_text d.name x ≡ b → first_with (item_entries (suc k) is) x ≡ local_after None (item_from (suc k) is x) →
        first_with (item_entries k (a_declaration role d ∷ is)) x ≡ local_after None (item_from k (a_declaration role d ∷ is) x)
    by_name true t rest = rw t refl
    by_name false t rest = rw t rest
items_told k (a_definition d ∷ is) x = by_name (same_text d.name x) refl (items_told (suc k) is x)
  where
    by_name : (b : Bool) → same_text d.name x ≡ b → first_with (item_entries (suc k) is) x ≡ local_after None (item_from (suc k) is x) →
        first_with (item_entries k (a_definition d ∷ is)) x ≡ local_after None (item_from k (a_definition d ∷ is) x)
    by_name true t rest = rw t refl
    by_name false t rest = rw t rest
items_told k (an_assignment a ∷ is) x = items_told (suc k) is x
items_told k (some_constants xs ∷ is) x = items_told (suc k) is x
items_told k (an_init e ∷ is) x = items_told (suc k) is x
items_told k (an_invar e ∷ is) x = items_told (suc k) is x
items_told k (a_trans e ∷ is) x = items_told (suc k) is x

joined_told : (o : Option ℕ) (i : Option ℕ) → after_formal o (local_after None i) ≡ local_after o i
unfolding after_formal
joined_told None i = refl
joined_told (Some k) None = refl
joined_told (Some k) (Some j) = refl

pub locals_told : (m : ModuleTree) (x : Text) → first_with (local_entries m) x ≡ local_of m x
locals_told m x =
    formals_told 0 m.formals (item_entries 0 (items_of m)) x
    ∙ ap (after_formal (formal_from 0 m.formals x)) (items_told 0 (items_of m) x)
    ∙ joined_told (formal_from 0 m.formals x) (item_from 0 (items_of m) x)

-- an item that gives a name, by its number
pub record Given (is : List Item) (x : Text) (j : ℕ) : Type 0 where
  pub item : Item
  pub there : slice_get is j ≡ Some item
  pub gives : gives_name x item ≡ true
  pub kind : kind_in_items is x ≡ kind_of_item item x undeclared

given_later : (i : Item) (is : List Item) (x : Text) (j : ℕ) → kind_in_items (i ∷ is) x ≡ kind_in_items is x → Given is x j → Given (i ∷ is) x (suc j)
given_later i is x j same g = record { item = g.item; there = g.there; gives = g.gives; kind = same ∙ g.kind }

pub item_given : (k : ℕ) (is : List Item) (x : Text) (i : ℕ) → item_from k is x ≡ Some i → (j : ℕ) × (i ≡ k + j) × Given is x j
item_given k [] x i e = never i e
item_given k (it ∷ is) x i e = by_name (gives_name x it) refl (λ h. item_given (suc k) is x i h)
  where
    other : (it : Item) → gives_name x it ≡ false → kind_in_items (it ∷ is) x ≡ kind_in_items is x
    other (a_declaration role d) t = rw t refl
    other (a_definition d) t = rw t refl
    other (an_assignment a) t = refl
    other (some_constants xs) t = refl
    other (an_init e) t = refl
    other (an_invar e) t = refl
    other (a_trans e) t = refl

    own : (it : Item) → gives_name x it ≡ true → kind_in_items (it ∷ is) x ≡ kind_of_item it x undeclared
    own (a_declaration role d) t = rw t refl
    own (a_definition d) t = rw t refl
    own (an_assignment a) t = let bad : false ≡ true = t in cc
    own (some_constants xs) t = let bad : false ≡ true = t in cc
    own (an_init e) t = let bad : false ≡ true = t in cc
    own (an_invar e) t = let bad : false ≡ true = t in cc
    own (a_trans e) t = let bad : false ≡ true = t in cc

    by_name : (b : Bool) → gives_name x it ≡ b → (item_from (suc k) is x ≡ Some i → (j : ℕ) × (i ≡ suc k + j) × Given is x j) → (j : ℕ) × (i ≡ k + j) × Given (it ∷ is) x j
    by_name true t rest =
        let is' : k ≡ i = of_some k i (rw t at e) in (0, omega (arith, is'), record { item = it; there = refl; gives = t; kind = own it t })
    by_name false t rest =
        let r : (j : ℕ) × (i ≡ suc k + j) × Given is x j = rest (rw t at e) in (suc r.0, omega (arith, r.1), given_later it is x r.0 (other it t) r.2)

pub none_given : (k : ℕ) (is : List Item) (x : Text) → item_from k is x ≡ None → kind_in_items is x ≡ undeclared
none_given k [] x e = refl
none_given k (a_declaration role d ∷ is) x e = by_name (same_text d.name x) refl (none_given (suc k) is x)
  where
    by_name : (b : Bool) → same_text d.name x ≡ b → (item_from (suc k) is x ≡ None → kind_in_items is x ≡ undeclared) → kind_in_items (a_declaration role d ∷ is) x ≡ undeclared
    by_name true t rest = let bad : Some k ≡ None = rw t at e in never k (sym bad)
    by_name false t rest = rw t (rest (rw t at e))
none_given k (a_definition d ∷ is) x e = by_name (same_text d.name x) refl (none_given (suc k) is x)
  where
    by_name : (b : Bool) → same_text d.name x ≡ b → (item_from (suc k) is x ≡ None → kind_in_items is x ≡ undeclared) → kind_in_items (a_definition d ∷ is) x ≡ undeclared
    by_name true t rest = let bad : Some k ≡ None = rw t at e in never k (sym bad)
    by_name false t rest = rw t (rest (rw t at e))
none_given k (an_assignment a ∷ is) x e = none_given (suc k) is x e
none_given k (some_constants xs ∷ is) x e = none_given (suc k) is x e
none_given k (an_init f ∷ is) x e = none_given (suc k) is x e
none_given k (an_invar f ∷ is) x e = none_given (suc k) is x e
none_given k (a_trans f ∷ is) x e = none_given (suc k) is x e

-- what a name is in its module, by its items
pub kind_by_items : (m : ModuleTree) (x : Text) → kind_in m x ≡ kind_after_formals (formal_from 0 m.formals x) (kind_in_items (items_of m) x)
kind_by_items m x = ap (kind_after_formals (formal_from 0 m.formals x)) (sym (sections_kind m.sections x))
