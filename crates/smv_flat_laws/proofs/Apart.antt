-- No variable is listed twice, and each list of values is that of a valuation.
use Rattle.std.proofs.Common.{◌≡◌, ℕ, zero, suc, ◌+◌, arith, Bool, true, false, ◌||◌, List, [], ◌∷◌, ◌++◌, length, Some, refl, sym, ◌∙◌, ap, subst}
use Rattle.std.specs.Prelude.{flat_map, if◌then◌else◌, codes}
use Rattle.smv_language.specs.Language.{Text, DeclaredTree, boolean, range, members, instance, DeclTree, ModuleTree, ProgramTree, Place, Role, find_module, Each, same_text, is_among}
use Rattle.smv_language.proofs.ValueLaws.{same_text_refl}
use Rattle.smv_flat_laws.specs.Items.{Item, a_declaration, a_definition, an_assignment, some_constants, an_init, an_invar, a_trans, NumberedItem, items_of, items_named, items_found, numbered_from, modules_from, Visit, visits_inside, visits_of, walk_items, walk, visits, variable_declared, variables_of}
use Rattle.smv_flat_laws.specs.Rules.{names_of_item, is_name_again, is_missing_instance, IsWalkable}
use Rattle.smv_flat_laws.proofs.Reaches.{each_left, each_right}
use Rattle.smv_flat_laws.proofs.Lists.{each_more}
use Rattle.smv_flat_laws.proofs.Conditions.{each_join}
use Rattle.smv_flat_laws.proofs.KindLaws.{ItemFacts}
use Rattle.smv_flat_laws.proofs.Places.{VisitFacts, facts_named, all_visit_facts, there}

-- other place or other name
abbrev pub Differ : Visit → Visit → Type 0
Differ v w = v.place ≡ w.place → v.decl.name ≡ w.decl.name → ⊥

abbrev pub Apart : List Visit → Type 0
Apart [] = Unit {0}
Apart (v ∷ vs) = Each (Differ v) vs × Apart vs

apart_join : (xs ys : List Visit) → Apart xs → Apart ys → Each (λ v. Each (Differ v) ys) xs → Apart (xs ++ ys)
apart_join [] ys h k c = k
apart_join (x ∷ xs) ys h k c = (each_join (Differ x) xs ys h.0 c.0, apart_join xs ys h.1 k c.1)

-- a place at or below another
abbrev pub Under : Place → Place → Type 0
Under base place = (front : Place) × (place ≡ front ++ base)

pub length_joined : (xs ys : Place) → length (xs ++ ys) ≡ length xs + length ys
length_joined [] ys = omega arith
length_joined (x ∷ xs) ys = ap suc (length_joined xs ys) ∙ omega arith

-- a visit at this instance's declaration of this name, or inside it
pub data Belongs (at : Place) (x : Text) (v : Visit) : Type 0 where
  own : v.place ≡ at → v.decl.name ≡ x → Belongs at x v
  inner : Under (x ∷ at) v.place → Belongs at x v

pub not_inside : (at : Place) (x : Text) (front : Place) → at ≡ front ++ x ∷ at → ⊥
not_inside at x front e =
    let n : length at ≡ length front + length (x ∷ at) = ap (λ (p : Place). length p) e ∙ length_joined front (x ∷ at) in
    too_long (length at) (length front) n
  where
    too_long : (a f : ℕ) → a ≡ f + suc a → ⊥
    too_long a f h = omega (arith, h)

pub same_length_ends : (f g : Place) (x y : Text) (at : Place) → f ++ x ∷ at ≡ g ++ y ∷ at → x ≡ y
same_length_ends [] [] x y at e = cc
same_length_ends [] (z ∷ g) x y at e = let t : at ≡ g ++ y ∷ at = cc in absurd (not_inside at y g t)
same_length_ends (z ∷ f) [] x y at e = let t : at ≡ f ++ x ∷ at = cc in absurd (not_inside at x f t)
same_length_ends (z ∷ f) (u ∷ g) x y at e = let t : f ++ x ∷ at ≡ g ++ y ∷ at = cc in same_length_ends f g x y at t

belong_differ : (at : Place) (x y : Text) (v w : Visit) → (x ≡ y → ⊥) → Belongs at x v → Belongs at y w → Differ v w
belong_differ at x y v w n (own p q) (own p' q') = λ s t. n (sym q ∙ t ∙ q')
belong_differ at x y v w n (own p q) (inner u) = λ s t. not_inside at y u.0 (sym p ∙ s ∙ u.1)
belong_differ at x y v w n (inner u) (own p q) = λ s t. not_inside at x u.0 (sym p ∙ sym s ∙ u.1)
belong_differ at x y v w n (inner u) (inner u') = λ s t. n (same_length_ends u.0 u'.0 x y at (sym u.1 ∙ s ∙ u'.1))

-- the names of later items are others
abbrev pub LaterThan : List Item → NumberedItem → Type 0
LaterThan before j = (mid : List Item) × (j.before ≡ before ++ mid)

joined_again : (xs ys zs : List Item) → (xs ++ ys) ++ zs ≡ xs ++ (ys ++ zs)
joined_again [] ys zs = refl
joined_again (x ∷ xs) ys zs = ap (λ ws. x ∷ ws) (joined_again xs ys zs)

all_later : (start : List Item) (n : ℕ) (more items : List Item) → Each (LaterThan start) (numbered_from n (start ++ more) items)
all_later start n more [] = tt
all_later start n more (i ∷ items) =
    ((more, refl), subst (λ b. Each (LaterThan start) (numbered_from (suc n) b items)) (sym (joined_again start more (i ∷ []))) (all_later start (suc n) (more ++ i ∷ []) items))

append_nil : (xs : List Item) → xs ++ [] ≡ xs
append_nil [] = refl
append_nil (x ∷ xs) = ap (λ ws. x ∷ ws) (append_nil xs)

abbrev pub Ordered : List NumberedItem → Type 0
Ordered [] = Unit {0}
Ordered (i ∷ is) = Each (LaterThan (i.before ++ i.item ∷ [])) is × Ordered is

numbered_ordered : (n : ℕ) (before items : List Item) → Ordered (numbered_from n before items)
numbered_ordered n before [] = tt
numbered_ordered n before (i ∷ items) = (
  subst (λ b. Each (LaterThan (before ++ i ∷ [])) (numbered_from (suc n) b items)) (append_nil (before ++ i ∷ [])) (all_later (before ++ i ∷ []) (suc n) [] items),
  numbered_ordered (suc n) (before ++ i ∷ []) items,
)

pub found_ordered : (p : ProgramTree) (n : ℕ) (before : List ModuleTree) (x : Text) → Ordered (items_found (modules_from n before p) x)
found_ordered [] n before x = tt
found_ordered (first ∷ more) n before x = by_name (same_text first.name x) refl (found_ordered more (n + suc (length (items_of first))) (before ++ first ∷ []) x)
  where
    by_name : (b : Bool) → same_text first.name x ≡ b → Ordered (items_found (modules_from (n + suc (length (items_of first))) (before ++ first ∷ []) more) x) →
        Ordered (items_found (modules_from n before (first ∷ more)) x)
    by_name true t rest = rw t (numbered_ordered (suc n) [] (items_of first))
    by_name false t rest = rw t rest

pub or_true : (a : Bool) → (a || true) ≡ true
or_true true = refl
or_true false = refl

pub among_right : (xs ys : List Text) (x : Text) → is_among ys x ≡ true → is_among (xs ++ ys) x ≡ true
among_right [] ys x h = h
among_right (z ∷ xs) ys x h = rw (among_right xs ys x h) (or_true (same_text z x))

names_have : (before mid : List Item) (role : Role) (d : DeclTree) → is_among (flat_map names_of_item ((before ++ a_declaration role d ∷ []) ++ mid)) d.name ≡ true
names_have [] mid role d = rw (same_text_refl d.name) refl
names_have (i ∷ before) mid role d = among_right (names_of_item i) (flat_map names_of_item ((before ++ a_declaration role d ∷ []) ++ mid)) d.name (names_have before mid role d)

-- a declaration after another has another name
other_name : (m : ModuleTree) (before : List Item) (role : Role) (d : DeclTree) (b : List Item) (x : Text) → (mid : List Item) × (b ≡ (before ++ a_declaration role d ∷ []) ++ mid) →
    is_among (m.formals ++ flat_map names_of_item b) x ≡ false → d.name ≡ x → ⊥
other_name m before role d b x later fresh same =
    differs (sym here ∙ subst (λ y. is_among (m.formals ++ flat_map names_of_item b) y ≡ false) (sym same) fresh)
  where
    differs : true ≡ false → ⊥
    differs e = cc

    here : is_among (m.formals ++ flat_map names_of_item b) d.name ≡ true
    here = among_right m.formals (flat_map names_of_item b) d.name (subst (λ c. is_among (flat_map names_of_item c) d.name ≡ true) (sym later.1) (names_have before later.0 role d))

each_cross : (P Q : Visit → Type 0) (xs ys : List Visit) → ((v w : Visit) → P v → Q w → Differ v w) → Each P xs → Each Q ys → Each (λ v. Each (Differ v) ys) xs
each_cross P Q [] ys f h k = tt
each_cross P Q (x ∷ xs) ys f h k = (each_more Q (Differ x) ys (λ w q. f x w h.0 q) k, each_cross P Q xs ys f h.1 k)

abbrev BelongsSome : Place → Visit → Type 0
BelongsSome at v = (y : Text) × Belongs at y v

abbrev BelongsElse : Place → Text → Visit → Type 0
BelongsElse at x v = (y : Text) × (x ≡ y → ⊥) × Belongs at y v

pub places_joined : (xs : Place) (x : Text) (zs : Place) → xs ++ x ∷ zs ≡ (xs ++ x ∷ []) ++ zs
places_joined [] x zs = refl
places_joined (y ∷ xs) x zs = ap (λ ws. y ∷ ws) (places_joined xs x zs)

is_under : (at : Place) (v : Visit) → BelongsSome at v → Under at v.place
is_under at v (y, own p q) = ([], p)
is_under at v (y, inner u) = (u.0 ++ y ∷ [], u.1 ∙ places_joined u.0 y at)

module _ (p : ProgramTree) (walkable : IsWalkable p) where
  abbrev pub GoesApart : (Place → Text → List Visit) → Type 0
  GoesApart go = (at : Place) (name : Text) (m : ModuleTree) → find_module p name ≡ Some m → Each (VisitFacts p) (go at name) →
      Apart (go at name) × Each (λ (v : Visit). Under at v.place) (go at name)

  inside_apart : (go : Place → Text → List Visit) → GoesApart go → (on : List Text) (at : Place) (what : DeclaredTree) → is_missing_instance p what ≡ false →
      Each (VisitFacts p) (visits_inside go on at what) → Apart (visits_inside go on at what) × Each (λ (v : Visit). Under at v.place) (visits_inside go on at what)
  inside_apart go goes on at boolean ex h = (tt, tt)
  inside_apart go goes on at (range lo hi) ex h = (tt, tt)
  inside_apart go goes on at (members ms) ex h = (tt, tt)
  inside_apart go goes on at (instance n actuals) ex h = by_path (is_among on n) refl
    where
      by_path : (b : Bool) → is_among on n ≡ b →
          Apart (if is_among on n then [] else go at n) × Each (λ (v : Visit). Under at v.place) (if is_among on n then [] else go at n)
      by_path true e = rw e (tt, tt)
      by_path false e =
          let k : (k : ModuleTree) × (find_module p n ≡ Some k) = there p n ex in
          let h' : Each (VisitFacts p) (go at n) = rw e at h in
          rw e (goes at n k.0 k.1 h')

  -- the visits of an item belong to its name, and those of later items to others
  item_apart : (go : Place → Text → List Visit) → GoesApart go → (on : List Text) (at : Place) (n : ℕ) (role : Role) (d : DeclTree) →
      Each (VisitFacts p) (visits_of go on at n (a_declaration role d)) → Apart (visits_of go on at n (a_declaration role d)) × Each (Belongs at d.name) (visits_of go on at n (a_declaration role d))
  item_apart go goes on at n role d h =
      let i : Apart (visits_inside go on (d.name ∷ at) d.what) × Each (λ (v : Visit). Under (d.name ∷ at) v.place) (visits_inside go on (d.name ∷ at) d.what) =
      inside_apart go goes on (d.name ∷ at) d.what h.0.exists h.1 in (
        (
          each_more (λ (v : Visit). Under (d.name ∷ at) v.place) (Differ (record { place = at; on_path = on; number = n; role = role; decl = d })) (visits_inside go on (d.name ∷ at) d.what)
              (λ v u s t. not_inside at d.name u.0 (s ∙ u.1)) i.1,
          i.0,
        ),
        (own refl refl, each_more (λ (v : Visit). Under (d.name ∷ at) v.place) (Belongs at d.name) (visits_inside go on (d.name ∷ at) d.what) (λ v u. inner u) i.1),
      )

  others : (go : Place → Text → List Visit) → GoesApart go → (on : List Text) (at : Place) (m : ModuleTree) (before : List Item) (role : Role) (d : DeclTree) (is : List NumberedItem) →
      Each (ItemFacts m) is → Each (LaterThan (before ++ a_declaration role d ∷ [])) is → Each (VisitFacts p) (walk_items go on at is) → Each (BelongsElse at d.name) (walk_items go on at is)
  others go goes on at m before role d [] facts later h = tt
  others go goes on at m before role d (i ∷ is) facts later h =
      each_join (BelongsElse at d.name) (visits_of go on at i.number i.item) (walk_items go on at is)
      (of_item i.item facts.0.fresh (each_left (VisitFacts p) (visits_of go on at i.number i.item) (walk_items go on at is) h))
      (others go goes on at m before role d is facts.1 later.1 (each_right (VisitFacts p) (visits_of go on at i.number i.item) (walk_items go on at is) h))
    where
      of_item : (item : Item) → is_name_again (m.formals ++ flat_map names_of_item i.before) (names_of_item item) ≡ false → Each (VisitFacts p) (visits_of go on at i.number item) →
          Each (BelongsElse at d.name) (visits_of go on at i.number item)
      of_item (a_declaration role' d') fresh g =
          each_more (Belongs at d'.name) (BelongsElse at d.name) (visits_of go on at i.number (a_declaration role' d'))
          (λ v b. (d'.name, other_name m before role d i.before d'.name later.0 fresh, b)) (item_apart go goes on at i.number role' d' g).1
      of_item (a_definition d') fresh g = tt
      of_item (an_assignment a) fresh g = tt
      of_item (some_constants xs) fresh g = tt
      of_item (an_init e) fresh g = tt
      of_item (an_invar e) fresh g = tt
      of_item (a_trans e) fresh g = tt

  items_apart : (go : Place → Text → List Visit) → GoesApart go → (on : List Text) (at : Place) (m : ModuleTree) (is : List NumberedItem) →
      Each (ItemFacts m) is → Ordered is → Each (VisitFacts p) (walk_items go on at is) → Apart (walk_items go on at is) × Each (BelongsSome at) (walk_items go on at is)
  items_apart go goes on at m [] facts ordered h = (tt, tt)
  items_apart go goes on at m (i ∷ is) facts ordered h =
      by_item i.item ordered.0 (each_left (VisitFacts p) (visits_of go on at i.number i.item) (walk_items go on at is) h)
      (items_apart go goes on at m is facts.1 ordered.1 (each_right (VisitFacts p) (visits_of go on at i.number i.item) (walk_items go on at is) h))
    where
      rest_facts : Each (VisitFacts p) (walk_items go on at is)
      rest_facts = each_right (VisitFacts p) (visits_of go on at i.number i.item) (walk_items go on at is) h

      by_item : (item : Item) → Each (LaterThan (i.before ++ item ∷ [])) is → Each (VisitFacts p) (visits_of go on at i.number item) →
          Apart (walk_items go on at is) × Each (BelongsSome at) (walk_items go on at is) →
          Apart (visits_of go on at i.number item ++ walk_items go on at is) × Each (BelongsSome at) (visits_of go on at i.number item ++ walk_items go on at is)
      by_item (a_declaration role d) later g k =
          let own_part : Apart (visits_of go on at i.number (a_declaration role d)) × Each (Belongs at d.name) (visits_of go on at i.number (a_declaration role d)) = item_apart go goes on at i.number role d g in (
            apart_join (visits_of go on at i.number (a_declaration role d)) (walk_items go on at is) own_part.0 k.0
                (each_cross (Belongs at d.name) (BelongsElse at d.name) (visits_of go on at i.number (a_declaration role d)) (walk_items go on at is)
                (λ v w b c. belong_differ at d.name c.0 v w c.1 b c.2) own_part.1 (others go goes on at m i.before role d is facts.1 later rest_facts)),
            each_join (BelongsSome at) (visits_of go on at i.number (a_declaration role d)) (walk_items go on at is)
                (each_more (Belongs at d.name) (BelongsSome at) (visits_of go on at i.number (a_declaration role d)) (λ v b. (d.name, b)) own_part.1) k.1,
          )
      by_item (a_definition d) later g k = k
      by_item (an_assignment a) later g k = k
      by_item (some_constants xs) later g k = k
      by_item (an_init e) later g k = k
      by_item (an_invar e) later g k = k
      by_item (a_trans e) later g k = k

  pub walk_apart : (n : ℕ) (on : List Text) → GoesApart (walk n p on)
  walk_apart zero on at name m found h = (tt, tt)
  walk_apart (suc n) on at name m found h =
      let a : Apart (walk_items (walk n p (name ∷ on)) (name ∷ on) at (items_named p name)) × Each (BelongsSome at) (walk_items (walk n p (name ∷ on)) (name ∷ on) at (items_named p name)) =
      items_apart (walk n p (name ∷ on)) (walk_apart n (name ∷ on)) (name ∷ on) at m (items_named p name) (facts_named p walkable name m found) (found_ordered p 1 [] name) h in
      (a.0, each_more (BelongsSome at) (λ (v : Visit). Under at v.place) (walk_items (walk n p (name ∷ on)) (name ∷ on) at (items_named p name)) (is_under at) a.1)

  keeps_differ : (v : Visit) (vs : List Visit) → Each (Differ v) vs → Each (Differ v) (flat_map (λ w. variable_declared w w.decl.what) vs)
  keeps_differ v [] h = tt
  keeps_differ v (w ∷ vs) h = each_join (Differ v) (variable_declared w w.decl.what) (flat_map (λ w. variable_declared w w.decl.what) vs) (of_one w.decl.what) (keeps_differ v vs h.1)
    where
      of_one : (what : DeclaredTree) → Each (Differ v) (variable_declared w what)
      of_one boolean = (h.0, tt)
      of_one (range lo hi) = (h.0, tt)
      of_one (members ms) = (h.0, tt)
      of_one (instance m actuals) = tt

  keeps_apart : (vs : List Visit) → Apart vs → Apart (flat_map (λ w. variable_declared w w.decl.what) vs)
  keeps_apart [] h = tt
  keeps_apart (w ∷ vs) h = of_one w.decl.what (keeps_apart vs h.1)
    where
      of_one : (what : DeclaredTree) → Apart (flat_map (λ w. variable_declared w w.decl.what) vs) → Apart (variable_declared w what ++ flat_map (λ w. variable_declared w w.decl.what) vs)
      of_one boolean rest = (keeps_differ w vs h.0, rest)
      of_one (range lo hi) rest = (keeps_differ w vs h.0, rest)
      of_one (members ms) rest = (keeps_differ w vs h.0, rest)
      of_one (instance m actuals) rest = rest

  -- no declaration is visited twice
  pub visits_apart : (m : ModuleTree) → find_module p (codes "main") ≡ Some m → Apart (visits p)
  visits_apart m e = (walk_apart (length p) [] [] (codes "main") m e (all_visit_facts p walkable)).0

  -- no variable is listed twice
  pub variables_apart : (m : ModuleTree) → find_module p (codes "main") ≡ Some m → Apart (variables_of p)
  variables_apart m e = keeps_apart (visits p) (visits_apart m e)
