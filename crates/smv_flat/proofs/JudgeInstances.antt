-- The items of an instance one after another, and the instances one after another.
use Rattle.std.proofs.Common.{◌≡◌, ℕ, zero, suc, ◌+◌, ◌<◌, ◌≤◌, arith, true, false, List, [], ◌∷◌, ◌++◌, length, take, Option, Some, None, map, refl, sym, ◌∙◌, ap, subst, Bor}
use Rattle.std.specs.Prelude.{slice_get, flat_map, option_map, IfSome}
use Rattle.std.specs.Option.{is_some}
use Rattle.std.proofs.lemmas.List.{take_all}
use Rattle.smv_language.specs.Language.{ProgramTree, Each, FlatInstance}
use Rattle.smv_flat_laws.specs.Items.{Item, NumberedItem, NumberedModule, numbered_from, items_of, items_named, visits, instances_of}
use Rattle.smv_flat_laws.specs.Rules as rules
use Rattle.smv_flat_laws.specs.Rules.{Site, the_program, a_use, use_sites, module_sites, visit_sites, IsKept, IsWalkable, IsFirstBroken}
use Rattle.smv_flat_laws.specs.Alike.{IsLike, AreLikes, uses_at}
use Rattle.smv_flat_laws.proofs.Conditions.{each_join}
use Rattle.smv_flat_laws.proofs.FaultLaws.{IsFirstOf, first_broken, in_part, after_part}
use Rattle.smv_flat_laws.proofs.Lists.{map_joined}
use Rattle.smv_flat_laws.proofs.Reaches.{each_left, each_right}
use Rattle.smv_flat_laws.proofs.Repeats.{like_kept}
use Rattle.smv_flat.specs.Assignments.{times_of, AreTimes, IsItemTold, IsFaultAt, IsPlaceTold}
use Rattle.smv_scope.specs.Faults.{rule_of, IsFaultOf}
use Rattle.smv_scope.specs.SceneTree.{number_and_item, items_of_instance, items_at, IsScene, program_of}
use Rattle.smv_scope.specs.Likes.{like_at}
use Rattle.smv_scope.proofs.LikeLaws.{is_like}
use Rattle.smv_flat.specs.Verdicts.{IsToldRule, IsFirstAt, IsInstanceTold}
use Rattle.smv_scope.specs.declared.fault.FlatFault.{FlatFault}
use Rattle.smv_scope.specs.declared.fault.FlatRule.{FlatRule as Code}
use Rattle.smv_flat.specs.declared.judge.Times.{Times}
use Rattle.smv_scope.specs.declared.names.Scene.{Scene}
use Rattle.smv_flat.proofs.JudgePlaces.{HasSpot, has_spot}
use Rattle.smv_flat.proofs.BuildLoops.{many_spots}
use Rattle.std.proofs.lemmas.Option.{none-some as none_some, same_Some as some_same}
use Rattle.smv_language.proofs.ListLaws.{take_next}
use Rattle.base_values.proofs.ListLaws.{get_within}

split_at : {A : Type 0} (xs : List A) (k : ℕ) (x : A) → slice_get xs k ≡ Some x → (after : List A) × (xs ≡ take k xs ++ x ∷ after)
split_at [] k x e = absurd (none_some x e)
split_at (y ∷ xs) zero x e = (xs, ap (λ z. z ∷ xs) (some_same y x e))
split_at (y ∷ xs) (suc k) x e = let r : (after : List _) × (xs ≡ take k xs ++ x ∷ after) = split_at xs k x e in (r.0, ap (λ ys. y ∷ ys) r.1)

-- what stands before an item
before_from : (n : ℕ) (before is : List Item) (k : ℕ) (i : NumberedItem) → slice_get (numbered_from n before is) k ≡ Some i → i.before ≡ before ++ map (λ (j : NumberedItem). j.item) (take k (numbered_from n before is))
before_from n before [] k i e = absurd (none_some i e)
before_from n before (j ∷ is) zero i e = ap (λ (x : NumberedItem). x.before) (sym (some_same _ i e)) ∙ sym (append_none before)
  where
    append_none : {A : Type 0} (xs : List A) → xs ++ [] ≡ xs
    append_none [] = refl
    append_none (x ∷ xs) = ap (λ ys. x ∷ ys) (append_none xs)
before_from n before (j ∷ is) (suc k) i e =
    before_from (suc n) (before ++ j ∷ []) is k i e ∙ joined before j (map (λ (j : NumberedItem). j.item) (take k (numbered_from (suc n) (before ++ j ∷ []) is)))
  where
    joined : {A : Type 0} (xs : List A) (y : A) (zs : List A) → (xs ++ y ∷ []) ++ zs ≡ xs ++ y ∷ zs
    joined [] y zs = refl
    joined (x ∷ xs) y zs = ap (λ ws. x ∷ ws) (joined xs y zs)

abbrev items_to : ProgramTree → FlatInstance → ℕ → List NumberedItem
items_to p at k = take k (items_named p at.module_name)

before_is : (s : Scene) → IsScene s → (spot : ℕ) (at : FlatInstance) → slice_get (instances_of (program_of s)) spot ≡ Some at → (place : ℕ) (i : NumberedItem) →
    slice_get (items_named (program_of s) at.module_name) place ≡ Some i → i.before ≡ map (λ (j : NumberedItem). j.item) (items_to (program_of s) at place)
before_is s scene spot at at_spot place i e =
    let h : HasSpot s spot at = has_spot s scene spot at at_spot in
    let m : NumberedModule = h.holds.placed.tree in
    let same : items_named (program_of s) at.module_name ≡ numbered_from (suc m.number) [] (items_of m.tree) = h.holds.placed.items in
    before_from (suc m.number) [] (items_of m.tree) place i (sym (ap (λ is. slice_get is place) same) ∙ e)
    ∙ ap (λ is. map (λ (j : NumberedItem). j.item) (take place is)) (sym same)

-- The item at a place.
here_at : (p : ProgramTree) (spot place : ℕ) (at : FlatInstance) → slice_get (instances_of p) spot ≡ Some at → (i : NumberedItem) → slice_get (items_named p at.module_name) place ≡ Some i →
    option_map number_and_item (slice_get (items_at p spot) place) ≡ Some (i.number, i.item)
here_at p spot place at at_spot i e = ap (λ o. option_map number_and_item (slice_get (items_of_instance p o) place)) at_spot ∙ ap (option_map number_and_item) e

pub no_item : (p : ProgramTree) (spot place : ℕ) (es : List (Bor (List ℕ) × Times)) → None ≡ option_map number_and_item (slice_get (items_at p spot) place) → IsPlaceTold p spot place es es None
no_item p spot place es none = record {
  told = λ at at_spot i e times. absurd (none_some (i.number, i.item) (none ∙ here_at p spot place at at_spot i e));
  times = λ at at_spot i e q before times. absurd (none_some (i.number, i.item) (none ∙ here_at p spot place at at_spot i e));
}

number_is : (x y : ℕ × Item) → Some x ≡ Some y → x.0 ≡ y.0
number_is x y e = ap (λ (z : ℕ × Item). z.0) (some_same x y e)

item_is : (x y : ℕ × Item) → Some x ≡ Some y → x.1 ≡ y.1
item_is x y e = ap (λ (z : ℕ × Item). z.1) (some_same x y e)

pub kept_item : (p : ProgramTree) (spot place number : ℕ) (item : Item) (es new : List (Bor (List ℕ) × Times)) → Some (number, item) ≡ option_map number_and_item (slice_get (items_at p spot) place) →
    IsItemTold p spot place es new item None → IsPlaceTold p spot place es new None
kept_item p spot place number item es new is h = record {
  told = λ at at_spot i e times. h.told at at_spot i e (same at at_spot i e) times;
  times = λ at at_spot i e q before times. subst (λ (x : Item). AreTimes new (before ++ x ∷ [])) (sym (same at at_spot i e)) (h.times refl before times);
}
  where
    same : (at : FlatInstance) → slice_get (instances_of p) spot ≡ Some at → (i : NumberedItem) → slice_get (items_named p at.module_name) place ≡ Some i → i.item ≡ item
    same at at_spot i e = sym (item_is (number, item) (i.number, i.item) (is ∙ here_at p spot place at at_spot i e))

pub broken_item : (p : ProgramTree) (spot place number : ℕ) (item : Item) (es new : List (Bor (List ℕ) × Times)) → Some (number, item) ≡ option_map number_and_item (slice_get (items_at p spot) place) →
    (rule : Code) → IsItemTold p spot place es new item (Some rule) → IsPlaceTold p spot place es new (Some (record { rule = rule; item = number }))
broken_item p spot place number item es new is rule h = record {
  told = λ at at_spot i e times.
      (h.told at at_spot i e (sym (item_is (number, item) (i.number, i.item) (is ∙ here_at p spot place at at_spot i e))) times, number_is (number, item) (i.number, i.item) (is ∙ here_at p spot place at at_spot i e));
  times = λ at at_spot i e q before times. absurd (differ q);
}
  where
    fault : FlatFault
    fault = record { rule = rule; item = number }

    differ : Some fault ≡ None → ⊥
    differ q = none_some fault (sym q)

-- The items of an instance so far.
pub record ItemsSoFar (p : ProgramTree) (at : FlatInstance) (place : ℕ) (es : List (Bor (List ℕ) × Times)) : Type 0 where
  pub kept : Each (IsKept p) (map (a_use at) (items_to p at place))
  pub times : AreTimes es (map (λ (i : NumberedItem). i.item) (items_to p at place))

abbrev pub InstanceSoFar : ProgramTree → ℕ → ℕ → List (Bor (List ℕ) × Times) → Type 0
InstanceSoFar p spot place es = (at : FlatInstance) → slice_get (instances_of p) spot ≡ Some at → ItemsSoFar p at place es

pub none_so_far : (p : ProgramTree) (spot : ℕ) (es : List (Bor (List ℕ) × Times)) → es ≡ [] → InstanceSoFar p spot 0 es
none_so_far p spot es e at at_spot = record { kept = tt; times = λ x. ap (λ t. times_of t x) e }

there_is : (p : ProgramTree) (spot place : ℕ) (at : FlatInstance) → slice_get (instances_of p) spot ≡ Some at → place < length (items_at p spot) →
    (i : NumberedItem) × (slice_get (items_named p at.module_name) place ≡ Some i)
there_is p spot place at at_spot within = get_within (items_named p at.module_name) place (subst (λ o. place < length (items_of_instance p o)) at_spot within)

pub one_more_item : (s : Scene) → IsScene s → (spot place : ℕ) (es new : List (Bor (List ℕ) × Times)) → place < length (items_at (program_of s) spot) → IsPlaceTold (program_of s) spot place es new None →
    InstanceSoFar (program_of s) spot place es → InstanceSoFar (program_of s) spot (place + 1) new
one_more_item s scene spot place es new within h so_far at at_spot = record {
  kept = subst (λ is. Each (IsKept (program_of s)) (map (a_use at) is)) (sym step)
      (subst (Each (IsKept (program_of s))) (sym (map_joined (a_use at) (items_to (program_of s) at place) (i.0 ∷ [])))
      (each_join (IsKept (program_of s)) (map (a_use at) (items_to (program_of s) at place)) (a_use at i.0 ∷ []) before.kept (h.told at at_spot i.0 i.1 times_before, tt)));
  times = subst (λ is. AreTimes new (map (λ (j : NumberedItem). j.item) is)) (sym step)
      (subst (AreTimes new) (sym (map_joined (λ (j : NumberedItem). j.item) (items_to (program_of s) at place) (i.0 ∷ [])))
      (h.times at at_spot i.0 i.1 refl (map (λ (j : NumberedItem). j.item) (items_to (program_of s) at place)) before.times));
}
  where
    i : (i : NumberedItem) × (slice_get (items_named (program_of s) at.module_name) place ≡ Some i)
    i = there_is (program_of s) spot place at at_spot within

    step : items_to (program_of s) at (place + 1) ≡ items_to (program_of s) at place ++ i.0 ∷ []
    step = take_next (items_named (program_of s) at.module_name) place i.0 i.1

    before : ItemsSoFar (program_of s) at place es
    before = so_far at at_spot

    times_before : AreTimes es i.0.before
    times_before = subst (AreTimes es) (sym (before_is s scene spot at at_spot place i.0 i.1)) before.times

pub first_item : (s : Scene) → IsScene s → (spot place : ℕ) (es new : List (Bor (List ℕ) × Times)) → place < length (items_at (program_of s) spot) → (f : FlatFault) →
    IsPlaceTold (program_of s) spot place es new (Some f) → InstanceSoFar (program_of s) spot place es → IsInstanceTold (program_of s) spot (Some f)
first_item s scene spot place es new within f h so_far at at_spot = by_rule (rule_of f.rule) told.0
  where
    i : (i : NumberedItem) × (slice_get (items_named (program_of s) at.module_name) place ≡ Some i)
    i = there_is (program_of s) spot place at at_spot within

    before : ItemsSoFar (program_of s) at place es
    before = so_far at at_spot

    told : IsFaultAt (program_of s) (a_use at i.0) (Some f)
    told = h.told at at_spot i.0 i.1 (subst (AreTimes es) (sym (before_is s scene spot at at_spot place i.0 i.1)) before.times)

    split : (after : List NumberedItem) × (items_named (program_of s) at.module_name ≡ items_to (program_of s) at place ++ i.0 ∷ after)
    split = split_at (items_named (program_of s) at.module_name) place i.0 i.1

    by_rule : (o : Option rules.Rule) → IsToldRule (program_of s) (a_use at i.0) o → IfSome o (IsFirstAt (program_of s) (map (a_use at) (items_named (program_of s) at.module_name)) f.item)
    by_rule None k = tt
    by_rule (Some rule) k = record {
      before = map (a_use at) (items_to (program_of s) at place);
      site = a_use at i.0;
      after = map (a_use at) split.0;
      in_order = ap (map (a_use at)) split.1 ∙ map_joined (a_use at) (items_to (program_of s) at place) (i.0 ∷ split.0);
      kept_before = before.kept;
      least = k;
      at_item = told.1;
    }

pub all_items : (p : ProgramTree) (spot place : ℕ) (es : List (Bor (List ℕ) × Times)) → length (items_at p spot) ≤ place → InstanceSoFar p spot place es → IsInstanceTold p spot None
all_items p spot place es past so_far at at_spot =
    subst (λ is. Each (IsKept p) (map (a_use at) is)) (take_all place (items_named p at.module_name) (subst (λ o. length (items_of_instance p o) ≤ place) at_spot past)) (so_far at at_spot).kept

-- The instances so far.
abbrev pub sites_of : ProgramTree → List FlatInstance → List Site
sites_of p ats = flat_map (λ (at : FlatInstance). map (a_use at) (items_named p at.module_name)) ats

abbrev pub InstancesSoFar : ProgramTree → ℕ → Type 0
InstancesSoFar p spot = Each (IsKept p) (sites_of p (take spot (instances_of p)))

sites_joined : (p : ProgramTree) (xs ys : List FlatInstance) → sites_of p (xs ++ ys) ≡ sites_of p xs ++ sites_of p ys
sites_joined p [] ys = refl
sites_joined p (x ∷ xs) ys = ap (λ ss. map (a_use x) (items_named p x.module_name) ++ ss) (sites_joined p xs ys) ∙ sym (joined (map (a_use x) (items_named p x.module_name)) (sites_of p xs) (sites_of p ys))
  where
    joined : (us vs ws : List Site) → (us ++ vs) ++ ws ≡ us ++ (vs ++ ws)
    joined [] vs ws = refl
    joined (u ∷ us) vs ws = ap (λ ts. u ∷ ts) (joined us vs ws)

pub one_more_instance : (s : Scene) → IsScene s → (spot : ℕ) → spot < length s.spots.items → IsInstanceTold (program_of s) spot None → InstancesSoFar (program_of s) spot → InstancesSoFar (program_of s) (spot + 1)
one_more_instance s scene spot within h so_far =
    subst (λ ats. Each (IsKept (program_of s)) (sites_of (program_of s) ats)) (sym (take_next (instances_of (program_of s)) spot at.0 at.1))
    (subst (Each (IsKept (program_of s))) (sym (sites_joined (program_of s) (take spot (instances_of (program_of s))) (at.0 ∷ [])))
    (each_join (IsKept (program_of s)) (sites_of (program_of s) (take spot (instances_of (program_of s)))) (sites_of (program_of s) (at.0 ∷ [])) so_far
    (each_join (IsKept (program_of s)) (map (a_use at.0) (items_named (program_of s) at.0.module_name)) [] (h at.0 at.1) tt)))
  where
    at : (at : FlatInstance) × (slice_get (instances_of (program_of s)) spot ≡ Some at)
    at = get_within (instances_of (program_of s)) spot (subst (λ n. spot < n) (sym (many_spots s scene)) within)

-- what is kept at all instances so far is kept at one of them
kept_before : (p : ProgramTree) (spot : ℕ) (ats : List FlatInstance) (j : ℕ) (at : FlatInstance) → j < spot → slice_get ats j ≡ Some at → Each (IsKept p) (sites_of p (take spot ats)) → Each (IsKept p) (uses_at p at)
kept_before p zero ats j at before e h = absurd (omega (arith, before))
kept_before p (suc spot) [] j at before e h = absurd (none_some at e)
kept_before p (suc spot) (x ∷ ats) zero at before e h = subst (λ y. Each (IsKept p) (uses_at p y)) (some_same x at e) (each_left (IsKept p) (uses_at p x) (sites_of p (take spot ats)) h)
kept_before p (suc spot) (x ∷ ats) (suc j) at before e h =
    kept_before p spot ats j at (omega (arith, before)) e (each_right (IsKept p) (uses_at p x) (sites_of p (take spot ats)) h)

-- an instance that repeats one of those so far
pub like_instance : (s : Scene) → IsScene s → (spot j : ℕ) → spot < length s.spots.items → IsLike (program_of s) spot j → InstancesSoFar (program_of s) spot → InstancesSoFar (program_of s) (spot + 1)
like_instance s scene spot j within like so_far = one_more_instance s scene spot within told so_far
  where
    told : IsInstanceTold (program_of s) spot None
    told at at_spot =
        subst (λ y. Each (IsKept (program_of s)) (uses_at (program_of s) y)) (some_same like.later at (sym like.is_later ∙ at_spot))
        (like_kept (program_of s) spot j like (kept_before (program_of s) spot (instances_of (program_of s)) j like.first like.earlier like.is_first so_far))

-- an instance for which the table has an earlier one
pub passed_over : (s : Scene) → IsScene s → (likes : List (Option ℕ)) → AreLikes (program_of s) likes → (spot : ℕ) → spot < length s.spots.items → (o : Option ℕ) → o ≡ like_at likes spot → is_some o ≡ true →
    InstancesSoFar (program_of s) spot → InstancesSoFar (program_of s) (spot + 1)
passed_over s scene likes known spot within None is some so_far = let bad : false ≡ true = some in cc
passed_over s scene likes known spot within (Some j) is some so_far = like_instance s scene spot j within (is_like (program_of s) likes known spot j (sym is)) so_far

first_of_sites : (p : ProgramTree) (ss : List Site) (item : ℕ) (rule : rules.Rule) → IsFirstAt p ss item rule → IsFirstOf p rule item ss
first_of_sites p ss item rule h = record {
  before = h.before;
  site = h.site;
  after = h.after;
  in_order = h.in_order;
  kept_before = h.kept_before;
  lowest = record { broken = h.least.broken; lowest = h.least.lowest };
  at_item = h.at_item;
}

-- the first fault of the items is that of the program, where the groups before are kept
of_program : (p : ProgramTree) → IsWalkable p → (rule : rules.Rule) (item : ℕ) → IsFirstOf p rule item (use_sites p) → IsFirstBroken p rule item
of_program p walkable rule item h =
    first_broken p rule item
    (after_part p (the_program ∷ []) (module_sites p ++ (visit_sites [] (visits p) ++ use_sites p)) (Some (rule, item)) (walkable.program, tt)
    (after_part p (module_sites p) (visit_sites [] (visits p) ++ use_sites p) (Some (rule, item)) walkable.modules
    (after_part p (visit_sites [] (visits p)) (use_sites p) (Some (rule, item)) walkable.visits h)))

pub first_instance : (s : Scene) → IsScene s → (spot : ℕ) → spot < length s.spots.items → (f : FlatFault) → IsInstanceTold (program_of s) spot (Some f) → InstancesSoFar (program_of s) spot → IsFaultOf (program_of s) f
first_instance s scene spot within f h so_far = by_rule (rule_of f.rule) (h at.0 at.1)
  where
    at : (at : FlatInstance) × (slice_get (instances_of (program_of s)) spot ≡ Some at)
    at = get_within (instances_of (program_of s)) spot (subst (λ n. spot < n) (sym (many_spots s scene)) within)

    own : List Site
    own = map (a_use at.0) (items_named (program_of s) at.0.module_name)

    split : (after : List FlatInstance) × (instances_of (program_of s) ≡ take spot (instances_of (program_of s)) ++ at.0 ∷ after)
    split = split_at (instances_of (program_of s)) spot at.0 at.1

    order : use_sites (program_of s) ≡ sites_of (program_of s) (take spot (instances_of (program_of s))) ++ (map (a_use at.0) (items_named (program_of s) at.0.module_name) ++ sites_of (program_of s) split.0)
    order = ap (sites_of (program_of s)) split.1 ∙ sites_joined (program_of s) (take spot (instances_of (program_of s))) (at.0 ∷ split.0)

    by_rule : (o : Option rules.Rule) → IfSome o (IsFirstAt (program_of s) (map (a_use at.0) (items_named (program_of s) at.0.module_name)) f.item) → IfSome o (λ r. IsFirstBroken (program_of s) r f.item)
    by_rule None k = tt
    by_rule (Some rule) k =
        of_program (program_of s) scene.set.walkable rule f.item
        (subst (IsFirstOf (program_of s) rule f.item) (sym order)
        (after_part (program_of s) (sites_of (program_of s) (take spot (instances_of (program_of s)))) _ (Some (rule, f.item)) so_far
        (in_part (program_of s) (map (a_use at.0) (items_named (program_of s) at.0.module_name)) (sites_of (program_of s) split.0) rule f.item
        (first_of_sites (program_of s) (map (a_use at.0) (items_named (program_of s) at.0.module_name)) f.item rule k))))

pub all_instances : (s : Scene) → IsScene s → (spot : ℕ) → length s.spots.items ≤ spot → InstancesSoFar (program_of s) spot → Each (IsKept (program_of s)) (use_sites (program_of s))
all_instances s scene spot past so_far =
    subst (λ ats. Each (IsKept (program_of s)) (sites_of (program_of s) ats)) (take_all spot (instances_of (program_of s)) (subst (λ n. n ≤ spot) (sym (many_spots s scene)) past)) so_far
