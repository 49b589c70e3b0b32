-- No instance of a program stands twice in the list of its instances.
use Rattle.std.proofs.Common.{◌≡◌, ◌≢◌, ℕ, zero, suc, List, [], ◌∷◌, ◌++◌, Option, Some, None, refl, sym, ◌∙◌, ap, subst}
use Rattle.smv_language.specs.Language.{Text, ModuleTree, ProgramTree, Place, module_at, Each}
use Rattle.smv_flat_laws.specs.Rules.{IsWalkable}
use Rattle.smv_flat_laws.proofs.Lists.{each_more}
use Rattle.smv_flat_laws.proofs.Conditions.{each_join}
use Rattle.smv_flat_laws.proofs.Apart.{Under, not_inside, same_length_ends as one_name, places_joined as joined_again}
use Rattle.fault_weave.specs.Faults.{instance_names, joined, each_joined, below, instances_in, HasInstances}
use Rattle.fault_rules.proofs.KeptFacts.{instance_found}
use Rattle.fault_cause_laws.proofs.Differ.{Differ}
use Rattle.fault_cause_laws.proofs.Declared.{declared_differ}
use Rattle.smv_flat_laws.proofs.Pairs.{pairs_join, across_kinds}

-- two lists that were joined
record AreParts (a b : Option (List Place)) (places : List Place) : Type 0 where
  first : List Place
  second : List Place
  is_first : a ≡ Some first
  is_second : b ≡ Some second
  are : first ++ second ≡ places

parts : (a b : Option (List Place)) (places : List Place) → joined a b ≡ Some places → AreParts a b places
parts None b places e = cc
parts (Some xs) None places e = cc
parts (Some xs) (Some ys) places e = let same : xs ++ ys ≡ places = cc in record { first = xs; second = ys; is_first = refl; is_second = refl; are = same }

-- at or below an instance of the instance at the place, by one of the names
record IsBelow (at : Place) (P : Text → Type 0) (inside : Place) : Type 0 where
  name : Text
  is_name : P name
  under : Under (name ∷ at) inside

module _ (p : ProgramTree) (named : (at : Place) (m : ModuleTree) → module_at p at ≡ Some m → Differ (instance_names m.sections)) where
  abbrev Listed : (Place → Option (List Place)) → Type 0
  Listed f = (at : Place) (places : List Place) → f at ≡ Some places → Differ places × Each (Under at) places

  module _ (f : Place → Option (List Place)) (listed : Listed f) (at : Place) where
    each_below : (P : Text → Type 0) (names : List Text) (places : List Place) → Each P names → each_joined (λ x. f (x ∷ at)) names ≡ Some places → Each (IsBelow at P) places
    each_below P [] places h e = let none : [] ≡ places = cc in subst (Each (IsBelow at P)) none tt
    each_below P (x ∷ names) places h e =
        let two : AreParts (f (x ∷ at)) (each_joined (λ y. f (y ∷ at)) names) places = parts (f (x ∷ at)) (each_joined (λ y. f (y ∷ at)) names) places e in
        subst (Each (IsBelow at P)) two.are (each_join (IsBelow at P) two.first two.second
        (each_more (Under (x ∷ at)) (IsBelow at P) two.first (λ z u. record { name = x; is_name = h.0; under = u }) (listed (x ∷ at) two.first two.is_first).1)
        (each_below P names two.second h.1 two.is_second))

    below_differ : (names : List Text) (places : List Place) → Differ names → each_joined (λ x. f (x ∷ at)) names ≡ Some places → Differ places
    below_differ [] places h e = let none : [] ≡ places = cc in subst (λ ps. Differ ps) none tt
    below_differ (x ∷ names) places h e =
        let two : AreParts (f (x ∷ at)) (each_joined (λ y. f (y ∷ at)) names) places = parts (f (x ∷ at)) (each_joined (λ y. f (y ∷ at)) names) places e in
        let own : Differ two.first × Each (Under (x ∷ at)) two.first = listed (x ∷ at) two.first two.is_first in
        subst (λ ps. Differ ps) two.are (pairs_join (λ y z. y ≢ z) two.first two.second own.0 (below_differ names two.second h.1 two.is_second)
        (across_kinds (Under (x ∷ at)) (IsBelow at (λ y. x ≢ y)) (λ y z. y ≢ z) (λ y z u b same. b.is_name (one_name u.0 b.under.0 x b.name at (sym u.1 ∙ same ∙ b.under.1))) two.first two.second
        own.1 (each_below (λ y. x ≢ y) names two.second h.0 two.is_second)))

    all_names : (names : List Text) → Each (λ x. Unit {0}) names
    all_names [] = tt
    all_names (x ∷ names) = (tt, all_names names)

    of_module : (o : Option ModuleTree) → module_at p at ≡ o → (places : List Place) → below f at o ≡ Some places → Differ places × Each (Under at) places
    of_module None here places e = let none : [] ≡ places = cc in subst (λ ps. Differ ps × Each (Under at) ps) none (tt, tt)
    of_module (Some m) here places e =
        let two : AreParts (Some (at ∷ [])) (each_joined (λ x. f (x ∷ at)) (instance_names m.sections)) places =
        parts (Some (at ∷ [])) (each_joined (λ x. f (x ∷ at)) (instance_names m.sections)) places e in
        let one : at ∷ [] ≡ two.first = first_is two.first two.is_first in
        let inside : Each (IsBelow at (λ x. Unit {0})) two.second =
        each_below (λ x. Unit {0}) (instance_names m.sections) two.second (all_names (instance_names m.sections)) two.is_second in
        subst (λ ps. Differ ps × Each (Under at) ps) (ap (λ ps. ps ++ two.second) one ∙ two.are) (
          (
            each_more (IsBelow at (λ x. Unit {0})) (λ z. at ≢ z) two.second (λ z b same. not_inside at b.name b.under.0 (same ∙ b.under.1)) inside,
            below_differ (instance_names m.sections) two.second (named at m here) two.is_second,
          ),
          (([], refl), each_more (IsBelow at (λ x. Unit {0})) (Under at) two.second (λ z b. (b.under.0 ++ b.name ∷ [], b.under.1 ∙ joined_again b.under.0 b.name at)) inside),
        )
      where
        first_is : (xs : List Place) → Some (at ∷ []) ≡ Some xs → at ∷ [] ≡ xs
        first_is xs q = cc

  in_differ : (n : ℕ) → Listed (instances_in n p)
  in_differ zero at places e = cc
  in_differ (suc n) at places e = of_module (instances_in n p) (in_differ n) at (module_at p at) refl places e

pub places_differ : (p : ProgramTree) → IsWalkable p → (places : List Place) → HasInstances p places → Differ places
places_differ p walkable places h = (in_differ p (λ at m here. declared_differ p walkable m.name m (instance_found p at m here)) h.0 [] places h.1).0
