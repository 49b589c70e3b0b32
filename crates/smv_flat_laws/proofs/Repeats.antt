-- Instances that repeat others: how they are known, and that they break none of the rules that those keep.
use Rattle.std.proofs.Common.{◌≡◌, ℕ, arith, List, [], ◌∷◌, ◌++◌, Some, map, refl, sym, ◌∙◌, ap, subst, inl, inr, append_assoc}
use Rattle.std.specs.Prelude.{◌⊎◌, slice_get, codes}
use Rattle.std.proofs.lemmas.Option.{same_Some as some_same}
use Rattle.smv_language.specs.Language.{Text, ModuleTree, ProgramTree, Place, find_module, module_at, IsInstance, Each, FlatInstance, boolean, instance, var}
use Rattle.smv_language.proofs.ProgramLaws.{found_named}
use Rattle.smv_flat_laws.specs.Items.{NumberedItem, items_named, instances_of}
use Rattle.smv_flat_laws.specs.Rules.{Rule, a_use, BreaksAtUse, IsKept, IsWalkable}
use Rattle.smv_flat_laws.specs.Alike.{RepeatsPlace, IsLike, LikeIsKept, SameModuleIsLike, InsideIsLike, RepeatsAgain}
use Rattle.smv_flat_laws.proofs.AlikeBreak.{alike_break}
use Rattle.smv_flat_laws.proofs.AlikeMeant.{same_module}
use Rattle.smv_flat_laws.proofs.Places.{are_instances}
use Rattle.smv_flat_laws.proofs.Sections.{AreInstances}
use Rattle.smv_flat_laws.proofs.Walkable.{main_is_there}

-- what is broken in the later instance is broken in the first
broken_first : (p : ProgramTree) (at bt : Place) (x y : Text) → RepeatsPlace p at bt → x ≡ y → (i : NumberedItem) (rule : Rule) →
    BreaksAtUse p (record { place = bt; module_name = y }) i rule → BreaksAtUse p (record { place = at; module_name = x }) i rule
broken_first p at bt x y r same i rule broken =
    subst (λ ct. BreaksAtUse p (record { place = ct; module_name = x }) i rule) (sym r.is_first)
    (alike_break p r.first_outer r.later_outer r.alike r.inside x i rule
    (subst (λ ct. BreaksAtUse p (record { place = ct; module_name = x }) i rule) r.is_later
    (subst (λ z. BreaksAtUse p (record { place = bt; module_name = z }) i rule) (sym same) broken)))

use_kept : (p : ProgramTree) (first later : FlatInstance) → RepeatsPlace p first.place later.place → first.module_name ≡ later.module_name →
    (i : NumberedItem) → IsKept p (a_use first i) → IsKept p (a_use later i)
use_kept p first later r same i kept rule broken =
    kept rule (broken_first p first.place later.place first.module_name later.module_name r same i rule broken)

uses_kept : (p : ProgramTree) (first later : FlatInstance) → RepeatsPlace p first.place later.place → first.module_name ≡ later.module_name →
    (is : List NumberedItem) → Each (IsKept p) (map (a_use first) is) → Each (IsKept p) (map (a_use later) is)
uses_kept p first later r same [] h = tt
uses_kept p first later r same (i ∷ is) h = (use_kept p first later r same i h.0, uses_kept p first later r same is h.1)

pub like_kept : LikeIsKept
like_kept p k j l h =
    uses_kept p l.first l.later l.repeats l.same_name (items_named p l.later.module_name)
    (subst (λ x. Each (IsKept p) (map (a_use l.first) (items_named p x))) l.same_name h)

-- the module of an instance, by its place and by its name
real_at : (p : ProgramTree) → IsWalkable p → (k : ℕ) (at : FlatInstance) → slice_get (instances_of p) k ≡ Some at →
    (m : ModuleTree) × IsInstance p at.place m × (find_module p at.module_name ≡ Some m)
real_at p walkable k at e =
    let main : (m : ModuleTree) × (find_module p (codes "main") ≡ Some m) = main_is_there p walkable in
    let instances : AreInstances p = are_instances p walkable main.0 main.1 in
    instances.real k at e

pub same_module_like : SameModuleIsLike
same_module_like p walkable k j later first m earlier is_later is_first same found no_formals =
    let of_later : (n : ModuleTree) × IsInstance p later.place n × (find_module p later.module_name ≡ Some n) = real_at p walkable k later is_later in
    let of_first : (n : ModuleTree) × IsInstance p first.place n × (find_module p first.module_name ≡ Some n) = real_at p walkable j first is_first in
    record {
      earlier = earlier;
      later = later;
      is_later = is_later;
      first = first;
      is_first = is_first;
      repeats = record {
        inside = [];
        first_outer = first.place;
        later_outer = later.place;
        alike = record {
          tree = m;
          first = of_first.1 ∙ sym of_first.2 ∙ ap (find_module p) same ∙ found;
          second = of_later.1 ∙ sym of_later.2 ∙ found;
          no_formals = no_formals;
        };
        is_first = refl;
        is_later = refl;
      };
      same_name = same;
    }

-- places that repeat one another are of one module
pub repeated_module : (p : ProgramTree) (at bt : Place) → RepeatsPlace p at bt → module_at p at ≡ module_at p bt
repeated_module p at bt r =
    ap (module_at p) r.is_first ∙ sym (same_module p r.first_outer r.later_outer r.alike r.inside) ∙ ap (module_at p) (sym r.is_later)

repeats_inside : (p : ProgramTree) (own : Text) (at bt : Place) → RepeatsPlace p at bt → RepeatsPlace p (own ∷ at) (own ∷ bt)
repeats_inside p own at bt r = record {
  inside = own ∷ r.inside;
  first_outer = r.first_outer;
  later_outer = r.later_outer;
  alike = r.alike;
  is_first = ap (λ ct. own ∷ ct) r.is_first;
  is_later = ap (λ ct. own ∷ ct) r.is_later;
}

pub inside_like : InsideIsLike
inside_like p walkable c d outer k j later first own earlier is_later is_first later_inside first_inside =
    record {
      earlier = earlier;
      later = later;
      is_later = is_later;
      first = first;
      is_first = is_first;
      repeats = repeats;
      same_name = sym (found_named p first.module_name of_first.0 of_first.2) ∙ ap (λ (n : ModuleTree). n.name) same ∙ found_named p later.module_name of_later.0 of_later.2;
    }
  where
    of_later : (n : ModuleTree) × IsInstance p later.place n × (find_module p later.module_name ≡ Some n)
    of_later = real_at p walkable k later is_later

    of_first : (n : ModuleTree) × IsInstance p first.place n × (find_module p first.module_name ≡ Some n)
    of_first = real_at p walkable j first is_first

    repeats : RepeatsPlace p first.place later.place
    repeats =
        subst (λ at. RepeatsPlace p at later.place) (sym first_inside)
        (subst (λ bt. RepeatsPlace p (own ∷ outer.first.place) bt) (sym later_inside)
        (repeats_inside p own outer.first.place outer.later.place outer.repeats))

    same : of_first.0 ≡ of_later.0
    same = some_same of_first.0 of_later.0 (sym of_first.1 ∙ repeated_module p first.place later.place repeats ∙ of_later.1)

-- of two ends of one place the one is an end of the other
record IsEnd (inside outer more rest : Place) : Type 0 where
  pub between : Place
  pub longer : more ≡ inside ++ between
  pub shorter : outer ≡ between ++ rest

ends : (inside outer more rest : Place) → inside ++ outer ≡ more ++ rest → IsEnd inside outer more rest ⊎ IsEnd more rest inside outer
ends [] outer more rest e = inl (record { between = more; longer = refl; shorter = e })
ends (x ∷ inside) outer [] rest e = inr (record { between = x ∷ inside; longer = refl; shorter = sym e })
ends (x ∷ inside) outer (y ∷ more) rest e =
    let same : x ≡ y = cc in
    let tails : inside ++ outer ≡ more ++ rest = cc in
    by_end same (ends inside outer more rest tails)
  where
    by_end : x ≡ y → IsEnd inside outer more rest ⊎ IsEnd more rest inside outer → IsEnd (x ∷ inside) outer (y ∷ more) rest ⊎ IsEnd (y ∷ more) rest (x ∷ inside) outer
    by_end same (inl t) = inl (record { between = t.between; longer = ap (λ ct. y ∷ ct) t.longer ∙ ap (λ z. z ∷ (inside ++ t.between)) (sym same); shorter = t.shorter })
    by_end same (inr t) = inr (record { between = t.between; longer = ap (λ ct. x ∷ ct) t.longer ∙ ap (λ z. z ∷ (more ++ t.between)) same; shorter = t.shorter })

-- the instance in the middle lies inside the first pair, or the second pair inside it
pub repeats_again : RepeatsAgain
repeats_again p at bt ct r q = by_end (ends r.inside r.later_outer q.inside q.first_outer (sym r.is_later ∙ q.is_first))
  where
    by_end : IsEnd r.inside r.later_outer q.inside q.first_outer ⊎ IsEnd q.inside q.first_outer r.inside r.later_outer → RepeatsPlace p at ct
    by_end (inl t) = record {
      inside = r.inside;
      first_outer = r.first_outer;
      later_outer = t.between ++ q.later_outer;
      alike = record {
        tree = r.alike.tree;
        first = r.alike.first;
        second = same_module p q.first_outer q.later_outer q.alike t.between ∙ ap (module_at p) (sym t.shorter) ∙ r.alike.second;
        no_formals = r.alike.no_formals;
      };
      is_first = r.is_first;
      is_later = q.is_later ∙ ap (λ dt. dt ++ q.later_outer) t.longer ∙ append_assoc r.inside t.between q.later_outer;
    }
    by_end (inr t) = record {
      inside = q.inside;
      first_outer = t.between ++ r.first_outer;
      later_outer = q.later_outer;
      alike = record {
        tree = q.alike.tree;
        first = sym (same_module p r.first_outer r.later_outer r.alike t.between) ∙ ap (module_at p) (sym t.shorter) ∙ q.alike.first;
        second = q.alike.second;
        no_formals = q.alike.no_formals;
      };
      is_first = r.is_first ∙ ap (λ dt. dt ++ r.first_outer) t.longer ∙ append_assoc q.inside t.between r.first_outer;
      is_later = q.is_later;
    }

-- MODULE main VAR a : M; b : M; MODULE M VAR on : boolean;
abbrev module_m : ModuleTree
module_m = record { name = codes "M"; formals = []; sections = var (record { name = codes "on"; what = boolean } ∷ []) ∷ [] }

abbrev twice : ProgramTree
twice =
    record {
      name = codes "main";
      formals = [];
      sections = var (record { name = codes "a"; what = instance (codes "M") [] } ∷ record { name = codes "b"; what = instance (codes "M") [] } ∷ []) ∷ [];
    } ∷
    module_m ∷ []

-- b repeats a
example : IsLike twice 2 1
example = record {
  earlier = omega arith;
  later = record { place = codes "b" ∷ []; module_name = codes "M" };
  is_later = refl;
  first = record { place = codes "a" ∷ []; module_name = codes "M" };
  is_first = refl;
  repeats = record {
    inside = [];
    first_outer = codes "a" ∷ [];
    later_outer = codes "b" ∷ [];
    alike = record { tree = module_m; first = refl; second = refl; no_formals = refl };
    is_first = refl;
    is_later = refl;
  };
  same_name = refl;
}
