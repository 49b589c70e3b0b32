-- A woven program breaks no rule of flattening but its limits.
use Rattle.std.proofs.Common.{◌≡◌, ℕ, true, false, List, [], ◌∷◌, ◌++◌, map, flat_map, Some, refl, sym, ◌∙◌, ap, subst}
use Rattle.std.specs.Prelude.{slice_get, codes, option_map}
use Rattle.smv_language.specs.Language.{ModuleTree, ProgramTree, Place, find_module, Each, IsInstance, FlatInstance}
use Rattle.smv_flat_laws.specs.Items.{Item, NumberedItem, items_of, items_named, Visit, visits, instances_of}
use Rattle.smv_flat_laws.specs.Rules.{no_such_module, wrong_count, module_loop, no_such_name, not_a_target, double_assign, define_loop, next_here, input_here, too_many, Site, a_visit, a_use, visit_sites, module_sites, use_sites, sites, Breaks, IsKept, IsWithin}
use Rattle.smv_flat_laws.proofs.Reaches.{each_left, each_right}
use Rattle.smv_flat_laws.proofs.Conditions.{each_join, each_flat, each_from, each_at}
use Rattle.smv_flat_laws.proofs.Lists.{each_of_map, each_map, each_more}
use Rattle.smv_flat_laws.proofs.Places.{VisitFacts, all_visit_facts, are_instances}
use Rattle.smv_flat_laws.proofs.Walkable.{accepted_walkable, main_is_there}
use Rattle.fault_instructions.specs.Instructions.{InstructionTree, slices_of, is_affected}
use Rattle.fault_weave.specs.WovenProgram.{woven_module, woven}
use Rattle.fault_weave.proofs.WovenKinds.{find_woven}
use Rattle.fault_instructions.proofs.AmongLaws.{each_at as each_among}
use Rattle.fault_woven_laws.specs.WovenNamesLaws.{OnlyLimits, IsExtendable, WovenKeepsNames, WovenBreaksLimitsAlone, WovenIsAccepted}
use Rattle.fault_woven_laws.proofs.Orders.{EachAfter, after_numbered, numbered_after, after_two, after_more, after_each, each_after}
use Rattle.fault_woven_laws.proofs.WovenNamesItems.{woven_item, slice_items, woven_items, added_flat, of_slices, items_numbered}
use Rattle.fault_woven_laws.proofs.Walks.{visits_kept, same_instances}
use Rattle.fault_woven_laws.proofs.Slices.{slices_apart}
use Rattle.fault_woven_laws.proofs.Headers.{main_kept, headers_kept}
use Rattle.fault_woven_laws.proofs.OldItems.{ItemKept, old_kept}
use Rattle.fault_woven_laws.proofs.WovenNamesUses.{KeepsMode, uses_kept}
use Rattle.fault_woven_laws.proofs.NewItems.{new_kept}
use Rattle.fault_woven_laws.proofs.Once.{IsOnce, once_kept}
use Rattle.smv_flat_laws.proofs.KindLaws.{with_both}
use Rattle.smv_language.proofs.ProgramLaws.{found_named}

-- the walk
visit_limits : (q : ProgramTree) (before : List Visit) (v : Visit) → VisitFacts q v → OnlyLimits q (a_visit before v)
visit_limits q before v h no_such_module b = let bad : true ≡ false = sym b ∙ h.exists in cc
visit_limits q before v h wrong_count b = let bad : true ≡ false = sym b ∙ h.counted in cc
visit_limits q before v h module_loop b = let bad : true ≡ false = sym b ∙ h.apart in cc
visit_limits q before v h too_many b = refl
visit_limits q before v h other b = absurd b

visits_limits : (q : ProgramTree) (before vs : List Visit) → Each (VisitFacts q) vs → Each (OnlyLimits q) (visit_sites before vs)
visits_limits q before [] h = tt
visits_limits q before (v ∷ vs) h = (visit_limits q before v h.0, visits_limits q (before ++ v ∷ []) vs h.1)

-- an item of an instance
abbrev UseKept : ProgramTree → Place → List Item → Item → Type 0
UseKept q at before item = ItemKept q at item × IsOnce before item

use_limits : (q : ProgramTree) (at : FlatInstance) (j : NumberedItem) → UseKept q at.place j.before j.item → OnlyLimits q (a_use at j)
use_limits q at j h no_such_name b = absurd (h.0.names b)
use_limits q at j h not_a_target b = absurd (h.0.target b)
use_limits q at j h double_assign b = absurd (h.1 b)
use_limits q at j h define_loop b = absurd (h.0.loops b)
use_limits q at j h next_here b = absurd (h.0.next b)
use_limits q at j h input_here b = absurd (h.0.inputs b)
use_limits q at j h other b = absurd b

kept_use : (q : ProgramTree) (at : FlatInstance) (j : NumberedItem) → IsKept q (a_use at j) → UseKept q at.place j.before j.item
kept_use q at j h = (record { names = h no_such_name; target = h not_a_target; loops = h define_loop; next = h next_here; inputs = h input_here }, h double_assign)

module _ (p : ProgramTree) (i : InstructionTree) (can : IsExtendable p i) where
  -- the items of an instance of a module
  module _ (at : FlatInstance) (m : ModuleTree) (here : IsInstance p at.place m) (found : find_module p at.module_name ≡ Some m) (modes : Each (λ s. Each (KeepsMode p at.place) s.modes) (slices_of i at.module_name)) where
    old : Each (IsKept p) (map (a_use at) (items_named p at.module_name)) → EachAfter (UseKept p at.place) [] (items_of m)
    old h =
        let numbered = items_numbered p 1 [] at.module_name m found in
        after_numbered (UseKept p at.place) numbered.0 [] (items_of m)
        (subst (Each (λ (j : NumberedItem). UseKept p at.place j.before j.item)) numbered.1
        (each_more (λ j. IsKept p (a_use at j)) (λ (j : NumberedItem). UseKept p at.place j.before j.item) (items_named p at.module_name) (kept_use p at) (each_of_map (IsKept p) (a_use at) (items_named p at.module_name) h)))

    each_kept : Each (ItemKept p at.place) (items_of m) → Each (ItemKept (woven p i) at.place) (items_of (woven_module i m))
    each_kept h =
        subst (Each (ItemKept (woven p i) at.place)) (sym (woven_items i m ∙ ap (λ is. map (woven_item (is_affected i m.name)) (items_of m) ++ is) (added_flat i m)))
        (each_join (ItemKept (woven p i) at.place) (map (woven_item (is_affected i m.name)) (items_of m)) (flat_map (slice_items m) (slices_of i m.name))
        (each_map (ItemKept (woven p i) at.place) (woven_item (is_affected i m.name)) (items_of m)
        (each_more (ItemKept p at.place) (λ item. ItemKept (woven p i) at.place (woven_item (is_affected i m.name) item)) (items_of m) (old_kept p i can.weavable at.place m here) h))
        (of_slices (ItemKept (woven p i) at.place) m (slices_of i m.name) (λ s a. new_kept p i can.weavable at.place m here s a (each_among (λ s. Each (KeepsMode p at.place) s.modes) (slices_of i m.name) s own a))))
      where
        own : Each (λ s. Each (KeepsMode p at.place) s.modes) (slices_of i m.name)
        own = subst (λ x. Each (λ s. Each (KeepsMode p at.place) s.modes) (slices_of i x)) (sym (found_named p at.module_name m found)) modes

    uses_limits : Each (IsKept p) (map (a_use at) (items_named p at.module_name)) → Each (OnlyLimits (woven p i)) (map (a_use at) (items_named (woven p i) at.module_name))
    uses_limits h =
        let before : EachAfter (UseKept p at.place) [] (items_of m) = old h in
        let kept : Each (ItemKept p at.place) (items_of m) = after_each (ItemKept p at.place) [] (items_of m) (after_more (UseKept p at.place) (λ b item. ItemKept p at.place item) [] (items_of m) (λ b item k. k.0) before) in
        let once : EachAfter IsOnce [] (items_of m) = after_more (UseKept p at.place) IsOnce [] (items_of m) (λ b item k. k.1) before in
        let new : EachAfter (UseKept (woven p i) at.place) [] (items_of (woven_module i m)) =
        after_two (λ b item. ItemKept (woven p i) at.place item) IsOnce (UseKept (woven p i) at.place) [] (items_of (woven_module i m)) (λ b item k o. (k, o))
        (each_after (ItemKept (woven p i) at.place) [] (items_of (woven_module i m)) (each_kept kept))
        (once_kept p i can.weavable at.place m here (slices_apart p i can.items_kept m.name) kept once) in
        let numbered = items_numbered (woven p i) 1 [] at.module_name (woven_module i m) (find_woven p i at.module_name ∙ ap (option_map (woven_module i)) found) in
        each_map (OnlyLimits (woven p i)) (a_use at) (items_named (woven p i) at.module_name)
        (each_more (λ (j : NumberedItem). UseKept (woven p i) at.place j.before j.item) (λ j. OnlyLimits (woven p i) (a_use at j)) (items_named (woven p i) at.module_name) (use_limits (woven p i) at)
        (subst (Each (λ (j : NumberedItem). UseKept (woven p i) at.place j.before j.item)) (sym numbered.1) (numbered_after (UseKept (woven p i) at.place) numbered.0 [] (items_of (woven_module i m)) new)))

  abbrev uses_of : ProgramTree → FlatInstance → List Site
  uses_of q at = map (a_use at) (items_named q at.module_name)

  all_uses : Each (IsKept p) (use_sites p) → Each (OnlyLimits (woven p i)) (use_sites (woven p i))
  all_uses h =
      (each_flat (OnlyLimits (woven p i)) (uses_of (woven p i)) (instances_of (woven p i))).1
      (subst (Each (λ at. Each (OnlyLimits (woven p i)) (uses_of (woven p i) at))) (sym (same_instances p i)) (each_from (λ at. Each (OnlyLimits (woven p i)) (uses_of (woven p i) at)) (instances_of p) here))
    where
      main : (m : ModuleTree) × (find_module p (codes "main") ≡ Some m)
      main = main_is_there p (accepted_walkable p can.accepted)

      here : (k : ℕ) (at : FlatInstance) → slice_get (instances_of p) k ≡ Some at → Each (OnlyLimits (woven p i)) (uses_of (woven p i) at)
      here k at e =
          let real : (m : ModuleTree) × IsInstance p at.place m × (find_module p at.module_name ≡ Some m) = (are_instances p (accepted_walkable p can.accepted) main.0 main.1).real k at e in
          uses_limits at real.0 real.1 real.2 (uses_kept p i can.names_kept k at e)
          (each_at (λ at. Each (IsKept p) (uses_of p at)) (instances_of p) k at ((each_flat (IsKept p) (uses_of p) (instances_of p)).0 h) e)

  all_limits : Each (OnlyLimits (woven p i)) (sites (woven p i))
  all_limits =
      let walked : Each (IsKept p) (visit_sites [] (visits p) ++ use_sites p) = each_right (IsKept p) (module_sites p) (visit_sites [] (visits p) ++ use_sites p) can.accepted.1 in (
        main_kept p i can.items_kept can.accepted.0,
        each_join (OnlyLimits (woven p i)) (module_sites (woven p i)) (visit_sites [] (visits (woven p i)) ++ use_sites (woven p i))
            (headers_kept p i can.items_kept (each_left (IsKept p) (module_sites p) (visit_sites [] (visits p) ++ use_sites p) can.accepted.1))
            (each_join (OnlyLimits (woven p i)) (visit_sites [] (visits (woven p i))) (use_sites (woven p i))
            (visits_limits (woven p i) [] (visits (woven p i)) (visits_kept p i (all_visit_facts p (accepted_walkable p can.accepted))))
            (all_uses (each_right (IsKept p) (visit_sites [] (visits p)) (use_sites p) walked))),
      )

pub woven_keeps_names : WovenKeepsNames
woven_keeps_names p i can = all_limits p i can

pub woven_breaks_limits : WovenBreaksLimitsAlone
woven_breaks_limits p i can rule item first =
    let listed : Each (OnlyLimits (woven p i)) (first.before ++ first.site ∷ first.after) = subst (Each (OnlyLimits (woven p i))) first.in_order (all_limits p i can) in
    (each_right (OnlyLimits (woven p i)) first.before (first.site ∷ first.after) listed).0 rule first.broken

pub woven_accepted : WovenIsAccepted
woven_accepted p i can within =
    with_both (OnlyLimits (woven p i)) (IsWithin (woven p i)) (IsKept (woven p i)) (sites (woven p i)) (λ site only in_limits rule b. in_limits (subst (λ r. Breaks (woven p i) r site) (only rule b) b))
    (all_limits p i can) within
