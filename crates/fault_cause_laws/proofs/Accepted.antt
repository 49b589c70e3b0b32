-- The two lamps break no rule, and their instructions none.
use Rattle.std.proofs.Common.{ℕ, ◌≤◌, arith, [], ◌∷◌, ◌++◌, List, refl}
use Rattle.std.specs.Prelude.{codes}
use Rattle.smv_language.specs.Language.{Text, boolean, instance, DeclTree, Place, state, Each}
use Rattle.smv_flat_laws.specs.Items.{Item, a_declaration, NumberedModule, Visit, visits}
use Rattle.smv_flat_laws.specs.Rules.{no_main, main_has_parameters, double_module, double_name, no_such_module, wrong_count, module_loop, define_loop, next_here, too_many, the_program, a_header, an_item, a_visit, a_use, visit_sites, use_sites, instances_before, variables_before, SomeActualLoops, IsKept, IsAccepted}
use Rattle.fault_rules.specs.Sites.{item_sites}
use Rattle.fault_rules.specs.Rules.{broken_at}
use Rattle.fault_rules.specs.FirstBroken.{AllKept}
use Rattle.fault_cause_laws.specs.Lamps.{lamps, bulbs, lamp_module, main_module}
use Rattle.std.proofs.lemmas.Option.{none-some as never_some}
use Rattle.base_values.specs.declared.limits.TheConstants.{MOST_INSTANCES, MOST_VARIABLES}

abbrev on_decl : DeclTree
on_decl = record { name = codes "on"; what = boolean }

abbrev lamp_decl : Text → DeclTree
lamp_decl x = record { name = x; what = instance (codes "Lamp") [] }

abbrev lamp_numbered : NumberedModule
lamp_numbered = record { number = 1; before = []; tree = lamp_module }

abbrev main_numbered : NumberedModule
main_numbered = record { number = 3; before = lamp_module ∷ []; tree = main_module }

program_kept : IsKept lamps the_program
program_kept no_main b = cc
program_kept other b = b

lamp_kept : IsKept lamps (a_header lamp_numbered)
lamp_kept main_has_parameters b = cc
lamp_kept double_module b = cc
lamp_kept double_name b = cc
lamp_kept other b = b

main_kept : IsKept lamps (a_header main_numbered)
main_kept main_has_parameters b = cc
main_kept double_module b = cc
main_kept double_name b = cc
main_kept other b = b

on_kept : IsKept lamps (an_item lamp_numbered (record { number = 2; before = []; item = a_declaration state on_decl }))
on_kept double_name b = cc
on_kept other b = b

a_kept : IsKept lamps (an_item main_numbered (record { number = 4; before = []; item = a_declaration state (lamp_decl (codes "a")) }))
a_kept double_name b = cc
a_kept other b = b

b_kept : IsKept lamps (an_item main_numbered (record { number = 5; before = a_declaration state (lamp_decl (codes "a")) ∷ []; item = a_declaration state (lamp_decl (codes "b")) }))
b_kept double_name b = cc
b_kept other b = b

-- the walk comes to a, to what is in it, to b, and to what is in it
abbrev lamp_visit : ℕ → Text → Visit
lamp_visit n x = record { place = []; on_path = codes "main" ∷ []; number = n; role = state; decl = lamp_decl x }

abbrev on_visit : Text → Visit
on_visit x = record { place = x ∷ []; on_path = codes "Lamp" ∷ codes "main" ∷ []; number = 2; role = state; decl = on_decl }

lamp_visited : (before : List Visit) (n : ℕ) (x : Text) → (MOST_INSTANCES ≤ instances_before before → ⊥) → IsKept lamps (a_visit before (lamp_visit n x))
lamp_visited before n x few no_such_module b = cc
lamp_visited before n x few wrong_count b = cc
lamp_visited before n x few module_loop b = cc
lamp_visited before n x few too_many b = few b
lamp_visited before n x few other b = b

on_visited : (before : List Visit) (x : Text) → (MOST_VARIABLES ≤ variables_before before → ⊥) → IsKept lamps (a_visit before (on_visit x))
on_visited before x few no_such_module b = cc
on_visited before x few wrong_count b = cc
on_visited before x few module_loop b = cc
on_visited before x few too_many b = few b
on_visited before x few other b = b

-- no actual stands there, and no expression
no_actual : (inside : Place) → SomeActualLoops lamps inside lamp_module [] → ⊥
no_actual inside s = never_some s.actual s.is_actual

lamp_used : (n : ℕ) (before : List Item) (x : Text) → IsKept lamps (a_use (record { place = []; module_name = codes "main" }) (record { number = n; before = before; item = a_declaration state (lamp_decl x) }))
lamp_used n before x define_loop b = no_actual (x ∷ []) b
lamp_used n before x next_here b = cc
lamp_used n before x other b = b

on_used : (x : Text) → IsKept lamps (a_use (record { place = x ∷ []; module_name = codes "Lamp" }) (record { number = 2; before = []; item = a_declaration state on_decl }))
on_used x next_here b = cc
on_used x other b = b

uses_kept : Each (IsKept lamps) (use_sites lamps)
uses_kept = (lamp_used 4 [] (codes "a"), (lamp_used 5 (a_declaration state (lamp_decl (codes "a")) ∷ []) (codes "b"), (on_used (codes "a"), (on_used (codes "b"), tt))))

abbrev in_a : List Visit
in_a = lamp_visit 4 (codes "a") ∷ on_visit (codes "a") ∷ []

visits_kept : Each (IsKept lamps) (visit_sites [] (visits lamps) ++ use_sites lamps)
visits_kept = (
  lamp_visited [] 4 (codes "a") (λ b. omega (arith, b)),
  (
    on_visited (lamp_visit 4 (codes "a") ∷ []) (codes "a") (λ b. omega (arith, b)),
    (lamp_visited in_a 5 (codes "b") (λ b. omega (arith, b)), (on_visited (in_a ++ lamp_visit 5 (codes "b") ∷ []) (codes "b") (λ b. omega (arith, b)), uses_kept)),
  ),
)

pub lamps_accepted : IsAccepted lamps
lamps_accepted = (program_kept, (lamp_kept, (on_kept, (main_kept, (a_kept, (b_kept, visits_kept))))))

pub bulbs_kept : AllKept (broken_at lamps) (item_sites bulbs)
bulbs_kept = (refl, (refl, (refl, tt)))
