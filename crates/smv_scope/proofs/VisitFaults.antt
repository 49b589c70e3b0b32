-- What is told of visits is the first broken rule.
use Rattle.std.proofs.Common.{◌≡◌, ℕ, ◌+◌, ◌<◌, ◌≤◌, arith, nat_le, Bool, true, false, List, [], ◌∷◌, ◌++◌, length, Option, Some, None, refl, ap, ◌∙◌, sym, subst}
use Rattle.std.specs.Prelude.{IfSome, flat_map}
use Rattle.std.proofs.lemmas.Bool.{leb-true, le-leb}
use Rattle.std.proofs.lemmas.List.{length-append}
use Rattle.base_values.specs.declared.limits.TheConstants.{MOST_INSTANCES, MOST_VARIABLES}
use Rattle.smv_language.specs.Language.{DeclaredTree, boolean, range, members, instance, ProgramTree, Place}
use Rattle.smv_flat_laws.specs.Items.{Visit, visits, instance_declared, variable_declared}
use Rattle.smv_flat_laws.specs.Rules.{Rule, no_main, main_has_parameters, double_module, double_name, no_such_module, wrong_count, module_loop, no_such_name, not_a_target, double_assign, define_loop, next_here, input_here, too_many, number_of, Site, the_program, a_visit, module_sites, visit_sites, use_sites, is_missing_instance, is_miscounted, is_on_path, instances_before, variables_before, PassesLimit, Breaks, IsKept, IsFirstBroken, IsWalkable}
use Rattle.smv_flat_laws.proofs.FaultLaws.{IsLowest, IsFirstOf, Outcome, first_broken, in_part, after_part}
use Rattle.smv_scope.specs.declared.fault.FlatFault.{FlatFault}
use Rattle.smv_scope.specs.declared.modules.Modules.{Modules}
use Rattle.smv_scope.specs.Faults.{rule_of, IsFaultOf}
use Rattle.smv_scope.specs.ModuleFaults.{Told, told_if, told_first, IsTold}
use Rattle.smv_scope.specs.SceneTree.{AreModules}
use Rattle.smv_scope.specs.InstanceWalk.{calls_declared, passes_limit, visits_told, program_in}
use Rattle.smv_flat_laws.proofs.VariableCounts.{variables_and}
use Rattle.smv_language.proofs.ListLaws.{flat_end}
use Rattle.smv_language.proofs.BoolLaws.{never}

limit_passed : (before : List Visit) (what : DeclaredTree) → passes_limit (instances_before before) (variables_before before) what ≡ true → PassesLimit before what
limit_passed before boolean e = leb-true MOST_VARIABLES (variables_before before) e
limit_passed before (range lo hi) e = leb-true MOST_VARIABLES (variables_before before) e
limit_passed before (members ms) e = leb-true MOST_VARIABLES (variables_before before) e
limit_passed before (instance m actuals) e = leb-true MOST_INSTANCES (instances_before before) e

below : (a b : ℕ) → nat_le a b ≡ false → a ≤ b → ⊥
below a b e most = let yes : nat_le a b ≡ true = le-leb a b most in let bad : true ≡ false = sym yes ∙ e in cc

limit_kept : (before : List Visit) (what : DeclaredTree) → passes_limit (instances_before before) (variables_before before) what ≡ false → PassesLimit before what → ⊥
limit_kept before boolean e h = below MOST_VARIABLES (variables_before before) e h
limit_kept before (range lo hi) e h = below MOST_VARIABLES (variables_before before) e h
limit_kept before (members ms) e h = below MOST_VARIABLES (variables_before before) e h
limit_kept before (instance m actuals) e h = below MOST_INSTANCES (instances_before before) e h

module _ (p : ProgramTree) (before : List Visit) (v : Visit) where
  abbrev Missing : Bool
  Missing = is_missing_instance p v.decl.what

  abbrev Miscounted : Bool
  Miscounted = is_miscounted p v.decl.what

  abbrev Inside : Bool
  Inside = is_on_path v.on_path v.decl.what

  lower : (limit : ℕ) → limit ≤ 14 → (5 < limit → Missing ≡ false) → (6 < limit → Miscounted ≡ false) → (7 < limit → Inside ≡ false) →
      (other : Rule) → number_of other < limit → Breaks p other (a_visit before v) → ⊥
  lower limit most a b c no_main less h = h
  lower limit most a b c main_has_parameters less h = h
  lower limit most a b c double_module less h = h
  lower limit most a b c double_name less h = h
  lower limit most a b c no_such_module less h = never Missing (a less) h
  lower limit most a b c wrong_count less h = never Miscounted (b less) h
  lower limit most a b c module_loop less h = never Inside (c less) h
  lower limit most a b c no_such_name less h = h
  lower limit most a b c not_a_target less h = h
  lower limit most a b c double_assign less h = h
  lower limit most a b c define_loop less h = h
  lower limit most a b c next_here less h = h
  lower limit most a b c input_here less h = h
  lower limit most a b c too_many less h = absurd (omega (arith, less, most))

  visit_kept : Missing ≡ false → Miscounted ≡ false → Inside ≡ false → (PassesLimit before v.decl.what → ⊥) → IsKept p (a_visit before v)
  visit_kept a b c d no_main h = h
  visit_kept a b c d main_has_parameters h = h
  visit_kept a b c d double_module h = h
  visit_kept a b c d double_name h = h
  visit_kept a b c d no_such_module h = never Missing a h
  visit_kept a b c d wrong_count h = never Miscounted b h
  visit_kept a b c d module_loop h = never Inside c h
  visit_kept a b c d no_such_name h = h
  visit_kept a b c d not_a_target h = h
  visit_kept a b c d double_assign h = h
  visit_kept a b c d define_loop h = h
  visit_kept a b c d next_here h = h
  visit_kept a b c d input_here h = h
  visit_kept a b c d too_many h = d h

  here : (ss : List Site) (rule : Rule) → IsLowest p (a_visit before v) rule → IsFirstOf p rule v.number (a_visit before v ∷ ss)
  here ss rule h = record { before = []; site = a_visit before v; after = ss; in_order = refl; kept_before = tt; lowest = h; at_item = refl }

  visit_step : (ss : List Site) (o : Told) (a b c d : Bool) → Missing ≡ a → Miscounted ≡ b → Inside ≡ c → passes_limit (instances_before before) (variables_before before) v.decl.what ≡ d → Outcome p ss o →
      Outcome p (a_visit before v ∷ ss)
      (told_first (told_first (told_if a no_such_module v.number) (told_first (told_if b wrong_count v.number) (told_first (told_if c module_loop v.number) (told_if d too_many v.number)))) o)
  visit_step ss o true b c d e f g k h =
      here ss no_such_module (record { broken = e; lowest = lower 5 (omega arith) (λ less. absurd (omega (arith, less))) (λ less. absurd (omega (arith, less))) (λ less. absurd (omega (arith, less))) })
  visit_step ss o false true c d e f g k h =
      here ss wrong_count (record { broken = f; lowest = lower 6 (omega arith) (λ less. e) (λ less. absurd (omega (arith, less))) (λ less. absurd (omega (arith, less))) })
  visit_step ss o false false true d e f g k h =
      here ss module_loop (record { broken = g; lowest = lower 7 (omega arith) (λ less. e) (λ less. f) (λ less. absurd (omega (arith, less))) })
  visit_step ss o false false false true e f g k h =
      here ss too_many (record { broken = limit_passed before v.decl.what k; lowest = lower 14 (omega arith) (λ less. e) (λ less. f) (λ less. g) })
  visit_step ss o false false false false e f g k h =
      after_part p (a_visit before v ∷ []) ss o (visit_kept e f g (limit_kept before v.decl.what k), tt) h

same_number : (at at' : Place) (what : DeclaredTree) → length (instance_declared at what) ≡ length (calls_declared at' what)
same_number at at' boolean = refl
same_number at at' (range lo hi) = refl
same_number at at' (members ms) = refl
same_number at at' (instance m actuals) = refl

more_instances : (before : List Visit) (v : Visit) → instances_before (before ++ v ∷ []) ≡ instances_before before + length (calls_declared (v.decl.name ∷ v.place) v.decl.what)
more_instances before v =
    let count : length (flat_map (λ (w : Visit). instance_declared w.place w.decl.what) (before ++ v ∷ []))
    ≡ length (flat_map (λ (w : Visit). instance_declared w.place w.decl.what) before) + length (instance_declared v.place v.decl.what) =
    ap length (flat_end (λ (w : Visit). instance_declared w.place w.decl.what) before v) ∙ length-append (flat_map (λ (w : Visit). instance_declared w.place w.decl.what) before) (instance_declared v.place v.decl.what) in
    omega (arith, count, same_number v.place (v.decl.name ∷ v.place) v.decl.what)

visits_outcome : (p : ProgramTree) (before vs : List Visit) → Outcome p (visit_sites before vs) (visits_told p (instances_before before) (variables_before before) vs)
visits_outcome p before [] = tt
visits_outcome p before (v ∷ vs) =
    visit_step p before v (visit_sites (before ++ v ∷ []) vs)
    (visits_told p (instances_before before + length (calls_declared (v.decl.name ∷ v.place) v.decl.what)) (variables_before before + length (variable_declared v v.decl.what)) vs)
    (Missing p before v) (Miscounted p before v) (Inside p before v) (passes_limit (instances_before before) (variables_before before) v.decl.what) refl refl refl refl
    (subst (λ (n : ℕ). Outcome p (visit_sites (before ++ v ∷ []) vs) (visits_told p n (variables_before before + length (variable_declared v v.decl.what)) vs)) (more_instances before v)
    (subst (λ (n : ℕ). Outcome p (visit_sites (before ++ v ∷ []) vs) (visits_told p (instances_before (before ++ v ∷ [])) n vs)) (variables_and before v)
    (visits_outcome p (before ++ v ∷ []) vs)))

pub walkable : (ms : Modules) → AreModules ms → visits_told (program_in ms) 1 0 (visits (program_in ms)) ≡ None → IsWalkable (program_in ms)
walkable ms known e = record {
  program = known.program_kept;
  modules = known.kept;
  visits = subst (λ (o : Told). Outcome (program_in ms) (visit_sites [] (visits (program_in ms))) o) e (visits_outcome (program_in ms) [] (visits (program_in ms)));
}

pub visits_fault : (ms : Modules) (f : FlatFault) → AreModules ms → IsTold (visits_told (program_in ms) 1 0 (visits (program_in ms))) f → IsFaultOf (program_in ms) f
visits_fault ms f known h = by_rule (rule_of f.rule) h
  where
    by_rule : (r : Option Rule) → IfSome r (λ rule. visits_told (program_in ms) 1 0 (visits (program_in ms)) ≡ Some (rule, f.item)) → IfSome r (λ rule. IsFirstBroken (program_in ms) rule f.item)
    by_rule None k = tt
    by_rule (Some rule) k =
        first_broken (program_in ms) rule f.item
        (after_part (program_in ms) (the_program ∷ module_sites (program_in ms)) (visit_sites [] (visits (program_in ms)) ++ use_sites (program_in ms)) (Some (rule, f.item)) (known.program_kept, known.kept)
        (in_part (program_in ms) (visit_sites [] (visits (program_in ms))) (use_sites (program_in ms)) rule f.item
        (subst (λ (o : Told). Outcome (program_in ms) (visit_sites [] (visits (program_in ms))) o) k (visits_outcome (program_in ms) [] (visits (program_in ms))))))
