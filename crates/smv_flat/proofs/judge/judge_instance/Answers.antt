-- The items one after another.
use Rattle.std.proofs.Common.{ℕ, ◌<◌, ◌≤◌, subst}
use Rattle.smv_flat.specs.Assignments.{IsPlaceTold}
use Rattle.smv_scope.specs.SceneTree.{program_of}
use Rattle.smv_flat.proofs.JudgeInstances.{none_so_far, one_more_item, first_item, all_items}
use Rattle.smv_flat.proofs.judge.judge_instance.Goals as goal

pub loop-place-init : goal.loop-place-init
loop-place-init c = none_so_far (program_of c.args.scope.now.scene) c.args.spot c.new-assigned.result.entries c.new-assigned.ensures.empty

pub loop-place-preserved : goal.loop-place-preserved
loop-place-preserved c =
    one_more_item c.args.scope.now.scene c.requires.scope.1.scene c.args.spot c.loop-place.place c.loop-place.assigned.entries c.judge_place.new.assigned.entries
    (subst (λ (n : ℕ). c.loop-place.place < n) (c.item_count-place-end.ensures.count c.requires.scope.1.scene) c.loop-place-test.true)
    (subst (IsPlaceTold (program_of c.args.scope.now.scene) c.args.spot c.loop-place.place c.loop-place.assigned.entries c.judge_place.new.assigned.entries) c.in_default.is c.in_ok-fault.ensures)
    c.loop-place.invariant

pub returns-in-Some : goal.returns-in-Some
returns-in-Some c =
    first_item c.args.scope.now.scene c.requires.scope.1.scene c.args.spot c.loop-place.place c.loop-place.assigned.entries c.judge_place.new.assigned.entries
    (subst (λ (n : ℕ). c.loop-place.place < n) (c.item_count-place-end.ensures.count c.requires.scope.1.scene) c.loop-place-test.true)
    c.in-Some.fault
    (subst (IsPlaceTold (program_of c.args.scope.now.scene) c.args.spot c.loop-place.place c.loop-place.assigned.entries c.judge_place.new.assigned.entries) c.in-Some.is c.in_ok-fault.ensures)
    c.loop-place.invariant

pub returns : goal.returns
returns c =
    all_items (program_of c.args.scope.now.scene) c.args.spot c.loop-place.place c.loop-place.assigned.entries
    (subst (λ (n : ℕ). n ≤ c.loop-place.place) (c.item_count-place-end.ensures.count c.requires.scope.1.scene) c.loop-place-test.false) c.loop-place.invariant
