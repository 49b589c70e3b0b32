-- The instances one after another.
use Rattle.std.proofs.Common.{◌≡◌, ◌<◌, ◌≤◌, length, rules, subst, true}
use Rattle.std.specs.Option.{is_some}
use Rattle.smv_scope.specs.SceneTree.{program_of}
use Rattle.smv_scope.specs.Likes.{like_at}
use Rattle.smv_flat.specs.Verdicts.{IsInstanceTold}
use Rattle.smv_flat.proofs.JudgeInstances.{one_more_instance, passed_over, first_instance, all_instances}
use Rattle.smv_flat.proofs.judge.judge.Goals as goal

pub loop-spot-preserved-then-is_some : goal.loop-spot-preserved-then-is_some
loop-spot-preserved-then-is_some c =
    let within : c.loop-spot.spot < length c.args.scope.now.scene.spots.items = search rules in
    let known : c.at.result ≡ like_at c.in_ok-likes.likes.of.items c.loop-spot.spot = search rules in
    let some : is_some c.at.result ≡ true = search rules in
    passed_over c.args.scope.now.scene c.requires.scope.1.scene c.in_ok-likes.likes.of.items c.in_ok-likes.ensures.likes c.loop-spot.spot within c.at.result known some c.loop-spot.invariant

pub loop-spot-preserved : goal.loop-spot-preserved
loop-spot-preserved c =
    let within : c.loop-spot.spot < length c.args.scope.now.scene.spots.items = search rules in
    one_more_instance c.args.scope.now.scene c.requires.scope.1.scene c.loop-spot.spot within
    (subst (IsInstanceTold (program_of c.args.scope.now.scene) c.loop-spot.spot) c.in-Ok-None.field-0-is c.in-Ok-None.ensures) c.loop-spot.invariant

pub returns-in-Ok-Some : goal.returns-in-Ok-Some
returns-in-Ok-Some c =
    let within : c.loop-spot.spot < length c.args.scope.now.scene.spots.items = search rules in
    record {
      kept = tt;
      fault = first_instance c.args.scope.now.scene c.requires.scope.1.scene c.loop-spot.spot within c.in-Ok-Some.fault
          (subst (IsInstanceTold (program_of c.args.scope.now.scene) c.loop-spot.spot) c.in-Ok-Some.field-0-is c.in-Ok-Some.ensures) c.loop-spot.invariant;
    }

pub returns-clause-kept : goal.returns-clause-kept
returns-clause-kept c =
    let past : length c.args.scope.now.scene.spots.items ≤ c.loop-spot.spot = search rules in
    all_instances c.args.scope.now.scene c.requires.scope.1.scene c.loop-spot.spot past c.loop-spot.invariant
