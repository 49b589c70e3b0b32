-- The item at a place, with its number.
use Rattle.std.proofs.Common.{subst}
use Rattle.smv_flat.specs.Assignments.{IsItemTold}
use Rattle.smv_scope.specs.ItemTree.{item_tree}
use Rattle.smv_scope.specs.SceneTree.{program_of}
use Rattle.smv_flat.proofs.JudgeInstances.{no_item, kept_item, broken_item}
use Rattle.smv_flat.proofs.judge.judge_place.Goals as goal

pub returns-in_default : goal.returns-in_default
returns-in_default c = no_item (program_of c.args.scope.now.scene) c.args.spot c.args.place c.args.assigned.now.entries (c.in_default.ensures.item c.requires.scope.1.scene)

pub returns-in_default-2 : goal.returns-in_default-2
returns-in_default-2 c =
    kept_item (program_of c.args.scope.now.scene) c.args.spot c.args.place c.in-Some.number (item_tree c.in-Some.item) c.args.assigned.now.entries c.judge_item.new.assigned.entries
    (c.in-Some.ensures.item c.requires.scope.1.scene)
    (subst (IsItemTold (program_of c.args.scope.now.scene) c.args.spot c.args.place c.args.assigned.now.entries c.judge_item.new.assigned.entries (item_tree c.in-Some.item)) c.in_default-2.is c.in_ok-rule.ensures)

pub returns : goal.returns
returns c =
    broken_item (program_of c.args.scope.now.scene) c.args.spot c.args.place c.in-Some.number (item_tree c.in-Some.item) c.args.assigned.now.entries c.judge_item.new.assigned.entries
    (c.in-Some.ensures.item c.requires.scope.1.scene) c.in-Some-2.rule
    (subst (IsItemTold (program_of c.args.scope.now.scene) c.args.spot c.args.place c.args.assigned.now.entries c.judge_item.new.assigned.entries (item_tree c.in-Some.item)) c.in-Some-2.is c.in_ok-rule.ensures)
