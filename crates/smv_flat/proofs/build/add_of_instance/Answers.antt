-- One item more, or none.
use Rattle.std.proofs.Common.{rules, ◌+◌, ◌++◌, map, drop}
use Rattle.smv_scope.specs.SceneTree.{program_of, items_at}
use Rattle.smv_flat.specs.FormulaLists.{told, conditions_asked, asked_items, item_listed}
use Rattle.std.specs.Prelude.{slice_get}
use Rattle.smv_flat.proofs.BuildLoops.{appended, items_step}
use Rattle.smv_flat.proofs.build.add_of_instance.Goals as goal

pub loop-place-preserved : goal.loop-place-preserved
loop-place-preserved c =
    let s = c.args.scope.now.scene in let n = c.args.scope.now.needs in
    record {
      told = appended (map told c.add_of_item.new.list) (map told c.loop-place.list)
          (asked_items s n (conditions_asked c.args.asked) c.args.spot (item_listed (slice_get (items_at (program_of s) c.args.spot) c.loop-place.place)))
          (asked_items s n (conditions_asked c.args.asked) c.args.spot (drop (c.loop-place.place + 1) (items_at (program_of s) c.args.spot)))
          (asked_items s n (conditions_asked c.args.asked) c.args.spot (drop c.loop-place.place (items_at (program_of s) c.args.spot)))
          (map told c.args.list.now ++ asked_items s n (conditions_asked c.args.asked) c.args.spot (items_at (program_of s) c.args.spot))
          (search rules) (items_step s n (conditions_asked c.args.asked) c.args.spot c.loop-place.place (items_at (program_of s) c.args.spot)) c.loop-place.invariant.told;
      closed = search rules;
    }

pub loop-place-preserved-in_default : goal.loop-place-preserved-in_default
loop-place-preserved-in_default c =
    let s = c.args.scope.now.scene in let n = c.args.scope.now.needs in
    record {
      told = appended (map told c.loop-place.list) (map told c.loop-place.list)
          (asked_items s n (conditions_asked c.args.asked) c.args.spot (item_listed (slice_get (items_at (program_of s) c.args.spot) c.loop-place.place)))
          (asked_items s n (conditions_asked c.args.asked) c.args.spot (drop (c.loop-place.place + 1) (items_at (program_of s) c.args.spot)))
          (asked_items s n (conditions_asked c.args.asked) c.args.spot (drop c.loop-place.place (items_at (program_of s) c.args.spot)))
          (map told c.args.list.now ++ asked_items s n (conditions_asked c.args.asked) c.args.spot (items_at (program_of s) c.args.spot))
          (search rules) (items_step s n (conditions_asked c.args.asked) c.args.spot c.loop-place.place (items_at (program_of s) c.args.spot)) c.loop-place.invariant.told;
      closed = search rules;
    }
