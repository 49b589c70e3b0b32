-- One instance more.
use Rattle.std.proofs.Common.{rules, arith, ◌≡◌, [], ◌+◌, ◌<◌, ◌≤◌, ◌++◌, length, map, drop, ap, ◌∙◌, sym, append-nil}
use Rattle.smv_flat_laws.specs.Items.{instances_of}
use Rattle.smv_scope.specs.SceneTree.{program_of, items_at}
use Rattle.smv_flat.specs.FormulaLists.{told, conditions_asked, asked_items, asked_from}
use Rattle.smv_flat.proofs.BuildLoops.{appended, spots_step, spots_end, many_spots}
use Rattle.smv_flat.proofs.build.add_formulas.Goals as goal

pub loop-spot-preserved : goal.loop-spot-preserved
loop-spot-preserved c =
    let s = c.args.scope.now.scene in let n = c.args.scope.now.needs in
    let many : length (instances_of (program_of s)) ≡ length s.spots.items = many_spots s c.requires.scope.1.scene in
    let within : c.loop-spot.spot < length s.spots.items = search rules in
    let less : c.loop-spot.spot < length (instances_of (program_of s)) = omega (arith, many, within) in
    record {
      told = appended (map told c.add_of_instance.new.list) (map told c.loop-spot.list)
          (asked_items s n (conditions_asked c.args.asked) c.loop-spot.spot (items_at (program_of s) c.loop-spot.spot))
          (asked_from s n (conditions_asked c.args.asked) (c.loop-spot.spot + 1) (drop (c.loop-spot.spot + 1) (instances_of (program_of s))))
          (asked_from s n (conditions_asked c.args.asked) c.loop-spot.spot (drop c.loop-spot.spot (instances_of (program_of s))))
          (map told c.args.list.now ++ asked_from s n (conditions_asked c.args.asked) 0 (instances_of (program_of s)))
          (search rules) (spots_step s n (conditions_asked c.args.asked) c.loop-spot.spot less) c.loop-spot.invariant.told;
      closed = search rules;
    }

pub returns-clause-told : goal.returns-clause-told
returns-clause-told c =
    let s = c.args.scope.now.scene in let n = c.args.scope.now.needs in
    let many : length (instances_of (program_of s)) ≡ length s.spots.items = many_spots s c.requires.scope.1.scene in
    let past : length s.spots.items ≤ c.loop-spot.spot = search rules in
    let none : asked_from s n (conditions_asked c.args.asked) c.loop-spot.spot (drop c.loop-spot.spot (instances_of (program_of s))) ≡ [] =
    spots_end s n (conditions_asked c.args.asked) c.loop-spot.spot (omega (arith, many, past)) in
    sym (append-nil (map told c.loop-spot.list)) ∙ ap (λ ts. map told c.loop-spot.list ++ ts) (sym none) ∙ c.loop-spot.invariant.told
