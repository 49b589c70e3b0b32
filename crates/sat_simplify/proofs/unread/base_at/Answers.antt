use Rattle.std.proofs.Common.{◌≤◌, ◌<◌, map, ap, length, ◌∙◌, arith}
use Rattle.std.specs.Option.{option_to_list}
use Rattle.sat_simplify.specs.Elimination.{unless_tautology}
use Rattle.sat_simplify.specs.Resolution.{each_once}
use Rattle.sat_simplify.specs.Unread.{compacted_at}
use Rattle.sat_simplify.proofs.UnreadLaws.{place_entered, all_entered}
use Rattle.sat_simplify.proofs.BaseLaws.{entered_none}
use Rattle.sat_simplify.proofs.unread.base_at.Goals as goal

pub loop-k-init : goal.loop-k-init
loop-k-init c = entered_none c.args.places (map (compacted_at c.args.places c.args.gaps.now c.args.list.now) c.args.at.now) c.new-base.result c.new-base.ensures.sound c.new-base.ensures.places c.new-base.ensures.slots

pub loop-k-preserved : goal.loop-k-preserved
loop-k-preserved c =
    let within : c.loop-k.k < length c.args.at.now = omega arith in
    place_entered c.args.places c.args.gaps.now c.args.list.now c.args.at.now c.loop-k.base c.add_some.new.self (option_to_list c.in_ok-one.one) c.loop-k.k c.lits_of.result.now c.in_ok-clause.clause within c.lits_of.ensures c.in_ok-clause.ensures c.loop-k.invariant
    (c.in_ok-one.ensures ∙ ap (λ l. unless_tautology (each_once l)) c.lits.ensures) c.in_ok-add_some.ensures

pub returns : goal.returns
returns c =
    let over : length c.args.at.now ≤ c.loop-k.k = omega arith in
    all_entered c.args.places c.args.gaps.now c.args.list.now c.args.at.now c.loop-k.base c.loop-k.k over c.loop-k.invariant
