-- One instance more, and all.
use Rattle.std.proofs.Common.{◌≡◌, ◌<◌, length, rules}
use Rattle.smv_scope.proofs.LikeLaws.{one_more, are_likes, are_found}
use Rattle.smv_scope.proofs.likes.Likes.of_scene.Goals as goal

pub loop-spot-preserved : goal.loop-spot-preserved
loop-spot-preserved c =
    let within : c.loop-spot.spot < length c.args.scene.now.spots.items = search rules in
    one_more c.args.scene.now c.requires c.loop-spot.spot c.loop-spot.likes.of.items c.loop-spot.firsts.items c.add.new.self.of.items c.add.new.firsts.items within c.in_ok-add.ensures.likes c.in_ok-add.ensures.firsts
    c.loop-spot.invariant

pub returns-clause-likes : goal.returns-clause-likes
returns-clause-likes c =
    let all : c.loop-spot.spot ≡ length c.args.scene.now.spots.items = search rules in
    are_likes c.args.scene.now c.requires c.loop-spot.spot c.loop-spot.likes.of.items c.loop-spot.firsts.items all c.loop-spot.invariant

pub returns-clause-found : goal.returns-clause-found
returns-clause-found c =
    let all : c.loop-spot.spot ≡ length c.args.scene.now.spots.items = search rules in
    are_found c.args.scene.now c.requires c.loop-spot.spot c.loop-spot.likes.of.items c.loop-spot.firsts.items all c.loop-spot.invariant
