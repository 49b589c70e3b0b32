-- The formals of one instance more.
use Rattle.std.proofs.Common.{◌≡◌, length, rules, sym, subst}
use Rattle.smv_scope.specs.SceneTree.{program_of}
use Rattle.smv_scope.specs.KnownFormals.{AreTold}
use Rattle.smv_scope.proofs.Unknowns.{unknown_more, unknown_told}
use Rattle.smv_scope.proofs.names.Scene.add_formals.Goals as goal

pub loop-spot-preserved : goal.loop-spot-preserved
loop-spot-preserved c = record {
  same = search rules;
  unknown =
      unknown_more c.args.self.now c.loop-spot.self c.loop-spot.spot c.push_formals.new.self.formals.items c.in_ok-formals.formals c.formals_of-count.result c.loop-spot.invariant.same c.loop-spot.invariant.unknown
      c.in_ok-push_formals.ensures.pushed c.in_ok-formals.ensures c.formals_of-count.ensures;
}

pub returns-clause-told : goal.returns-clause-told
returns-clause-told c =
    let all : c.loop-spot.spot ≡ length c.args.self.now.spots.items = search rules in
    subst (AreTold (program_of c.args.self.now)) (sym c.loop-spot.invariant.unknown) (unknown_told c.args.self.now c.requires.laid c.loop-spot.spot all)
