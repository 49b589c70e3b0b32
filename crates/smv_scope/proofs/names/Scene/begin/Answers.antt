-- A look-up begins.
use Rattle.std.proofs.Common.{◌≡◌, [], ◌∷◌, ◌++◌, rules}
use Rattle.smv_scope.proofs.Turns.{begun, begun_has, begun_turned}
use Rattle.smv_scope.proofs.names.Scene.begin.Goals as goal

pub returns-clause-waiting : goal.returns-clause-waiting
returns-clause-waiting c =
    let pushed : c.push.new.self.items ≡ c.args.waiting.now.items ++ c.frame_of-frame.result ∷ [] = search rules in
    begun c.args.self.now c.set_formal.new.self c.args.waiting.now.items c.push.new.self.items c.frame_of-frame.result c.args.spot c.args.formal c.requires.waiting c.requires.last c.requires.unanswered.there c.requires.unanswered.no_answer
    c.frame_of-frame.ensures.frame c.frame_of-frame.ensures.spot c.frame_of-frame.ensures.formal c.set_formal.ensures.same c.set_formal.ensures.formals pushed

pub returns-clause-begun : goal.returns-clause-begun
returns-clause-begun c =
    let pushed : c.push.new.self.items ≡ c.args.waiting.now.items ++ c.frame_of-frame.result ∷ [] = search rules in
    begun_has c.args.waiting.now.items c.push.new.self.items c.frame_of-frame.result c.args.spot c.args.formal c.frame_of-frame.ensures.spot c.frame_of-frame.ensures.formal pushed

pub returns-clause-turn : goal.returns-clause-turn
returns-clause-turn c =
    let pushed : c.push.new.self.items ≡ c.args.waiting.now.items ++ c.frame_of-frame.result ∷ [] = search rules in
    begun_turned c.args.self.now c.set_formal.new.self c.args.waiting.now.items c.push.new.self.items c.frame_of-frame.result c.args.spot c.args.formal c.requires.unanswered.no_answer c.requires.fresh
    c.frame_of-frame.ensures.spot c.frame_of-frame.ensures.formal c.set_formal.ensures.formals pushed
