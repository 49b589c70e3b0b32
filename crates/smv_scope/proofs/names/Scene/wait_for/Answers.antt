-- A circle closes.
use Rattle.std.proofs.Common.{◌≡◌, true, ◌&&◌, rules, subst}
use Rattle.smv_scope.specs.TableLookUps.{formal_at}
use Rattle.smv_scope.specs.Steps.{is_begun}
use Rattle.smv_scope.specs.KnownFormals.{rows}
use Rattle.smv_scope.specs.WaitingLookUps.{has_frame, IsCircled}
use Rattle.smv_scope.proofs.Turns.{circle_closed, circle_turned}
use Rattle.smv_scope.proofs.names.Scene.wait_for.Goals as goal
use Rattle.smv_language.proofs.BoolLaws.{right_true}

pub returns-then-comes_back-clause-waiting : goal.returns-then-comes_back-clause-waiting
returns-then-comes_back-clause-waiting c =
    circle_closed c.args.self.now c.close_circle.new.self c.args.waiting.now.items c.args.spot c.args.formal c.requires.waiting c.requires.last c.close_circle.ensures.same
    (subst (λ fs. IsCircled (rows c.args.self.now) (rows c.close_circle.new.self) fs c.args.spot c.args.formal) c.deref-then-comes_back.ensures.value c.close_circle.ensures.circle)

pub returns-then-comes_back-clause-turn : goal.returns-then-comes_back-clause-turn
returns-then-comes_back-clause-turn c =
    let both : (is_begun (formal_at c.args.self.now c.args.spot c.args.formal) && has_frame c.args.waiting.now.items c.args.spot c.args.formal) ≡ true = search rules in
    circle_turned c.args.self.now c.close_circle.new.self c.args.waiting.now.items c.args.spot c.args.formal c.requires.waiting c.requires.unanswered.there c.requires.unanswered.no_answer
    (right_true (is_begun (formal_at c.args.self.now c.args.spot c.args.formal)) (has_frame c.args.waiting.now.items c.args.spot c.args.formal) both)
    (subst (λ fs. IsCircled (rows c.args.self.now) (rows c.close_circle.new.self) fs c.args.spot c.args.formal) c.deref-then-comes_back.ensures.value c.close_circle.ensures.circle)
