-- One turn of the topmost look-up.
use Rattle.std.proofs.Common.{◌≡◌, [], ◌∷◌, ◌++◌, true, false, rules}
use Rattle.std.proofs.lemmas.Result.{on_ok_weaker}
use Rattle.smv_scope.specs.TableLookUps.{formal_at}
use Rattle.smv_scope.specs.Steps.{is_open}
use Rattle.smv_scope.proofs.Turns.{taken, taken_turn, gone_on, on_turned, waits_last, waits_formal, waits_open, ended_turn, ended_turned, open_from, not_open}
use Rattle.smv_scope.proofs.names.Scene.take_turn.Goals as goal

pub returns-then-not-is_open-clause-waiting : goal.returns-then-not-is_open-clause-waiting
returns-then-not-is_open-clause-waiting c = (taken c.args.self.now c.args.waiting.now.items c.args.frame c.requires).0

pub returns-then-not-is_open-clause-turn : goal.returns-then-not-is_open-clause-turn
returns-then-not-is_open-clause-turn c =
    let closed : is_open (formal_at c.args.self.now c.args.frame.spot c.args.frame.formal) ≡ false = search rules in
    taken_turn c.args.self.now c.args.waiting.now.items c.args.frame (not_open (formal_at c.args.self.now c.args.frame.spot c.args.frame.formal) closed)

pub go_on-requires-clause-frame : goal.go_on-requires-clause-frame
go_on-requires-clause-frame c = (taken c.args.self.now c.args.waiting.now.items c.args.frame c.requires).1

pub returns-in-Ended-clause-waiting : goal.returns-in-Ended-clause-waiting
returns-in-Ended-clause-waiting c =
    let opened : is_open (formal_at c.args.self.now c.args.frame.spot c.args.frame.formal) ≡ true = search rules in
    ended_turn c.args.self.now c.set_formal.new.self c.args.waiting.now.items c.args.frame c.in-Ended.meaning c.requires
    (open_from (formal_at c.args.self.now c.args.frame.spot c.args.frame.formal) opened) c.in-Ended.ensures c.set_formal.ensures.same c.set_formal.ensures.formals

pub returns-in-Ended-clause-turn : goal.returns-in-Ended-clause-turn
returns-in-Ended-clause-turn c =
    ended_turned c.args.self.now c.set_formal.new.self c.args.waiting.now.items c.args.frame c.in-Ended.meaning c.requires c.in-Ended.ensures c.set_formal.ensures.formals

pub wait_for-requires-clause-waiting : goal.wait_for-requires-clause-waiting
wait_for-requires-clause-waiting c =
    let pushed : c.push.new.self.items ≡ c.args.waiting.now.items ++ c.in-Waits.next ∷ [] = search rules in
    gone_on c.args.self.now c.args.waiting.now.items c.push.new.self.items c.args.frame c.in-Waits.next c.requires c.in-Waits.ensures.0 pushed

pub wait_for-requires-clause-last : goal.wait_for-requires-clause-last
wait_for-requires-clause-last c =
    let pushed : c.push.new.self.items ≡ c.args.waiting.now.items ++ c.in-Waits.next ∷ [] = search rules in
    waits_last c.args.self.now c.args.waiting.now.items c.push.new.self.items c.in-Waits.next c.in-Waits.formal c.in-Waits.ensures.1 pushed

pub wait_for-requires-clause-unanswered : goal.wait_for-requires-clause-unanswered
wait_for-requires-clause-unanswered c = record {
  there = waits_formal c.args.self.now c.in-Waits.next c.in-Waits.formal c.in-Waits.ensures.1;
  no_answer = waits_open c.args.self.now c.in-Waits.next c.in-Waits.formal c.in-Waits.ensures.1;
}

pub returns-in_ok-push-in-Waits-clause-turn : goal.returns-in_ok-push-in-Waits-clause-turn
returns-in_ok-push-in-Waits-clause-turn c =
    let pushed : c.push.new.self.items ≡ c.args.waiting.now.items ++ c.in-Waits.next ∷ [] = search rules in
    on_ok_weaker c.wait_for.result
    (λ turn. on_turned c.args.self.now c.wait_for.new.self c.args.waiting.now.items c.push.new.self.items c.wait_for.new.waiting.items c.args.frame c.in-Waits.next c.in-Waits.ensures.0 pushed turn)
    c.wait_for.ensures.turn
