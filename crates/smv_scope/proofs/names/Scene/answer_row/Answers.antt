-- A formal of the instance.
use Rattle.std.proofs.Common.{◌≡◌, true, false, ◌+◌, ◌<◌, ◌≤◌, rules, sym, subst}
use Rattle.smv_scope.specs.TableLookUps.{formal_at}
use Rattle.smv_scope.specs.Steps.{is_open, row_count}
use Rattle.smv_scope.specs.WaitingLookUps.{IsFormal}
use Rattle.smv_scope.proofs.Naming.{program_same}
use Rattle.smv_scope.proofs.Turns.{formal_there, open_from}
use Rattle.smv_scope.proofs.Answered.{RowTo, row_more, row_kept, row_done}
use Rattle.smv_scope.proofs.names.Scene.answer_row.Goals as goal
use Rattle.smv_scope.proofs.names.Scene.answer_row.Goals.{then-is_open+in_ok-answer_formal, else-is_open}

pub answer_formal-requires-clause-unanswered : goal.answer_formal-requires-clause-unanswered
answer_formal-requires-clause-unanswered c =
    let within : c.loop-formal.formal < row_count c.args.self.now c.args.spot = subst (λ n. c.loop-formal.formal < n) c.formal_count-formal-end.ensures c.loop-formal-test.true in
    let opened : is_open (formal_at c.loop-formal.self c.args.spot c.loop-formal.formal) ≡ true = search rules in
    record {
      there = subst (λ p. IsFormal p c.args.spot c.loop-formal.formal) (sym (program_same c.args.self.now c.loop-formal.self c.loop-formal.invariant.same.modules))
          (formal_there c.args.self.now c.requires c.args.spot c.loop-formal.formal within);
      no_answer = open_from (formal_at c.loop-formal.self c.args.spot c.loop-formal.formal) opened;
    }

pub loop-formal-preserved : goal.loop-formal-preserved
loop-formal-preserved c =
    let before : RowTo c.args.self.now c.loop-formal.self c.args.spot c.loop-formal.formal =
    record { same = c.loop-formal.invariant.same; ready = c.loop-formal.invariant.ready; settled = c.loop-formal.invariant.settled; answered = c.loop-formal.invariant.answered } in
    elim c.if-is_open.branch [
      | then-is_open+in_ok-answer_formal w ↦
          let after : RowTo c.args.self.now c.if-is_open.self c.args.spot (c.loop-formal.formal + 1) =
          row_more c.args.self.now c.loop-formal.self w.answer_formal.new.self c.if-is_open.self c.args.spot c.loop-formal.formal before w.in_ok-answer_formal.ensures.same w.in_ok-answer_formal.ensures.ready
          w.in_ok-answer_formal.ensures.settled w.in_ok-answer_formal.ensures.answered (search rules) in
          record { same = after.same; ready = after.ready; settled = after.settled; answered = after.answered }
      | else-is_open w ↦
          let told : is_open (formal_at c.loop-formal.self c.args.spot c.loop-formal.formal) ≡ false = search rules in
          let after : RowTo c.args.self.now c.if-is_open.self c.args.spot (c.loop-formal.formal + 1) =
          row_kept c.args.self.now c.loop-formal.self c.if-is_open.self c.args.spot c.loop-formal.formal before told (search rules) in
          record { same = after.same; ready = after.ready; settled = after.settled; answered = after.answered }
    ]

pub returns-clause-answered : goal.returns-clause-answered
returns-clause-answered c =
    let all : row_count c.args.self.now c.args.spot ≤ c.loop-formal.formal = search rules in
    row_done c.args.self.now c.loop-formal.self c.args.spot c.loop-formal.formal c.loop-formal.invariant.same c.requires c.loop-formal.invariant.ready all c.loop-formal.invariant.answered
