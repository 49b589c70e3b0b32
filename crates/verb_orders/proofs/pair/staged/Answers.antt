use Rattle.std.proofs.Common.{Err, IsErrOf, length, subst, sym, ap, ◌∙◌}
use Rattle.std.proofs.lemmas.Result.{IfOk-weaker, err_from_is_err_and}
use Rattle.sat_encoding_laws.specs.FlatTraces.{IsNumbered}
use Rattle.cut_reach_laws.specs.Laws.{IsFaultNumber}
use Rattle.verb_loading.specs.declared.input.Stop.TheVariants as stops
use Rattle.verb_orders.specs.Pairs.{IsFirstOutside, outside, unlawful}
use Rattle.verb_orders.proofs.PairLaws.{number_of_fault}
use Rattle.verb_orders.proofs.pair.staged.Goals as goal
use Rattle.base_values.proofs.ResultLaws.{same_fault}

pub returns-in_err-judge_set-clause-refused : goal.returns-in_err-judge_set-clause-refused
returns-in_err-judge_set-clause-refused c r e =
    let exit = err_from_is_err_and c.from_residual.result c.from_residual.ensures.1 in
    let refused : IsErrOf c.judge_set.result (stops.Refused r) = c.in_err-judge_set.was ∙ ap (λ s. Err s) (sym exit.2 ∙ same_fault (sym exit.1 ∙ e)) in
    let bad = c.judge_set.ensures.refused r refused in
    outside bad.0 bad.1 (subst (λ n. IsFirstOutside n c.args.set.now bad.0) c.len.ensures bad.2)

pub returns-in_err-judge_set-clause-desk : goal.returns-in_err-judge_set-clause-desk
returns-in_err-judge_set-clause-desk c e =
    let exit = err_from_is_err_and c.from_residual.result c.from_residual.ensures.1 in
    let refused : IsErrOf c.judge_set.result stops.Desk = c.in_err-judge_set.was ∙ ap (λ s. Err s) (sym exit.2 ∙ same_fault (sym exit.1 ∙ e)) in
    c.judge_set.ensures.desk refused

pub staged_model-requires-clause-first : goal.staged_model-requires-clause-first
staged_model-requires-clause-first c =
    subst (λ n. IsFaultNumber n c.args.first) c.len.ensures (number_of_fault c.len.result c.args.set.now c.args.first c.in_ok-judge_set.ensures.ok c.requires.one)

pub staged_model-requires-clause-second : goal.staged_model-requires-clause-second
staged_model-requires-clause-second c =
    subst (λ n. IsFaultNumber n c.args.second) c.len.ensures (number_of_fault c.len.result c.args.set.now c.args.second c.in_ok-judge_set.ensures.ok c.requires.other)

pub returns-clause-ok : goal.returns-clause-ok
returns-clause-ok c =
    let numbered : IsNumbered (length c.args.limited.now.faults) c.args.set.now = subst (λ n. IsNumbered n c.args.set.now) c.len.ensures c.in_ok-judge_set.ensures.ok in
    IfOk-weaker c.staged_model.result _ _
    (λ t h. record {
      model = h.0;
      typed = h.1;
      one = number_of_fault (length c.args.limited.now.faults) c.args.set.now c.args.first numbered c.requires.one;
      other = number_of_fault (length c.args.limited.now.faults) c.args.set.now c.args.second numbered c.requires.other;
      numbered = numbered;
    })
    c.staged_model.ensures.ok

pub returns-clause-refused : goal.returns-clause-refused
returns-clause-refused c r e =
    let numbered : IsNumbered (length c.args.limited.now.faults) c.args.set.now = subst (λ n. IsNumbered n c.args.set.now) c.len.ensures c.in_ok-judge_set.ensures.ok in
    let bad = c.staged_model.ensures.refused r e in
    unlawful bad.0 bad.1 numbered (number_of_fault (length c.args.limited.now.faults) c.args.set.now c.args.first numbered c.requires.one)
    (number_of_fault (length c.args.limited.now.faults) c.args.set.now c.args.second numbered c.requires.other) bad.2
