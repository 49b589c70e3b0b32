use Rattle.std.proofs.Common.{◌≡◌, map, subst}
use Rattle.verb_command_line.specs.declared.command.Command.TheVariants as ask
use Rattle.verb_command_line.specs.Meaning.{Means}
use Rattle.verb_command_line.specs.CommandView.{seen}
use Rattle.verb_tops.proofs.AnsweredLaws.{words_answered, words_refused}
use Rattle.verb_tops.proofs.run.answer.Goals as goal

pub returns-in-Ok-Analyse-clause-answered : goal.returns-in-Ok-Analyse-clause-answered
returns-in-Ok-Analyse-clause-answered g c answer =
    let a = c.in-Ok-Analyse.asked in
    let same : c.in-Ok-Analyse.field-0 ≡ ask.Analyse a = cc in
    words_answered (map (λ w. w.now) c.args.words.now) _ _ _ _ c.analyse_each.result a.model.now a.faults.now a.top.now a.extended.now a.cert.now a.depth a.size
    (subst (λ x. Means (map (λ w. w.now) c.args.words.now) (seen x)) same c.in-Ok-Analyse.ensures.ok) (c.analyse_each.ensures.answered answer)

pub returns-in-Ok : goal.returns-in-Ok
returns-in-Ok g c =
    record {
      answered = λ answer. words_refused (map (λ w. w.now) c.args.words.now) _ _ _ _ c.reject.result _ c.reject.ensures.ends c.reject.ensures.said c.reject.ensures.stays.files answer;
      failed = c.reject.ensures.failed;
      later = c.reject.ensures.stays.later;
      quiet = c.reject.ensures.stays.quiet;
    }

pub returns-in-Err-clause-answered : goal.returns-in-Err-clause-answered
returns-in-Err-clause-answered g c answer =
    words_refused (map (λ w. w.now) c.args.words.now) _ _ _ _ c.reject-in-Err.result c.in-Err.fault c.reject-in-Err.ensures.ends c.reject-in-Err.ensures.said c.reject-in-Err.ensures.stays.files answer
