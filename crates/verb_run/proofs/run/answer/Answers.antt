use Rattle.std.proofs.Common.{map, inr, sym, subst}
use Rattle.verb_command_line.specs.Meaning.{Means}
use Rattle.verb_command_line.specs.CommandView.{seen}
use Rattle.verb_run.proofs.ExtensionLemmas.{words_not_asked}
use Rattle.verb_run.proofs.OutcomeLemmas.{answers_words, stops_at_words, answers_carried, stops_carried}
use Rattle.verb_run.proofs.StatusLaws.{depth_asked, never_words, words_told, words_meant, words_unbounded}
use Rattle.verb_run.proofs.run.answer.Goals as goal

pub returns-in-Ok-clause-answered : goal.returns-in-Ok-clause-answered
returns-in-Ok-clause-answered g c answer =
    answers_carried _ _ _ _ _ (seen c.new.result) c.carry_out.result (subst (λ a. Means (map (λ w. w.now) c.args.words.now) (seen a)) (sym c.new.ensures) c.in-Ok.ensures.found) c.carry_out.ensures.answered answer

pub returns-in-Ok-clause-left : goal.returns-in-Ok-clause-left
returns-in-Ok-clause-left g c = stops_carried _ _ _ _ _ (seen c.new.result) (subst (λ a. Means (map (λ w. w.now) c.args.words.now) (seen a)) (sym c.new.ensures) c.in-Ok.ensures.found) c.carry_out.ensures.left

pub returns-in-Ok-clause-depth : goal.returns-in-Ok-clause-depth
returns-in-Ok-clause-depth g c command k means is =
    depth_asked (map (λ w. w.now) c.args.words.now) (seen c.new.result) command c.carry_out.result k (subst (λ a. Means (map (λ w. w.now) c.args.words.now) (seen a)) (sym c.new.ensures) c.in-Ok.ensures.found) means c.carry_out.ensures.status is

pub returns-in-Ok-clause-words : goal.returns-in-Ok-clause-words
returns-in-Ok-clause-words g c rule place answer broken = words_not_asked (map (λ w. w.now) c.args.words.now) (seen c.in-Ok.command) rule place c.in-Ok.ensures.found broken

pub returns-in-Ok-clause-meant : goal.returns-in-Ok-clause-meant
returns-in-Ok-clause-meant g c f is = never_words (seen c.new.result) c.carry_out.result f c.carry_out.ensures.status is

pub returns-in-Err-clause-answered : goal.returns-in-Err-clause-answered
returns-in-Err-clause-answered g c answer =
    answers_words _ _ _ _ (map (λ w. w.now) c.args.words.now) c.in-Err.fault c.reject.result c.in-Err.ensures.refused c.reject.ensures.ends c.reject.ensures.said c.reject.ensures.stays.files answer

pub returns-in-Err-clause-left : goal.returns-in-Err-clause-left
returns-in-Err-clause-left g c = inr (stops_at_words _ _ _ _ (map (λ w. w.now) c.args.words.now) c.in-Err.fault c.in-Err.ensures.refused c.reject.ensures.part c.reject.ensures.stays.files)

pub returns-in-Err-clause-depth : goal.returns-in-Err-clause-depth
returns-in-Err-clause-depth g c command k means is = words_unbounded (map (λ w. w.now) c.args.words.now) c.in-Err.fault c.reject.result c.in-Err.ensures.refused c.reject.ensures.ends k is

pub returns-in-Err-clause-words : goal.returns-in-Err-clause-words
returns-in-Err-clause-words g c = words_told (map (λ w. w.now) c.args.words.now) c.in-Err.fault c.reject.result c.in-Err.ensures.refused c.reject.ensures.ends

pub returns-in-Err-clause-meant : goal.returns-in-Err-clause-meant
returns-in-Err-clause-meant g c = words_meant (map (λ w. w.now) c.args.words.now) c.in-Err.fault c.reject.result c.in-Err.ensures.refused c.reject.ensures.ends
