use Rattle.std.proofs.Common.{ap, ◌∙◌}
use Rattle.base_files.specs.Desk.{said_more}
use Rattle.verb_run.specs.AnswerTexts.{extension_text}
use Rattle.verb_run.specs.Findings.{analysed_case}
use Rattle.verb_run.specs.Analyses.{part_of_extension}
use Rattle.verb_run.proofs.Concluded.{writes_later, whole_prefix, written_extension, has_analysed, analyses_in_part}
use Rattle.base_files.proofs.Stays.{later_on}
use Rattle.verb_run.proofs.analysis.deliver_analysis.Goals as goal

pub returns-in_err-found-clause-part : goal.returns-in_err-found-clause-part
returns-in_err-found-clause-part g c =
    let a = c.args.asked.now in
    let first = written_extension a c.requires.loaded.program _ _ _ _ c.in_ok-text.ensures.text c.deref.ensures.value c.in_ok-write_whole.ensures.ok in
    part_of_extension (whole_prefix _ _ a.extended.now (extension_text (analysed_case a)) first) c.write_whole.ensures.stays.said

pub returns-in_err-conclude-clause-part : goal.returns-in_err-conclude-clause-part
returns-in_err-conclude-clause-part g c =
    let a = c.args.asked.now in
    let first = written_extension a c.requires.loaded.program _ _ _ _ c.in_ok-text.ensures.text c.deref.ensures.value c.in_ok-write_whole.ensures.ok in
    analyses_in_part _ _ _ _ _ a.cert.now c.in_ok-found.found c.in_ok-found.ensures _ _ _ _ _ first _ c.write_whole.ensures.stays.said c.conclude.ensures.part

pub returns-clause-ok : goal.returns-clause-ok
returns-clause-ok g c =
    let a = c.args.asked.now in
    let first = written_extension a c.requires.loaded.program _ _ _ _ c.in_ok-text.ensures.text c.deref.ensures.value c.in_ok-write_whole.ensures.ok in
    has_analysed _ _ _ _ _ a.cert.now c.in_ok-found.found c.in_ok-found.ensures _ _ _ _ _ first c.ended_as.result c.ended_as.ensures.ends c.in_ok-conclude.ensures.ok.0
    (c.in_ok-conclude.ensures.ok.1 ∙ ap (λ t. said_more t c.in_ok-found.found.report) c.write_whole.ensures.stays.said)

pub returns-clause-part : goal.returns-clause-part
returns-clause-part g c =
    let a = c.args.asked.now in
    let first = written_extension a c.requires.loaded.program _ _ _ _ c.in_ok-text.ensures.text c.deref.ensures.value c.in_ok-write_whole.ensures.ok in
    analyses_in_part _ _ _ _ _ a.cert.now c.in_ok-found.found c.in_ok-found.ensures _ _ _ _ _ first _ c.write_whole.ensures.stays.said c.conclude.ensures.part

pub returns-in_err-found-clause-stays : goal.returns-in_err-found-clause-stays
returns-in_err-found-clause-stays g c = writes_later _ _ c.write_whole.ensures.stays

pub returns-in_err-conclude-clause-stays : goal.returns-in_err-conclude-clause-stays
returns-in_err-conclude-clause-stays g c = later_on _ _ _ (writes_later _ _ c.write_whole.ensures.stays) c.conclude.ensures.stays

pub returns-clause-stays : goal.returns-clause-stays
returns-clause-stays g c = later_on _ _ _ (writes_later _ _ c.write_whole.ensures.stays) c.conclude.ensures.stays
