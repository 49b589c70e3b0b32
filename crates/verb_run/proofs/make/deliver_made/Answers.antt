use Rattle.std.proofs.Common.{◌∙◌}
use Rattle.verb_run.proofs.MakeLaws.{model_in_part, faults_in_part, files_in_part, summary_in_part, summary_whole, has_made}
use Rattle.base_files.proofs.Stays.{says_later, later_on}
use Rattle.verb_run.proofs.Concluded.{writes_later}
use Rattle.verb_run.proofs.make.deliver_made.Goals as goal

pub returns-in_err-write_whole-clause-part : goal.returns-in_err-write_whole-clause-part
returns-in_err-write_whole-clause-part g c = model_in_part c.args.asked.now c.requires _ _ _ _ _ c.deref.ensures.value c.in_err-write_whole.ensures.err c.write_whole.ensures.stays.said

pub returns-in_err-write_whole-2-clause-part : goal.returns-in_err-write_whole-2-clause-part
returns-in_err-write_whole-2-clause-part g c =
    faults_in_part c.args.asked.now c.requires _ _ _ _ _ c.deref.ensures.value _ _ c.deref-2.ensures.value c.in_ok-write_whole.ensures.ok c.in_err-write_whole-2.ensures.err
    (c.write_whole-2.ensures.stays.said ∙ c.write_whole.ensures.stays.said)

pub returns-in_err-found-clause-part : goal.returns-in_err-found-clause-part
returns-in_err-found-clause-part g c =
    files_in_part c.args.asked.now c.requires _ _ _ _ _ c.deref.ensures.value _ _ c.deref-2.ensures.value c.in_ok-write_whole.ensures.ok c.in_ok-write_whole-2.ensures.ok
    (c.write_whole-2.ensures.stays.said ∙ c.write_whole.ensures.stays.said)

pub returns-in_err-say_whole-clause-part : goal.returns-in_err-say_whole-clause-part
returns-in_err-say_whole-clause-part g c =
    summary_in_part c.args.asked.now c.requires _ _ _ _ _ c.deref.ensures.value _ _ c.deref-2.ensures.value c.in_ok-write_whole.ensures.ok (c.say_whole.ensures.stays.files ∙ c.in_ok-write_whole-2.ensures.ok)
    c.in_ok-found.found c.in_ok-found.ensures _ c.as_slice.ensures _ (c.write_whole-2.ensures.stays.said ∙ c.write_whole.ensures.stays.said) c.in_err-say_whole.ensures.err

pub returns-clause-ok : goal.returns-clause-ok
returns-clause-ok g c =
    has_made c.args.asked.now c.requires _ _ _ _ _ c.deref.ensures.value _ _ c.deref-2.ensures.value c.in_ok-write_whole.ensures.ok (c.say_whole.ensures.stays.files ∙ c.in_ok-write_whole-2.ensures.ok)
    c.in_ok-found.found c.in_ok-found.ensures _ c.as_slice.ensures _ (c.write_whole-2.ensures.stays.said ∙ c.write_whole.ensures.stays.said) c.ended_as.result c.ended_as.ensures.ends c.in_ok-say_whole.ensures.ok

pub returns-clause-part : goal.returns-clause-part
returns-clause-part g c =
    summary_whole c.args.asked.now c.requires _ _ _ _ _ c.deref.ensures.value _ _ c.deref-2.ensures.value c.in_ok-write_whole.ensures.ok (c.say_whole.ensures.stays.files ∙ c.in_ok-write_whole-2.ensures.ok)
    c.in_ok-found.found c.in_ok-found.ensures _ c.as_slice.ensures _ (c.write_whole-2.ensures.stays.said ∙ c.write_whole.ensures.stays.said) c.in_ok-say_whole.ensures.ok

pub returns-in_err-write_whole-2-clause-stays : goal.returns-in_err-write_whole-2-clause-stays
returns-in_err-write_whole-2-clause-stays g c = later_on _ _ _ (writes_later _ _ c.write_whole.ensures.stays) (writes_later _ _ c.write_whole-2.ensures.stays)

pub returns-in_err-found-clause-stays : goal.returns-in_err-found-clause-stays
returns-in_err-found-clause-stays g c = later_on _ _ _ (writes_later _ _ c.write_whole.ensures.stays) (writes_later _ _ c.write_whole-2.ensures.stays)

pub returns-in_err-say_whole-clause-stays : goal.returns-in_err-say_whole-clause-stays
returns-in_err-say_whole-clause-stays g c = later_on _ _ _ (later_on _ _ _ (writes_later _ _ c.write_whole.ensures.stays) (writes_later _ _ c.write_whole-2.ensures.stays)) (says_later _ _ c.say_whole.ensures.stays)

pub returns-clause-stays : goal.returns-clause-stays
returns-clause-stays g c = later_on _ _ _ (later_on _ _ _ (writes_later _ _ c.write_whole.ensures.stays) (writes_later _ _ c.write_whole-2.ensures.stays)) (says_later _ _ c.say_whole.ensures.stays)
