use Rattle.std.proofs.Common.{◌∙◌}
use Rattle.verb_loading.specs.Statuses.{refusal_text}
use Rattle.verb_loading.proofs.SaidLaws.{says_in_part}
use Rattle.verb_run.proofs.ending.refuse.Goals as goal

pub returns-in-Ok-clause-part : goal.returns-in-Ok-clause-part
returns-in-Ok-clause-part g c =
    says_in_part c.say_whole.result _ _ c.as_slice.result.now (refusal_text c.args.refusal) (c.as_slice.ensures ∙ c.in-Ok.ensures) c.say_whole.ensures.ok c.say_whole.ensures.err
